-- Demand 2.
-- Assumes nothing.
use Prim.Native.Nat.{ℕ, suc, ◌+◌, ◌*◌, ◌/◌, ◌%◌, ◌^◌, ◌≤◌, ◌<◌}
use mathlib.Core.Path.{◌≡◌, refl, ap, ap₂, sym, subst, ◌∙◌}
use mathlib.Core.List.{List, [], ◌∷◌, ◌++◌}
use mathlib.Core.Bool.{Bool, true, false, ◌&&◌}
use native.Mathlib.Omega.{arith}
use lib.Dec.{eqb}
use lib.ListN.{length, take, drop, get_or, length-append, get_or-append}
use lib.Seq.{drop-cons, length-take-le, get_or-take, get_or-append_seam}
use Rattle.sci.specs.model.Flags.{IDLE, RDRF}
use Rattle.sci.specs.model.Status.{has}
use Rattle.sci.specs.model.Control.{PT, PE, M, bits_of, frame_samples, settings}
use Rattle.sci.specs.model.Bits.{parity_bit}
use Rattle.sci.specs.model.Framer.{ends, frame_of}
use Rattle.sci.specs.model.Transmitter.{data_sent, begins_frame, sent}
use Rattle.sci.specs.claims.Levels.{low_bits, value, frame_levels, end_sample}
use Rattle.sci.specs.claims.Line.{Op, sample, read, act, acts}
use Rattle.sci.specs.claims.Link.{FramesHeard, Around, sent_around, shown, FramesShown, FramesBegin, ParityRight, data_bits, samples_of, NoError, Ready, InScdr, Linked}
use Rattle.sci.specs.declared.framer.Framer.{Framer}
use Rattle.sci.specs.declared.status.Status.{Status}
use Rattle.sci.specs.declared.receiver.Received.{Received}
use Rattle.sci.specs.declared.transmitter.Transmitter.{Transmitter}
use Rattle.sci.proofs.Flagged.{has_flag}
use Rattle.sci.proofs.Heard.{at, at_end_holds, stretched_length}
use Rattle.sci.proofs.Sending.{Sending, shows, keeps_sending, begins_sending, parity_right, sent_fits, low_length, value_low}
use Rattle.sci.proofs.Stages.{Clean, Stage, free, stages, Rdrf}
use Rattle.sci.proofs.Going.{Rested, start, Going, going, Counting, counting}
use Rattle.sci.proofs.Arriving.{stop_level, delivered, idle_again}

pub frames_heard : FramesHeard
frames_heard bits =
    record {
      before = λ k h. (at (length bits) bits k refl h).quiet;
      last = ap ends (at_end_holds (length bits) bits refl);
      frame = ap (λ (f : Framer). frame_of f true) (at_end_holds (length bits) bits refl);
    }

pub levels_length : (n w : ℕ) → length (frame_levels (low_bits n w)) ≡ frame_samples n
levels_length n w = stretched_length (false ∷ low_bits n w ++ (true ∷ [])) ∙ rw (length-append (low_bits n w) (true ∷ []), low_length n w) (omega arith)

shown_from_holds : (n w k : ℕ) (t : Transmitter) (later : List Around) → Sending n w k t → k + length later < frame_samples n →
    shown later t ≡ take (suc (length later)) (drop k (frame_levels (low_bits n w)))
unfolding shown
shown_from_holds n w k t [] h l =
    rw (drop-cons (frame_levels (low_bits n w)) k true (rw (levels_length n w) (omega arith)), shows n w k t h (omega arith))
shown_from_holds n w k t (a ∷ later) h l =
    let e : drop k (frame_levels (low_bits n w)) ≡ get_or (frame_levels (low_bits n w)) k true ∷ drop (suc k) (frame_levels (low_bits n w)) =
    drop-cons (frame_levels (low_bits n w)) k true (rw (levels_length n w) (omega arith)) in
    let r : Transmitter = record { scdr = a.scdr; preamble = a.preamble; shift = t.shift; left = t.left } in
    ap₂ (λ (x : Bool) (xs : List Bool). x ∷ xs) (shows n w k t h (omega arith))
    (shown_from_holds n w (suc k) (sent_around a t) later
    (keeps_sending n w k r a.status a.sccr1 (record { left = h.left; shift = h.shift }) (omega arith))
    (omega arith))
    ∙ ap (λ (xs : List Bool). take (suc (suc (length later))) xs) (sym e)

pub frames_shown : FramesShown
frames_shown n w t later h l =
    shown_from_holds n w 0 t later (record { left = omega (arith, h.left); shift = h.shift ∙ omega arith }) (omega arith)

pub frames_begin : FramesBegin
frames_begin t s c e =
    let h : Sending (bits_of (M c)) (data_bits c t.scdr) 0 (sent t s c).transmitter = begins_sending t s c e in
    record { left = omega (arith, h.left); shift = h.shift ∙ omega arith }

pub parity_always : ParityRight
parity_always = parity_right

-- The settings by their number.
pub same_M : (c d : ℕ) → settings c ≡ settings d → M c ≡ M d
same_M c d e =
    let f : c / 2 ^ 9 % 2 ≡ d / 2 ^ 9 % 2 = omega arith in
    ap (λ (x : ℕ). eqb x 1) f

pub same_PE : (c d : ℕ) → settings c ≡ settings d → PE c ≡ PE d
same_PE c d e =
    let f : c / 2 ^ 10 % 2 ≡ d / 2 ^ 10 % 2 = omega arith in
    ap (λ (x : ℕ). eqb x 1) f

pub same_PT : (c d : ℕ) → settings c ≡ settings d → PT c ≡ PT d
same_PT c d e =
    let f : c / 2 ^ 11 % 2 ≡ d / 2 ^ 11 % 2 = omega arith in
    ap (λ (x : ℕ). eqb x 1) f

some_bits : (m : Bool) → 0 < bits_of m
some_bits true = omega arith
some_bits false = omega arith

-- What is sent has right parity for who takes it.
pub parity_link : (c w : ℕ) → PE c && parity_bit (PT c) (data_bits c w % 2 ^ bits_of (M c)) ≡ false
parity_link c w = go (PE c)
  where
    go : (pe : Bool) → pe && parity_bit (PT c) (data_sent (bits_of (M c)) pe (PT c) w % 2 ^ bits_of (M c)) ≡ false
    go false = refl
    go true = rw (sent_fits (bits_of (M c)) w (PT c) (some_bits (M c))) (parity_right (bits_of (M c)) w (PT c))

pub stages_free : (os : List Op) → stages os free ≡ free
unfolding stages
stages_free [] = refl
stages_free (sample x ∷ os) = stages_free os
stages_free (read scsr scdr ∷ os) = stages_free os

pub clean : (s : Status) → NoError s → Clean s
clean s h =
    record { pf = sym (has_flag 0 s) ∙ h.pf; fe = sym (has_flag 1 s) ∙ h.fe; nf = sym (has_flag 2 s) ∙ h.nf; or = sym (has_flag 3 s) ∙ h.or }

pub ready_rested : (p : Received) → Ready p → Rested free p
ready_rested p r =
    record {
      searches = r.searches;
      ones = r.ones;
      awake = r.awake;
      clean = clean p.status r.errors;
      rdrf = sym (has_flag 6 p.status) ∙ r.rdrf;
    }

module _ (t : Transmitter) (s : Status) (c : ℕ) (p : Received) (d : ℕ) (begins : begins_frame t s c ≡ true)
    (same : settings c ≡ settings d) (ready : Ready p) where
  abbrev n : ℕ
  n = bits_of (M c)

  abbrev bits : List Bool
  bits = low_bits n (data_bits c t.scdr)

  sized : bits_of (M d) ≡ length bits
  sized = ap bits_of (sym (same_M c d same)) ∙ sym (low_length n (data_bits c t.scdr))

  levels : (later : List Around) → length later ≤ end_sample n →
      shown later (sent t s c).transmitter ≡ take (suc (length later)) (frame_levels bits)
  levels later l =
      frames_shown n (data_bits c t.scdr) (sent t s c).transmitter later (frames_begin t s c begins) (omega arith)

  long : suc (end_sample n) ≤ length (frame_levels bits)
  long = rw (levels_length n (data_bits c t.scdr)) (omega arith)

  before : (later : List Around) (os : List Op) → length later < end_sample n →
      samples_of os ≡ shown later (sent t s c).transmitter → has (acts d os p).status RDRF ≡ false
  before later os l e =
      let f : samples_of os ≡ take (suc (length later)) (frame_levels bits) = e ∙ levels later (omega arith) in
      let m : length (samples_of os) ≡ suc (length later) =
      ap length f ∙ length-take-le (suc (length later)) (frame_levels bits) (omega (arith, long)) in
      let b : bits_of (M d) ≡ n = ap bits_of (sym (same_M c d same)) in
      let h : Going (bits_of (M d)) 0 (frame_levels bits) (0 + length (samples_of os)) (stages os free) (acts d os p) =
      going d 0 bits sized os 0 free p (start (bits_of (M d)) 0 bits free p (ready_rested p ready))
      (λ j u.
      let z : j ≡ 0 + j = omega arith in
      ap (λ (xs : List Bool). get_or xs j true) f ∙ get_or-take (suc (length later)) (frame_levels bits) j true (omega arith)
      ∙ ap (λ (i : ℕ). get_or (frame_levels bits) i true) z)
      (omega arith) in
      has_flag 6 (acts d os p).status ∙ subst (λ (st : Stage). Rdrf st (acts d os p).status) (stages_free os) h.rdrf

  -- The state before the frame's last sample, which is one.
  module _ (later : List Around) (os : List Op) (x : Bool) (l : length later ≡ end_sample n)
      (e : samples_of os ++ (x ∷ []) ≡ shown later (sent t s c).transmitter) where
    f : samples_of os ++ (x ∷ []) ≡ take (suc (length later)) (frame_levels bits)
    f = e ∙ levels later (omega arith)

    b : bits_of (M d) ≡ n
    b = ap bits_of (sym (same_M c d same))

    m : length (samples_of os) ≡ end_sample n
    m =
        let z : length (samples_of os) + 1 ≡ suc (length later) =
        sym (length-append (samples_of os) (x ∷ [])) ∙ ap length f
        ∙ length-take-le (suc (length later)) (frame_levels bits) (omega (arith, long)) in
        omega arith

    one : x ≡ true
    one =
        let z : length (samples_of os) ≡ 0 + (16 * length bits + 16 + 9) = omega (arith, m, low_length n (data_bits c t.scdr)) in
        sym (get_or-append_seam (samples_of os) x [] true) ∙ ap (λ (xs : List Bool). get_or xs (length (samples_of os)) true) f
        ∙ get_or-take (suc (length later)) (frame_levels bits) (length (samples_of os)) true (omega (arith, m))
        ∙ ap (λ (i : ℕ). get_or (frame_levels bits) i true) z
        ∙ stop_level 0 bits 9 (omega arith)

    agree : (j : ℕ) → j < length (samples_of os) → get_or (samples_of os) j true ≡ get_or (frame_levels bits) (0 + j) true
    agree j u =
        let z : j ≡ 0 + j = omega arith in
        sym (get_or-append (samples_of os) (x ∷ []) true j u) ∙ ap (λ (xs : List Bool). get_or xs j true) f
        ∙ get_or-take (suc (length later)) (frame_levels bits) j true (omega (arith, m))
        ∙ ap (λ (i : ℕ). get_or (frame_levels bits) i true) z

    there : 0 + length (samples_of os) ≡ 0 + end_sample (bits_of (M d))
    there = omega (arith, m, b)

    stands : Going (bits_of (M d)) 0 (frame_levels bits) (0 + end_sample (bits_of (M d))) free (acts d os p)
    stands =
        subst (λ (st : Stage). Going (bits_of (M d)) 0 (frame_levels bits) (0 + end_sample (bits_of (M d))) st (acts d os p))
        (stages_free os)
        (subst (λ (k : ℕ). Going (bits_of (M d)) 0 (frame_levels bits) k (stages os free) (acts d os p)) there
        (going d 0 bits sized os 0 free p (start (bits_of (M d)) 0 bits free p (ready_rested p ready)) agree (omega (arith, there))))

    counted : Counting 0 p.receiver.idle (0 + end_sample (bits_of (M d))) (acts d os p).receiver (acts d os p).status
    counted =
        subst (λ (k : ℕ). Counting 0 p.receiver.idle k (acts d os p).receiver (acts d os p).status) there
        (counting d 0 p.receiver.idle bits (λ z. absurd (omega arith)) sized os 0 free p
        (start (bits_of (M d)) 0 bits free p (ready_rested p ready))
        (record { idle = sym (has_flag 4 p.status) ∙ ready.idle; early = λ z. omega arith; late = λ z. absurd (omega arith) })
        agree
        (omega (arith, there)))

    even : PE d && parity_bit (PT d) (value bits) ≡ false
    even =
        rw (← same_PE c d same, ← same_PT c d same, value_low n (data_bits c t.scdr)) (parity_link c t.scdr)

    arrives : InScdr (data_bits c t.scdr % 2 ^ n) (act d (sample x) (acts d os p))
    unfolding act
    arrives =
        subst (λ (v : ℕ). InScdr v (act d (sample x) (acts d os p))) (value_low n (data_bits c t.scdr))
        (delivered d 0 bits sized (acts d os p) stands x one even)

    no_idle : has (act d (sample x) (acts d os p)).status IDLE ≡ false
    unfolding act
    no_idle =
        has_flag 4 (act d (sample x) (acts d os p)).status
        ∙ idle_again d 0 bits sized (acts d os p) stands x one even p.receiver.idle counted

pub linked : Linked
linked t s c p d begins same ready =
    record {
      before = before t s c p d begins same ready;
      last = arrives t s c p d begins same ready;
      idle = no_idle t s c p d begins same ready;
    }

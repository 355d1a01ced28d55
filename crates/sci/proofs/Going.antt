-- A receiver on its way through ones and then a frame, sample by sample, with reads between.
-- After k samples its framer is `after n line k`, whatever was read, and the idle count stays below the samples since the start bit.
-- Assumes nothing.
use Prim.Native.Nat.{ℕ, zero, suc, ◌+◌, ◌≤◌, ◌<◌}
use mathlib.Core.Bool.{Bool, true, false, ◌&&◌}
use mathlib.Core.List.{List, [], ◌∷◌, ◌++◌}
use mathlib.Core.Path.{◌≡◌, refl, ap, ap₂, sym, subst, ◌∙◌}
use native.Mathlib.Omega.{arith}
use native.Mathlib.Decide.{dec_lt}
use lib.Seq.{get_or-append-add}
use lib.ListN.{replicate, length, get_or, get_or-append, get_or-replicate, length-replicate}
use Rattle.sci.specs.model.Control.{M, bits_of, frame_samples}
use Rattle.sci.specs.model.Framer.{searching, ends, fixed, framed}
use Rattle.sci.specs.model.Receiver.{three, receiver_after, received}
use Rattle.sci.specs.claims.Levels.{stretched, frame_levels, framer_after, end_sample}
use Rattle.sci.specs.claims.Line.{Op, sample, read, act, acts, read_status}
use Rattle.sci.specs.claims.Link.{samples_of}
use Rattle.sci.specs.declared.framer.Framer.{Framer}
use Rattle.sci.specs.declared.status.Status.{Status}
use Rattle.sci.specs.declared.receiver.Receiver.{Receiver}
use Rattle.sci.specs.declared.receiver.Received.{Received}
use Rattle.sci.proofs.Membership.{and_left, and_right}
use Rattle.sci.proofs.Flagged.{is_set}
use Rattle.sci.proofs.Heard.{after, At, at}
use Rattle.sci.proofs.Samples.{passed_flags, passed_marks, passed_idle, stays_awake, count_up, count_zero, not_reached, zero_not_reached}
use Rattle.sci.proofs.Stages.{Clean, clean_same, clean_clear, read_clear, Stage, Rdrf, staged, rdrf_same, rdrf_read, stages}

-- The line: g ones, then a frame.
abbrev pub line_of : ℕ → List Bool → List Bool
line_of g bits = replicate g true ++ frame_levels bits

-- After k samples of it the framer stands at `after n line k`, and the next sample takes it on.
pub record On (n g : ℕ) (line : List Bool) (k : ℕ) : Type 0 where
  pub quiet : ends (after n line k) ≡ false
  pub steps : (three : Bool) → (k ≤ g → three ≡ true) → ((j : ℕ) → k ≡ suc j → three ≡ true → get_or line j true ≡ true) →
      framed n (after n line k) three (get_or line k true) ≡ after n line (suc k)

pub on_line : (n g : ℕ) (bits : List Bool) (k : ℕ) → n ≡ length bits → k < g + end_sample n → On n g (line_of g bits) k
unfolding framer_after framed fixed
on_line n zero bits k e h =
    let a : At n (frame_levels bits) k = at n bits k e (omega arith) in
    record { quiet = a.quiet; steps = λ three i p. a.steps three (λ z. i (omega arith)) p }
on_line n (suc g) bits zero e h = record { quiet = refl; steps = λ three i p. rw (i (omega arith)) }
on_line n (suc g) bits (suc k) e h =
    let a : On n g (line_of g bits) k = on_line n g bits k e (omega arith) in
    record { quiet = a.quiet; steps = λ three i p. a.steps three (λ z. i (omega arith)) (λ j q. p (suc j) (omega arith)) }

-- Past the ones.
pub after_ones : (n g : ℕ) (bits : List Bool) (k : ℕ) → after n (line_of g bits) (g + k) ≡ after n (frame_levels bits) k
unfolding framer_after framed fixed
after_ones n zero bits k =
    let e : 0 + k ≡ k = omega arith in
    ap (after n (frame_levels bits)) e
after_ones n (suc g) bits k =
    let e : suc g + k ≡ suc (g + k) = omega arith in
    ap (after n (true ∷ line_of g bits)) e ∙ after_ones n g bits k

pub ones_first : (g : ℕ) (bits : List Bool) (k : ℕ) → k < g → get_or (line_of g bits) k true ≡ true
ones_first g bits k h =
    get_or-append (replicate g true) (frame_levels bits) true k (rw (length-replicate g true) h) ∙ get_or-replicate g k true true h

-- The receiver after k samples.
pub record Hearing (n g : ℕ) (line : List Bool) (k : ℕ) (r : Receiver) : Type 0 where
  pub framer : r.framer ≡ after n line k
  pub ones : k ≤ g → three r ≡ true
  pub awake : r.asleep ≡ false
  pub last1 : (j : ℕ) → k ≡ suc j → r.last1 ≡ get_or line j true
  pub last2 : (j : ℕ) → k ≡ suc (suc j) → r.last2 ≡ get_or line j true
  pub last3 : (j : ℕ) → k ≡ suc (suc (suc j)) → r.last3 ≡ get_or line j true

pub hear : (g : ℕ) (line : List Bool) (k : ℕ) (r : Receiver) (s : Status) (c : ℕ) (x : Bool) → Hearing (bits_of (M c)) g line k r →
    On (bits_of (M c)) g line k → (k < g → get_or line k true ≡ true) → x ≡ get_or line k true →
    Hearing (bits_of (M c)) g line (suc k) (received r s c x).receiver
unfolding received receiver_after
hear g line k r s c x h a o e =
    record {
      framer = ap₂ (λ (f : Framer) (y : Bool). framed (bits_of (M c)) f (three r) y) h.framer e
          ∙ a.steps (three r) h.ones
          (λ j q t. sym (h.last1 j q) ∙ and_left r.last1 r.last2 (and_left (r.last1 && r.last2) r.last3 t));
      ones = λ l.
          let t : three r ≡ true = h.ones (omega arith) in
          let t1 : r.last1 ≡ true = and_left r.last1 r.last2 (and_left (r.last1 && r.last2) r.last3 t) in
          let t2 : r.last2 ≡ true = and_right r.last1 r.last2 (and_left (r.last1 && r.last2) r.last3 t) in
          rw (e, o (omega arith), t1, t2);
      awake = stays_awake r s c x h.awake;
      last1 = λ j q. e ∙ ap (λ (i : ℕ). get_or line i true) (omega arith);
      last2 = λ j q. h.last1 j (omega arith);
      last3 = λ j q. h.last2 j (omega arith);
    }

pub record Going (n g : ℕ) (line : List Bool) (k : ℕ) (st : Stage) (p : Received) : Type 0 where
  pub hearing : Hearing n g line k p.receiver
  pub clean : Clean p.status
  pub rdrf : Rdrf st p.status

-- A receiver that searches after three ones.
pub record Rested (st : Stage) (p : Received) : Type 0 where
  pub searches : p.receiver.framer ≡ searching
  pub ones : three p.receiver ≡ true
  pub awake : p.receiver.asleep ≡ false
  pub clean : Clean p.status
  pub rdrf : Rdrf st p.status

pub start : (n g : ℕ) (bits : List Bool) (st : Stage) (p : Received) → Rested st p → Going n g (line_of g bits) 0 st p
unfolding framer_after
start n g bits st p r =
    record {
      hearing =
          record {
            framer = r.searches;
            ones = λ l. r.ones;
            awake = r.awake;
            last1 = λ j q. absurd (omega arith);
            last2 = λ j q. absurd (omega arith);
            last3 = λ j q. absurd (omega arith);
          };
      clean = r.clean;
      rdrf = r.rdrf;
    }

module _ (c g : ℕ) (bits : List Bool) (sized : bits_of (M c) ≡ length bits) where
  pub going_sample : (k : ℕ) (st : Stage) (p : Received) (x : Bool) → Going (bits_of (M c)) g (line_of g bits) k st p →
      x ≡ get_or (line_of g bits) k true → k < g + end_sample (bits_of (M c)) →
      Going (bits_of (M c)) g (line_of g bits) (suc k) st (received p.receiver p.status c x)
  going_sample k st p x h e l =
      let o : On (bits_of (M c)) g (line_of g bits) k = on_line (bits_of (M c)) g bits k sized l in
      let q : ends p.receiver.framer ≡ false = ap ends h.hearing.framer ∙ o.quiet in
      record {
        hearing = hear g (line_of g bits) k p.receiver p.status c x h.hearing o (ones_first g bits k) e;
        clean = clean_same (passed_flags p.receiver p.status c x q) h.clean;
        rdrf =
            rdrf_same st p.status (received p.receiver p.status c x).status
            (passed_flags p.receiver p.status c x q 6 refl refl) (passed_marks p.receiver p.status c x q 6 refl) h.rdrf;
      }

  pub going_read : (k : ℕ) (st : Stage) (p : Received) (scsr scdr : Bool) → Going (bits_of (M c)) g (line_of g bits) k st p →
      Going (bits_of (M c)) g (line_of g bits) k (staged (read scsr scdr) st)
      (record { receiver = p.receiver; status = read_status scsr scdr p.status })
  going_read k st p scsr scdr h =
      record {
        hearing = h.hearing;
        clean =
            clean_clear p.status (read_status scsr scdr p.status) (λ j. read_clear j scsr scdr p.status) h.clean;
        rdrf = rdrf_read st scsr scdr p.status h.rdrf;
      }

  -- Samples that are the line's from k on.
  pub going : (os : List Op) (k : ℕ) (st : Stage) (p : Received) → Going (bits_of (M c)) g (line_of g bits) k st p →
      ((j : ℕ) → j < length (samples_of os) → get_or (samples_of os) j true ≡ get_or (line_of g bits) (k + j) true) →
      k + length (samples_of os) ≤ g + end_sample (bits_of (M c)) →
      Going (bits_of (M c)) g (line_of g bits) (k + length (samples_of os)) (stages os st) (acts c os p)
  unfolding acts act samples_of stages
  going [] k st p h a l =
      let z : k ≡ k + 0 = omega arith in
      subst (λ (j : ℕ). Going (bits_of (M c)) g (line_of g bits) j st p) z h
  going (sample x ∷ os) k st p h a l =
      let z : suc k + length (samples_of os) ≡ k + suc (length (samples_of os)) = omega arith in
      let z0 : k + 0 ≡ k = omega arith in
      subst
      (λ (j : ℕ).
      Going (bits_of (M c)) g (line_of g bits) j (stages os st) (acts c os (received p.receiver p.status c x)))
      z
      (going os (suc k) st (received p.receiver p.status c x)
      (going_sample k st p x h (a 0 (omega arith) ∙ ap (λ (i : ℕ). get_or (line_of g bits) i true) z0) (omega arith))
      (λ j u.
      let z1 : k + suc j ≡ suc k + j = omega arith in
      a (suc j) (omega arith) ∙ ap (λ (i : ℕ). get_or (line_of g bits) i true) z1)
      (omega arith))
  going (read scsr scdr ∷ os) k st p h a l =
      going os k (staged (read scsr scdr) st) (record { receiver = p.receiver; status = read_status scsr scdr p.status })
      (going_read k st p scsr scdr h) a l

-- The idle count on the way, from q on, and IDLE clear.
pub record Counting (g q k : ℕ) (r : Receiver) (s : Status) : Type 0 where
  pub idle : is_set 4 s ≡ false
  pub early : k ≤ g → r.idle ≤ q + k
  pub late : g < k → r.idle + g < k

pub start_level : (g : ℕ) (bits : List Bool) → get_or (line_of g bits) g true ≡ false
unfolding stretched
start_level g bits =
    let z : g ≡ length (replicate g true) + 0 = rw (length-replicate g true) (omega arith) in
    ap (λ (i : ℕ). get_or (line_of g bits) i true) z ∙ get_or-append-add (replicate g true) (frame_levels bits) 0 true

module _ (c g q : ℕ) (bits : List Bool) (low : 0 < g → q + g < frame_samples (bits_of (M c))) where
  pub counting_sample : (k : ℕ) (r : Receiver) (s : Status) (x : Bool) → Counting g q k r s → ends r.framer ≡ false →
      x ≡ get_or (line_of g bits) k true → k < g + end_sample (bits_of (M c)) →
      Counting g q (suc k) (received r s c x).receiver (received r s c x).status
  counting_sample k r s x h e l b = by_order (dec_lt k g) (dec_lt g k)
    where
      by_order : Dec (k < g) → Dec (g < k) → Counting g q (suc k) (received r s c x).receiver (received r s c x).status
      by_order (yes u) d =
          let a : q + g < frame_samples (bits_of (M c)) = low (omega arith) in
          record {
            idle = passed_idle r s c x e (not_reached r s c x (omega (arith, h.early (omega arith)))) ∙ h.idle;
            early = λ v. omega (arith, h.early (omega arith), count_up r s c x);
            late = λ v. absurd (omega arith);
          }
      by_order (no u) (yes v) =
          record {
            idle = passed_idle r s c x e (not_reached r s c x (omega (arith, h.late v))) ∙ h.idle;
            early = λ z. absurd (omega arith);
            late = λ z. omega (arith, h.late v, count_up r s c x);
          }
      by_order (no u) (no v) =
          let z : k ≡ g = omega arith in
          let y : x ≡ false = l ∙ ap (λ (i : ℕ). get_or (line_of g bits) i true) z ∙ start_level g bits in
          record {
            idle = passed_idle r s c x e (zero_not_reached r s c x y) ∙ h.idle;
            early = λ w. absurd (omega arith);
            late = λ w. omega (arith, count_zero r s c x y);
          }

  -- Samples that are the line's from k on.
  pub counting : bits_of (M c) ≡ length bits → (os : List Op) (k : ℕ) (st : Stage) (p : Received) →
      Going (bits_of (M c)) g (line_of g bits) k st p → Counting g q k p.receiver p.status →
      ((j : ℕ) → j < length (samples_of os) → get_or (samples_of os) j true ≡ get_or (line_of g bits) (k + j) true) →
      k + length (samples_of os) ≤ g + end_sample (bits_of (M c)) →
      Counting g q (k + length (samples_of os)) (acts c os p).receiver (acts c os p).status
  unfolding acts act samples_of
  counting sized [] k st p h n a l =
      let z : k ≡ k + 0 = omega arith in
      subst (λ (j : ℕ). Counting g q j p.receiver p.status) z n
  counting sized (sample x ∷ os) k st p h n a l =
      let z : suc k + length (samples_of os) ≡ k + suc (length (samples_of os)) = omega arith in
      let z0 : k + 0 ≡ k = omega arith in
      let e : x ≡ get_or (line_of g bits) k true = a 0 (omega arith) ∙ ap (λ (i : ℕ). get_or (line_of g bits) i true) z0 in
      let o : On (bits_of (M c)) g (line_of g bits) k = on_line (bits_of (M c)) g bits k sized (omega arith) in
      let p' : Received = received p.receiver p.status c x in
      subst (λ (j : ℕ). Counting g q j (acts c os p').receiver (acts c os p').status) z
      (counting sized os (suc k) st p' (going_sample c g bits sized k st p x h e (omega arith))
      (counting_sample k p.receiver p.status x n (ap ends h.hearing.framer ∙ o.quiet) e (omega arith))
      (λ j u.
      let z1 : k + suc j ≡ suc k + j = omega arith in
      a (suc j) (omega arith) ∙ ap (λ (i : ℕ). get_or (line_of g bits) i true) z1)
      (omega arith))
  counting sized (read scsr scdr ∷ os) k st p h n a l =
      counting sized os k (staged (read scsr scdr) st)
      (record { receiver = p.receiver; status = read_status scsr scdr p.status })
      (going_read c g bits sized k st p scsr scdr h)
      (record { idle = read_clear 4 scsr scdr p.status n.idle; early = n.early; late = n.late })
      a l

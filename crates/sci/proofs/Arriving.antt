-- The last sample of a frame, and what is left for the next.
-- Assumes nothing.
use Prim.Native.Nat.{ℕ, suc, ◌+◌, ◌*◌, ◌/◌, ◌≤◌, ◌<◌}
use mathlib.Core.Bool.{Bool, true, false, not, ◌&&◌, ◌||◌, or-true, and-false}
use mathlib.Core.List.{List, [], ◌∷◌, ◌++◌}
use mathlib.Core.Path.{◌≡◌, refl, ap, ap₂, ◌∙◌}
use native.Mathlib.Omega.{arith}
use lib.ListN.{replicate, length, get_or, length-replicate}
use lib.Seq.{get_or-append-add, get_or_at}
use Rattle.steps.specs.Bits.{bit}
use Rattle.sci.specs.model.Control.{PT, PE, M, bits_of}
use Rattle.sci.specs.model.Bits.{parity_bit}
use Rattle.sci.specs.model.Framer.{searching, ends, frame_of, fixed, framed, stop_bit}
use Rattle.sci.specs.model.Receiver.{three, full, receiver_after, received}
use Rattle.sci.specs.claims.Levels.{value, frame_levels, end_sample}
use Rattle.sci.specs.claims.Link.{InScdr, NoError}
use Rattle.sci.specs.declared.framer.Framer.{Framer}
use Rattle.sci.specs.declared.status.Status.{Status}
use Rattle.sci.specs.declared.receiver.Received.{Received}
use Rattle.sci.proofs.Flagged.{is_set, has_flag}
use Rattle.sci.proofs.Walk.{bit_at}
use Rattle.sci.proofs.Heard.{at_end_holds}
use Rattle.sci.proofs.Sending.{stretched_at}
use Rattle.sci.proofs.Samples.{stays_awake, count_up, not_reached, entered_word, entered_flags, idles}
use Rattle.sci.proofs.Stages.{Clean, free}
use Rattle.sci.proofs.Going.{line_of, after_ones, Going, Counting}

pub no_error : (s : Status) → Clean s → NoError s
no_error s h =
    record { or = has_flag 3 s ∙ h.or; nf = has_flag 2 s ∙ h.nf; fe = has_flag 1 s ∙ h.fe; pf = has_flag 0 s ∙ h.pf }

-- From RT1 of the stop bit on the line is one.
pub stop_level : (g : ℕ) (bits : List Bool) (i : ℕ) → i < 16 → get_or (line_of g bits) (g + (16 * length bits + 16 + i)) true ≡ true
stop_level g bits i h =
    let k : ℕ = 16 * length bits + 16 + i in
    let z : g + k ≡ length (replicate g true) + k = rw (length-replicate g true) in
    let d : k / 16 ≡ suc (length bits) = omega arith in
    ap (λ (j : ℕ). get_or (line_of g bits) j true) z ∙ get_or-append-add (replicate g true) (frame_levels bits) k true
    ∙ stretched_at (false ∷ bits ++ (true ∷ [])) k ∙ ap (λ (j : ℕ). get_or (false ∷ bits ++ (true ∷ [])) j true) d
    ∙ get_or_at bits true [] true (length bits) refl

module _ (c g : ℕ) (bits : List Bool) (sized : bits_of (M c) ≡ length bits) (p : Received)
    (h : Going (bits_of (M c)) g (line_of g bits) (g + end_sample (bits_of (M c))) free p) where
  stands : p.receiver.framer ≡ bit_at 0 9 true true 0 (value bits)
  stands = h.hearing.framer ∙ after_ones (bits_of (M c)) g bits (end_sample (bits_of (M c))) ∙ at_end_holds (bits_of (M c)) bits sized

  empty : full p.status ≡ false
  empty = rw (has_flag 6 p.status ∙ h.rdrf, has_flag 3 p.status ∙ h.clean.or)

  module _ (x : Bool) (one : x ≡ true) (even : PE c && parity_bit (PT c) (value bits) ≡ false) where
    abbrev pub p' : Received
    p' = received p.receiver p.status c x

    brings : frame_of p.receiver.framer x ≡ record { word = value bits; noise = 0; stop = true }
    brings = ap₂ (λ (f : Framer) (b : Bool). frame_of f b) stands one

    flags : (k : ℕ) → bit k 32 ≡ false → idles p.receiver p.status c x && bit k 16 ≡ false →
        is_set k p'.status ≡ is_set k p.status || bit k 64
    flags = entered_flags p.receiver p.status c x (value bits) (ap ends stands) brings h.hearing.awake empty even

    pub still_clean : Clean p'.status
    still_clean =
        record {
          pf = flags 0 refl (and-false (idles p.receiver p.status c x)) ∙ ap (λ (b : Bool). b || false) h.clean.pf;
          fe = flags 1 refl (and-false (idles p.receiver p.status c x)) ∙ ap (λ (b : Bool). b || false) h.clean.fe;
          nf = flags 2 refl (and-false (idles p.receiver p.status c x)) ∙ ap (λ (b : Bool). b || false) h.clean.nf;
          or = flags 3 refl (and-false (idles p.receiver p.status c x)) ∙ ap (λ (b : Bool). b || false) h.clean.or;
        }

    pub delivered : InScdr (value bits) p'
    delivered =
        record {
          word =
              entered_word p.receiver p.status c x (value bits) (ap ends stands) brings h.hearing.awake empty;
          rdrf =
              has_flag 6 p'.status ∙ flags 6 refl (and-false (idles p.receiver p.status c x)) ∙ or-true (is_set 6 p.status);
          errors = no_error p'.status still_clean;
        }

    pub searches_again : p'.receiver.framer ≡ searching
    unfolding received receiver_after framed fixed stop_bit
    searches_again =
        ap₂ (λ (f : Framer) (b : Bool). framed (bits_of (M c)) f (three p.receiver) b) stands one

    pub ones_again : three p'.receiver ≡ true
    unfolding received receiver_after
    ones_again =
        let a : p.receiver.last1 ≡ true =
        h.hearing.last1 (g + (16 * length bits + 16 + 8)) (omega arith) ∙ stop_level g bits 8 (omega arith) in
        let b : p.receiver.last2 ≡ true =
        h.hearing.last2 (g + (16 * length bits + 16 + 7)) (omega arith) ∙ stop_level g bits 7 (omega arith) in
        rw (one, a, b)

    pub awake_again : p'.receiver.asleep ≡ false
    awake_again = stays_awake p.receiver p.status c x h.hearing.awake

    module _ (q : ℕ) (n : Counting g q (g + end_sample (bits_of (M c))) p.receiver p.status) where
      pub count_again : p'.receiver.idle ≤ end_sample (bits_of (M c))
      count_again = omega (arith, n.late (omega arith), count_up p.receiver p.status c x)

      pub idle_again : is_set 4 p'.status ≡ false
      idle_again =
          flags 4 refl
          (ap (λ (b : Bool). b && not p.receiver.asleep && p.receiver.since && true)
          (not_reached p.receiver p.status c x (omega (arith, n.late (omega arith)))))
          ∙ ap (λ (b : Bool). b || false) n.idle

-- What reads of status and then of data get from a module whose receiver has a word, with RDRF alone of the receive flags.
use mathlib.Core.Path.{◌≡◌, refl, ap, ap₂, sym, subst, ◌∙◌}
use mathlib.Core.Bool.{Bool, true, false, cond, not, ◌&&◌}
use mathlib.Core.List.{List, [], ◌∷◌, ◌++◌}
use Prim.Native.Nat.{ℕ, ◌+◌, ◌%◌}
use native.Mathlib.Omega.{arith}
use lib.Bits.{bit_and, and_mod, and_le_r}
use Rattle.steps.specs.Iterate.{iterate}
use Rattle.sci.specs.model.Flags.{RDRF, flag, common, receive_flags}
use Rattle.sci.specs.model.Status.{has}
use Rattle.sci.specs.claims.Line.{shown, fresh_if, read_status}
use Rattle.sci.specs.claims.History as half
use Rattle.sci.specs.claims.Overrun.{Mark, status_read, word_delivered, delivery_marks}
use Rattle.sci.specs.declared.status.Status.{Status}
use Rattle.sci.specs.declared.serial.Sci.{Sci}
use Rattle.sci.proofs.Flagged.{set_markSeen, has_flag}
use Rattle.sci.proofs.Stages.{Rdrf, waiting, seen, free, rdrf_read}
use Rattle.qsm.specs.model.Map.{decode}
use Rattle.qsm.specs.model.Serial.{peek_serial}
use Rattle.qsm.specs.model.Word.{peek}
use Rattle.qsm.specs.model.Access.{fetch, fetched}
use Rattle.qsm.specs.model.Decision.{permits, decide_read}
use Rattle.qsm.specs.model.Event.{read_value}
use Rattle.qsm.specs.declared.state.Module.{Module}
use Rattle.claims_histories.specs.History.{after, reads_status, reads_data, log, event_marks}
use Rattle.claims_histories.specs.Sentence.{Reads}
use Rattle.claims_histories.proofs.Follows.{follows}
use Rattle.claims_histories.proofs.Shown.{answered}

shown_word : (b : ℕ) → bit_and (0 + b % 512) 95 ≡ bit_and b 95
shown_word b =
    let m : bit_and b 95 % 512 ≡ bit_and (b % 512) 95 = and_mod b 95 9 in
    let z : 0 + b % 512 ≡ b % 512 = omega arith in
    ap (λ (a : ℕ). bit_and a 95) z ∙ omega (arith, m, and_le_r b 95)

status_value : (m : Module) → read_value m 2 0x0C ≡ 0 + m.sci.status.flags.bits % 512
unfolding read_value fetched fetch iterate decode peek peek_serial
status_value m = refl

data_value : (m : Module) → read_value m 2 0x0E ≡ 0 + m.sci.receiver.scdr % 512
unfolding read_value fetched fetch iterate decode peek peek_serial
data_value m = refl

module _ (m : Module) (supervisor supervisor' : Bool) (permitted : permits (decide_read m supervisor 2 0x0C) ≡ true)
    (permitted' : permits (decide_read (after (reads_status supervisor) m) supervisor' 2 0x0E) ≡ true) where
  abbrev z : Module
  z = after (reads_status supervisor) m

  abbrev y : Module
  y = after (reads_data supervisor') z

  at_z : z.sci ≡ half.step (half.reads true false) m.sci
  unfolding half.run
  at_z =
      follows (reads_status supervisor) m
      ∙ ap (λ (b : Bool). half.run (cond (b && true) (half.reads true false ∷ []) []) m.sci) permitted

  at_y : y.sci ≡ half.step (half.reads false true) z.sci
  unfolding half.run
  at_y =
      follows (reads_data supervisor') z
      ∙ ap (λ (b : Bool). half.run (cond (b && true) (half.reads false true ∷ []) []) z.sci) permitted'

  same_word : z.sci.receiver.scdr ≡ m.sci.receiver.scdr
  unfolding half.step
  same_word = ap (λ (s : Sci). s.receiver.scdr) at_z

  z_status : z.sci.status ≡ read_status true false m.sci.status
  unfolding half.step
  z_status = ap (λ (s : Sci). s.status) at_z

  y_status : y.sci.status ≡ read_status false true z.sci.status
  unfolding half.step
  y_status = ap (λ (s : Sci). s.status) at_y

  module _ (w : ℕ) (small : w % 512 ≡ w) (Has-word : m.sci.receiver.scdr ≡ w) (flags : shown m.sci.status ≡ RDRF)
      (set : has m.sci.status RDRF ≡ true) where
    still : has z.sci.status RDRF ≡ true
    still =
        ap (λ (s : Status). has s RDRF) z_status ∙ has_flag 6 (read_status true false m.sci.status)
        ∙ set_markSeen 6 m.sci.status ∙ sym (has_flag 6 m.sci.status) ∙ set

    falls : has y.sci.status RDRF ≡ false
    falls =
        let a : Rdrf seen (read_status true false m.sci.status) = rdrf_read waiting true false m.sci.status tt in
        let b : Rdrf free (read_status false true z.sci.status) =
        rdrf_read seen false true z.sci.status (subst (Rdrf seen) (sym z_status) a) in
        ap (λ (s : Status). has s RDRF) y_status ∙ has_flag 6 (read_status false true z.sci.status) ∙ b

    looks : event_marks (reads_status supervisor) m ≡ status_read ∷ []
    looks =
        ap (λ (b : Bool). cond (b && true) (status_read ∷ delivery_marks (fresh_if (has m.sci.status RDRF && not (has z.sci.status RDRF)) m.sci.receiver.scdr)) []) permitted
        ∙ ap₂ (λ (a b : Bool). status_read ∷ delivery_marks (fresh_if (a && not b) m.sci.receiver.scdr)) set still

    fetches : event_marks (reads_data supervisor') z ≡ word_delivered w ∷ []
    fetches =
        ap (λ (b : Bool). cond (b && true) (delivery_marks (fresh_if (has z.sci.status RDRF && not (has y.sci.status RDRF)) z.sci.receiver.scdr)) []) permitted'
        ∙ ap₂ (λ (a b : Bool). delivery_marks (fresh_if (a && not b) z.sci.receiver.scdr)) still falls
        ∙ ap (λ (a : ℕ). word_delivered (a % 512) ∷ []) (same_word ∙ Has-word) ∙ ap (λ (a : ℕ). word_delivered a ∷ []) small

    pub reads : Reads w m supervisor supervisor'
    unfolding log
    reads =
        record {
          status =
              ap (λ (v : ℕ). common (flag v) receive_flags) (answered m supervisor 2 0x0C permitted ∙ status_value m)
              ∙ ap flag (shown_word m.sci.status.flags.bits) ∙ flags;
          word =
              answered z supervisor' 2 0x0E permitted' ∙ data_value z ∙ ap (λ (a : ℕ). 0 + a % 512) (same_word ∙ Has-word)
              ∙ omega (arith, small);
          delivered = ap₂ (λ (a b : List Mark). a ++ (b ++ [])) looks fetches;
        }

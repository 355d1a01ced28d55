-- A word of nine bits, delivered by a byte, a word and a long: the answers of specs/Witness, computed.
use mathlib.Core.Bool.{Bool, true, false, not, ◌&&◌}
use mathlib.Core.List.{List, [], ◌∷◌, ◌++◌}
use mathlib.Core.Option.{Option, some}
use mathlib.Core.Path.{◌≡◌, refl, ap, ap₂, ◌∙◌}
use Prim.Native.Nat.{ℕ, ◌+◌, ◌*◌, ◌%◌}
use native.Mathlib.Omega.{arith}
use Rattle.steps.specs.Iterate.{iterate}
use Rattle.sci.specs.model.Flags.{RDRF, flag}
use Rattle.sci.specs.model.Status.{has, raise, raise_if, fall, fall_if, mark_seen, fall_seen}
use Rattle.sci.specs.model.Framer.{start_bit, data_bit, stop_bit, fixed, framed}
use Rattle.sci.specs.model.Receiver.{outcome, raised, entered, status_after, receiver_after, received}
use Rattle.sci.specs.model.Transmitter.{sent}
use Rattle.sci.specs.claims.Line.{read_status, fresh_if}
use Rattle.sci.specs.model.Serial.{reset_sci, sampled, clocked, wrote_sccr0, wrote_sccr1, sccr0_guarded, sccr1_guarded}
use Rattle.sci.specs.claims.History.{Step, reads, writesSccr0, writesSccr1}
use Rattle.sci.specs.claims.History as sci
use Rattle.sci.specs.claims.Witness.{samples}
use Rattle.sci.specs.declared.serial.Sci.{Sci}
use Rattle.sci.specs.declared.status.Status.{Status}
use Rattle.qsm.specs.model.State.{reset_module}
use Rattle.qsm.specs.model.Map.{decode}
use Rattle.qsm.specs.model.Lanes.{in_map, is_restricted}
use Rattle.qsm.specs.model.Serial.{peek_serial, put_serial, serial_unmodelled, serial_guarded}
use Rattle.qsm.specs.model.Word.{peek, put, unmodelled, guarded}
use Rattle.qsm.specs.model.Access.{fetch, fetched, store, stored}
use Rattle.qsm.specs.model.Decision.{permits, admitted, decide_read, stored_by, decide_stored, decide_write}
use Rattle.qsm.specs.model.Event.{read_value, does}
use Rattle.qsm.specs.model.Event as events
use Rattle.qsm.specs.declared.state.Module.{Module}
use Rattle.qsm.specs.declared.event.Access.TheVariants.{Read}
use Rattle.qsm.specs.declared.event.Event.TheVariants as event
use Rattle.claims_histories.specs.History.{after, fresh_word}
use Rattle.claims_histories.specs.Witness.{nine, nined, status, Answers}
use Rattle.claims_histories.proofs.Follows.{steps, follows}
use Rattle.claims_histories.proofs.Room.{since_plain}
use Rattle.claims_histories.proofs.Shown.{answered}
use Rattle.claims_histories.proofs.Lifted.{all, from_reset}

abbrev nine_steps : List Step
nine_steps =
    writesSccr0 1 true true ∷
    (writesSccr1 0x204 true true ∷
    (samples 3 true
    ++ (samples 16 false ++ (samples 16 true ++ (samples 80 false ++ (samples 16 true ++ (samples 16 false ++ samples 32 true)))))))

same_nine : all nine reset_module ≡ nine_steps
unfolding reset_module does events.writes events.refused decide_write decide_stored decide_read admitted in_map is_restricted decode stored_by stored store iterate put unmodelled guarded put_serial serial_unmodelled serial_guarded wrote_sccr0 wrote_sccr1 sccr0_guarded sccr1_guarded
same_nine = since_plain nine (omega arith)

at_nine : nined.sci ≡ sci.run nine_steps reset_sci
at_nine = from_reset nine ∙ ap (λ (es : List Step). sci.run es reset_sci) same_nine

-- Set are TDRE, TC, RDRF and RAF, and none is seen; SCDR has nine bits.
left_status : (sci.run nine_steps reset_sci).status ≡ record { flags = flag 0x1E0; seen = flag 0 }
unfolding has raise raise_if fall fall_if mark_seen fall_seen start_bit data_bit stop_bit framed fixed outcome raised entered status_after receiver_after received sent sampled clocked wrote_sccr0 wrote_sccr1 sccr0_guarded sccr1_guarded sci.step sci.run
left_status = refl

left_scdr : (sci.run nine_steps reset_sci).receiver.scdr ≡ 0x141
unfolding has raise raise_if fall fall_if mark_seen fall_seen start_bit data_bit stop_bit framed fixed outcome raised entered status_after receiver_after received sent sampled clocked wrote_sccr0 wrote_sccr1 sccr0_guarded sccr1_guarded sci.step sci.run
left_scdr = refl

record Full (s : Sci) (seen : ℕ) : Type 0 where
  status : s.status ≡ record { flags = flag 0x1E0; seen = flag seen }
  scdr : s.receiver.scdr ≡ 0x141

full : Full nined.sci 0
full = record { status = ap (λ (s : Sci). s.status) at_nine ∙ left_status; scdr = ap (λ (s : Sci). s.receiver.scdr) at_nine ∙ left_scdr }

same_status : (m : Module) → steps status m ≡ reads true false ∷ []
unfolding decide_read admitted in_map decode
same_status m = refl

looked : (m : Module) → Full m.sci 0 → Full (after status m).sci 0x1E0
unfolding sci.run sci.step mark_seen
looked m h =
    let left : (after status m).sci ≡ sci.step (reads true false) m.sci =
    follows status m ∙ ap (λ (es : List Step). sci.run es m.sci) (same_status m) in
    record {
      status = ap (λ (s : Sci). s.status) left ∙ ap mark_seen h.status;
      scdr = ap (λ (s : Sci). s.receiver.scdr) left ∙ h.scdr;
    }

-- What a read that touches SCDR's low byte delivers.
abbrev fresh_by : Bool → Status → ℕ → Option ℕ
fresh_by scsr s d = fresh_if (has s RDRF && not (has (read_status scsr true s) RDRF)) d

fresh_by_holds : (w o : ℕ) (scsr : Bool) (m : Module) → steps (event.Access (Read true w o)) m ≡ reads scsr true ∷ [] →
    fresh_word m (after (event.Access (Read true w o)) m) ≡ fresh_by scsr m.sci.status m.sci.receiver.scdr
unfolding sci.run sci.step
fresh_by_holds w o scsr m is =
    let left : (after (event.Access (Read true w o)) m).sci ≡ sci.step (reads scsr true) m.sci =
    follows (event.Access (Read true w o)) m ∙ ap (λ (es : List Step). sci.run es m.sci) is in
    ap (λ (t : Sci). fresh_if (has m.sci.status RDRF && not (has t.status RDRF)) m.sci.receiver.scdr) left

fresh_full : (scsr : Bool) (seen : ℕ) (s : Sci) → Full s seen → fresh_by scsr (record { flags = flag 0x1E0; seen = flag seen }) 0x141 ≡ some 0x141 →
    fresh_by scsr s.status s.receiver.scdr ≡ some 0x141
fresh_full scsr seen s h e = ap₂ (fresh_by scsr) h.status h.scdr ∙ e

after_look : fresh_by false (record { flags = flag 0x1E0; seen = flag 0x1E0 }) 0x141 ≡ some 0x141
unfolding has fall mark_seen fall_seen
after_look = refl

with_look : fresh_by true (record { flags = flag 0x1E0; seen = flag 0 }) 0x141 ≡ some 0x141
unfolding has fall mark_seen fall_seen
with_look = refl

module _ (m : Module) where
  byte_steps : steps (event.Access (Read true 1 0x0F)) m ≡ reads false true ∷ []
  unfolding decide_read admitted in_map decode
  byte_steps = refl

  word_steps_holds : steps (event.Access (Read true 2 0x0E)) m ≡ reads false true ∷ []
  unfolding decide_read admitted in_map decode
  word_steps_holds = refl

  long_steps : steps (event.Access (Read true 4 0x0C)) m ≡ reads true true ∷ []
  unfolding decide_read admitted in_map decode
  long_steps = refl

  byte_permits : permits (decide_read m true 1 0x0F) ≡ true
  unfolding decide_read admitted in_map decode
  byte_permits = refl

  word_permits : permits (decide_read m true 2 0x0E) ≡ true
  unfolding decide_read admitted in_map decode
  word_permits = refl

  long_permits : permits (decide_read m true 4 0x0C) ≡ true
  unfolding decide_read admitted in_map decode
  long_permits = refl

  byte_value : read_value m 1 0x0F ≡ (0 + m.sci.receiver.scdr % 512) % 256
  unfolding read_value fetched fetch iterate decode peek peek_serial
  byte_value = refl

  word_value : read_value m 2 0x0E ≡ 0 + m.sci.receiver.scdr % 512
  unfolding read_value fetched fetch iterate decode peek peek_serial
  word_value = refl

  long_value : read_value m 4 0x0C ≡ (0 + m.sci.status.flags.bits % 512) % 65536 * 65536 + m.sci.receiver.scdr % 512
  unfolding read_value fetched fetch iterate decode peek peek_serial
  long_value = refl

  answers_byte : Full m.sci 0x1E0 → Answers m 1 0x0F 0x141 0x41
  answers_byte h =
      record {
        fresh = fresh_by_holds 1 0x0F false m byte_steps ∙ fresh_full false 0x1E0 m.sci h after_look;
        value = answered m true 1 0x0F byte_permits ∙ byte_value ∙ ap (λ (d : ℕ). (0 + d % 512) % 256) h.scdr;
      }

  answers_word : Full m.sci 0x1E0 → Answers m 2 0x0E 0x141 0x141
  answers_word h =
      record {
        fresh = fresh_by_holds 2 0x0E false m word_steps_holds ∙ fresh_full false 0x1E0 m.sci h after_look;
        value = answered m true 2 0x0E word_permits ∙ word_value ∙ ap (λ (d : ℕ). 0 + d % 512) h.scdr;
      }

  answers_long : Full m.sci 0 → Answers m 4 0x0C 0x141 0x01E00141
  answers_long h =
      record {
        fresh = fresh_by_holds 4 0x0C true m long_steps ∙ fresh_full true 0 m.sci h with_look;
        value =
            answered m true 4 0x0C long_permits ∙ long_value
            ∙ ap₂ (λ (s : Status) (d : ℕ). (0 + s.flags.bits % 512) % 65536 * 65536 + d % 512) h.status h.scdr;
      }

pub by_byte : Answers (after status nined) 1 0x0F 0x141 0x41
by_byte = answers_byte (after status nined) (looked nined full)

pub by_word : Answers (after status nined) 2 0x0E 0x141 0x141
by_word = answers_word (after status nined) (looked nined full)

pub by_long : Answers nined 4 0x0C 0x141 0x01E00141
by_long = answers_long nined full

-- With RE clear the receiver keeps silent; four samples through holds. Assumes nothing.
use mathlib.Core.Path.{◌≡◌, refl, sym, ap, ◌∙◌}
use mathlib.Core.Bool.{Bool, true, false, cond, ◌&&◌, ◌||◌}
use Prim.Native.Nat.{ℕ, zero, suc, ◌+◌, ◌/◌, ◌%◌, ◌^◌, ◌<◌}
use native.Mathlib.Omega.{arith}
use Rattle.steps.specs.Bits.{bit}
use Rattle.steps.specs.Iterate.{iterate}
use Rattle.sci.specs.model.Control as control
use Rattle.sci.specs.model.Control.{sccr1_bits}
use Rattle.sci.specs.model.Flags.{TDRE, flag}
use Rattle.sci.specs.model.Status.{has, raise, raise_if, fall, fall_if, mark_seen}
use Rattle.sci.specs.model.Framer.{framed, fixed}
use Rattle.sci.specs.model.Receiver.{outcome, raised, entered, status_after, receiver_after, received}
use Rattle.sci.specs.model.Transmitter.{sent, ends, begins_frame}
use Rattle.sci.specs.model.Serial.{active, due, prescaled, sampled, clocked, wrote_sccr0, wrote_sccr1, sccr0_guarded, sccr1_guarded}
use Rattle.sci.specs.claims.Members.{member}
use Rattle.sci.specs.declared.serial.Sci.{Sci}
use Rattle.sci.specs.declared.status.Status.{Status}
use Rattle.sci.proofs.Membership.{bit_of_or}
use Rattle.qspi.specs.model.Registers.{reset}
use Rattle.qspi.specs.model.Queue.{clock, queue_clock}
use Rattle.qsm.specs.model.State.{reset_module}
use Rattle.qsm.specs.model.Map.{decode}
use Rattle.qsm.specs.model.Lanes.{in_map, is_restricted}
use Rattle.qsm.specs.model.Serial.{peek_serial, put_serial, serial_unmodelled, serial_guarded, serial_read}
use Rattle.qsm.specs.model.Queue.{queue_read}
use Rattle.qsm.specs.model.Word.{peek, put, unmodelled, guarded}
use Rattle.qsm.specs.model.Access.{fetch, fetched, store, stored}
use Rattle.qsm.specs.model.Decision.{admitted, decide_read, stored_by, decide_stored}
use Rattle.qsm.specs.model.Event.{answer_of, clock_module, clocks, held, after_read, read_value, refused, resets, holds, reads, writes, does, step}
use Rattle.qsm.specs.declared.state.Module.{Module}
use Rattle.qsm.specs.declared.event.Event.TheVariants.{Hold}
use Rattle.qsm.proofs.Booleans.{same_digit}
use Rattle.qsm.proofs.Clocks.{apart}
use Rattle.qsm.proofs.Limit.{hold_if}
use Rattle.qsm.proofs.Words.{word_read}
use Rattle.claims_clauses.proofs.FlagTold.{set_is, re_is}
use Rattle.claims_clauses.proofs.FlagWritten.{quarter}
use Rattle.claims_receiver.specs.Silent.{OffSilent, FourSamples}

-- RE is bit 2 of what is kept of a word, and of what is read of it.
re_word : (asleep : Bool) (c : ℕ) → bit 2 (cond asleep (sccr1_bits c + 2) (sccr1_bits c)) ≡ control.RE c
re_word true c =
    let d : c % 2 ^ 13 / 4 % 2 ≡ c / 4 % 2 = omega arith in
    rw (quarter (c % 2 ^ 13 / 4) 2 (omega arith)) (same_digit _ _ d)
re_word false c = same_digit (sccr1_bits c / 4 % 2) (c / 4 % 2) (omega arith)

-- What a clock leaves with RE clear.
record Kept (s r : Sci) : Type 0 where
  sccr1 : r.sccr1 ≡ s.sccr1
  receiver : r.receiver ≡ s.receiver
  flags : (k : ℕ) → k < 7 → member k r.status.flags ≡ member k s.status.flags

raise_keeps : (b : Bool) (st : Status) (f k : ℕ) → bit k f ≡ false → member k (raise_if b st (flag f)).flags ≡ member k st.flags
unfolding raise_if raise member
raise_keeps true st f k h = bit_of_or k st.flags.bits f ∙ rw h (or_false (bit k st.flags.bits))
  where
    or_false : (b : Bool) → b || false ≡ b
    or_false true = refl
    or_false false = refl
raise_keeps false st f k h = refl

low : (k : ℕ) → k < 7 → (bit k 0x080 ≡ false) × (bit k 0x100 ≡ false)
low zero h = (refl, refl)
low (suc zero) h = (refl, refl)
low (suc (suc zero)) h = (refl, refl)
low (suc (suc (suc zero))) h = (refl, refl)
low (suc (suc (suc (suc zero)))) h = (refl, refl)
low (suc (suc (suc (suc (suc zero))))) h = (refl, refl)
low (suc (suc (suc (suc (suc (suc zero)))))) h = (refl, refl)
low (suc (suc (suc (suc (suc (suc (suc k))))))) h = absurd (omega arith)

sent_keeps : (s : Sci) (k : ℕ) → k < 7 → member k (sent s.transmitter s.status s.sccr1).status.flags ≡ member k s.status.flags
unfolding sent
sent_keeps s k h =
    raise_keeps (begins_frame s.transmitter s.status s.sccr1) _ 0x100 k (low k h).1
    ∙ raise_keeps (ends s.transmitter && has s.status TDRE) s.status 0x080 k (low k h).0

sampled_keeps : (s : Sci) (x : Bool) → control.RE s.sccr1 ≡ false → Kept s (sampled s x)
unfolding sampled
sampled_keeps s x off =
    rw off (record { sccr1 = refl; receiver = refl; flags = λ k h. sent_keeps s k h })

prescaled_keeps : (b : Bool) (s : Sci) (x : Bool) → control.RE s.sccr1 ≡ false → Kept s (prescaled b s x)
prescaled_keeps true s x off = sampled_keeps s x off
prescaled_keeps false s x off = record { sccr1 = refl; receiver = refl; flags = λ k h. refl }

clocked_by : (b : Bool) (s : Sci) (x : Bool) → control.RE s.sccr1 ≡ false → Kept s (cond b (prescaled (due s) s x) s)
clocked_by true s x off = prescaled_keeps (due s) s x off
clocked_by false s x off = record { sccr1 = refl; receiver = refl; flags = λ k h. refl }

clocks_keep : (n : ℕ) (x : Bool) (s : Sci) → control.RE s.sccr1 ≡ false → Kept s (iterate n (λ c. clocked c x) s)
unfolding iterate clocked
clocks_keep zero x s off = record { sccr1 = refl; receiver = refl; flags = λ k h. refl }
clocks_keep (suc n) x s off =
    let before : Kept s (iterate n (λ c. clocked c x) s) = clocks_keep n x s off in
    let r : Sci = iterate n (λ c. clocked c x) s in
    let last : Kept r (cond (active r) (prescaled (due r) r x) r) = clocked_by (active r) r x (ap control.RE before.sccr1 ∙ off) in
    record {
      sccr1 = last.sccr1 ∙ before.sccr1;
      receiver = last.receiver ∙ before.receiver;
      flags = λ k h. last.flags k h ∙ before.flags k h;
    }

hold_keeps : (m : Module) (pins : ℕ) (rxd : Bool) (n : ℕ) → control.RE m.sci.sccr1 ≡ false → Kept m.sci (does m (Hold pins rxd n)).state.sci
unfolding clocks
hold_keeps m pins rxd n off =
    hold_if (λ d. Kept m.sci d.state.sci) m pins rxd n (λ _. record { sccr1 = refl; receiver = refl; flags = λ k h. refl })
    (λ _. rw (apart n rxd (held m pins)) (clocks_keep n rxd m.sci off))

pub off_silent : OffSilent
unfolding step decode peek peek_serial
off_silent m pins rxd n off =
    let clear : control.RE m.sci.sccr1 ≡ false = sym (re_word m.sci.receiver.asleep m.sci.sccr1) ∙ sym (re_is m) ∙ off in
    let kept : Kept m.sci (step m (Hold pins rxd n)).state.sci = hold_keeps m pins rxd n clear in
    record {
      flag =
          λ k h.
          set_is k (omega arith) (step m (Hold pins rxd n)).state ∙ kept.flags k h ∙ sym (set_is k (omega arith) m);
      SCDR =
          word_read (step m (Hold pins rxd n)).state 0x0E refl refl ∙ ap (λ r. r.scdr % 512) kept.receiver
          ∙ sym (word_read m 0x0E refl refl);
    }

four : (m : Module) (a b c d : Bool) → FourSamples m a b c d
unfolding step does resets reads writes holds refused answer_of clocks clock_module after_read read_value fetched fetch iterate store stored stored_by decide_stored decide_read admitted in_map is_restricted decode peek put unmodelled guarded peek_serial put_serial serial_unmodelled serial_guarded serial_read queue_read reset_module reset wrote_sccr0 wrote_sccr1 sccr0_guarded sccr1_guarded has raise raise_if fall fall_if mark_seen clocked sampled sent received outcome raised entered status_after receiver_after framed fixed clock queue_clock
four m true true true true = record { RAF = refl; before = refl }
four m true true true false = record { RAF = refl; before = refl }
four m true true false true = record { RAF = refl; before = refl }
four m true true false false = record { RAF = refl; before = refl }
four m true false true true = record { RAF = refl; before = refl }
four m true false true false = record { RAF = refl; before = refl }
four m true false false true = record { RAF = refl; before = refl }
four m true false false false = record { RAF = refl; before = refl }
four m false true true true = record { RAF = refl; before = refl }
four m false true true false = record { RAF = refl; before = refl }
four m false true false true = record { RAF = refl; before = refl }
four m false true false false = record { RAF = refl; before = refl }
four m false false true true = record { RAF = refl; before = refl }
four m false false true false = record { RAF = refl; before = refl }
four m false false false true = record { RAF = refl; before = refl }
four m false false false false = record { RAF = refl; before = refl }

pub four_samples : (m : Module) (a b c d : Bool) → FourSamples m a b c d
four_samples = four

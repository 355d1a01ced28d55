-- Registers hold bits that exist alone, whatever the events. Assumes nothing.
use mathlib.Core.Path.{◌≡◌, refl, sym, ap, ◌∙◌}
use mathlib.Core.Bool.{Bool, true, false}
use Prim.Native.Nat.{ℕ, zero, suc, ◌+◌, ◌*◌, ◌/◌, ◌%◌, ◌<◌}
use native.Mathlib.Nat.{mod-lt}
use native.Mathlib.Omega.{arith}
use Rattle.steps.specs.Bits.{merge}
use Rattle.steps.specs.Iterate.{iterate}
use Rattle.qspi.specs.model.Fields.{spe}
use Rattle.qspi.specs.model.Parts.{with_registers}
use Rattle.qspi.specs.model.Registers.{reset, with_spcr1, switched, write_spcr1}
use Rattle.qspi.specs.model.Queue.{followed, clock}
use Rattle.qspi.specs.declared.Qspi.{Qspi}
use Rattle.qspi.specs.declared.Pins.{Pins}
use Rattle.qspi.proofs.Cases.{clock_by}
use Rattle.qsm.specs.model.State.{reset_module}
use Rattle.qsm.specs.model.Own.{put_own}
use Rattle.qsm.specs.model.Queue.{queue_read, put_queue}
use Rattle.qsm.specs.model.Word.{put}
use Rattle.qsm.specs.model.Decision.{permits, decide_read, stored_by, decide_stored}
use Rattle.qsm.specs.model.Event.{pins_of, held, clocks, after_read, read_value, refused, resets, reads, writes, does, step}
use Rattle.qsm.specs.declared.state.Module.{Module}
use Rattle.qsm.specs.declared.map.Place.{Place}
use Rattle.qsm.specs.declared.map.Place.TheVariants.{Own, Serial, Queue, Hole}
use Rattle.qsm.specs.declared.map.OwnWord.{OwnWord}
use Rattle.qsm.specs.declared.map.OwnWord.TheVariants.{Qsmcr, QilrQivr, Portqs, PqsparDdrqs}
use Rattle.qsm.specs.declared.map.QueueWord.{QueueWord}
use Rattle.qsm.specs.declared.map.QueueWord.TheVariants.{Spcr0, Spcr1, Spcr2, Spcr3Spsr, Receive, Transmit, Command}
use Rattle.qsm.specs.declared.event.Access.TheVariants.{Read, Write}
use Rattle.qsm.specs.declared.event.Event.{Event}
use Rattle.qsm.specs.declared.event.Event.TheVariants.{Reset, Hold}
use Rattle.qsm.specs.declared.event.Event.TheVariants as event
use Rattle.qsm.proofs.Clocks.{apart}
use Rattle.qsm.proofs.Limit.{hold_if}
use Rattle.qsm.proofs.Stored.{state_if, write_keeps}
use Rattle.claims_registers.specs.Formed.{Formed, Keeps}
use Rattle.claims_registers.proofs.Numbers.{spcr2_parts, pqspar_parts}

-- SPCR2 as it is read changes by a write of it alone.
followed_same : (last wrap : Bool) (q : Qspi) → (followed last wrap q).registers.spcr2 ≡ q.registers.spcr2
followed_same true true q = refl
followed_same true false q = refl
followed_same false wrap q = refl

clock_same : (q : Qspi) (pins : Pins) → (clock q pins).registers.spcr2 ≡ q.registers.spcr2
clock_same q pins =
    clock_by (λ r. r.registers.spcr2 ≡ q.registers.spcr2) q pins
    (record {
      fault = λ due. refl;
      still = refl;
      within = λ e. refl;
      ends = λ e last wrap. followed_same last wrap _;
      delay_over_holds = λ e on waits last. refl;
      starts = λ s e. refl;
      starts_ends = λ s e last wrap. followed_same last wrap _;
    })

clocks_same : (n : ℕ) (pins : Pins) (q : Qspi) → (iterate n (λ r. clock r pins) q).registers.spcr2 ≡ q.registers.spcr2
unfolding iterate
clocks_same zero pins q = refl
clocks_same (suc n) pins q = clock_same (iterate n (λ r. clock r pins) q) pins ∙ clocks_same n pins q

switched_same : (a b : Bool) (q : Qspi) → (switched a b q).registers.spcr2 ≡ q.registers.spcr2
switched_same true true q = refl
switched_same true false q = refl
switched_same false true q = refl
switched_same false false q = refl

read_same : (b : Bool) (q : Qspi) → (queue_read b q).registers.spcr2 ≡ q.registers.spcr2
unfolding queue_read
read_same true q = refl
read_same false q = refl

abbrev form : ℕ → ℕ
form w = w / 8192 * 8192 + w / 256 % 16 * 256 + w % 16

again : (w : ℕ) → form w ≡ form (form w)
again w = sym (spcr2_parts (w / 8192) (w / 256 % 16) (w % 16) (omega arith) (omega arith))

put_same : (q : Qspi) (w : QueueWord) (v : ℕ) (upper lower : Bool) → q.registers.spcr2 ≡ form q.registers.spcr2 →
    (put_queue q w v upper lower).registers.spcr2 ≡ form (put_queue q w v upper lower).registers.spcr2
unfolding put_queue write_spcr1
put_same q Spcr0 v upper lower h = h
put_same q Spcr1 v upper lower h =
    let same : (put_queue q Spcr1 v upper lower).registers.spcr2 ≡ q.registers.spcr2 =
    switched_same (spe q.registers.spcr1) (spe (merge q.registers.spcr1 v upper lower))
    (with_registers q (with_spcr1 q.registers (merge q.registers.spcr1 v upper lower))) in
    same ∙ h ∙ ap form (sym same)
put_same q Spcr2 v upper lower h = again (merge q.registers.spcr2 v upper lower)
put_same q Spcr3Spsr v upper lower h = h
put_same q (Receive i) v upper lower h = h
put_same q (Transmit i) v upper lower h = h
put_same q (Command i) v upper lower h = h

-- The queue half may be another, with SPCR2 as it was, or in form.
with_queue : (m n : Module) → Formed m → n.qsmcr ≡ m.qsmcr → n.qilr ≡ m.qilr → n.qivr ≡ m.qivr → n.pqspar ≡ m.pqspar →
    n.ddrqs ≡ m.ddrqs → n.qspi.registers.spcr2 ≡ form n.qspi.registers.spcr2 → Formed n
with_queue m n f a b c d e g =
    record {
      QSMCR = rw a f.QSMCR;
      QILR = rw b f.QILR;
      QIVR = rw c f.QIVR;
      lowest = rw c f.lowest;
      PQSPAR = rw d f.PQSPAR;
      DDRQS = rw e f.DDRQS;
      SPCR2 = g;
    }

kept_own : (m : Module) (w : OwnWord) (v : ℕ) (upper lower : Bool) → Formed m → Formed (put_own m w v upper lower)
unfolding put_own
kept_own m Qsmcr v upper lower f =
    record {
      QSMCR = bits (merge m.qsmcr v upper lower);
      QILR = f.QILR;
      QIVR = f.QIVR;
      lowest = f.lowest;
      PQSPAR = f.PQSPAR;
      DDRQS = f.DDRQS;
      SPCR2 = f.SPCR2;
    }
  where
    bits : (w : ℕ) → w / 128 % 2 * 128 + w % 16 ≡ (w / 128 % 2 * 128 + w % 16) / 128 % 2 * 128 + (w / 128 % 2 * 128 + w % 16) % 16
    bits w = omega arith
kept_own m QilrQivr v upper lower f =
    record {
      QSMCR = f.QSMCR;
      QILR = mod-lt _ (omega arith);
      QIVR = byte (merge (m.qilr * 256 + m.qivr) v upper lower);
      lowest = odd (merge (m.qilr * 256 + m.qivr) v upper lower);
      PQSPAR = f.PQSPAR;
      DDRQS = f.DDRQS;
      SPCR2 = f.SPCR2;
    }
  where
    byte : (w : ℕ) → w % 256 / 2 * 2 + 1 < 256
    byte w = omega arith

    odd : (w : ℕ) → (w % 256 / 2 * 2 + 1) % 2 ≡ 1
    odd w = omega arith
kept_own m Portqs v upper lower f =
    record {
      QSMCR = f.QSMCR;
      QILR = f.QILR;
      QIVR = f.QIVR;
      lowest = f.lowest;
      PQSPAR = f.PQSPAR;
      DDRQS = f.DDRQS;
      SPCR2 = f.SPCR2;
    }
kept_own m PqsparDdrqs v upper lower f =
    record {
      QSMCR = f.QSMCR;
      QILR = f.QILR;
      QIVR = f.QIVR;
      lowest = f.lowest;
      PQSPAR = bits (merge (m.pqspar * 256 + m.ddrqs) v upper lower);
      DDRQS = mod-lt _ (omega arith);
      SPCR2 = f.SPCR2;
    }
  where
    bits : (w : ℕ) →
        w / 0x800 % 16 * 8 + w / 256 % 4 ≡ (w / 0x800 % 16 * 8 + w / 256 % 4) / 8 % 16 * 8 + (w / 0x800 % 16 * 8 + w / 256 % 4) % 4
    bits w = sym (pqspar_parts (w / 0x800 % 16) (w / 256 % 4) (omega arith) (omega arith))

kept_put : (m : Module) (p : Place) (v : ℕ) (upper lower : Bool) → Formed m → Formed (put m p v upper lower)
unfolding put
kept_put m (Own w) v upper lower f = kept_own m w v upper lower f
kept_put m (Serial w) v upper lower f = with_queue m _ f refl refl refl refl refl f.SPCR2
kept_put m (Queue w) v upper lower f = with_queue m _ f refl refl refl refl refl (put_same m.qspi w v upper lower f.SPCR2)
kept_put m Hole v upper lower f = f

kept_clocks : (m : Module) (pins : ℕ) (rxd : Bool) (n : ℕ) → Formed m → Formed (clocks (held m pins) rxd n)
unfolding clocks
kept_clocks m pins rxd n f =
    let same : (iterate n (λ r. clock r (pins_of (held m pins))) m.qspi).registers.spcr2 ≡ m.qspi.registers.spcr2 =
    clocks_same n (pins_of (held m pins)) m.qspi in
    rw (apart n rxd (held m pins)) (with_queue m _ f refl refl refl refl refl (same ∙ f.SPCR2 ∙ ap form (sym same)))

kept : (m : Module) (e : Event) → Formed m → Formed (step m e).state
unfolding step does resets reset_module reset reads writes refused after_read
kept m Reset f =
    record { QSMCR = refl; QILR = omega arith; QIVR = omega arith; lowest = refl; PQSPAR = refl; DDRQS = omega arith; SPCR2 = refl }
kept m (Hold pins rxd n) f = hold_if (λ d. Formed d.state) m pins rxd n (λ e. f) (λ e. kept_clocks m pins rxd n f)
kept m (event.Access (Read s w o)) f =
    state_if Formed (permits (decide_read m s w o)) m (after_read m w o) 0 (read_value m w o) _
    (λ e. with_queue m _ f refl refl refl refl refl (read_same _ m.qspi ∙ f.SPCR2 ∙ ap form (sym (read_same _ m.qspi)))) (λ e. f)
kept m (event.Access (Write s w o v)) f =
    state_if Formed (permits (decide_stored m (stored_by m w o v) s w o v)) m (stored_by m w o v).state 0 0 _
    (λ e. write_keeps Formed kept_put m w o v f) (λ e. f)

after_reset : (m : Module) → Formed (step m Reset).state
unfolding step does resets reset_module reset
after_reset m =
    record { QSMCR = refl; QILR = omega arith; QIVR = omega arith; lowest = refl; PQSPAR = refl; DDRQS = omega arith; SPCR2 = refl }

pub keeps : Keeps
keeps = record { reset = after_reset; kept = kept }

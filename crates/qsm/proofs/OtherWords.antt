-- A word put at a place leaves every other place as it is read, but for SCSR and PORTQS. Assumes nothing.
use mathlib.Core.Path.{◌≡◌, refl, ap}
use mathlib.Core.Bool.{Bool, true, false, ◌&&◌, true≢false}
use Prim.Native.Nat.{ℕ, ◌+◌, ◌*◌, ◌/◌, ◌%◌, ◌^◌}
use lib.Dec.{eqb}
use Rattle.steps.specs.Bits.{bit}
use Rattle.sci.specs.model.Control.{RE}
use Rattle.sci.specs.model.Serial.{sccr1_word, stopped, sccr0_set, with_sccr1, wrote_sccr0, wrote_sccr1}
use Rattle.sci.specs.declared.serial.Sci.{Sci}
use Rattle.qspi.specs.model.Parts.{with_registers}
use Rattle.qspi.specs.model.Registers.{with_spcr1, switched, write_spcr1}
use Rattle.qspi.specs.declared.Qspi.{Qspi}
use Rattle.qsm.specs.model.Map.{mapped}
use Rattle.qsm.specs.model.State.{with_sci, with_qspi}
use Rattle.qsm.specs.model.Own.{peek_own, put_own}
use Rattle.qsm.specs.model.Serial.{peek_serial, put_serial}
use Rattle.qsm.specs.model.Queue.{peek_queue, put_queue}
use Rattle.qsm.specs.model.Word.{peek, put}
use Rattle.qsm.specs.declared.state.Module.{Module}
use Rattle.qsm.specs.declared.map.Place.{Place}
use Rattle.qsm.specs.declared.map.Place.TheVariants.{Own, Serial, Queue, Hole}
use Rattle.qsm.specs.declared.map.OwnWord.{OwnWord}
use Rattle.qsm.specs.declared.map.OwnWord.TheVariants.{Qsmcr, QilrQivr, Portqs, PqsparDdrqs}
use Rattle.qsm.specs.declared.map.SerialWord.{SerialWord}
use Rattle.qsm.specs.declared.map.SerialWord.TheVariants.{Sccr0, Sccr1, Scsr, Scdr}
use Rattle.qsm.specs.declared.map.QueueWord.{QueueWord}
use Rattle.qsm.specs.declared.map.QueueWord.TheVariants.{Spcr0, Spcr1, Spcr2, Spcr3Spsr, Receive, Transmit, Command}
use Rattle.qsm.proofs.Stored.{own_keeps}

-- ---- where a place stands, in words

abbrev own_at : OwnWord → ℕ
own_at Qsmcr = 0
own_at QilrQivr = 2
own_at Portqs = 10
own_at PqsparDdrqs = 11

abbrev serial_at : SerialWord → ℕ
serial_at Sccr0 = 4
serial_at Sccr1 = 5
serial_at Scsr = 6
serial_at Scdr = 7

abbrev queue_at : QueueWord → ℕ
queue_at Spcr0 = 12
queue_at Spcr1 = 13
queue_at Spcr2 = 14
queue_at Spcr3Spsr = 15
queue_at (Receive i) = 128 + i
queue_at (Transmit i) = 144 + i
queue_at (Command i) = 160 + i

abbrev pub place_at : Place → ℕ
place_at (Own w) = own_at w
place_at (Serial w) = serial_at w
place_at (Queue w) = queue_at w
place_at Hole = 0

abbrev in_ram : QueueWord → Bool
in_ram Spcr0 = false
in_ram Spcr1 = false
in_ram Spcr2 = false
in_ram Spcr3Spsr = false
in_ram (Receive i) = true
in_ram (Transmit i) = true
in_ram (Command i) = true

abbrev pub place_in_ram : Place → Bool
place_in_ram (Own w) = false
place_in_ram (Serial w) = false
place_in_ram (Queue w) = in_ram w
place_in_ram Hole = false

abbrev written : ℕ → ℕ
written v = v / 256 % 256 * 256 + v % 256

-- ---- another word of the same part

abbrev pub others : ℕ → ℕ → Type 0
others a b = a ≡ b → ⊥

own_other : (m : Module) (w x : OwnWord) (v : ℕ) → others (own_at w) (own_at x) → others (own_at x) 10 →
    peek_own (put_own m w v true true) x ≡ peek_own m x
unfolding peek_own put_own
own_other m Qsmcr Qsmcr v n p = absurd (n refl)
own_other m Qsmcr QilrQivr v n p = refl
own_other m Qsmcr Portqs v n p = absurd (p refl)
own_other m Qsmcr PqsparDdrqs v n p = refl
own_other m QilrQivr Qsmcr v n p = refl
own_other m QilrQivr QilrQivr v n p = absurd (n refl)
own_other m QilrQivr Portqs v n p = absurd (p refl)
own_other m QilrQivr PqsparDdrqs v n p = refl
own_other m Portqs Qsmcr v n p = refl
own_other m Portqs QilrQivr v n p = refl
own_other m Portqs Portqs v n p = absurd (n refl)
own_other m Portqs PqsparDdrqs v n p = refl
own_other m PqsparDdrqs Qsmcr v n p = refl
own_other m PqsparDdrqs QilrQivr v n p = refl
own_other m PqsparDdrqs Portqs v n p = absurd (p refl)
own_other m PqsparDdrqs PqsparDdrqs v n p = absurd (n refl)

stopped_keeps : (b : Bool) (s : Sci) → ((stopped b s).sccr0 ≡ s.sccr0) × ((stopped b s).receiver.scdr ≡ s.receiver.scdr)
stopped_keeps true s = (refl, refl)
stopped_keeps false s = (refl, refl)

set_keeps : (b : Bool) (s : Sci) (v : ℕ) →
    (sccr1_word (sccr0_set b s v) ≡ sccr1_word s) × ((sccr0_set b s v).receiver.scdr ≡ s.receiver.scdr)
set_keeps true s v = (refl, refl)
set_keeps false s v = (refl, refl)

serial_other : (s : Sci) (w x : SerialWord) (v : ℕ) → others (serial_at w) (serial_at x) → others (serial_at x) 6 →
    peek_serial (put_serial s w v true true) x ≡ peek_serial s x
unfolding peek_serial put_serial wrote_sccr0 wrote_sccr1
serial_other s Sccr0 Sccr0 v n p = absurd (n refl)
serial_other s Sccr0 Sccr1 v n p = (set_keeps (eqb (written v % 2 ^ 13) s.sccr0) s (written v % 2 ^ 13)).0
serial_other s Sccr0 Scsr v n p = absurd (p refl)
serial_other s Sccr0 Scdr v n p = rw (set_keeps (eqb (written v % 2 ^ 13) s.sccr0) s (written v % 2 ^ 13)).1
serial_other s Sccr1 Sccr0 v n p = rw (stopped_keeps (RE (written v)) (with_sccr1 s (written v))).0
serial_other s Sccr1 Sccr1 v n p = absurd (n refl)
serial_other s Sccr1 Scsr v n p = absurd (p refl)
serial_other s Sccr1 Scdr v n p = rw (stopped_keeps (RE (written v)) (with_sccr1 s (written v))).1
serial_other s Scsr Sccr0 v n p = refl
serial_other s Scsr Sccr1 v n p = refl
serial_other s Scsr Scsr v n p = absurd (n refl)
serial_other s Scsr Scdr v n p = refl
serial_other s Scdr Sccr0 v n p = refl
serial_other s Scdr Sccr1 v n p = refl
serial_other s Scdr Scsr v n p = absurd (p refl)
serial_other s Scdr Scdr v n p = absurd (n refl)

switched_keeps : (a b : Bool) (q : Qspi) →
    ((switched a b q).registers ≡ q.registers) × ((switched a b q).spsr ≡ q.spsr) × ((switched a b q).ram ≡ q.ram)
switched_keeps true true q = (refl, refl, refl)
switched_keeps true false q = (refl, refl, refl)
switched_keeps false true q = (refl, refl, refl)
switched_keeps false false q = (refl, refl, refl)

spcr1_keeps : (q : Qspi) (v : ℕ) →
    ((write_spcr1 q v true true).registers ≡ with_spcr1 q.registers (written v)) × ((write_spcr1 q v true true).spsr ≡ q.spsr)
    × ((write_spcr1 q v true true).ram ≡ q.ram)
unfolding write_spcr1
spcr1_keeps q v =
    switched_keeps (bit 15 q.registers.spcr1) (bit 15 (written v)) (with_registers q (with_spcr1 q.registers (written v)))

-- A register, and a word of the RAM or another register.
queue_other : (q : Qspi) (w x : QueueWord) (v : ℕ) → others (queue_at w) (queue_at x) → in_ram w && in_ram x ≡ false →
    peek_queue (put_queue q w v true true) x ≡ peek_queue q x
unfolding peek_queue put_queue
queue_other q Spcr0 Spcr0 v n b = absurd (n refl)
queue_other q Spcr0 Spcr1 v n b = refl
queue_other q Spcr0 Spcr2 v n b = refl
queue_other q Spcr0 Spcr3Spsr v n b = refl
queue_other q Spcr0 (Receive j) v n b = refl
queue_other q Spcr0 (Transmit j) v n b = refl
queue_other q Spcr0 (Command j) v n b = refl
queue_other q Spcr1 Spcr0 v n b = rw (spcr1_keeps q v).0
queue_other q Spcr1 Spcr1 v n b = absurd (n refl)
queue_other q Spcr1 Spcr2 v n b = rw (spcr1_keeps q v).0
queue_other q Spcr1 Spcr3Spsr v n b = rw ((spcr1_keeps q v).0, (spcr1_keeps q v).1)
queue_other q Spcr1 (Receive j) v n b = rw (spcr1_keeps q v).2
queue_other q Spcr1 (Transmit j) v n b = rw (spcr1_keeps q v).2
queue_other q Spcr1 (Command j) v n b = rw (spcr1_keeps q v).2
queue_other q Spcr2 Spcr0 v n b = refl
queue_other q Spcr2 Spcr1 v n b = refl
queue_other q Spcr2 Spcr2 v n b = absurd (n refl)
queue_other q Spcr2 Spcr3Spsr v n b = refl
queue_other q Spcr2 (Receive j) v n b = refl
queue_other q Spcr2 (Transmit j) v n b = refl
queue_other q Spcr2 (Command j) v n b = refl
queue_other q Spcr3Spsr Spcr0 v n b = refl
queue_other q Spcr3Spsr Spcr1 v n b = refl
queue_other q Spcr3Spsr Spcr2 v n b = refl
queue_other q Spcr3Spsr Spcr3Spsr v n b = absurd (n refl)
queue_other q Spcr3Spsr (Receive j) v n b = refl
queue_other q Spcr3Spsr (Transmit j) v n b = refl
queue_other q Spcr3Spsr (Command j) v n b = refl
queue_other q (Receive i) Spcr0 v n b = refl
queue_other q (Receive i) Spcr1 v n b = refl
queue_other q (Receive i) Spcr2 v n b = refl
queue_other q (Receive i) Spcr3Spsr v n b = refl
queue_other q (Receive i) (Receive j) v n b = absurd (true≢false b)
queue_other q (Receive i) (Transmit j) v n b = absurd (true≢false b)
queue_other q (Receive i) (Command j) v n b = absurd (true≢false b)
queue_other q (Transmit i) Spcr0 v n b = refl
queue_other q (Transmit i) Spcr1 v n b = refl
queue_other q (Transmit i) Spcr2 v n b = refl
queue_other q (Transmit i) Spcr3Spsr v n b = refl
queue_other q (Transmit i) (Receive j) v n b = absurd (true≢false b)
queue_other q (Transmit i) (Transmit j) v n b = absurd (true≢false b)
queue_other q (Transmit i) (Command j) v n b = absurd (true≢false b)
queue_other q (Command i) Spcr0 v n b = refl
queue_other q (Command i) Spcr1 v n b = refl
queue_other q (Command i) Spcr2 v n b = refl
queue_other q (Command i) Spcr3Spsr v n b = refl
queue_other q (Command i) (Receive j) v n b = absurd (true≢false b)
queue_other q (Command i) (Transmit j) v n b = absurd (true≢false b)
queue_other q (Command i) (Command j) v n b = absurd (true≢false b)

-- ---- of the module

own_apart : (m : Module) (s : Sci) (q : Qspi) (x : OwnWord) → others (own_at x) 10 →
    (peek_own (with_sci m s) x ≡ peek_own m x) × (peek_own (with_qspi m q) x ≡ peek_own m x)
unfolding peek_own
own_apart m s q Qsmcr p = (refl, refl)
own_apart m s q QilrQivr p = (refl, refl)
own_apart m s q Portqs p = absurd (p refl)
own_apart m s q PqsparDdrqs p = (refl, refl)

pub hole_put : (m : Module) (p : Place) (v : ℕ) → mapped p ≡ false → put m p v true true ≡ m
unfolding put
hole_put m (Own w) v h = absurd (true≢false h)
hole_put m (Serial w) v h = absurd (true≢false h)
hole_put m (Queue w) v h = absurd (true≢false h)
hole_put m Hole v h = refl

module _ (m : Module) (v : ℕ) where
  pub other : (p q : Place) → others (place_at p) (place_at q) → others (place_at q) 6 → others (place_at q) 10 →
      place_in_ram p && place_in_ram q ≡ false → peek (put m p v true true) q ≡ peek m q
  unfolding peek put
  other p Hole n a b r = refl
  other Hole (Own x) n a b r = refl
  other Hole (Serial x) n a b r = refl
  other Hole (Queue x) n a b r = refl
  other (Own w) (Own x) n a b r = own_other m w x v n b
  other (Own w) (Serial x) n a b r = ap (λ s. peek_serial s x) (own_keeps m w v true true).0
  other (Own w) (Queue x) n a b r = ap (λ q. peek_queue q x) (own_keeps m w v true true).1
  other (Serial w) (Own x) n a b r = (own_apart m (put_serial m.sci w v true true) m.qspi x b).0
  other (Serial w) (Serial x) n a b r = serial_other m.sci w x v n a
  other (Serial w) (Queue x) n a b r = refl
  other (Queue w) (Own x) n a b r = (own_apart m m.sci (put_queue m.qspi w v true true) x b).1
  other (Queue w) (Serial x) n a b r = refl
  other (Queue w) (Queue x) n a b r = queue_other m.qspi w x v n r

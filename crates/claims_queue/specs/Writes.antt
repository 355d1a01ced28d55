-- Document 01, Queue: what writes do before, in and after an entry. `run pins d q` is the queue d clocks on.
use Rattle.std.specs.Prelude.{◌≡◌, Bool, true, false, ◌||◌, ℕ, ◌+◌, ◌-◌, ◌/◌, ◌%◌, ◌≤◌, ◌<◌}
use Rattle.steps.specs.Bits.{bit}
use Rattle.qspi.specs.model.Registers.{write_spcr1, write_spcr2, write_spcr3_spsr}
use Rattle.qspi.specs.model.Outputs.{sck, mosi, pcs}
use Rattle.qspi.specs.claims.Run.{run}
use Rattle.qspi.specs.declared.Qspi.{Qspi}
use Rattle.qspi.specs.declared.Pins.{Pins}
use Rattle.claims_queue.specs.Numbers.{is_last, ends, after, Calm, Next}
use Rattle.claims_queue.specs.Entry.{last_at, CPOL}
use Rattle.claims_queue.specs.Follows.{length}

-- SPE rises by a write of 1A with bit 15, with SPBR 2 or more: the next clock is clock 1 of the entry at NEWQP (3:0 of SPCR2). SCK rests at CPOL,
-- MOSI is 0, the Pcs show PORTQS; SPSR and the RAM stay.
pub record Rises (q r : Qspi) : Type 0 where
  pub next : 2 ≤ q.registers.spcr0 % 256 → Next r (q.registers.spcr2 % 16)
  pub SCK : sck r ≡ CPOL q
  pub MOSI : mosi r ≡ false
  pub Pcs : (portqs : ℕ) → pcs r portqs ≡ portqs / 8 % 16
  pub spsr : r.spsr ≡ q.spsr
  pub ram : r.ram ≡ q.ram

abbrev pub SpeRises : Type 0
SpeRises =
    (q : Qspi) (v : ℕ) (lower : Bool) → bit 15 q.registers.spcr1 ≡ false → bit 15 v ≡ true →
    Rises q (write_spcr1 q v true lower)

-- A write touching NEWQP, also with its own value: before clock 1 it moves the pointer at once; in an entry that goes on, or its delay, the next
-- entry begins when it would have, at NEWQP.
abbrev pub NewqpBefore : Type 0
NewqpBefore =
    (q : Qspi) (i v : ℕ) (upper : Bool) → Next q i → Next (write_spcr2 q v upper true) (v % 16)

abbrev pub NewqpWithin : Type 0
NewqpWithin =
    (q : Qspi) (i : ℕ) (pins : ℕ → Pins) → Next q i → Calm pins → ends q.registers.spcr2 i ≡ false →
    bit 0 q.registers.spcr3 ≡ false → (d v : ℕ) (upper : Bool) → 0 < d → d < length q i →
    Next (run (λ k. pins (d + k)) (length q i - d) (write_spcr2 (run pins d q) v upper true)) (v % 16)

-- The working copy rules: ENDQP, WREN and WRTO written in an entry (the upper byte of SPCR2 alone) change neither how it ends nor what follows.
abbrev pub UpperBefore : Type 0
UpperBefore = (q : Qspi) (i v : ℕ) → Next q i → Next (write_spcr2 q v true false) i

pub record AsTaken (q : Qspi) (i : ℕ) (r : Qspi) : Type 0 where
  pub SPIF : r.spsr.flags.spif ≡ is_last q.registers.spcr2 i || q.spsr.flags.spif
  pub next : Next r (after q.registers.spcr2 i)

abbrev pub WorkingGoesOn : Type 0
WorkingGoesOn =
    (q : Qspi) (i : ℕ) (pins : ℕ → Pins) → Next q i → Calm pins → ends q.registers.spcr2 i ≡ false →
    bit 0 q.registers.spcr3 ≡ false → (d v : ℕ) → 0 < d → d < length q i →
    AsTaken q i (run (λ k. pins (d + k)) (length q i - d) (write_spcr2 (run pins d q) v true false))

pub record Ended (r : Qspi) : Type 0 where
  pub SPIF : r.spsr.flags.spif ≡ true
  pub SPE : bit 15 r.registers.spcr1 ≡ false

abbrev pub WorkingEnds : Type 0
WorkingEnds =
    (q : Qspi) (i : ℕ) (pins : ℕ → Pins) → Next q i → Calm pins → ends q.registers.spcr2 i ≡ true →
    (d v : ℕ) (lower : Bool) → 0 < d → d < last_at q i →
    Ended (run (λ k. pins (d + k)) (last_at q i - d) (write_spcr2 (run pins d q) v true lower))

-- HALT (8 of a word at 1E) written in an entry that goes on, or its delay, counts at the delay's last clock: set, HALTA rises there and nothing
-- moves; clear, the next entry begins.
abbrev pub HaltWithin : Type 0
HaltWithin =
    (q : Qspi) (i : ℕ) (pins : ℕ → Pins) → Next q i → Calm pins → ends q.registers.spcr2 i ≡ false →
    (d v : ℕ) → 0 < d → d < length q i → bit 8 v ≡ true →
    (run (λ k. pins (d + k)) (length q i - d) (write_spcr3_spsr (run pins d q) v true false)).spsr.flags.halta ≡ true

abbrev pub HaltCleared : Type 0
HaltCleared =
    (q : Qspi) (i : ℕ) (pins : ℕ → Pins) → Next q i → Calm pins → ends q.registers.spcr2 i ≡ false →
    (d v : ℕ) → 0 < d → d < length q i → bit 8 v ≡ false →
    Next (run (λ k. pins (d + k)) (length q i - d) (write_spcr3_spsr (run pins d q) v true false)) (after q.registers.spcr2 i)

-- Document 01, Queue: what stops a queue. With SPE clear nothing of it moves.
use Rattle.std.specs.Prelude.{◌≡◌, Bool, true, false, ℕ, ◌%◌, ◌<◌}
use Rattle.steps.specs.Bits.{bit}
use Rattle.qspi.specs.model.Registers.{write_spcr1}
use Rattle.qspi.specs.model.Queue.{clock}
use Rattle.qspi.specs.claims.Run.{run}
use Rattle.qspi.specs.declared.Qspi.{Qspi}
use Rattle.qspi.specs.declared.Pins.{Pins}
use Rattle.claims_queue.specs.Numbers.{selected, Calm}

abbrev pub Off : Type 0
Off = (q : Qspi) (pins : ℕ → Pins) → bit 15 q.registers.spcr1 ≡ false → (c : ℕ) → run pins c q ≡ q

-- SPBR 0 or 1: no entry starts.
abbrev pub TooFast : Type 0
TooFast =
    (q : Qspi) (pins : ℕ → Pins) → bit 15 q.registers.spcr1 ≡ true → q.registers.spcr0 % 256 < 2 →
    q.entry.playing ≡ false → q.entry.delaying ≡ false → Calm pins → (c : ℕ) → run pins c q ≡ q

-- The entry is abandoned: SPE falls, nothing is stored, in this clock or later, and all else stays, MSTR among it.
pub record Abandoned (q r : Qspi) : Type 0 where
  pub SPE : bit 15 r.registers.spcr1 ≡ false
  pub spcr0 : r.registers.spcr0 ≡ q.registers.spcr0
  pub spcr2 : r.registers.spcr2 ≡ q.registers.spcr2
  pub spcr3 : r.registers.spcr3 ≡ q.registers.spcr3
  pub ram : r.ram ≡ q.ram
  pub cptqp : r.spsr.cptqp ≡ q.spsr.cptqp
  pub SPIF : r.spsr.flags.spif ≡ q.spsr.flags.spif
  pub HALTA : r.spsr.flags.halta ≡ q.spsr.flags.halta
  pub seen : r.spsr.seen ≡ q.spsr.seen
  pub playing : r.entry.playing ≡ false
  pub delaying : r.entry.delaying ≡ false
  pub later : (pins : ℕ → Pins) (c : ℕ) → run pins c r ≡ r

-- PQS3 assigned, input and low with MSTR (15 of SPCR0) and SPE: MODF rises, and DSCKL and DTL stay.
pub record Faulted (q r : Qspi) : Type 0 where
  pub MODF : r.spsr.flags.modf ≡ true
  pub spcr1 : r.registers.spcr1 ≡ q.registers.spcr1 % 32768
  pub abandoned : Abandoned q r

abbrev pub ModeFault : Type 0
ModeFault =
    (q : Qspi) (pins : Pins) → bit 15 q.registers.spcr1 ≡ true → bit 15 q.registers.spcr0 ≡ true →
    selected pins ≡ true → Faulted q (clock q pins)

-- A write that clears SPE, of the word at 1A or of its upper byte.
abbrev pub Cleared : Type 0
Cleared =
    (q : Qspi) (v : ℕ) (lower : Bool) → bit 15 q.registers.spcr1 ≡ true → bit 15 v ≡ false →
    ((write_spcr1 q v true lower).spsr.flags.modf ≡ q.spsr.flags.modf) × Abandoned q (write_spcr1 q v true lower)

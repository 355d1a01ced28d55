-- Document 01, Queue: the numbers of an entry, from SPCR0, SPCR1, SPCR2 and its command byte, by their bits in the register map. No definition of
-- the model is cited here.
use Rattle.std.specs.Prelude.{◌≡◌, Bool, true, false, cond, not, ◌&&◌, ℕ, ◌+◌, ◌-◌, ◌*◌, ◌/◌, ◌%◌, ◌≤◌, eqb}
use Rattle.steps.specs.Bits.{bit}
use Rattle.qspi.specs.declared.Qspi.{Qspi}
use Rattle.qspi.specs.declared.Pins.{Pins}

-- Bits n: 8, or BITS (13:10 of SPCR0) if BITSE (6 of the command); 0 means 16.
abbrev pub bits : ℕ → ℕ → ℕ
bits spcr0 command = cond (bit 6 command) (cond (eqb (spcr0 / 1024 % 16) 0) 16 (spcr0 / 1024 % 16)) 8

-- Pre-delay p: SPBR (7:0 of SPCR0), or DSCKL (14:8 of SPCR1) if DSCK (4 of the command); 0 means 128.
abbrev pub pre : ℕ → ℕ → ℕ → ℕ
pre spcr0 spcr1 command =
    cond (bit 4 command) (cond (eqb (spcr1 / 256 % 128) 0) 128 (spcr1 / 256 % 128)) (spcr0 % 256)

-- The delay: 17 clocks, or 32 x DTL (7:0 of SPCR1) if DT (5 of the command); 0 means 8,192.
abbrev pub delay : ℕ → ℕ → ℕ
delay spcr1 command = cond (bit 5 command) (cond (eqb (32 * (spcr1 % 256)) 0) 8192 (32 * (spcr1 % 256))) 17

-- Edge j at clock p + (j - 1) x SPBR.
abbrev pub edge : ℕ → ℕ → ℕ → ℕ → ℕ
edge spcr0 spcr1 command j = pre spcr0 spcr1 command + (j - 1) * (spcr0 % 256)

-- The entry at ENDQP (11:8 of SPCR2) is the last, unless WREN (14): then 0 follows it, or NEWQP (3:0) if WRTO (13); any other is followed by
-- pointer + 1 modulo 16.
abbrev pub is_last : ℕ → ℕ → Bool
is_last spcr2 i = eqb i (spcr2 / 256 % 16)

abbrev pub ends : ℕ → ℕ → Bool
ends spcr2 i = is_last spcr2 i && not (bit 14 spcr2)

abbrev pub after : ℕ → ℕ → ℕ
after spcr2 i = cond (is_last spcr2 i) (cond (bit 13 spcr2) (spcr2 % 16) 0) ((i + 1) % 16)

-- MISO (pin 0) as the queue reads it: zero unless assigned and an input. PQS3 (pin 3) assigned, input and low: a mode fault.
abbrev pub miso : Pins → Bool
miso pins = (bit 0 pins.pqspar && not (bit 0 pins.ddrqs)) && bit 0 pins.levels

abbrev pub selected : Pins → Bool
selected pins = (bit 3 pins.pqspar && not (bit 3 pins.ddrqs)) && not (bit 3 pins.levels)

abbrev pub Calm : (ℕ → Pins) → Type 0
Calm pins = (c : ℕ) → selected (pins c) ≡ false

-- The next clock is clock 1 of entry i: SPE (15 of SPCR1) is set, SPBR is 2 or more, nothing is under way or waits for HALT (0 of SPCR3); and a
-- pending NEWQP, else the pointer, stands at i.
pub record Next (q : Qspi) (i : ℕ) : Type 0 where
  pub SPE : bit 15 q.registers.spcr1 ≡ true
  pub SPBR : 2 ≤ q.registers.spcr0 % 256
  pub playing : q.entry.playing ≡ false
  pub delaying : q.entry.delaying ≡ false
  pub waits : q.entry.halted && bit 0 q.registers.spcr3 ≡ false
  pub here : cond q.next.pending (q.registers.spcr2 % 16) (q.next.pointer % 16) ≡ i

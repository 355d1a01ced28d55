-- Document 01, Flags and Transmitter: what a read and a write of SCDR leave, in any state of the serial half.
use Rattle.std.specs.Prelude.{Bool, true, false, cond, not, ◌&&◌, ◌||◌, ◌≡◌, ℕ, ◌%◌, ◌^◌, ◌<◌, eqb, leb}
use Rattle.steps.specs.Bits.{bit}
use Rattle.sci.specs.claims.Members.{member}
use Rattle.sci.specs.model.Serial.{data_read, data_written}
use Rattle.sci.specs.declared.serial.Sci.{Sci}
use Rattle.sci.specs.declared.transmitter.Transmitter.{Transmitter}

-- By their bits of SCSR: the receive flags RDRF 6, IDLE 4, OR 3, NF 2, FE 1, PF 0; and TDRE 8, TC 7.
abbrev pub receive_flag : ℕ → Bool
receive_flag k = eqb k 6 || leb k 4

abbrev pub transmit_flag : ℕ → Bool
transmit_flag k = eqb k 8 || eqb k 7

-- From s to r the flags of a group that are set and seen fall, with their marks. No other falls, and none rises.
pub record Fall (group : ℕ → Bool) (s r : Sci) : Type 0 where
  pub flags : (k : ℕ) → member k r.status.flags
      ≡ member k s.status.flags && not (member k s.status.seen && group k)
  pub marks : (k : ℕ) → member k r.status.seen
      ≡ member k s.status.seen && not (member k s.status.flags && group k)

-- From t to u only the data register changes.
pub record Loads (t u : Transmitter) : Type 0 where
  pub preamble : u.preamble ≡ t.preamble
  pub left : u.left ≡ t.left
  pub shift : u.shift ≡ t.shift

-- A read of SCDR's low byte or word.
pub record ReadClauses (s : Sci) : Type 0 where
  pub fall : Fall receive_flag s (data_read s)
  pub receiver : (data_read s).receiver ≡ s.receiver
  pub transmitter : (data_read s).transmitter ≡ s.transmitter

-- A write of its low byte or word loads the nine bits of the data register; bit 8 comes with the upper byte, and else stays.
pub record WriteClauses (s : Sci) (v : ℕ) (upper : Bool) : Type 0 where
  pub low : (data_written true s v upper).transmitter.scdr % 2 ^ 8 ≡ v % 2 ^ 8
  pub bit_8 : bit 8 (data_written true s v upper).transmitter.scdr ≡ cond upper (bit 8 v) (bit 8 s.transmitter.scdr)
  pub nine : (data_written true s v upper).transmitter.scdr < 2 ^ 9
  pub loads : Loads s.transmitter (data_written true s v upper).transmitter
  pub fall : Fall transmit_flag s (data_written true s v upper)
  pub receiver : (data_written true s v upper).receiver ≡ s.receiver

pub record DataClauses : Type 0 where
  pub reads : (s : Sci) → ReadClauses s
  pub writes : (s : Sci) (v : ℕ) (upper : Bool) → WriteClauses s v upper
  -- A write of the upper byte alone does nothing.
  pub alone : (s : Sci) (v : ℕ) (upper : Bool) → data_written false s v upper ≡ s

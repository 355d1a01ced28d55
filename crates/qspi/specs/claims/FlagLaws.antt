-- How SPIF, MODF and HALTA are shown, seen and fall, over all that a host or a clock does to the queue.
use Rattle.std.specs.Prelude.{◌≡◌, Bool, true, false, not, ◌&&◌, ℕ}
use Rattle.steps.specs.Bits.{bit}
use Rattle.qspi.specs.model.Registers.{reset, spcr3_spsr, status_read, write_spcr0, write_spcr1, write_spcr2, write_spcr3_spsr}
use Rattle.qspi.specs.model.Ram.{write_receive, write_transmit, write_command}
use Rattle.qspi.specs.model.Queue.{clock}
use Rattle.qspi.specs.declared.Qspi.{Qspi}
use Rattle.qspi.specs.declared.Pins.{Pins}
use Rattle.qspi.specs.declared.spsr.Flags.{Flags}

pub data Flag : Type 0 where
  SPIF : Flag
  MODF : Flag
  HALTA : Flag

-- Its bit of SPSR.
abbrev pub place : Flag → ℕ
place SPIF = 7
place MODF = 6
place HALTA = 5

abbrev pub member : Flag → Flags → Bool
member SPIF f = f.spif
member MODF f = f.modf
member HALTA f = f.halta

abbrev pub is_set : Flag → Qspi → Bool
is_set f q = member f q.spsr.flags

abbrev pub is_seen : Flag → Qspi → Bool
is_seen f q = member f q.spsr.seen

-- A clock, a read touching byte 1F, a write of a word by its upper and lower byte; the words of RAM are numbered.
pub data Act : Type 0 where
  clocked : Pins → Act
  status_seen : Act
  spcr0_put : ℕ → Bool → Bool → Act
  spcr1_put : ℕ → Bool → Bool → Act
  spcr2_put : ℕ → Bool → Bool → Act
  spcr3_spsr_put : ℕ → Bool → Bool → Act
  receive_put : ℕ → ℕ → Bool → Bool → Act
  transmit_put : ℕ → ℕ → Bool → Bool → Act
  command_put : ℕ → ℕ → Bool → Bool → Act

abbrev pub acted : Act → Qspi → Qspi
acted (clocked pins) q = clock q pins
acted status_seen q = status_read q
acted (spcr0_put v upper lower) q = write_spcr0 q v upper lower
acted (spcr1_put v upper lower) q = write_spcr1 q v upper lower
acted (spcr2_put v upper lower) q = write_spcr2 q v upper lower
acted (spcr3_spsr_put v upper lower) q = write_spcr3_spsr q v upper lower
acted (receive_put i v upper lower) q = write_receive q i v upper lower
acted (transmit_put i v upper lower) q = write_transmit q i v upper lower
acted (command_put i v upper lower) q = write_command q i v upper lower

-- It puts zero at the flag's bit of byte 1F.
abbrev pub puts_zero : Flag → Act → Bool
puts_zero f (clocked pins) = false
puts_zero f status_seen = false
puts_zero f (spcr0_put v upper lower) = false
puts_zero f (spcr1_put v upper lower) = false
puts_zero f (spcr2_put v upper lower) = false
puts_zero f (spcr3_spsr_put v upper lower) = lower && not (bit (place f) v)
puts_zero f (receive_put i v upper lower) = false
puts_zero f (transmit_put i v upper lower) = false
puts_zero f (command_put i v upper lower) = false

-- A read of byte 1F shows the flag in its place.
abbrev pub FlagShows : Type 0
FlagShows = (f : Flag) (q : Qspi) → bit (place f) (spcr3_spsr q) ≡ is_set f q

-- A flag that a read saw falls when a write puts zero there.
abbrev pub FlagFalls : Type 0
FlagFalls = (f : Flag) (a : Act) (q : Qspi) → is_seen f q ≡ true → puts_zero f a ≡ true → is_set f (acted a q) ≡ false

-- By nothing else does it fall.
abbrev pub FallsOnly : Type 0
FallsOnly =
    (f : Flag) (a : Act) (q : Qspi) → is_set f q ≡ true → is_set f (acted a q) ≡ false →
    (is_seen f q ≡ true) × (puts_zero f a ≡ true)

-- A read touching byte 1F sees every flag then set; nothing else is seen, and nothing but such a read sees.
abbrev pub ReadSees : Type 0
ReadSees = (f : Flag) (q : Qspi) → is_set f q ≡ true → is_seen f (status_read q) ≡ true

abbrev pub SeenOnly : Type 0
SeenOnly =
    (f : Flag) (a : Act) (q : Qspi) → is_seen f q ≡ false → is_seen f (acted a q) ≡ true →
    (a ≡ status_seen) × (is_set f q ≡ true)

-- What was seen stays seen until a zero is put there; then it must be seen anew. Reset forgets all.
abbrev pub SeenLasts : Type 0
SeenLasts =
    (f : Flag) (a : Act) (q : Qspi) → is_seen f q ≡ true → is_seen f (acted a q) ≡ not (puts_zero f a)

abbrev pub ResetForgets : Type 0
ResetForgets = (f : Flag) → (is_set f reset ≡ false) × (is_seen f reset ≡ false)

-- CPTQP can't be written: nothing but a clock changes it.
abbrev pub is_clock : Act → Bool
is_clock (clocked pins) = true
is_clock status_seen = false
is_clock (spcr0_put v upper lower) = false
is_clock (spcr1_put v upper lower) = false
is_clock (spcr2_put v upper lower) = false
is_clock (spcr3_spsr_put v upper lower) = false
is_clock (receive_put i v upper lower) = false
is_clock (transmit_put i v upper lower) = false
is_clock (command_put i v upper lower) = false

abbrev pub CptqpStays : Type 0
CptqpStays = (a : Act) (q : Qspi) → is_clock a ≡ false → (acted a q).spsr.cptqp ≡ q.spsr.cptqp

-- All of them.
pub record FlagLaws : Type 0 where
  pub flag_shows : FlagShows
  pub flag_falls : FlagFalls
  pub falls_only : FallsOnly
  pub read_sees : ReadSees
  pub seen_only : SeenOnly
  pub seen_lasts : SeenLasts
  pub reset_forgets : ResetForgets
  pub cptqp_stays : CptqpStays

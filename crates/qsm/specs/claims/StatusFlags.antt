-- Document 01, Register map: the status flags, each at its bit of SCSR or SPSR, as a host reads them.
use Rattle.std.specs.Prelude.{Bool, true, ℕ}
use Rattle.steps.specs.Bits.{bit}
use Rattle.qsm.specs.model.Event.{does}
use Rattle.qsm.specs.declared.state.Module.{Module}
use Rattle.qsm.specs.declared.event.Access.TheVariants.{Read}
use Rattle.qsm.specs.declared.event.Event.TheVariants as event

pub data Half : Type 0 where
  SCI : Half
  QSPI : Half

pub data Flag : Type 0 where
  TDRE : Flag
  TC : Flag
  RDRF : Flag
  RAF : Flag
  IDLE : Flag
  OR : Flag
  NF : Flag
  FE : Flag
  PF : Flag
  SPIF : Flag
  MODF : Flag
  HALTA : Flag

abbrev pub half : Flag → Half
half TDRE = SCI
half TC = SCI
half RDRF = SCI
half RAF = SCI
half IDLE = SCI
half OR = SCI
half NF = SCI
half FE = SCI
half PF = SCI
half SPIF = QSPI
half MODF = QSPI
half HALTA = QSPI

-- SCSR: TDRE 8, TC 7, RDRF 6, RAF 5, IDLE 4, OR 3, NF 2, FE 1, PF 0. SPSR: SPIF 7, MODF 6, HALTA 5.
abbrev pub place : Flag → ℕ
place TDRE = 8
place TC = 7
place RDRF = 6
place RAF = 5
place IDLE = 4
place OR = 3
place NF = 2
place FE = 1
place PF = 0
place SPIF = 7
place MODF = 6
place HALTA = 5

-- What a supervisor's read gives.
abbrev pub read_at : Module → ℕ → ℕ → ℕ
read_at m width offset = (does m (event.Access (Read true width offset))).value

-- SCSR is the word at 0C, SPSR the byte at 1F.
abbrev pub status : Module → Half → ℕ
status m SCI = read_at m 2 0x0C
status m QSPI = read_at m 1 0x1F

-- A flag is set.
abbrev pub is_set : Module → Flag → Bool
is_set m f = bit (place f) (status m (half f))

-- Document 01, Flags: a set of status flags with named members, as bits of a number at their places of SCSR.
use Rattle.std.specs.Prelude.{Bool, ℕ, ◌-◌, eqb}
use Rattle.std.specs.Int.Bits.{bit_and, bit_or}
use Rattle.sci.specs.declared.flags.Flags.{Flags}

abbrev pub flag : ℕ → Flags
flag b = record { bits = b }

abbrev pub PF : Flags
PF = flag 0x001

abbrev pub FE : Flags
FE = flag 0x002

abbrev pub NF : Flags
NF = flag 0x004

abbrev pub OR : Flags
OR = flag 0x008

abbrev pub IDLE : Flags
IDLE = flag 0x010

abbrev pub RAF : Flags
RAF = flag 0x020

abbrev pub RDRF : Flags
RDRF = flag 0x040

abbrev pub TC : Flags
TC = flag 0x080

abbrev pub TDRE : Flags
TDRE = flag 0x100

-- RDRF, IDLE, OR, NF, FE, PF: what a data read makes fall.
abbrev pub receive_flags : Flags
receive_flags = flag 0x05F

-- TDRE, TC: what a data write makes fall.
abbrev pub transmit_flags : Flags
transmit_flags = flag 0x180

abbrev pub insert : Flags → Flags → Flags
insert a b = record { bits = bit_or a.bits b.bits }

abbrev pub contains : Flags → Flags → Bool
contains a b = eqb (bit_and a.bits b.bits) b.bits

abbrev pub without : Flags → Flags → Flags
without a b = record { bits = a.bits - bit_and a.bits b.bits }

abbrev pub common : Flags → Flags → Flags
common a b = record { bits = bit_and a.bits b.bits }

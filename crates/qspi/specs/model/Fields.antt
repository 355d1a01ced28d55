-- Fields of the queue's registers and of a command byte, in the register map's order, and what they mean in clocks and bits.
use Rattle.std.specs.Prelude.{Bool, cond, ℕ, ◌*◌, ◌/◌, ◌%◌, eqb}
use Rattle.steps.specs.Bits.{bit}

-- SPCR0
abbrev pub mstr : ℕ → Bool
mstr spcr0 = bit 15 spcr0

abbrev pub bits_field : ℕ → ℕ
bits_field spcr0 = spcr0 / 0x400 % 16

abbrev pub cpol : ℕ → Bool
cpol spcr0 = bit 9 spcr0

abbrev pub cpha : ℕ → Bool
cpha spcr0 = bit 8 spcr0

abbrev pub spbr : ℕ → ℕ
spbr spcr0 = spcr0 % 256

-- SPCR1
abbrev pub spe : ℕ → Bool
spe spcr1 = bit 15 spcr1

abbrev pub dsckl : ℕ → ℕ
dsckl spcr1 = spcr1 / 256 % 128

abbrev pub dtl : ℕ → ℕ
dtl spcr1 = spcr1 % 256

-- SPCR2 and its working copy
abbrev pub spifie : ℕ → Bool
spifie spcr2 = bit 15 spcr2

abbrev pub wren : ℕ → Bool
wren spcr2 = bit 14 spcr2

abbrev pub wrto : ℕ → Bool
wrto spcr2 = bit 13 spcr2

abbrev pub endqp : ℕ → ℕ
endqp spcr2 = spcr2 / 256 % 16

abbrev pub newqp : ℕ → ℕ
newqp spcr2 = spcr2 % 16

-- SPCR3
abbrev pub hmie : ℕ → Bool
hmie spcr3 = bit 1 spcr3

abbrev pub halt : ℕ → Bool
halt spcr3 = bit 0 spcr3

-- Command byte
abbrev pub cont : ℕ → Bool
cont command = bit 7 command

abbrev pub bitse : ℕ → Bool
bitse command = bit 6 command

abbrev pub dt : ℕ → Bool
dt command = bit 5 command

abbrev pub dsck : ℕ → Bool
dsck command = bit 4 command

abbrev pub pcs_field : ℕ → ℕ
pcs_field command = command % 16

-- A field of which 0 means another number.
abbrev pub zero_means : ℕ → ℕ → ℕ
zero_means other x = cond (eqb x 0) other x

-- Bits n: 8, or BITS if BITSE (0 means 16).
unfoldable pub bits_of : ℕ → ℕ → ℕ
bits_of spcr0 command = cond (bitse command) (zero_means 16 (bits_field spcr0)) 8

-- Pre-delay p: SPBR clocks, or DSCKL (0 means 128) if DSCK.
unfoldable pub pre_delay : ℕ → ℕ → ℕ → ℕ
pre_delay spcr0 spcr1 command = cond (dsck command) (zero_means 128 (dsckl spcr1)) (spbr spcr0)

-- The delay after edge 2n: 17 clocks, or 32 x DTL (0 means 8,192) if DT.
unfoldable pub delay_after : ℕ → ℕ → ℕ
delay_after spcr1 command = cond (dt command) (zero_means 8192 (32 * dtl spcr1)) 17

-- Document 01, Register map: SCCR0 and SCCR1 as words, and their fields.
use Rattle.std.specs.Prelude.{Bool, cond, ◌&&◌, ◌||◌, ℕ, ◌+◌, ◌*◌, ◌/◌, ◌%◌, ◌^◌}
use Rattle.steps.specs.Bits.{bit}

abbrev pub SCBR : ℕ → ℕ
SCBR sccr0 = sccr0 % 2 ^ 13

abbrev pub ILT : ℕ → Bool
ILT sccr1 = bit 12 sccr1

abbrev pub PT : ℕ → Bool
PT sccr1 = bit 11 sccr1

abbrev pub PE : ℕ → Bool
PE sccr1 = bit 10 sccr1

abbrev pub M : ℕ → Bool
M sccr1 = bit 9 sccr1

abbrev pub WAKE : ℕ → Bool
WAKE sccr1 = bit 8 sccr1

abbrev pub TIE : ℕ → Bool
TIE sccr1 = bit 7 sccr1

abbrev pub TCIE : ℕ → Bool
TCIE sccr1 = bit 6 sccr1

abbrev pub RIE : ℕ → Bool
RIE sccr1 = bit 5 sccr1

abbrev pub ILIE : ℕ → Bool
ILIE sccr1 = bit 4 sccr1

abbrev pub TE : ℕ → Bool
TE sccr1 = bit 3 sccr1

abbrev pub RE : ℕ → Bool
RE sccr1 = bit 2 sccr1

abbrev pub RWU : ℕ → Bool
RWU sccr1 = bit 1 sccr1

-- Data bits of a frame, by M.
abbrev pub bits_of : Bool → ℕ
bits_of m = cond m 9 8

-- Samples of a frame of n data bits, of a preamble, and of an idle line: start bit, data bits and stop bit of 16 samples each.
abbrev pub frame_samples : ℕ → ℕ
frame_samples n = 16 * (n + 2)

-- The bits that exist.
abbrev pub sccr0_bits : ℕ → ℕ
sccr0_bits v = v % 2 ^ 13

-- ILT to RE, bits 12:2. RWU is kept by the receiver; LOOPS, WOMS and SBK can't be set.
abbrev pub sccr1_bits : ℕ → ℕ
sccr1_bits v = v % 2 ^ 13 / 4 * 4

-- ILT, PT, PE, M, WAKE: bits 12:8.
abbrev pub settings : ℕ → ℕ
settings sccr1 = sccr1 / 2 ^ 8 % 2 ^ 5

-- A write of these bytes of SCCR1 would set LOOPS, WOMS or SBK.
abbrev pub unmodelled : ℕ → Bool → Bool → Bool
unmodelled v upper lower = (upper && (bit 14 v || bit 13 v)) || (lower && bit 0 v)

-- What a shop asks of a rate and of its firmware: how far off a sender may be, and how long a word may wait in SCDR.
use Rattle.std.specs.Prelude.{Bool, cond, ◌&&◌, ℕ, ◌+◌, ◌-◌, ◌*◌, ◌/◌, ◌%◌, eqb, ltb, leb}
use Rattle.tool_rates.specs.declared.Rate.{Rate}

-- A sample lasts 2 x SCBR clocks. M=1 is 9 data bits.
abbrev pub sample_of : ℕ → ℕ
sample_of sccr0 = 2 * (sccr0 % 8192)

-- Two frames end so many samples apart at least: on any line; and of a sender within the tolerance.
abbrev pub apart : Bool → Bool → ℕ
apart nine fair = cond fair (cond nine 164 148) (cond nine 122 112)

-- A word that is delivered fewer clocks after it came costs no frame.
abbrev pub deadline_of : ℕ → Bool → Bool → ℕ
deadline_of sccr0 nine fair = apart nine fair * sample_of sccr0

-- A sender's bit is clock / baud clocks, the receiver's 16 samples: the one is to the other as `clock` is to this.
abbrev pub own_bit : ℕ → ℕ → ℕ
own_bit baud sccr0 = 16 * sample_of sccr0 * baud

-- With every edge rounded to a clock: ten bits last 154 samples at least (M=1: eleven 170), so that the next start is not too early; and nine 151 at
-- most (ten 167), so that the stop bit is not too late.
abbrev pub not_early : ℕ → ℕ → ℕ → Bool → Bool
not_early clock baud sccr0 nine = leb (cond nine 170 154 * sample_of sccr0 * baud + baud) (cond nine 11 10 * clock)

abbrev pub not_late : ℕ → ℕ → ℕ → Bool → Bool
not_late clock baud sccr0 nine = leb (cond nine 10 9 * clock + baud) (cond nine 167 151 * sample_of sccr0 * baud)

-- By how much the sender's bit is off, in hundredths of a percent, rounded down; 0 where there is no rate.
abbrev pub difference : ℕ → ℕ → ℕ
difference clock own = cond (ltb clock own) (own - clock) (clock - own)

abbrev pub hundredths : ℕ → ℕ → ℕ
hundredths clock own = cond (eqb own 0) 0 (difference clock own * 10000 / own)

-- Whether a text at that rate is heard, whether its bits are short, and by how much they are off.
abbrev pub tolerance_of : ℕ → ℕ → ℕ → Bool → Rate
tolerance_of clock baud sccr0 nine =
    record {
      heard = ltb 0 (own_bit baud sccr0) && not_early clock baud sccr0 nine && not_late clock baud sccr0 nine;
      short = ltb clock (own_bit baud sccr0);
      error = hundredths clock (own_bit baud sccr0);
    }

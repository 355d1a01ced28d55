-- The tally of noise figures: how many words there are, how many of them are noisy, and the worst figure.
use Rattle.std.specs.Prelude.{List, [], ◌∷◌, Option, Some, None, ℕ, ◌+◌, ◌-◌, ◌^◌, min, max, ltb, length}
use Rattle.steps.specs.Bits.{digit}
use Rattle.reception.specs.declared.tally.Tally.{Tally}

-- A count stays at the largest number.
abbrev pub up_to : ℕ → ℕ
up_to n = min n (2 ^ 64 - 1)

-- Noisy is a figure above 0, as NF has it.
abbrev pub noisy : List ℕ → ℕ
noisy [] = 0
noisy (f ∷ fs) = digit (ltb 0 f) + noisy fs

-- 0 where there is none.
abbrev pub worst : List ℕ → ℕ
worst [] = 0
worst (f ∷ fs) = max f (worst fs)

abbrev pub tally_of : List ℕ → Tally
tally_of fs = record { words = up_to (length fs); noisy = up_to (noisy fs); worst = worst fs }

-- A tally with one figure more.
abbrev pub with_figure : Tally → ℕ → Tally
with_figure t f =
    record { words = up_to (t.words + 1); noisy = up_to (t.noisy + digit (ltb 0 f)); worst = max t.worst f }

abbrev pub with_arrival : Tally → Option ℕ → Tally
with_arrival t (Some f) = with_figure t f
with_arrival t None = t

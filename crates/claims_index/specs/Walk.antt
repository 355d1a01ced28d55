-- A walk over a trace by the lengths of its records alone: 01 one byte, 02 five, 03 four, 04 eight, 05 seven.
use Rattle.std.specs.Prelude.{Bool, cond, ◌&&◌, List, ℕ, zero, suc, ◌+◌, eqb, ltb, leb, length, get_or, drop}

-- 0 for a kind that is unknown.
abbrev pub size : ℕ → ℕ
size kind =
    cond (eqb kind 0x01) 1 (cond (eqb kind 0x02) 5 (cond (eqb kind 0x03) 4 (cond (eqb kind 0x04) 8 (cond (eqb kind 0x05) 7 0))))

abbrev pub reset : ℕ → ℕ
reset kind = cond (eqb kind 0x01) 1 0

-- A whole record stands at the start.
abbrev pub kind : List ℕ → ℕ
kind t = get_or t 0 0

abbrev pub stands : List ℕ → Bool
stands t = ltb 0 (size (kind t)) && leb (size (kind t)) (length t)

-- Where a record starts and how many resets came before it; or 2.
pub record Place : Type 0 where
  pub place : ℕ
  pub resets : ℕ
  pub refusal : ℕ

abbrev pub there : ℕ → ℕ → Place
there place resets = record { place = place; resets = resets; refusal = 0 }

abbrev pub nowhere : Place
nowhere = record { place = 0; resets = 0; refusal = 2 }

-- Record n, counted from the start of t, which stands at a place with so many resets before it.
abbrev pub walk : ℕ → List ℕ → ℕ → ℕ → Place
walk zero t place resets = cond (stands t) (there place resets) nowhere
walk (suc n) t place resets =
    cond (stands t) (walk n (drop (size (kind t)) t) (place + size (kind t)) (resets + reset (kind t))) nowhere

abbrev pub from_start : List ℕ → ℕ → Place
from_start t n = walk n t 0 0

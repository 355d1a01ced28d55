-- An input read piece by piece into a buffer, and what a piece leaves over.
use Rattle.std.specs.Prelude.{◌≡◌, List, ◌++◌, ℕ, ◌+◌, ◌-◌, ◌^◌, ◌≤◌, min, length, take, drop}
use Rattle.files.specs.declared.pieces.Filled.{Filled}

-- A count that stays at the largest number.
abbrev pub counted : ℕ → ℕ → ℕ
counted count more = min (count + more) (2 ^ 64 - 1)

-- One read behind the bytes that wait: they stay, and those that came stand behind them, within the buffer. Which bytes come, and when the
-- input ends, is the system's.
pub record Fills (have : ℕ) (before : List ℕ) (r : Filled) (after : List ℕ) : Type 0 where
  pub least : min have (length before) ≤ r.total
  pub most : r.total ≤ length before
  pub kept : take have after ≡ take have before

-- How many bytes of a buffer stand from one place up to another.
abbrev pub left : List ℕ → ℕ → ℕ → ℕ
left buf from total = min total (length buf) - from

-- Those bytes at the start of the buffer, and behind them what stood there.
abbrev pub carried : List ℕ → ℕ → ℕ → List ℕ
carried buf from total = take (left buf from total) (drop from buf) ++ drop (left buf from total) buf

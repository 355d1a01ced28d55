-- The version of the structs of a module and of a replay: 1 with document 01, 2 with the noise figure and moving points (02, L1 and L3), 3 with
-- the count of clocks (L9), 4 with the counts of frames taken and lost (L14), 5 with the noise figures of lines (L8).
use Rattle.std.specs.Prelude.{ℕ}

abbrev pub version : ℕ
version = 5

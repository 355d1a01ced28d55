-- The lines that are printed fit. Assumes nothing.
use Prim.Native.Nat.{ℕ, ◌≤◌}
use native.Mathlib.Omega.{arith}
use lib.ListN.{length, length-append}
use Rattle.text.specs.Line.{room}
use Rattle.text.proofs.Lengths.{decimal_length}
use Rattle.cmd_find.specs.Answer.{place_line, missing_line}

pub place_fits : (place resets : ℕ) → length (place_line place resets) ≤ room
place_fits place resets = simp length-append (omega (arith, decimal_length 20 place, decimal_length 20 resets))

pub missing_fits : (number : ℕ) → length (missing_line number) ≤ room
missing_fits number = simp length-append (omega (arith, decimal_length 20 number))

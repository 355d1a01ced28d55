-- The line that is printed fits. Assumes nothing.
use Prim.Native.Nat.{ℕ, ◌≤◌}
use native.Mathlib.Omega.{arith}
use lib.ListN.{length, length-append}
use Rattle.text.specs.Line.{room}
use Rattle.text.proofs.Lengths.{decimal_length}
use Rattle.cmd_index.specs.Answer.{count_line}

pub count_fits : (marks records : ℕ) → length (count_line marks records) ≤ room
count_fits marks records = simp length-append (omega (arith, decimal_length 20 marks, decimal_length 20 records))

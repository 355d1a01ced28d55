-- The lines that are said fit. Assumes nothing.
use Prim.Native.Nat.{ℕ, ◌≤◌}
use native.Mathlib.Omega.{arith}
use lib.Dec.{eqb}
use lib.ListN.{length, length-append}
use Rattle.text.specs.Line.{room}
use Rattle.text.proofs.Lengths.{either, decimal_length}
use Rattle.cmd_lines.specs.Told.{cause_words, drop_line}
use Rattle.console.proofs.Stopping.{words_length as traced}
use Rattle.cmd_lines.specs.Ending.{stop_words}

cause_length : (cause : ℕ) → length (cause_words cause) ≤ 6
cause_length cause =
    either (eqb cause 1) _ _ 6 (omega arith)
    (either (eqb cause 2) _ _ 6 (omega arith)
    (either (eqb cause 3) _ _ 6 (omega arith) (either (eqb cause 4) _ _ 6 (omega arith) (omega arith))))

pub drop_fits : (number cause : ℕ) → length (drop_line number cause) ≤ room
drop_fits number cause = simp length-append (omega (arith, decimal_length 20 number, cause_length cause))

pub words_length : (why : ℕ) → length (stop_words why) ≤ 34
words_length why = either (eqb why 3) _ _ 34 (omega arith) (traced why)

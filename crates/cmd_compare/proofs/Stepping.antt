-- What a piece of each log makes of the run. Assumes nothing.
use mathlib.Core.Path.{◌≡◌, ap, ◌∙◌}
use mathlib.Core.Bool.{Bool, cond}
use mathlib.Core.List.{List}
use Prim.Native.Nat.{ℕ, ◌/◌, min}
use lib.ListN.{length}
use Rattle.console.specs.Output.{Gives}
use Rattle.console.specs.declared.output.Out.{Out}
use Rattle.tool_compare.specs.Compare.{compared_as, in_numbers}
use Rattle.cmd_compare.specs.Tally.{answers_of}
use Rattle.cmd_compare.specs.Piece.{pieced}
use Rattle.cmd_compare.specs.Lines.{list_lines}
use Rattle.cmd_compare.specs.Step.{stopped, kind_of_piece, Steps}
use Rattle.cmd_compare.specs.declared.piece.End.{End}
use Rattle.cmd_compare.specs.declared.piece.Pieced.{Pieced}
use Rattle.cmd_compare.specs.declared.step.Turned.{Turned}

pub stepped : (shows : Bool) (t : Turned) (a b list lines : List ℕ) (kind : ℕ) (p : Pieced) (left : List ℕ) (first n : ℕ) (o : Out) (lines' : List ℕ) (e : End)
    → kind ≡ kind_of_piece t a b → p ≡ pieced t.tally kind a b (in_numbers (compared_as kind a b list)) → left ≡ (compared_as kind a b list).list
    → first ≡ answers_of t.tally → n ≡ cond shows p.count 0
    → Gives t.out lines (list_lines kind first a b left (min n (length left / 2))) o lines' → e ≡ stopped o.failed p.end
    → Steps shows t a b list lines (record { tally = p.tally; out = o; end = e }) lines'
stepped shows t a b list lines kind p left first n o lines' e k is l f m g goes =
    let is' = rw k at is in
    record {
      tally = ap (λ (x : Pieced). x.tally) is';
      given = rw (m, is', f, l, k) at g;
      end = goes ∙ ap (λ (x : Pieced). stopped o.failed x.end) is';
    }

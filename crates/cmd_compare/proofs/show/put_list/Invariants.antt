use Rattle.console.specs.Output.{Gives}
use Rattle.cmd_compare.specs.Lines.{list_lines}
use Rattle.cmd_compare.proofs.show.put_list.Given as goal

abbrev pub invariant-loop-i : goal.invariant-loop-i
invariant-loop-i l = Gives l.initial.given l.initial.buf (list_lines l.kind l.first l.a l.b l.list l.i) l.given l.buf

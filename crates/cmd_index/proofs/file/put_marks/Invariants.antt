use Rattle.console.specs.Output.{Gives}
use Rattle.cmd_index.specs.File.{file_of}
use Rattle.cmd_index.proofs.file.put_marks.Given as goal

abbrev pub invariant-loop-i : goal.invariant-loop-i
invariant-loop-i l = Gives l.initial.given l.initial.buf (file_of l.lent l.i) l.given l.buf

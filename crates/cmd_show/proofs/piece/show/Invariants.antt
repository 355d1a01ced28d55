use Rattle.std.proofs.Common.{length, ◌-◌}
use Rattle.cmd_show.proofs.Lines.{Stands}
use Rattle.cmd_show.proofs.piece.show.Given as goal

abbrev pub invariant-loop-now : goal.invariant-loop-now
invariant-loop-now l = Stands l.traces l.bytes l.initial.now l.initial.given l.initial.buf l.now l.given l.buf

abbrev pub decreases-loop-now : goal.decreases-loop-now
decreases-loop-now l = length l.bytes - l.now.at

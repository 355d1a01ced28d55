use Rattle.cmd_wave.proofs.Drawing.{Stands}
use Rattle.cmd_wave.proofs.piece.draw.Given as goal

abbrev pub invariant-loop : goal.invariant-loop
invariant-loop l = Stands l.hz l.bytes l.initial.now.state l.initial.given l.initial.buf l.now l.given l.buf

use Rattle.cmd_lines.specs.Piece.{Plays}
use Rattle.cmd_lines.proofs.piece.play.Given as goal

abbrev pub invariant-loop : goal.invariant-loop
invariant-loop l = Plays l.wanted l.bytes l.last l.initial.now l.initial.buf l.initial.said l.now l.buf l.said

use Rattle.cmd_wave.proofs.Drawing.{onwards}
use Rattle.cmd_wave.proofs.piece.draw.Goals as goal

pub returns-then-over-given : goal.returns-then-over-given
returns-then-over-given c =
    let s = onwards _ _ _ _ _ _ _ _ _ _ _ c.loop.invariant c.go_on-now.ensures c.put_step-given.ensures in
    record { turns = s.turns; turned = s.turned; given = s.given }

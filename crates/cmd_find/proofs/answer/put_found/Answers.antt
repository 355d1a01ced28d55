use Rattle.console.proofs.Giving.{both}
use Rattle.console.proofs.Lines.{whole}
use Rattle.cmd_find.proofs.answer.put_found.Goals as goal

pub returns : goal.returns
returns c =
    both _ _ _ _ _ _ _ _ (rw (whole c.place_line.ensures) at c.put_line-placed.ensures)
    (rw (whole c.record_line.ensures) at c.put_line.ensures)

use Rattle.console.proofs.Giving.{both}
use Rattle.cmd_lines.proofs.told.put_dropped.Goals as goal

pub returns : goal.returns
returns c = both _ _ _ _ _ _ _ _ c.put_drop-dropped.ensures c.put_noise.ensures

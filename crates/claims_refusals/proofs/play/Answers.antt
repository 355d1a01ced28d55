use Rattle.claims_refusals.proofs.Records.{output}
use Rattle.claims_refusals.proofs.play.Goals as goal

pub returns : goal.returns
returns c = output _ _ _ _ _ c.play.ensures

use mathlib.Core.Path.{refl}
use Rattle.claims_senders.proofs.Sampled.{clocks_heard}
use Rattle.claims_senders.proofs.clocks_heard.Goals as goal

pub returns : goal.returns
returns c = (refl, clocks_heard)

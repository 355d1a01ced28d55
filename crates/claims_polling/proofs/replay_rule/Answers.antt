use mathlib.Core.Path.{refl}
use Rattle.claims_polling.proofs.Replaying.{replay_kept, met}
use Rattle.claims_polling.proofs.replay_rule.Goals as goal

pub returns : goal.returns
returns c = (refl, record { kept = replay_kept; met = met })

use mathlib.Core.Path.{refl}
use Rattle.claims_through.proofs.Meeting.{met}
use Rattle.claims_through.proofs.Replays.{all_replayed}
use Rattle.claims_through.proofs.replayed.Goals as goal

pub returns : goal.returns
returns c = (refl, all_replayed met)

use mathlib.Core.Path.{refl}
use Rattle.claims_senders.proofs.Grid.{rates}
use Rattle.claims_senders.proofs.Pacing.{bit_times}
use Rattle.claims_senders.proofs.bit_times.Goals as goal

pub returns : goal.returns
returns c = (refl, bit_times, rates)

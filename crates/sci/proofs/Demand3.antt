-- Demand 3 of the serial half.
use Rattle.sci.specs.claims.Demand3.{Demand3}
use Rattle.sci.proofs.Recovery.{recovered}
use Rattle.sci.proofs.Overrun.{overrun}

pub demand3 : Demand3
demand3 = record { recovered = recovered; overrun = overrun }

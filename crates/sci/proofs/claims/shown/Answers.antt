use mathlib.Core.Path.{refl}
use Rattle.sci.proofs.Membership.{membership}
use Rattle.sci.proofs.Clauses.{clauses}
use Rattle.sci.proofs.Demand2.{demand2}
use Rattle.sci.proofs.Resync.{resynchronised}
use Rattle.sci.proofs.Demand3.{demand3}
use Rattle.sci.proofs.Witness.{met}
use Rattle.sci.proofs.Figures.{figures}
use Rattle.sci.proofs.Moves.{moving}
use Rattle.sci.proofs.Balance.{balance}
use Rattle.sci.proofs.Losing.{losing}
use Rattle.sci.proofs.claims.shown.Goals as goal

pub returns : goal.returns
returns c = (
  refl,
  record {
    membership = membership;
    clauses = clauses;
    demand2 = demand2;
    resynchronised = resynchronised;
    demand3 = demand3;
    met = met;
    figures = figures;
    moves = moving;
    balance = balance;
    losing = losing;
  },
)

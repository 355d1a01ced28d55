-- All that is claimed of the serial half.
use Rattle.sci.specs.declared.flags.Flags.{Flags}
use Rattle.sci.specs.claims.Members.{Membership}
use Rattle.sci.specs.claims.Clauses.{Clauses}
use Rattle.sci.specs.claims.Demand2.{Demand2}
use Rattle.sci.specs.claims.Resync.{Resynchronised}
use Rattle.sci.specs.claims.Demand3.{Demand3}
use Rattle.sci.specs.claims.Witness.{Met}
use Rattle.sci.specs.claims.Figure.{Figures}
use Rattle.sci.specs.claims.Moves.{Moves}
use Rattle.sci.specs.claims.Balance.{Balance}
use Rattle.sci.specs.claims.Losing.{Losing}

pub record Claims : Type 0 where
  -- Membership of the flag set.
  pub membership : (a b : Flags) → Membership a b
  -- Document 01's clauses: RAF, the idle count, sleep, parity, TDRE and TC, the prescaler, the request.
  pub clauses : Clauses
  -- Demand 2, sample by sample and clock by clock.
  pub demand2 : Demand2
  -- Demand 3, of the receiver and of every history; and histories that meet what it asks.
  pub resynchronised : Resynchronised
  pub demand3 : Demand3
  pub met : Met
  -- Document 02, L1: the noise figure. L3: sampling points that move. L14: the account, and histories that lose, sleep and wake.
  pub figures : Figures
  pub moves : Moves
  pub balance : Balance
  pub losing : Losing

use mathlib.Core.Path.{refl}
use Rattle.claims_queue.proofs.shown.Goals as goal
use Rattle.claims_queue.proofs.Complete.{entries, words}
use Rattle.claims_queue.proofs.Follows.{off, over, follows, halts}
use Rattle.claims_queue.proofs.Stops.{holds, too_fast, mode_fault, cleared, met}
use Rattle.claims_queue.proofs.Writes.{rises, newqp_before, newqp_within, upper_before, working_goes_on, working_ends, halt_within, halt_cleared}

pub returns : goal.returns
returns c = (
  refl,
  record {
    holds = holds;
    entries = entries;
    words = words;
    over = over;
    follows = follows;
    halts = halts;
    rises = rises;
    newqp_before = newqp_before;
    newqp_within = newqp_within;
    upper_before = upper_before;
    working_goes_on = working_goes_on;
    working_ends = working_ends;
    halt_within = halt_within;
    halt_cleared = halt_cleared;
    off = off;
    too_fast = too_fast;
    mode_fault = mode_fault;
    cleared = cleared;
    met = met;
  },
)

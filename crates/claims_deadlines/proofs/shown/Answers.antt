use mathlib.Core.Path.{refl}
use Rattle.claims_deadlines.proofs.Events.{deadline, any_line_holds}
use Rattle.claims_deadlines.proofs.Asking.{asks, shows}
use Rattle.claims_deadlines.proofs.Polling.{served, polled, polled_kept_holds}
use Rattle.claims_deadlines.proofs.Ruled.{kept}
use Rattle.claims_deadlines.proofs.Replaying.{in_time_holds, replay_served_holds}
use Rattle.claims_deadlines.proofs.Reaching.{any_8, any_9, still_8, still_9, fair}
use Rattle.claims_deadlines.proofs.shown.Goals as goal

pub returns : goal.returns
returns c = (
  refl,
  record {
    deadline = deadline;
    any_line = any_line_holds;
    served = served;
    polled = polled;
    polled_kept = polled_kept_holds;
    kept = kept;
    replay_in_time = in_time_holds;
    replay_served = replay_served_holds;
    asks = asks;
    answer_asks = shows;
    any_reached = (any_8, any_9);
    still_reached = (still_8, still_9);
    fair_reached = fair;
  },
)

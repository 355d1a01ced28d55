use mathlib.Core.Path.{refl}
use Rattle.claims_schedule.proofs.Polls.{polls_on_time}
use Rattle.claims_schedule.proofs.Stops.{reads, writes, others, call_refusals}
use Rattle.claims_schedule.proofs.shown.Goals as goal

pub returns : goal.returns
returns c = (
  refl,
  record {
    polls_on_time = polls_on_time;
    reads = reads;
    writes = writes;
    others = others;
    call_refusals = call_refusals;
  },
)

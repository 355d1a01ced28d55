-- Document 02, L8: all that is shown of the schedule here.
use Rattle.claims_schedule.specs.Polls.{PollsOnTime}
use Rattle.claims_schedule.specs.Stops.{Reads, Writes, Others, CallRefusals}

pub record Claims : Type 0 where
  pub polls_on_time : PollsOnTime
  pub reads : Reads
  pub writes : Writes
  pub others : Others
  pub call_refusals : CallRefusals

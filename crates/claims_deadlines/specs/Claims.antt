-- All that is shown here of deadlines.
use Rattle.std.specs.Prelude.{true, false}
use Rattle.claims_polling.specs.Rule.{Kept}
use Rattle.claims_deadlines.specs.Deadline.{Deadline, AnyLine, Served, Polled, PolledKept, ReplayInTime, ReplayServed, Asks, AnswerAsks}
use Rattle.claims_deadlines.specs.Reached.{AnyReached, StillReached, FairReached}

pub record Claims : Type 0 where
  pub deadline : Deadline
  pub any_line : AnyLine
  pub served : Served
  pub polled : Polled
  pub polled_kept : PolledKept
  -- The rule of polls is a case of it.
  pub kept : Kept
  pub replay_in_time : ReplayInTime
  pub replay_served : ReplayServed
  pub asks : Asks
  pub answer_asks : AnswerAsks
  -- With SCBR 1 a word read 224 and 244 clocks after it came is too late; where no point moves 308 and 340; and 296 and 328.
  pub any_reached : AnyReached false 8 0xFF × AnyReached true 9 0x1FF
  pub still_reached : StillReached false 8 0xFF × StillReached true 9 0x1FF
  pub fair_reached : FairReached

-- Document 02, L12: all that is shown of it here.
use Rattle.claims_judging.specs.Verdicts.{Accepts, FirstWrong, StopOfPlay, PartsAfterLog}
use Rattle.claims_judging.specs.Fields.{AnswerFields}
use Rattle.claims_judging.specs.Cases.{Cases, InNumbers}

pub record Claims : Type 0 where
  pub accepts : Accepts
  pub first_wrong_holds : FirstWrong
  pub stop_of_play : StopOfPlay
  pub parts_after_log : PartsAfterLog
  pub answer_fields : AnswerFields
  pub cases : Cases
  pub in_numbers_holds : InNumbers

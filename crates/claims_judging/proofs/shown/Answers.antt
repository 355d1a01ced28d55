use mathlib.Core.Path.{refl}
use Rattle.claims_judging.proofs.Stops.{stop_of_play}
use Rattle.claims_judging.proofs.FirstWrong.{first_wrong_holds, accepts}
use Rattle.claims_judging.proofs.Parts.{parts_after_log}
use Rattle.claims_judging.proofs.Fields.{answer_fields}
use Rattle.claims_judging.proofs.Cases.{cases, in_numbers_holds}
use Rattle.claims_judging.proofs.shown.Goals as goal

pub returns : goal.returns
returns c = (
  refl,
  record {
    accepts = accepts;
    first_wrong_holds = first_wrong_holds;
    stop_of_play = stop_of_play;
    parts_after_log = parts_after_log;
    answer_fields = answer_fields;
    cases = cases;
    in_numbers_holds = in_numbers_holds;
  },
)

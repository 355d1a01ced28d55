use mathlib.Core.Path.{refl}
use Rattle.tool_editions.proofs.Calls.{refusal_changes_nothing}
use Rattle.tool_editions.proofs.Keeping.{given_back, not_given, newest_is_largest, only_its_record, rising}
use Rattle.tool_editions.proofs.Made.{made_in_order}
use Rattle.tool_editions.proofs.Meeting.{example}
use Rattle.tool_editions.proofs.claims.shown.Goals as goal

pub returns : goal.returns
returns c = (
  refl,
  record {
    given_back = given_back;
    not_given = not_given;
    newest_is_largest = newest_is_largest;
    refusal_changes_nothing = refusal_changes_nothing;
    only_its_record = only_its_record;
    made_in_order = made_in_order;
    rising = rising;
    example = example;
  },
)

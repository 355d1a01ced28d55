use mathlib.Core.Path.{refl}
use Rattle.tool_plan.proofs.Meaning.{means}
use Rattle.tool_plan.proofs.Counts.{counts_agree}
use Rattle.tool_plan.proofs.Planning.{sound, complete, refuses, least, any_window, revises}
use Rattle.tool_plan.proofs.Told.{to_hosts}
use Rattle.tool_plan.proofs.InOrder.{in_order}
use Rattle.tool_plan.proofs.Doing.{does_what_it_says}
use Rattle.tool_plan.proofs.Meeting.{example}
use Rattle.tool_plan.proofs.claims.shown.Goals as goal

pub returns : goal.returns
returns c = (
  refl,
  record {
    means = means;
    counts_agree = counts_agree;
    sound = sound;
    complete = complete;
    refuses = refuses;
    least = least;
    any_window = any_window;
    revises = revises;
    to_hosts = to_hosts;
    in_order = in_order;
    does_what_it_says = does_what_it_says;
    example = example;
  },
)

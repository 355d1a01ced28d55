-- All that is shown of plans.
use Rattle.tool_plan.specs.Accepted.{Means, CountsAgree}
use Rattle.tool_plan.specs.Laws.{Sound, Complete, Refuses, Least, AnyWindow, Revises}
use Rattle.tool_plan.specs.Told.{ToHosts}
use Rattle.tool_plan.specs.Writes.{InOrder}
use Rattle.tool_plan.specs.Running.{DoesWhatItSays}
use Rattle.tool_plan.specs.Example.{Example}

pub record Claims : Type 0 where
  pub means : Means
  pub counts_agree : CountsAgree
  pub sound : Sound
  pub complete : Complete
  pub refuses : Refuses
  pub least : Least
  pub any_window : AnyWindow
  pub revises : Revises
  pub to_hosts : ToHosts
  pub in_order : InOrder
  pub does_what_it_says : DoesWhatItSays
  pub example : Example

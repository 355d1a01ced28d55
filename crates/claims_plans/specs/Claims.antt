-- All that is shown here of plans.
use Rattle.claims_plans.specs.Moments.{CutIsWatched}
use Rattle.claims_plans.specs.Plans.{AnyLastWrite, WordLast, LoadLays, LoadedInOrder, HoldsAreWatched}
use Rattle.claims_plans.specs.Example.{Example}

pub record Claims : Type 0 where
  pub any_last_write : AnyLastWrite
  pub word_last : WordLast
  pub load_lays : LoadLays
  pub loaded_in_order : LoadedInOrder
  pub holds_are_watched : HoldsAreWatched
  pub cut_is_watched : CutIsWatched
  pub example : Example

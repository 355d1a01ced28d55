use mathlib.Core.Path.{refl}
use Rattle.claims_plans.proofs.Cut.{cut_is_watched}
use Rattle.claims_plans.proofs.Laying.{load_lays}
use Rattle.claims_plans.proofs.Last.{any_last_write, word_last, loaded_in_order, holds_are_watched}
use Rattle.claims_plans.proofs.Meeting.{example}
use Rattle.claims_plans.proofs.shown.Goals as goal

pub returns : goal.returns
returns c = (
  refl,
  record {
    any_last_write = any_last_write;
    word_last = word_last;
    load_lays = load_lays;
    loaded_in_order = loaded_in_order;
    holds_are_watched = holds_are_watched;
    cut_is_watched = cut_is_watched;
    example = example;
  },
)

use mathlib.Core.Path.{refl}
use Rattle.claims_index.proofs.Marks.{by_walk, refused, not_refused, limit, found}
use Rattle.claims_index.proofs.Cases.{cases}
use Rattle.claims_index.proofs.shown.Goals as goal

pub returns : goal.returns
returns c = (
  refl,
  record {
    builds = by_walk;
    refused = refused;
    not_refused = not_refused;
    limit = limit;
    finds = found;
    cases = cases;
  },
)

use mathlib.Core.Path.{refl}
use Rattle.claims_receiver.proofs.shown.Goals as goal
use Rattle.claims_receiver.proofs.Silent.{off_silent, four_samples}
use Rattle.claims_receiver.proofs.Moments.{idles, abandons, driven, late_falls}

pub returns : goal.returns
returns c = (
  refl,
  record { off_silent = off_silent; four_samples = four_samples; idles = idles; abandons = abandons; driven = driven; late_falls = late_falls },
)

-- What is left of the receiver, by number.
use Rattle.std.specs.Prelude.{Bool}
use Rattle.qsm.specs.declared.state.Module.{Module}
use Rattle.claims_receiver.specs.Silent.{OffSilent, FourSamples}
use Rattle.claims_receiver.specs.Moments.{Idles, Abandons, Driven, LateFalls}

pub record Claims : Type 0 where
  pub off_silent : OffSilent
  pub four_samples : (m : Module) (a b c d : Bool) → FourSamples m a b c d
  pub idles : Idles
  pub abandons : Abandons
  pub driven : Driven
  pub late_falls : LateFalls

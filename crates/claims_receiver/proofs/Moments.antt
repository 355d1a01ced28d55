-- Moments computed. Assumes nothing.
use mathlib.Core.Path.{refl}
use Rattle.steps.specs.Iterate.{iterate}
use Rattle.sci.specs.model.Status.{has, raise, raise_if, fall, fall_if}
use Rattle.sci.specs.model.Framer.{start_bit, data_bit, stop_bit, fixed, framed}
use Rattle.sci.specs.model.Receiver.{outcome, raised, entered, status_after, receiver_after, received}
use Rattle.sci.specs.model.Transmitter.{sent}
use Rattle.sci.specs.model.Serial.{sampled, wrote_sccr1}
use Rattle.sci.specs.claims.Levels.{low_bits}
use Rattle.sci.specs.claims.Marked.{samples}
use Rattle.sci.specs.claims.Moves.{lasting}
use Rattle.claims_receiver.specs.Moments.{Idles, Abandons, Driven, LateFalls}

pub idles : Idles
unfolding samples sampled sent received outcome raised entered status_after receiver_after framed fixed start_bit data_bit stop_bit has raise raise_if fall fall_if wrote_sccr1
idles =
    record {
      short_8 = record { not_yet = refl; active = refl; idle = refl; over = refl };
      short_9 = record { not_yet = refl; active = refl; idle = refl; over = refl };
      long_8 = record { not_yet = refl; active = refl; idle = refl; over = refl };
      long_9 = record { not_yet = refl; active = refl; idle = refl; over = refl };
    }

pub abandons : Abandons
unfolding samples sampled sent received outcome raised entered status_after receiver_after framed fixed start_bit has raise raise_if fall fall_if wrote_sccr1
abandons = refl

pub driven : Driven
unfolding iterate sampled sent raise raise_if has fall wrote_sccr1
driven = record { off = refl; on = refl; eight = record { still = refl; over = refl }; nine = record { still = refl; over = refl } }

pub late_falls : LateFalls
unfolding samples sampled sent received outcome raised entered status_after receiver_after framed fixed start_bit data_bit stop_bit has raise raise_if fall fall_if wrote_sccr1 lasting low_bits
late_falls = record { before = refl; moves = refl; arrives = refl; word = refl }

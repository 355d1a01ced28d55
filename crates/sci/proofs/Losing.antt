-- The histories of specs/Losing, computed.
use mathlib.Core.Path.{refl}
use Rattle.sci.specs.model.Status.{has, raise, raise_if, fall, fall_if, mark_seen, fall_seen}
use Rattle.sci.specs.model.Framer.{start_bit, data_bit, stop_bit, fixed, framed}
use Rattle.sci.specs.model.Receiver.{outcome, raised, entered, status_after, receiver_after, received}
use Rattle.sci.specs.model.Transmitter.{sent}
use Rattle.sci.specs.model.Serial.{sampled, clocked, wrote_sccr0, wrote_sccr1, sccr0_guarded, sccr1_guarded}
use Rattle.sci.specs.claims.History.{step}
use Rattle.sci.specs.claims.Overrun.{log}
use Rattle.sci.specs.claims.Losing.{Losing}

pub losing : Losing
unfolding has raise raise_if fall fall_if mark_seen fall_seen start_bit data_bit stop_bit framed fixed outcome raised entered status_after receiver_after received sent sampled clocked wrote_sccr0 wrote_sccr1 sccr0_guarded sccr1_guarded step log
losing = record { loses = refl; sleeps = refl; wakes = refl }

-- The examples, computed.
use mathlib.Core.Path.{refl}
use Rattle.steps.specs.Iterate.{iterate}
use Rattle.sci.specs.model.Status.{has, raise, raise_if, fall_if}
use Rattle.sci.specs.model.Receiver.{outcome, raised, entered, status_after, receiver_after, received}
use Rattle.sci.specs.model.Transmitter.{sent}
use Rattle.sci.specs.model.Serial as serial
use Rattle.qsm.specs.model.State.{reset_module}
use Rattle.qsm.specs.model.Event.{clock_module, clocks, holds, does, step}
use Rattle.reception.specs.Examples.{Examples}

pub examples : Examples
unfolding iterate has raise raise_if fall_if outcome raised entered status_after receiver_after received sent serial.sampled serial.clocked reset_module clock_module clocks holds does step
examples = record { comes = refl; waits = refl; lost = refl; counts = refl }

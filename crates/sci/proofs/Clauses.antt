-- The clauses of document 01 on the serial half.
use mathlib.Core.Bool.{true}
use mathlib.Core.Path.{◌≡◌, refl}
use lib.ListN.{length, replicate}
use Rattle.sci.specs.model.Status.{has, raise, raise_if, fall, fall_if}
use Rattle.sci.specs.model.Framer.{start_bit, data_bit, stop_bit, fixed, framed}
use Rattle.sci.specs.model.Receiver.{outcome, raised, entered, status_after, receiver_after, received}
use Rattle.sci.specs.model.Transmitter.{sent}
use Rattle.sci.specs.model.Serial.{wrote_sccr0, wrote_sccr1}
use Rattle.sci.specs.claims.Instances.{instances}
use Rattle.sci.specs.claims.Clauses.{Clauses}
use Rattle.sci.proofs.ReceiverClauses.{receiver_clauses}
use Rattle.sci.proofs.Lasting.{transmitter_clauses}
use Rattle.sci.proofs.SerialClauses.{serial_clauses}
use Rattle.sci.proofs.DataClauses.{data_clauses}

met : instances ≡ replicate (length instances) true
unfolding has raise raise_if fall fall_if start_bit data_bit stop_bit framed fixed outcome raised entered status_after receiver_after received sent wrote_sccr0 wrote_sccr1
met = refl

pub clauses : Clauses
clauses = record { receiver = receiver_clauses; transmitter = transmitter_clauses; serial = serial_clauses; data_register = data_clauses; met = met }

-- The clauses of document 01 on the serial half, as laws of its definitions: each told otherwise than the definition that it speaks of.
use Rattle.std.specs.Prelude.{true, ◌≡◌, length, replicate}
use Rattle.sci.specs.claims.ReceiverClauses.{ReceiverClauses}
use Rattle.sci.specs.claims.TransmitterClauses.{TransmitterClauses}
use Rattle.sci.specs.claims.SerialClauses.{SerialClauses}
use Rattle.sci.specs.claims.DataClauses.{DataClauses}
use Rattle.sci.specs.claims.Instances.{instances}

pub record Clauses : Type 0 where
  pub receiver : ReceiverClauses
  pub transmitter : TransmitterClauses
  pub serial : SerialClauses
  pub data_register : DataClauses
  -- What they ask for can be met.
  pub met : instances ≡ replicate (length instances) true

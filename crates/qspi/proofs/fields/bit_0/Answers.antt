use native.Mathlib.Nat.{div-one}
use Rattle.qspi.proofs.fields.bit_0.Goals as goal

pub returns : goal.returns
returns c = rw (div-one c.args.x)

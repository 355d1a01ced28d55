use mathlib.Core.Path.{sym}
use Prim.Native.Nat.{ℕ}
use lib.ListN.{length-replicate}
use Rattle.cmd_replay.proofs.stream.answers.Goals as goal

-- The length by a law: counting out the array takes a gigabyte.

pub returns : goal.returns
returns c = sym (length-replicate {A = ℕ} 589824 0)

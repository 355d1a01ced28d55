use mathlib.Core.Path.{◌≡◌}
use lib.ListN.{length}
use Rattle.cmd_replay.specs.Reached.{Reached}
use Rattle.cmd_replay.proofs.stream.replay.Given as goal

abbrev pub invariant-loop : goal.invariant-loop
invariant-loop g l = (length l.buf ≡ 65536) × (length l.room ≡ 589824) × (length l.lines ≡ length l.initial.lines) × Reached l.now.run

use mathlib.Core.Path.{◌≡◌}
use lib.ListN.{length}
use Rattle.trace.specs.Trace.{answer_length}
use Rattle.cmd_replay.specs.Noted.{Notes}
use Rattle.cmd_replay.proofs.noise.replay.Given as goal

abbrev pub invariant-loop : goal.invariant-loop
invariant-loop g l = (length l.buf ≡ 65536) × (length l.room ≡ answer_length) × (length l.lines ≡ length l.initial.lines) × (length l.words ≡ length l.initial.words)
    × Notes l.now.turned.run l.now.tally

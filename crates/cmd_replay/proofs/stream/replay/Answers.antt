use mathlib.Core.Path.{refl, sym}
use Rattle.cmd_replay.proofs.Reaching.{at_start, goes_on}
use borrow.Author.Rules.{rules}
use Rattle.cmd_replay.proofs.stream.replay.Goals as goal

pub loop-init : goal.loop-init
loop-init g c = (sym c.large_buffer-buf.ensures, sym c.answers-room.ensures, refl, rw c.begin-now.ensures at_start)

pub returns-then-not-goes_on : goal.returns-then-not-goes_on
returns-then-not-goes_on g c = goes_on c.loop.invariant.3 c.turn-now.ensures

pub loop-preserved : goal.loop-preserved
loop-preserved g c = (search rules, search rules, search rules, goes_on c.loop.invariant.3 c.turn-now.ensures)

pub returns : goal.returns
returns g c = c.loop.invariant.3

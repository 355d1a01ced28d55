use mathlib.Core.Path.{refl, sym}
use Prim.Native.Nat.{◌*◌, ◌<◌}
use native.Mathlib.Omega.{arith}
use lib.ListN.{length}
use Rattle.trace.specs.Trace.{answer_length}
use Rattle.cmd_replay.proofs.Noting.{at_start, notices}
use Rattle.cmd_replay.proofs.Reaching.{noted}
use borrow.Author.Rules.{rules}
use Rattle.cmd_replay.proofs.noise.replay.Goals as goal

pub loop-init : goal.loop-init
loop-init g c = (sym c.large_buffer-buf.ensures, sym c.answer-room.ensures, refl, refl, rw (c.none.ensures, c.begin.ensures) at_start)

pub returns-then-not-goes_on : goal.returns-then-not-goes_on
returns-then-not-goes_on g c =
    let loop = c.loop in
    let small : length loop.room < 2 * answer_length = omega (arith, loop.invariant.1) in
    let next = notices loop.now (length loop.room) _ small loop.invariant.4 c.noticed-now.ensures in record { notes = next; reached = noted next }

pub loop-preserved : goal.loop-preserved
loop-preserved g c =
    let loop = c.loop in
    let small : length loop.room < 2 * answer_length = omega (arith, loop.invariant.1) in
    (search rules, search rules, search rules, search rules, notices loop.now (length loop.room) _ small loop.invariant.4 c.noticed-now.ensures)

pub returns : goal.returns
returns g c = record { notes = c.loop.invariant.4; reached = noted c.loop.invariant.4 }

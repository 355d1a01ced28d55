use native.Mathlib.Omega.{arith}
use borrow.Author.Tests.{le-leb, lt-leb}
use Rattle.tool_wave.proofs.Meaning.{rooms, tick_room}
use Rattle.tool_wave.proofs.Waves.hold_for.Goals as goal

pub returns-then-left-calm : goal.returns-then-left-calm
returns-then-left-calm c = rw (c.turned.ensures, c.hold_out.ensures, le-leb _ _ c.if-left-calm.true)

pub ahead-q-requires : goal.ahead-q-requires
ahead-q-requires c =
    omega (arith, (rooms c.args.self.probe c.args.self.left c.requires).1)

pub tick-requires : goal.tick-requires
tick-requires c =
    tick_room c.args.self.probe c.args.self.left c.args.calm c.requires (omega (arith, c.if-left-calm.false))
    c.ahead-q.result c.ahead-q.ensures

pub returns : goal.returns
returns c =
    rw (c.moved.ensures, c.tick.ensures, c.ahead-q.ensures, lt-leb _ _ c.if-left-calm.false)

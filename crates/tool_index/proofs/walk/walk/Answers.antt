use mathlib.Core.Path.{sym}
use Rattle.tool_index.proofs.Walking.{starts, stops, fits, passes}
use Rattle.tool_index.proofs.walk.walk.Goals as goal

pub loop-at-init : goal.loop-at-init
loop-at-init c = (c.requires, starts _ _ _)

pub returns-in_default : goal.returns-in_default
returns-in_default c = sym (stops c.loop-at.invariant.1 _ c.parse-p.ensures c.in_default.not-Record)

pub past-at-requires : goal.past-at-requires
past-at-requires c = fits c.loop-at.invariant.1 _ c.parse-p.ensures c.in-Record.is c.loop-at.invariant.0

pub loop-at-preserved : goal.loop-at-preserved
loop-at-preserved c = (
  c.loop-at.invariant.0,
  rw c.past-at.ensures (passes c.loop-at.invariant.1 _ c.parse-p.ensures c.in-Record.is c.loop-at-test.true),
)

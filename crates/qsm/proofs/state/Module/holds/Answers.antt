use mathlib.Core.Bool.{true, false}
use mathlib.Core.Path.{◌≡◌, sym, ◌∙◌}
use Rattle.qsm.specs.model.Event.{passes, holds}
use Rattle.qsm.proofs.Limit.{has_room}
use Rattle.qsm.proofs.state.Module.holds.Goals as goal

pub clocks-requires : goal.clocks-requires
clocks-requires c =
    rw c.held.ensures
    (has_room c.args.self c.args.clocks (sym c.passes.ensures ∙ c.if-passes.false))

pub returns-then-passes : goal.returns-then-passes
unfolding holds
returns-then-passes c =
    let over : passes c.args.self c.args.clocks ≡ true = sym c.passes.ensures ∙ c.if-passes.true in
    rw (c.done.ensures, over)

pub returns-else-passes : goal.returns-else-passes
unfolding holds
returns-else-passes c =
    let room : passes c.args.self c.args.clocks ≡ false = sym c.passes.ensures ∙ c.if-passes.false in
    rw (c.done-else-passes.ensures, c.clocks.ensures, c.held.ensures, room)

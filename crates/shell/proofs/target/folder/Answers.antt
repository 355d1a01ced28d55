use Rattle.std.proofs.Common.{sym, ◌∙◌}
use Rattle.shell.proofs.Folders.{stands, passes, empty}
use Rattle.shell.proofs.target.folder.Goals as goal

pub returns-then-path-i-eq47-clause-value : goal.returns-then-path-i-eq47-clause-value
returns-then-path-i-eq47-clause-value c =
    sym (c.loop-i.invariant ∙ stands c.loop-i.i _ c.loop-i-test.true c.if-path-i-eq47.true)

pub loop-i-preserved : goal.loop-i-preserved
loop-i-preserved c = c.loop-i.invariant ∙ passes c.loop-i.i _ c.loop-i-test.true c.if-path-i-eq47.false

pub returns-clause-value : goal.returns-clause-value
returns-clause-value c = sym (c.loop-i.invariant ∙ empty c.loop-i.i _ c.loop-i-test.false)

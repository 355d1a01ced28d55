use Rattle.text.specs.Record.{event}
use Rattle.text.proofs.line.Line.event.Goals as goal

pub returns-in-Reset : goal.returns-in-Reset
unfolding event
returns-in-Reset c = rw (c.write.ensures, c.in-Reset.is)

pub returns-in-Hold : goal.returns-in-Hold
unfolding event
returns-in-Hold c = rw (c.hold.ensures, c.in-Hold.is)

pub returns-in-Access : goal.returns-in-Access
unfolding event
returns-in-Access c = rw (c.access.ensures, c.in-Access.is)

use Rattle.drivers.proofs.state.owns.Goals as goal

pub returns-in-Axis : goal.returns-in-Axis
returns-in-Axis c = rw c.in-Axis.is

pub returns-in-Spindle : goal.returns-in-Spindle
returns-in-Spindle c = rw c.in-Spindle.is

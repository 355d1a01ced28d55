-- The exit statuses of a command, as a script sees them.
use Rattle.std.specs.Prelude.{Bool, true, false, ℤ, pos}
use Rattle.console.specs.declared.status.Status.{Status}
use Rattle.console.specs.declared.status.Status.TheVariants.{Done, Found, Failed}
use Rattle.files.specs.declared.command.Stopped.{Stopped}
use Rattle.files.specs.declared.command.Stopped.TheVariants.{Answered, Wrong}

abbrev pub number : Status → ℤ
number Done = pos 0
number Found = pos 1
number Failed = pos 2

-- A command line that was answered is done.
abbrev pub of_stopped : Stopped → Status
of_stopped Answered = Done
of_stopped Wrong = Failed

-- A failure outdoes what was found.
abbrev pub worse : Bool → Status → Status
worse true s = Failed
worse false s = s

-- How a command ends: by its line, which was taken or not.
use Rattle.std.specs.Prelude.{◌≡◌, ℕ, Result, IfOk, IfErr}
use Rattle.files.specs.Words.{Expected}
use Rattle.files.specs.declared.command.Command.{Command}
use Rattle.files.specs.declared.command.Stopped.{Stopped}
use Rattle.console.specs.Status.{of_stopped}
use Rattle.console.specs.declared.status.Status.{Status}

-- A line with as many words as are expected was taken, and the command's own answer tells the status; or why it was not taken does.
pub record Ends (least most : ℕ) (answers : Command → Status → Type 0) (s : Status) : Type 0 where
  pub line : Result Command Stopped
  pub answered : IfOk line (λ c. Expected least most c.words × answers c s)
  pub refused : IfErr line (λ why. s ≡ of_stopped why)

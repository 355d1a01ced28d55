-- What is said at the end of a trace or at its stop, and the status: 0 for a trace that came to its end, 1 for one that stopped, 2 where it could not
-- be read or its log not be written.
use Rattle.std.specs.Prelude.{Bool, cond, List, [], ◌++◌, ℕ}
use Rattle.qsm.specs.declared.state.Module.{Module}
use Rattle.reception.specs.Report.{report}
use Rattle.reception.specs.declared.tally.Tally.{Tally}
use Rattle.text.specs.Noise.{tally_line}
use Rattle.text.specs.Account.{account_line}
use Rattle.console.specs.declared.status.Status.{Status}
use Rattle.console.specs.declared.status.Status.TheVariants as status
use Rattle.cmd_replay.specs.declared.piece.Next.{Next}
use Rattle.cmd_replay.specs.declared.piece.Next.TheVariants.{Play, Read, Done, Refused, NotRead, NotWritten}

abbrev pub status_of : Next → Status
status_of Done = status.Done
status_of (Refused s) = status.Found
status_of Play = status.Failed
status_of Read = status.Failed
status_of (NotRead e) = status.Failed
status_of NotWritten = status.Failed

abbrev pub tally_text : Bool → Tally → List ℕ
tally_text noise t = cond noise (tally_line t.words t.noisy t.worst) []

abbrev pub account_text : Bool → Module → List ℕ
account_text account m = cond account (account_line (report m).taken (report m).lost (report m).waiting) []

-- The tally of the words and the account of the frames, each if it is asked for.
abbrev pub end_text : Bool → Tally → Bool → Module → List ℕ
end_text noise t account m = tally_text noise t ++ account_text account m

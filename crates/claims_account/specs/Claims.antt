-- Document 02, L14, of the module: frames taken equal words delivered, plus the one waiting, plus frames lost, counted from the history since a
-- reset by demand 3's marks.
use Rattle.std.specs.Prelude.{false, List, [], ◌∷◌, ◌++◌, ◌≡◌, ℕ, ◌+◌, ◌≤◌, min}
use Rattle.steps.specs.Bits.{digit}
use Rattle.sci.specs.model.Account.{most}
use Rattle.sci.specs.claims.Overrun.{Mark, has_reset}
use Rattle.sci.specs.claims.Balance.{taken_in, lost_in, delivered_in, OneRise}
use Rattle.qsm.specs.model.State.{reset_module}
use Rattle.qsm.specs.declared.state.Module.{Module}
use Rattle.qsm.specs.declared.event.Event.{Event}
use Rattle.qsm.specs.declared.event.Event.TheVariants.{Reset, Hold}
use Rattle.qsm.specs.declared.event.Event.TheVariants as event
use Rattle.trace.specs.Records.{events, leaves}
use Rattle.claims_histories.specs.History.{run, log}
use Rattle.reception.specs.Report.{report}
use Rattle.reception.specs.declared.account.Report.{Report}

-- The marks of a history, and the report at its end.
pub record Balanced (h : List Mark) (r : Report) : Type 0 where
  pub balance : taken_in h ≡ delivered_in h + digit r.waiting + lost_in h
  -- Each count is the history's; at 2^32 - 1 it stays.
  pub taken : r.taken ≡ min most (taken_in h)
  pub lost : r.lost ≡ min most (lost_in h)
  -- So the report itself balances, unless the history passes that.
  pub reported : taken_in h ≤ most → r.taken ≡ delivered_in h + digit r.waiting + r.lost

-- Whatever the module did before, a reset, and then events with no reset among them.
abbrev pub SinceReset : Type 0
SinceReset =
    (m : Module) (before es : List Event) → has_reset (log es reset_module) ≡ false →
    Balanced (log es reset_module) (report (run (before ++ (Reset ∷ es)) m))

-- The events since the last reset among them; where there is none, all, behind those that came before.
unfoldable pub since_last : List Event → List Event → List Event
since_last came [] = came
since_last came (Reset ∷ es) = since_last [] es
since_last came (Hold pins rxd n ∷ es) = since_last (came ++ (Hold pins rxd n ∷ [])) es
since_last came (event.Access a ∷ es) = since_last (came ++ (event.Access a ∷ [])) es

-- So of a whole list of events, as a trace has them, with any resets: the report is of those since the last.
abbrev pub WithResets : Type 0
WithResets = (es : List Event) → Balanced (log (since_last [] es) reset_module) (report (run es reset_module))

-- The module that events leave one by one, as a trace plays them, is the one that the histories speak of.
abbrev pub AsPlayed : Type 0
AsPlayed = (es : List Event) (m : Module) → leaves es m ≡ run es m

-- And of every list of records, as `replay` plays them: what the module that they leave reports is of the events since the last reset among them.
abbrev pub OfRecords : Type 0
OfRecords = (rs : List (List ℕ)) → Balanced (log (since_last [] (events rs)) reset_module) (report (leaves (events rs) reset_module))

-- Each run of losses has one rise of OR, with its first frame, resets among the events or not.
pub record Claims : Type 0 where
  pub since_reset : SinceReset
  pub with_resets : WithResets
  pub as_played : AsPlayed
  pub of_records : OfRecords
  pub one_rise : (es : List Event) → OneRise (log es reset_module)

-- Document 02, L6: the refusals by their numbers.
use Rattle.std.specs.Prelude.{ℕ, Result, Ok, Err}
use Rattle.tool_editions.specs.declared.records.Unreadable.{Unreadable}
use Rattle.tool_editions.specs.declared.records.Unreadable.TheVariants.{Unknown, Cut}
use Rattle.tool_editions.specs.declared.refusals.Refusal.{Refusal}
use Rattle.tool_editions.specs.declared.refusals.Refusal.TheVariants.{Unmodelled, BadRecord, CutRecord, NoRoom, BadNumber}

abbrev pub number : Refusal → ℕ
number Unmodelled = 3
number BadRecord = 5
number CutRecord = 6
number NoRoom = 7
number BadNumber = 8

-- The refusal of what is no whole record.
abbrev pub broken_by : Unreadable → Refusal
broken_by Unknown = BadRecord
broken_by Cut = CutRecord

-- The number of the refusal, or 0 where there is none.
abbrev pub refusal_in : {A : Type 0} → Result A Refusal → ℕ
refusal_in (Ok x) = 0
refusal_in (Err why) = number why

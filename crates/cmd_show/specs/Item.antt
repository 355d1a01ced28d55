-- What stands at the start of a rest of a log or a trace.
use Rattle.std.specs.Prelude.{Bool, true, false, Result, Ok, Err, List, ℕ}
use Rattle.trace.specs.Trace.{byte_at, parsed}
use Rattle.trace.specs.declared.Parsed.{Parsed}
use Rattle.trace.specs.declared.Parsed.TheVariants.{Record, Unknown, Cut}
use Rattle.text.specs.Line.{line_of, empty}
use Rattle.text.specs.Answer.{answer_line}
use Rattle.text.specs.Record.{record_line}
use Rattle.answers.specs.Answer.{length_of}
use Rattle.text.specs.Log.{entry}
use Rattle.text.specs.declared.log.Logged.{Logged}
use Rattle.text.specs.declared.message.Fault.{Fault}
use Rattle.text.specs.declared.message.Fault.TheVariants.{NoRecord}
use Rattle.text.specs.declared.message.Fault.TheVariants as fault
use Rattle.cmd_show.specs.declared.item.Item.{Item}
use Rattle.cmd_show.specs.declared.item.What.{What}
use Rattle.cmd_show.specs.declared.item.What.TheVariants.{Shown, More, Bad}

abbrev pub no_line : What → Item
no_line what = record { what = what; line = empty; size = 0 }

-- By its number, an answer has its line.
abbrev pub answer_item : ℕ → Result Logged Fault → Item
answer_item n (Ok l) = record { what = Shown; line = line_of (answer_line n l); size = length_of l.kind }
answer_item n (Err fault.Cut) = no_line More
answer_item n (Err f) = no_line (Bad f)

-- By its number and kind, a record has its line.
abbrev pub record_item : ℕ → ℕ → Parsed → Item
record_item n kind (Record e size) = record { what = Shown; line = line_of (record_line n kind e); size = size }
record_item n kind Unknown = no_line (Bad NoRecord)
record_item n kind Cut = no_line More

-- In a trace a record, in a log an answer behind one of a kind.
abbrev pub item : Bool → ℕ → ℕ → List ℕ → Item
item true kind n t = record_item n (byte_at t 0) (parsed t)
item false kind n t = answer_item n (entry kind t)

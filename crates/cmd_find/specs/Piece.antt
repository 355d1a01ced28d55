-- A record looked for in a trace that comes in pieces.
use Rattle.std.specs.Prelude.{Bool, true, false, List, ℕ, eqb, drop}
use Rattle.qsm.specs.declared.event.Event.{Event}
use Rattle.trace.specs.Trace.{byte_at, parsed}
use Rattle.trace.specs.declared.Parsed.{Parsed}
use Rattle.trace.specs.declared.Parsed.TheVariants.{Record, Unknown, Cut}
use Rattle.tool_index.specs.Walk.{went_on}
use Rattle.tool_index.specs.declared.walk.Position.{Position}
use Rattle.tool_index.specs.declared.walk.Walked.{Walked}
use Rattle.cmd_find.specs.declared.piece.What.{What}
use Rattle.cmd_find.specs.declared.piece.What.TheVariants.{More, Missing, Found}
use Rattle.cmd_find.specs.declared.piece.Looked.{Looked}

-- A whole record, at the number looked for or not.
abbrev pub record_there : Bool → ℕ → Event → What
record_there true kind e = Found kind e
record_there false kind e = Missing

-- Where the bytes end: those of the trace, or of a piece.
abbrev pub at_cut : Bool → What
at_cut true = Missing
at_cut false = More

abbrev pub standing : Bool → ℕ → Bool → Parsed → What
standing there kind ended (Record e n) = record_there there kind e
standing there kind ended Unknown = Missing
standing there kind ended Cut = at_cut ended

-- What stands behind so many bytes of a piece.
abbrev pub standing_at : Bool → List ℕ → Bool → What
standing_at there rest ended = standing there (byte_at rest 0) ended (parsed rest)

abbrev pub looked_by : Walked → ℕ → List ℕ → Bool → Looked
looked_by w n t ended =
    record { at = w.at; read = w.read; what = standing_at (eqb w.at.number n) (drop w.read t) ended }

-- A walk from p up to record n, and what stands there.
abbrev pub looked : Position → ℕ → List ℕ → Bool → Looked
looked p n t ended = looked_by (went_on p t n) n t ended

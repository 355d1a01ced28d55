-- Document 02, L13: looking up a record number.
use Rattle.std.specs.Prelude.{Bool, true, false, cond, List, ℕ, ◌+◌, ◌-◌, ltb, length, drop}
use Rattle.trace.specs.declared.Parsed.{Parsed}
use Rattle.trace.specs.declared.Parsed.TheVariants.{Record, Unknown, Cut}
use Rattle.tool_index.specs.Records.{records}
use Rattle.tool_index.specs.Walk.{start, walked, possible}
use Rattle.tool_index.specs.Marks.{held, mark_for}
use Rattle.tool_index.specs.declared.walk.Position.{Position}
use Rattle.tool_index.specs.declared.find.Found.{Found}

-- A record stands there, whole and of a known kind.
abbrev pub is_record : Parsed → Bool
is_record (Record e n) = true
is_record Unknown = false
is_record Cut = false

-- Record n, looked for from p on: its place, the resets before it, and how many records were walked over; 2 if it is not there.
abbrev pub found_from : Position → List ℕ → ℕ → Found
found_from p t n =
    let q = (walked p t n).at in
    cond (ltb n (p.number + length (records t)))
    (record { place = q.place; resets = q.resets; walked = q.number - p.number; refusal = 0 })
    (record { place = 0; resets = 0; walked = q.number - p.number; refusal = 2 })

-- What a walk from the start gives.
abbrev pub found : List ℕ → ℕ → Found
found t n = found_from start t n

-- A position that a trace so long can have; else the start.
abbrev pub from : Position → ℕ → Position
from p long = cond (possible p long) p start

-- The walk from the mark for record n, or from the last mark.
unfoldable pub looked_up : List ℕ → List ℕ → ℕ → ℕ → Found
looked_up t lent count n =
    let p = from (mark_for lent (held lent count) n) (length t) in
    found_from p (drop p.place t) n

-- A walk over the records of a trace: where it stands. `t` is what follows the position.
use Rattle.std.specs.Prelude.{Bool, cond, ◌&&◌, List, ℕ, ◌+◌, ◌-◌, ◌^◌, ◌≤◌, leb, length, take}
use Rattle.tool_index.specs.Records.{Item, records, bytes_of, resets_in}
use Rattle.tool_index.specs.declared.walk.Position.{Position}
use Rattle.tool_index.specs.declared.walk.Walked.{Walked}

-- The start of a trace.
abbrev pub start : Position
start = record { number = 0; place = 0; resets = 0 }

-- The position past records.
abbrev pub past : Position → List Item → Position
past p rs =
    record { number = p.number + length rs; place = p.place + bytes_of rs; resets = p.resets + resets_in rs }

-- The records from p up to record n, or as far as there are any.
abbrev pub up_to : Position → List ℕ → ℕ → List Item
up_to p t n = take (n - p.number) (records t)

-- Where a walk up to record n stands, and the bytes that it read.
abbrev pub walked : Position → List ℕ → ℕ → Walked
walked p t n = record { at = past p (up_to p t n); read = bytes_of (up_to p t n) }

-- The largest number.
abbrev pub largest : ℕ
largest = 2 ^ 64 - 1

-- A position that a trace can have, with its place not past a last one: a record has a byte or more and is one reset or none.
abbrev pub possible : Position → ℕ → Bool
possible p last = leb p.resets p.number && (leb p.number p.place && leb p.place last)

-- The same as facts, of a position with so many bytes still to come.
abbrev pub Sound : Position → ℕ → Type 0
Sound p n = (p.resets ≤ p.number) × (p.number ≤ p.place) × (p.place + n ≤ largest)

-- A walk that goes on through a piece of a trace. From a position that no trace has, or so far that the bytes of the piece have no place, it stays.
abbrev pub went_on : Position → List ℕ → ℕ → Walked
went_on p t n = cond (possible p (largest - length t)) (walked p t n) (record { at = p; read = 0 })

-- Document 02, L6: what a buffer's records come to, looked at in order as far as they lie in the used length and in the buffer.
use Rattle.std.specs.Prelude.{true, cond, Result, Ok, Err, List, [], ◌∷◌, ◌++◌, ℕ, zero, suc, eqb, ltb, length, take, drop}
use Rattle.tool_editions.specs.Records.{size_of, parsed}
use Rattle.tool_editions.specs.Rules.{last_from, refusal_of}
use Rattle.tool_editions.specs.declared.contents.Held.{Held}
use Rattle.tool_editions.specs.declared.records.Record.{Record}
use Rattle.tool_editions.specs.declared.records.Unreadable.{Unreadable}
use Rattle.tool_editions.specs.declared.records.Unreadable.TheVariants.{Unknown, Cut}
use Rattle.tool_editions.specs.declared.refusals.Refusal.{Refusal}
use Rattle.tool_editions.specs.declared.refusals.Refusal.TheVariants.{BadRecord, CutRecord}

-- The records of a buffer, or its refusal.
pub data Reading : Type 0 where
  holds : List Record → Reading
  refuses : Refusal → Reading

-- What `on` makes of the record at the start of v and the rest, behind the records rs: an unknown kind, or a record that the rules would have
-- refused, is 5; a cut one is 6.
abbrev pub turn : (List Record → List ℕ → Reading) → List Record → List ℕ → Result Record Unreadable → Reading
turn on rs v (Ok r) = cond (eqb (refusal_of rs true r) 0) (on (rs ++ (r ∷ [])) (drop (size_of r) v)) (refuses BadRecord)
turn on rs v (Err Unknown) = refuses BadRecord
turn on rs v (Err Cut) = refuses CutRecord

-- At most so many records behind rs.
unfoldable pub read_for : ℕ → List Record → List ℕ → Reading
read_for zero rs v = holds rs
read_for (suc k) rs v = cond (eqb (length v) 0) (holds rs) (turn (read_for k) rs v (parsed v))

-- A record has at least one byte, so there are no more records than bytes.
abbrev pub read_all : List ℕ → Reading
read_all v = read_for (length v) [] v

-- A used length past the end is 6, unless what lies in the buffer is refused first.
abbrev pub past_end : Reading → Refusal
past_end (holds rs) = CutRecord
past_end (refuses why) = why

unfoldable pub contents : List ℕ → ℕ → Reading
contents b used = cond (ltb (length b) used) (refuses (past_end (read_all b))) (read_all (take used b))

-- The same in numbers: the last edition added and the number of records.
abbrev pub held : Reading → Result Held Refusal
held (holds rs) = Ok (record { last = last_from 0 rs; count = length rs })
held (refuses why) = Err why

-- Document 02, L6: an edition added, withdrawn, asked for. The check order is 5, 6, 3, 8, 7.
use Rattle.std.specs.Prelude.{◌≡◌, Bool, true, false, cond, Result, Ok, Err, List, ◌++◌, ℕ, ◌+◌, eqb, leb, length, take, drop}
use Rattle.tool_editions.specs.Records.{size_of, bytes_of}
use Rattle.tool_editions.specs.Refusals.{number}
use Rattle.tool_editions.specs.Rules.{given, missing, latest, refusal_of}
use Rattle.tool_editions.specs.Contents.{Reading, holds, refuses, contents}
use Rattle.tool_editions.specs.declared.Changed.{Changed}
use Rattle.tool_editions.specs.declared.Given.{Given}
use Rattle.tool_editions.specs.declared.records.Edition.{Edition}
use Rattle.tool_editions.specs.declared.records.Record.{Record}
use Rattle.tool_editions.specs.declared.records.Record.TheVariants.{Added, Withdrawn}
use Rattle.tool_editions.specs.declared.refusals.Refusal.{Refusal}

-- What a change leaves: the used length, the buffer, and the refusal or 0.
pub record Outcome : Type 0 where
  pub used : ℕ
  pub buffer : List ℕ
  pub refusal : ℕ

-- A refusal changes nothing.
abbrev pub refused : List ℕ → ℕ → ℕ → Outcome
refused b used why = record { used = used; buffer = b; refusal = why }

-- A record put behind the used length; the bytes past it stay.
abbrev pub put : List ℕ → ℕ → Record → Outcome
put b used r =
    record {
      used = used + size_of r;
      buffer = take used b ++ (bytes_of r ++ drop (size_of r) (drop used b));
      refusal = 0;
    }

abbrev pub decided : List ℕ → ℕ → Record → ℕ → Outcome
decided b used r why = cond (eqb why 0) (put b used r) (refused b used why)

abbrev pub changed_by : List ℕ → ℕ → Record → Reading → Outcome
changed_by b used r (holds rs) = decided b used r (refusal_of rs (leb (used + size_of r) (length b)) r)
changed_by b used r (refuses why) = refused b used (number why)

-- 5 and 6 are of the buffer, then 3, 8 and 7 of the record.
unfoldable pub changed : List ℕ → ℕ → Record → Outcome
changed b used r = changed_by b used r (contents b used)

abbrev pub asked_by : Bool → ℕ → Reading → Given
asked_by any n (holds rs) = latest any n rs
asked_by any n (refuses why) = missing (number why)

-- The edition of a number, or the newest, not withdrawn.
unfoldable pub asked : List ℕ → ℕ → Bool → ℕ → Given
asked b used any n = asked_by any n (contents b used)

-- The four calls.
abbrev pub add : List ℕ → ℕ → Edition → Outcome
add b used e = changed b used (Added e)

abbrev pub withdraw : List ℕ → ℕ → ℕ → Outcome
withdraw b used n = changed b used (Withdrawn n)

abbrev pub get : List ℕ → ℕ → ℕ → Given
get b used n = asked b used false n

abbrev pub newest : List ℕ → ℕ → Given
newest b used = asked b used true 0

-- What a call answers: the used length after a record that was put, or the one before; the edition found, or none.
abbrev pub answered : ℕ → Result ℕ Refusal → Changed
answered used (Ok after) = record { used = after; refusal = 0 }
answered used (Err why) = record { used = used; refusal = number why }

abbrev pub told : Result Edition Refusal → Given
told (Ok e) = given e
told (Err why) = missing (number why)

-- An outcome in a lent buffer: what a call answers, and what it leaves of the buffer.
pub record Changes (o : Outcome) (r : Changed) (left : List ℕ) : Type 0 where
  pub used : r.used ≡ o.used
  pub refusal : r.refusal ≡ o.refusal
  pub buffer : left ≡ o.buffer

-- Document 02, L13: what is shown of an index. `t` is a trace, and `t ++ u` the same with more at its end.
use Rattle.std.specs.Prelude.{◌≡◌, true, List, ◌++◌, ℕ, ◌-◌, ◌*◌, ◌<◌, ◌≤◌, length, take, drop}
use Rattle.tool_index.specs.Records.{records, rest}
use Rattle.tool_index.specs.Walk.{start, past, largest, possible, went_on}
use Rattle.tool_index.specs.Marks.{spacing, marks_for, marks_from, room, Outcome, built, extended, mark_at, gone_on}
use Rattle.tool_index.specs.Find.{found, looked_up}
use Rattle.tool_index.specs.declared.walk.Position.{Position}
use Rattle.tool_index.specs.declared.index.Indexed.{Indexed}
use Rattle.tool_index.specs.declared.find.Found.{Found}

-- Lent numbers that begin with the marks of t, which are `count`.
pub record Holds (t lent : List ℕ) (count : ℕ) : Type 0 where
  pub all : count ≡ marks_for (length (records t))
  pub fit : count ≤ room lent
  pub marks : take (2 * count) lent ≡ marks_from start t 0 count

-- Building leaves the marks of the trace, unless it is refused.
abbrev pub Builds : Type 0
Builds = (t lent : List ℕ) → (built t lent).given.refusal ≡ 0 → Holds t (built t lent).list (built t lent).given.marks

-- Mark k is where record 256 k starts in a walk from the start, and how many resets are before it; it is there exactly if the record is.
abbrev pub MarksAre : Type 0
MarksAre =
    (t lent : List ℕ) (count k : ℕ) → Holds t lent count → k < count →
    (mark_at lent k ≡ past start (take (spacing * k) (records t))) × (spacing * k < length (records t))

abbrev pub NoneMissing : Type 0
NoneMissing = (t lent : List ℕ) (count k : ℕ) → Holds t lent count → spacing * k < length (records t) → k < count

-- The same answer, however many records were walked over.
pub record Alike (f g : Found) : Type 0 where
  pub place : f.place ≡ g.place
  pub resets : f.resets ≡ g.resets
  pub refusal : f.refusal ≡ g.refusal

-- Looking up a number by marks of the trace, or of a beginning of it, gives what a walk from the start gives.
abbrev pub Finds : Type 0
Finds = (t u lent : List ℕ) (count n : ℕ) → Holds t lent count → Alike (looked_up (t ++ u) lent count n) (found (t ++ u) n)

-- Its cost: a record that has its mark, or another of the 255 before it, is found within 255 records; one behind the last mark is walked to from there.
abbrev pub Near : Type 0
Near = (t u lent : List ℕ) (count n : ℕ) → Holds t lent count → n < spacing * count → (looked_up (t ++ u) lent count n).walked ≤ 255

abbrev pub Behind : Type 0
Behind =
    (t u lent : List ℕ) (count n : ℕ) → Holds t lent count → spacing * (count - 1) ≤ n →
    (looked_up (t ++ u) lent count n).walked ≤ n - spacing * (count - 1)

-- Adding records at the end gives what building afresh gives, refused or not, and keeps the marks that were there.
abbrev pub Extends : Type 0
Extends =
    (t u lent : List ℕ) (count : ℕ) → Holds t lent count →
    ((extended (t ++ u) lent count).list ≡ (built (t ++ u) lent).list) × ((extended (t ++ u) lent count).given ≡ (built (t ++ u) lent).given)

abbrev pub KeepsOld : Type 0
KeepsOld =
    (t u lent : List ℕ) (count : ℕ) → Holds t lent count → take (2 * count) (extended (t ++ u) lent count).list ≡ take (2 * count) lent

-- Where a piece left off.
abbrev pub left : Indexed → Position
left i = record { number = i.records; place = i.place; resets = i.resets }

-- Piece by piece: the next piece begins with what the last one left of a cut record. Together they give what the whole gives, and its marks unless it is
-- refused.
abbrev pub InPieces : Type 0
InPieces =
    (p : Position) (t u lent : List ℕ) (count : ℕ) → length (t ++ u) ≤ largest → possible p (largest - length (t ++ u)) ≡ true → (gone_on p t lent count).given.refusal ≡ 0 →
    let o : Outcome = gone_on p t lent count in
    let next : Outcome = gone_on (left o.given) (rest t ++ u) o.list o.given.marks in
    (next.given ≡ (gone_on p (t ++ u) lent count).given) × (next.given.refusal ≡ 0 → next.list ≡ (gone_on p (t ++ u) lent count).list)

-- A walk up to record n, piece by piece, comes where the walk through the whole comes.
abbrev pub WalksOn : Type 0
WalksOn =
    (p : Position) (t u : List ℕ) (n : ℕ) → length (t ++ u) ≤ largest → possible p (largest - length (t ++ u)) ≡ true →
    (went_on (went_on p t n).at (drop (went_on p t n).read t ++ u) n).at ≡ (went_on p (t ++ u) n).at

-- Document 02, L13, by that walk: what an index holds, when it is refused, and what looking a number up gives.
use Rattle.std.specs.Prelude.{◌≡◌, ◌⊎◌, List, ◌++◌, ℕ, ◌+◌, ◌*◌, ◌<◌, ◌≤◌, length, get_or, replicate}
use Rattle.tool_index.specs.Marks.{Outcome, built}
use Rattle.tool_index.specs.Find.{looked_up}
use Rattle.claims_index.specs.Walk.{from_start}

-- Record n is there; it is not.
abbrev pub There : List ℕ → ℕ → Type 0
There t n = (from_start t n).refusal ≡ 0

abbrev pub Nowhere : List ℕ → ℕ → Type 0
Nowhere t n = (from_start t n).refusal ≡ 2

-- Mark k, of records 0, 256, 512 and so on: two numbers. There are as many marks as such records.
pub record Marked (t : List ℕ) (o : Outcome) (k : ℕ) : Type 0 where
  pub counted : There t (256 * k) → k < o.given.marks
  pub no_more : Nowhere t (256 * k) → o.given.marks ≤ k
  pub place : There t (256 * k) → get_or o.list (2 * k) 0 ≡ (from_start t (256 * k)).place
  pub resets : There t (256 * k) → get_or o.list (2 * k + 1) 0 ≡ (from_start t (256 * k)).resets

abbrev pub Builds : Type 0
Builds = (t lent : List ℕ) (k : ℕ) → (built t lent).given.refusal ≡ 0 → Marked t (built t lent) k

-- 7 exactly if such a record is the 4,097th or one whose two numbers have no room; then nothing that is lent changes.
abbrev pub Fits : List ℕ → ℕ → Type 0
Fits lent k = (k < 4096) × (2 * k + 2 ≤ length lent)

abbrev pub TooMany : List ℕ → ℕ → Type 0
TooMany lent k = (4096 ≤ k) ⊎ (length lent < 2 * k + 2)

abbrev pub Refused : Type 0
Refused =
    (t lent : List ℕ) (k : ℕ) → There t (256 * k) → TooMany lent k → ((built t lent).given.refusal ≡ 7) × ((built t lent).list ≡ lent)

abbrev pub NotRefused : Type 0
NotRefused = (t lent : List ℕ) → ((k : ℕ) → There t (256 * k) → Fits lent k) → (built t lent).given.refusal ≡ 0

-- So of resets alone: 4,096 marks for 1,048,576 of them, and one more has none.
pub record AtTheLimit (lent : List ℕ) (n : ℕ) : Type 0 where
  pub beyond : 1048576 < n → (built (replicate n 0x01) lent).given.refusal ≡ 7
  pub up_to : n ≤ 1048576 → 8192 ≤ length lent → (built (replicate n 0x01) lent).given.refusal ≡ 0

abbrev pub Limit : Type 0
Limit = (lent : List ℕ) (n : ℕ) → AtTheLimit lent n

-- With the marks of a trace, in it or in it with more at its end, every number is found as the walk finds it: 2 exactly if there is no such record.
pub record Found (t lent u : List ℕ) (n : ℕ) : Type 0 where
  pub place : (looked_up (t ++ u) (built t lent).list (built t lent).given.marks n).place ≡ (from_start (t ++ u) n).place
  pub resets : (looked_up (t ++ u) (built t lent).list (built t lent).given.marks n).resets ≡ (from_start (t ++ u) n).resets
  pub refusal : (looked_up (t ++ u) (built t lent).list (built t lent).given.marks n).refusal ≡ (from_start (t ++ u) n).refusal

abbrev pub Finds : Type 0
Finds = (t lent u : List ℕ) (n : ℕ) → (built t lent).given.refusal ≡ 0 → Found t lent u n

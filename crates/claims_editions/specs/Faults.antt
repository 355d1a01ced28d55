-- Document 02, L6: buffers that are refused for themselves, whatever is asked: what calls have made, and behind it, as far as a longer used length
-- reaches, bytes that are no record, part of one, or one that these rules would have refused. 5 and 6 so come before 3, 8 and 7.
use Rattle.std.specs.Prelude.{◌≡◌, List, ◌∷◌, ◌++◌, ℕ, ◌+◌, ◌≤◌, ◌<◌, min, length, drop}
use Rattle.tool_editions.specs.Editions.{get, newest}
use Rattle.tool_editions.specs.Laws.{Kept, answer, after_all, fresh, Fits, Each}
use Rattle.tool_editions.specs.declared.records.Record.{Record}
use Rattle.claims_editions.specs.History.{layout}

-- Every call and every question is refused with this number.
pub record Refuses (why : ℕ) (k : Kept) : Type 0 where
  pub changes : (r : Record) → answer k r ≡ why
  pub gets : (n : ℕ) → (get k.buffer k.used n).refusal ≡ why
  pub newests : (newest k.buffer k.used).refusal ≡ why

-- A buffer k in order, the bytes behind its used length, and a longer used length.
module _ (k : Kept) (behind : List ℕ) (used : ℕ) where
  abbrev pub longer : Kept
  longer = record { buffer = k.buffer; used = used }

  -- How many of the bytes behind lie in the used length and in the buffer.
  abbrev pub Sees : ℕ → Type 0
  Sees n = k.used + n ≤ min used (length k.buffer)

  abbrev pub Lacks : ℕ → Type 0
  Lacks n = min used (length k.buffer) < k.used + n

  pub record Faulty : Type 0 where
    -- A kind other than 21 and 22.
    pub unknown : (x : ℕ) (rest : List ℕ) → behind ≡ x ∷ rest → Sees 1 → (x ≡ 0x21 → ⊥) → (x ≡ 0x22 → ⊥) → Refuses 5 longer
    -- A record that the call would have been refused for.
    pub refused :
        (r : Record) (rest : List ℕ) → Fits r → behind ≡ layout r ++ rest → Sees (length (layout r)) → (answer k r ≡ 0 → ⊥) →
        Refuses 5 longer
    -- An edition has 11 bytes, a withdrawal 3.
    pub cut_edition : (rest : List ℕ) → behind ≡ 0x21 ∷ rest → Sees 1 → Lacks 11 → Refuses 6 longer
    pub cut_withdrawal : (rest : List ℕ) → behind ≡ 0x22 ∷ rest → Sees 1 → Lacks 3 → Refuses 6 longer
    -- Records in order to the buffer's end, and a used length that passes it.
    pub past_end : k.used ≡ length k.buffer → length k.buffer < used → Refuses 6 longer

abbrev pub FirstFault : Type 0
FirstFault =
    (b : List ℕ) (rs : List Record) (used : ℕ) → Each Fits rs →
    let k = after_all (fresh b) rs in
    Faulty k (drop k.used k.buffer) used

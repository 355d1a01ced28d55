-- What a comparison tells of two logs of a kind, in words of their answers and fields.
use Rattle.std.specs.Prelude.{◌≡◌, ◌⊎◌, false, cond, List, [], ◌∷◌, ◌++◌, ℕ, ◌*◌, ◌/◌, ◌%◌, ◌^◌, ◌<◌, length, get_or, take, drop}
use Rattle.answers.specs.Answer.{plain, clocked, fields_of, stride, stride_of}
use Rattle.tool_compare.specs.Compare.{answer, common, Outcome, compared_as, compared_logs}

-- The first numbers of the pairs in a list, and the second ones.
abbrev pub firsts : List ℕ → List ℕ
firsts [] = []
firsts (k ∷ []) = []
firsts (k ∷ s ∷ l) = k ∷ firsts l

abbrev pub seconds : List ℕ → List ℕ
seconds [] = []
seconds (k ∷ []) = []
seconds (k ∷ s ∷ l) = s ∷ seconds l

-- The numbers of the answers that a comparison reports, and their sums.
abbrev pub numbers : Outcome → List ℕ
numbers o = firsts (take (2 * o.count) o.list)

abbrev pub sums : Outcome → List ℕ
sums o = seconds (take (2 * o.count) o.list)

-- Answer k differs.
abbrev pub Differs : List ℕ → List ℕ → List ℕ → ℕ → Type 0
Differs fs a b k = answer (stride fs) a k ≡ answer (stride fs) b k → ⊥

-- Field f of an answer.
abbrev pub field : List ℕ → List ℕ → ℕ → List ℕ
field fs x f = take (get_or fs f 0) (drop (stride (take f fs)) x)

-- Two logs of answers with such fields, not refused: what is reported of them.
pub record Tells (fs a b : List ℕ) (o : Outcome) : Type 0 where
  -- No count and no surplus exactly if they are equal.
  pub equal : a ≡ b → (o.count ≡ 0) × (o.surplus ≡ [])
  pub only_equal : o.count ≡ 0 → o.surplus ≡ [] → a ≡ b
  -- The surplus ends the log it is said to be of, and begins where the other log ends.
  pub stretch : take o.start (cond o.second b a) ++ o.surplus ≡ cond o.second b a
  pub common_end_holds : o.start ≡ length (cond o.second a b)
  -- As many as the count says.
  pub counted : (length (numbers o) ≡ o.count) × (length (sums o) ≡ o.count)
  -- The answers that differ and no others, in order.
  pub differ : (i : ℕ) → i < o.count → (get_or (numbers o) i 0 < common (stride fs) a b) × Differs fs a b (get_or (numbers o) i 0)
  pub all : (k : ℕ) → k < common (stride fs) a b → Differs fs a b k → (i : ℕ) × (i < o.count) × (get_or (numbers o) i 0 ≡ k)
  pub in_order : (i j : ℕ) → i < j → j < o.count → get_or (numbers o) i 0 < get_or (numbers o) j 0
  -- Bit f of a sum is one exactly if field f differs, and there is no other bit.
  pub same_field : (i f : ℕ) → i < o.count → f < length fs → get_or (sums o) i 0 / 2 ^ f % 2 ≡ 0 →
      field fs (answer (stride fs) a (get_or (numbers o) i 0)) f ≡ field fs (answer (stride fs) b (get_or (numbers o) i 0)) f
  pub other_field : (i f : ℕ) → i < o.count → f < length fs → get_or (sums o) i 0 / 2 ^ f % 2 ≡ 1 →
      field fs (answer (stride fs) a (get_or (numbers o) i 0)) f ≡ field fs (answer (stride fs) b (get_or (numbers o) i 0)) f → ⊥
  pub no_other_bit : (i : ℕ) → i < o.count → get_or (sums o) i 0 < 2 ^ length fs

abbrev pub TellsAll : Type 0
TellsAll =
    (kind : ℕ) (a b lent : List ℕ) → (compared_as kind a b lent).refusal ≡ 0 → Tells (fields_of kind) a b (compared_as kind a b lent)

-- The list past the count is as it was; on a refusal all of it, the count is 0, and the stretch an empty one of the first log.
pub record Leaves (lent : List ℕ) (o : Outcome) : Type 0 where
  pub long : length o.list ≡ length lent
  pub past : drop (2 * o.count) o.list ≡ drop (2 * o.count) lent
  pub refused : (o.refusal ≡ 0 → ⊥) → (o.list ≡ lent) × (o.count ≡ 0) × (o.surplus ≡ []) × (o.second ≡ false)

abbrev pub LeavesTheRest : Type 0
LeavesTheRest = (kind : ℕ) (a b lent : List ℕ) → Leaves lent (compared_as kind a b lent)

-- With the logs exchanged: the same refusal, the same list and the same surplus bytes.
pub record Alike (o p : Outcome) : Type 0 where
  pub list : o.list ≡ p.list
  pub count : o.count ≡ p.count
  pub refusal : o.refusal ≡ p.refusal
  pub surplus : o.surplus ≡ p.surplus

abbrev pub Exchanged : Type 0
Exchanged = (a b lent : List ℕ) → Alike (compared_logs a b lent) (compared_logs b a lent)

-- Every answer in both logs, a cut last one too, begins with the same one of 10 and 11.
pub record OneKind (a b : List ℕ) : Type 0 where
  pub kind : ℕ
  pub known : (kind ≡ plain) ⊎ (kind ≡ clocked)
  pub first : (i : ℕ) → i * stride_of kind < length a → get_or a (i * stride_of kind) 0 ≡ kind
  pub second : (i : ℕ) → i * stride_of kind < length b → get_or b (i * stride_of kind) 0 ≡ kind

-- Refusal 5 exactly unless they do.
pub record FiveUnless (a b : List ℕ) (o : Outcome) : Type 0 where
  pub never : OneKind a b → o.refusal ≡ 5 → ⊥
  pub else : (o.refusal ≡ 5 → ⊥) → OneKind a b

abbrev pub FiveExactly : Type 0
FiveExactly = (a b lent : List ℕ) → FiveUnless a b (compared_logs a b lent)

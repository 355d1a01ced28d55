-- Document 02, L2 and L9: kind 10 has answers of ten bytes, kind 11 of eighteen; and the refusals of logs that are told to be of a kind.
use Rattle.std.specs.Prelude.{◌≡◌, List, [], ◌∷◌, ℕ, ◌*◌, ◌%◌, ◌≤◌, ◌<◌, length}
use Rattle.answers.specs.Answer.{stride}
use Rattle.tool_compare.specs.Compare.{compared_as, compared_logs}
use Rattle.tool_compare.specs.Laws.{Tells}

-- Kind, refusal, value (4), driven levels, driven mask, level, vector; and the clock (8).
abbrev pub fields10 : List ℕ
fields10 = 1 ∷ 1 ∷ 4 ∷ 1 ∷ 1 ∷ 1 ∷ 1 ∷ []

abbrev pub fields11 : List ℕ
fields11 = 1 ∷ 1 ∷ 4 ∷ 1 ∷ 1 ∷ 1 ∷ 1 ∷ 8 ∷ []

-- What is told is told of these fields, and of answers so long.
pub record ToldOf (kind : ℕ) (fields : List ℕ) (long : ℕ) : Type 0 where
  pub length_is : stride fields ≡ long
  pub tells : (a b lent : List ℕ) → (compared_as kind a b lent).refusal ≡ 0 → Tells fields a b (compared_as kind a b lent)

-- A length that is no multiple is 6, but for 5, whatever list is lent.
pub record Cut (kind long : ℕ) (a b lent : List ℕ) : Type 0 where
  pub first : (length a % long ≡ 0 → ⊥) → ((compared_as kind a b lent).refusal ≡ 5 → ⊥) → (compared_as kind a b lent).refusal ≡ 6
  pub second : (length b % long ≡ 0 → ⊥) → ((compared_as kind a b lent).refusal ≡ 5 → ⊥) → (compared_as kind a b lent).refusal ≡ 6
  pub never : length a % long ≡ 0 → length b % long ≡ 0 → (compared_as kind a b lent).refusal ≡ 6 → ⊥

-- 7 exactly if the list is too short for two numbers each, by what any list that is long enough is told.
pub record Short (kind : ℕ) (a b lent other : List ℕ) : Type 0 where
  pub too_short : (compared_as kind a b other).refusal ≡ 0 → length lent < 2 * (compared_as kind a b other).count → (compared_as kind a b lent).refusal ≡ 7
  pub long_enough : (compared_as kind a b other).refusal ≡ 0 → 2 * (compared_as kind a b other).count ≤ length lent → (compared_as kind a b lent).refusal ≡ 0

pub record Refusals (kind long : ℕ) : Type 0 where
  pub cut : (a b lent : List ℕ) → Cut kind long a b lent
  pub short : (a b lent other : List ℕ) → Short kind a b lent other

-- Logs that begin with a kind are compared as logs of that kind.
abbrev pub OwnKind : Type 0
OwnKind =
    (kind : ℕ) (a b lent : List ℕ) →
    (compared_logs (kind ∷ a) b lent ≡ compared_as kind (kind ∷ a) b lent) × (compared_logs [] (kind ∷ b) lent ≡ compared_as kind [] (kind ∷ b) lent)

pub record Numbers : Type 0 where
  pub told_10 : ToldOf 0x10 fields10 10
  pub told_11 : ToldOf 0x11 fields11 18
  pub refusals_10 : Refusals 0x10 10
  pub refusals_11 : Refusals 0x11 18
  pub own_kind : OwnKind

-- The refusals by the lengths and the list. Assumes nothing.
use mathlib.Core.Path.{◌≡◌, refl, sym, ap, ◌∙◌}
use mathlib.Core.Bool.{Bool, true, false, cond, ◌||◌}
use mathlib.Core.List.{List, ◌∷◌}
use Prim.Native.Nat.{ℕ, ◌*◌, ◌%◌}
use native.Mathlib.Omega.{arith}
use lib.Dec.{ltb}
use lib.ListN.{length}
use borrow.Author.Tests.{lt-ltb, le-ltb, eq-eqb, ne_eqb}
use Rattle.answers.specs.Answer.{fields_of, stride}
use Rattle.tool_compare.specs.Kind.{mixed}
use Rattle.tool_compare.specs.Compare.{Outcome, differing, common, refused, reported, cut, compared, compared_as}
use Rattle.tool_compare.proofs.ByKind.{tells_all}
use Rattle.claims_comparing.specs.Numbers.{Cut, Short, OwnKind, Numbers}

or_true : (b : Bool) → b || true ≡ true
or_true true = refl
or_true false = refl

-- ---- by the tests

module _ (a b lent : List ℕ) where
  -- 5 or not, cut or not, short or not.
  abbrev by : Bool → Bool → Bool → Outcome → Outcome
  by five six seven told = cond five (refused a b lent 5) (cond six (refused a b lent 6) (cond seven (refused a b lent 7) told))

  is_6 : (five : Bool) (seven : Bool) (told : Outcome) → ((by five true seven told).refusal ≡ 5 → ⊥) → (by five true seven told).refusal ≡ 6
  is_6 true seven told ne = absurd (ne refl)
  is_6 false seven told ne = refl

  not_6 : (five seven : Bool) (told : Outcome) → told.refusal ≡ 0 → (by five false seven told).refusal ≡ 6 → ⊥
  not_6 true seven told z h = omega (arith, h)
  not_6 false true told z h = omega (arith, h)
  not_6 false false told z h = omega (arith, h, z)

  let_through : (five six seven : Bool) (told : Outcome) → (by five six seven told).refusal ≡ 0 → (five ≡ false) × (six ≡ false) × (by five six seven told ≡ told)
  let_through true six seven told h = absurd (omega (arith, h))
  let_through false true seven told h = absurd (omega (arith, h))
  let_through false false true told h = absurd (omega (arith, h))
  let_through false false false told h = (refl, refl, refl)

-- ---- two logs of a kind

module _ (kind : ℕ) (a b : List ℕ) where
  abbrev five : Bool
  five = mixed kind a || mixed kind b

  abbrev long : ℕ
  long = stride (fields_of kind)

  abbrev six : Bool
  six = cut long a || cut long b

  abbrev ks : List ℕ
  ks = differing long a b (common long a b)

  abbrev seven : List ℕ → Bool
  seven lent = ltb (length lent) (2 * length ks)

  abbrev told : List ℕ → Outcome
  told lent = reported (fields_of kind) a b lent ks

  tested : (lent : List ℕ) → compared_as kind a b lent ≡ by a b lent five six (seven lent) (told lent)
  unfolding compared compared_as
  tested lent = refl

  with_cut : (lent : List ℕ) (t : Bool) → six ≡ t → (compared_as kind a b lent).refusal ≡ (by a b lent five t (seven lent) (told lent)).refusal
  with_cut lent t is = ap (λ (o : Outcome). o.refusal) (tested lent) ∙ ap (λ (s : Bool). (by a b lent five s (seven lent) (told lent)).refusal) is

  by_cut : (lent : List ℕ) → six ≡ true → ((compared_as kind a b lent).refusal ≡ 5 → ⊥) → (compared_as kind a b lent).refusal ≡ 6
  by_cut lent is ne = with_cut lent true is ∙ is_6 a b lent five (seven lent) (told lent) (λ h. ne (with_cut lent true is ∙ h))

  cuts : (lent : List ℕ) → Cut kind long a b lent
  cuts lent =
      record {
        first = λ odd ne. by_cut lent (rw (ne_eqb (length a % long) 0 odd)) ne;
        second = λ odd ne. by_cut lent (rw (ne_eqb (length b % long) 0 odd) (or_true (cut long a))) ne;
        never = λ p q h.
            let none : six ≡ false = rw (eq-eqb (length a % long) 0 p, eq-eqb (length b % long) 0 q) in
            not_6 a b lent five (seven lent) (told lent) refl (sym (with_cut lent false none) ∙ h);
      }

  module _ (lent other : List ℕ) (fine : (compared_as kind a b other).refusal ≡ 0) where
    tests : (five ≡ false) × (six ≡ false) × (by a b other five six (seven other) (told other) ≡ told other)
    tests = let_through a b other five six (seven other) (told other) (ap (λ (o : Outcome). o.refusal) (sym (tested other)) ∙ fine)

    counted : (compared_as kind a b other).count ≡ length ks
    counted = ap (λ (o : Outcome). o.count) (tested other ∙ tests.2)

    by_room : (t : Bool) → seven lent ≡ t → (compared_as kind a b lent).refusal ≡ cond t 7 0
    by_room t is =
        ap (λ (o : Outcome). o.refusal) (tested lent) ∙ ap (λ (f : Bool). (by a b lent f six (seven lent) (told lent)).refusal) tests.0
        ∙ ap (λ (s : Bool). (by a b lent false s (seven lent) (told lent)).refusal) tests.1 ∙ by_seven t is
      where
        by_seven : (t : Bool) → seven lent ≡ t → (by a b lent false false (seven lent) (told lent)).refusal ≡ cond t 7 0
        by_seven true is = rw is
        by_seven false is = rw is

  short : (lent other : List ℕ) → Short kind a b lent other
  short lent other =
      record {
        too_short = λ fine h. by_room lent other fine true (lt-ltb (length lent) (2 * length ks) (omega (arith, h, counted lent other fine)));
        long_enough = λ fine h. by_room lent other fine false (le-ltb (length lent) (2 * length ks) (omega (arith, h, counted lent other fine)));
      }

own_kind : OwnKind
own_kind kind a b lent =
    (rw (ne_eqb (length (kind ∷ a)) 0 (λ z. omega (arith, z))), rw (ne_eqb (length (kind ∷ b)) 0 (λ z. omega (arith, z))))

pub numbers : Numbers
numbers =
    record {
      told_10 = record { length_is = refl; tells = tells_all 0x10 };
      told_11 = record { length_is = refl; tells = tells_all 0x11 };
      refusals_10 = record { cut = cuts 0x10; short = short 0x10 };
      refusals_11 = record { cut = cuts 0x11; short = short 0x11 };
      own_kind = own_kind;
    }

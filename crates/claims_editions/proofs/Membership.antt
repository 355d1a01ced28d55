-- A call among others, and behind them. Assumes nothing.
use mathlib.Core.Path.{◌≡◌, refl}
use mathlib.Core.Logic.{◌⊎◌, inl, inr}
use mathlib.Core.List.{List, [], ◌∷◌, ◌++◌}
use Prim.Native.Nat.{ℕ}
use native.Mathlib.Omega.{arith}
use lib.Dec.{eqb}
use mathlib.Core.Bool.{Bool, true, false}
use borrow.Author.Tests.{eqb-true, eqb-false}
use Rattle.tool_editions.specs.declared.records.Edition.{Edition}
use Rattle.tool_editions.specs.declared.records.Record.{Record}
use Rattle.tool_editions.specs.declared.records.Record.TheVariants.{Added, Withdrawn}
use Rattle.claims_editions.specs.History.{In, WasAdded}

pub clash : (e : Edition) (n : ℕ) → Added e ≡ Withdrawn n → ⊥
clash e n h = let z : ◌≡◌ {A = ℕ} 0 1 = cc in omega arith

pub clash_back : (e : Edition) (n : ℕ) → Withdrawn n ≡ Added e → ⊥
clash_back e n h = let z : ◌≡◌ {A = ℕ} 0 1 = cc in omega arith

pub same_edition : {e f : Edition} → Added e ≡ Added f → e ≡ f
same_edition h = cc

pub same_number : {n m : ℕ} → Withdrawn n ≡ Withdrawn m → n ≡ m
same_number h = cc

pub in_front : (r : Record) (rs ts : List Record) → In r rs → In r (rs ++ ts)
in_front r [] ts h = absurd h
in_front r (s ∷ rs) ts (inl e) = inl e
in_front r (s ∷ rs) ts (inr h) = inr (in_front r rs ts h)

pub in_last : (r : Record) (rs : List Record) → In r (rs ++ (r ∷ []))
in_last r [] = inl refl
in_last r (s ∷ rs) = inr (in_last r rs)

later : (r s t : Record) (rs : List Record) → In r rs ⊎ (r ≡ s) → In r (t ∷ rs) ⊎ (r ≡ s)
later r s t rs (inl h) = inl (inr h)
later r s t rs (inr e) = inr e

pub in_cases : (r s : Record) (rs : List Record) → In r (rs ++ (s ∷ [])) → In r rs ⊎ (r ≡ s)
in_cases r s [] (inl e) = inr e
in_cases r s [] (inr h) = absurd h
in_cases r s (t ∷ rs) (inl e) = inl (inl e)
in_cases r s (t ∷ rs) (inr h) = later r s t rs (in_cases r s rs h)

-- An edition of a number was added, or none was.
further : (n : ℕ) (r : Record) (rs : List Record) → WasAdded n rs ⊎ (WasAdded n rs → ⊥) → ((e : Edition) → Added e ≡ r → e.number ≡ n → ⊥)
    → WasAdded n (r ∷ rs) ⊎ (WasAdded n (r ∷ rs) → ⊥)
further n r rs (inl a) apart = inl (a.0, inr a.1, a.2)
further n r rs (inr none) apart = inr (λ a. at_one a a.1)
  where
    at_one : (a : WasAdded n (r ∷ rs)) → (Added a.0 ≡ r) ⊎ In (Added a.0) rs → ⊥
    at_one a (inl e) = apart a.0 e a.2
    at_one a (inr h) = none (a.0, h, a.2)

by_number : (n : ℕ) (e : Edition) (rs : List Record) (t : Bool) → eqb e.number n ≡ t → WasAdded n rs ⊎ (WasAdded n rs → ⊥)
    → WasAdded n (Added e ∷ rs) ⊎ (WasAdded n (Added e ∷ rs) → ⊥)
by_number n e rs true is rest = inl (e, inl refl, eqb-true _ _ is)
by_number n e rs false is rest = further n (Added e) rs rest (λ f same at. eqb-false _ _ is (rw (same_edition same) at at))

pub was_added : (n : ℕ) (rs : List Record) → WasAdded n rs ⊎ (WasAdded n rs → ⊥)
was_added n [] = inr (λ a. a.1)
was_added n (Added e ∷ rs) = by_number n e rs (eqb e.number n) refl (was_added n rs)
was_added n (Withdrawn m ∷ rs) = further n (Withdrawn m) rs (was_added n rs) (λ e same at. clash e m same)

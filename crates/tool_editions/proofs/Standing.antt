-- The latest edition, as records come behind others. Assumes nothing.
use mathlib.Core.Path.{◌≡◌, refl, sym, ap, ◌∙◌}
use mathlib.Core.Bool.{Bool, true, false, cond, ◌||◌}
use mathlib.Core.List.{List, [], ◌∷◌, ◌++◌}
use Prim.Native.Nat.{ℕ, ◌<◌, ◌≤◌}
use native.Mathlib.Omega.{arith}
use lib.Dec.{eqb}
use borrow.Author.Tests.{eqb-true, eq-eqb, ne_eqb}
use Rattle.tool_editions.specs.Records.{number_of}
use Rattle.tool_editions.specs.Rules.{withdraws, withdrawn, given, later, latest_from, last_from}
use Rattle.tool_editions.specs.declared.Given.{Given}
use Rattle.tool_editions.specs.declared.records.Edition.{Edition}
use Rattle.tool_editions.specs.declared.records.Record.{Record}
use Rattle.tool_editions.specs.declared.records.Record.TheVariants.{Added, Withdrawn}

-- ---- a record more

or_false : (a : Bool) → a || false ≡ a
or_false true = refl
or_false false = refl

or_assoc : (a b c : Bool) → (a || b) || c ≡ a || (b || c)
or_assoc true b c = refl
or_assoc false b c = refl

withdrawn_behind : (n : ℕ) (rs : List Record) (r : Record) → withdrawn n (rs ++ (r ∷ [])) ≡ withdrawn n rs || withdraws r n
unfolding withdrawn
withdrawn_behind n [] r = or_false (withdraws r n)
withdrawn_behind n (s ∷ rs) r = rw (withdrawn_behind n rs r) (sym (or_assoc (withdraws s n) (withdrawn n rs) (withdraws r n)))

none_withdrawn : (n : ℕ) → withdrawn n [] ≡ false
unfolding withdrawn
none_withdrawn n = refl

pub added_behind : (g : Given) (any : Bool) (n : ℕ) (rs : List Record) (f : Edition)
    → latest_from g any n (rs ++ (Added f ∷ [])) ≡ cond (any || eqb f.number n) (given f) (latest_from g any n rs)
unfolding latest_from
added_behind g any n [] f = rw (none_withdrawn f.number)
added_behind g any n (s ∷ rs) f =
    ap (λ (gone : Bool). latest_from (later g any n s gone) any n (rs ++ (Added f ∷ [])))
    (withdrawn_behind (number_of s) rs (Added f) ∙ or_false (withdrawn (number_of s) rs))
    ∙ added_behind (later g any n s (withdrawn (number_of s) rs)) any n rs f

-- An edition of another number is neither found nor lost by what becomes of a record.
other : (g : Given) (n : ℕ) (e : Edition) (gone : Bool) → eqb e.number n ≡ false → later g false n (Added e) gone ≡ g
other g n e true h = refl
other g n e false h = rw h

-- A withdrawal of another number.
module _ (n m : ℕ) (apart : m ≡ n → ⊥) where
  by_number : (g : Given) (rs : List Record) (e : Edition) (t : Bool) → eqb e.number n ≡ t
      → later g false n (Added e) (withdrawn e.number (rs ++ (Withdrawn m ∷ []))) ≡ later g false n (Added e) (withdrawn e.number rs)
  by_number g rs e true h =
      let not-it : eqb m e.number ≡ false = ne_eqb m e.number (λ z. apart (z ∙ eqb-true _ _ h)) in
      rw (withdrawn_behind e.number rs (Withdrawn m), not-it, or_false (withdrawn e.number rs))
  by_number g rs e false h =
      other g n e (withdrawn e.number (rs ++ (Withdrawn m ∷ []))) h ∙ sym (other g n e (withdrawn e.number rs) h)

  pub other_withdrawn : (g : Given) (rs : List Record) → latest_from g false n (rs ++ (Withdrawn m ∷ [])) ≡ latest_from g false n rs
  unfolding latest_from
  other_withdrawn g [] = refl
  other_withdrawn g (Withdrawn k ∷ rs) = other_withdrawn g rs
  other_withdrawn g (Added e ∷ rs) =
      ap (λ (h : Given). latest_from h false n (rs ++ (Withdrawn m ∷ []))) (by_number g rs e (eqb e.number n) refl)
      ∙ other_withdrawn (later g false n (Added e) (withdrawn e.number rs)) rs

-- A withdrawal of this number.
module _ (n : ℕ) where
  or_true : (a : Bool) → a || true ≡ true
  or_true true = refl
  or_true false = refl

  lost : (g : Given) (rs : List Record) (e : Edition) (t : Bool) → eqb e.number n ≡ t
      → later g false n (Added e) (withdrawn e.number (rs ++ (Withdrawn n ∷ []))) ≡ g
  lost g rs e true h =
      let it : eqb n e.number ≡ true = eq-eqb n e.number (sym (eqb-true _ _ h)) in
      rw (withdrawn_behind e.number rs (Withdrawn n), it, or_true (withdrawn e.number rs))
  lost g rs e false h = other g n e (withdrawn e.number (rs ++ (Withdrawn n ∷ []))) h

  pub withdrawn_last : (g : Given) (rs : List Record) → latest_from g false n (rs ++ (Withdrawn n ∷ [])) ≡ g
  unfolding latest_from
  withdrawn_last g [] = refl
  withdrawn_last g (Withdrawn k ∷ rs) = withdrawn_last g rs
  withdrawn_last g (Added e ∷ rs) =
      ap (λ (h : Given). latest_from h false n (rs ++ (Withdrawn n ∷ []))) (lost g rs e (eqb e.number n) refl) ∙ withdrawn_last g rs

-- ---- editions that rise

abbrev pub Ascending : ℕ → List Record → Type 0
Ascending l [] = Unit {0}
Ascending l (Added e ∷ rs) = (l < e.number) × Ascending e.number rs
Ascending l (Withdrawn n ∷ rs) = Ascending l rs

pub ascending_added : (l : ℕ) (rs : List Record) (f : Edition) → Ascending l rs → last_from l rs < f.number → Ascending l (rs ++ (Added f ∷ []))
unfolding last_from
ascending_added l [] f a h = (h, tt)
ascending_added l (Added e ∷ rs) f a h = (a.0, ascending_added e.number rs f a.1 h)
ascending_added l (Withdrawn n ∷ rs) f a h = ascending_added l rs f a h

pub ascending_withdrawn : (l : ℕ) (rs : List Record) (m : ℕ) → Ascending l rs → Ascending l (rs ++ (Withdrawn m ∷ []))
ascending_withdrawn l [] m a = tt
ascending_withdrawn l (Added e ∷ rs) m a = (a.0, ascending_withdrawn e.number rs m a.1)
ascending_withdrawn l (Withdrawn n ∷ rs) m a = ascending_withdrawn l rs m a

last_above : (l : ℕ) (rs : List Record) → Ascending l rs → l ≤ last_from l rs
unfolding last_from
last_above l [] a = omega arith
last_above l (Added e ∷ rs) a = omega (arith, a.0, last_above e.number rs a.1)
last_above l (Withdrawn n ∷ rs) a = last_above l rs a

-- No edition above the last is found.
pub above_last : (l n : ℕ) (g : Given) (rs : List Record) → Ascending l rs → last_from l rs < n → latest_from g false n rs ≡ g
unfolding last_from latest_from
above_last l n g [] a h = refl
above_last l n g (Added e ∷ rs) a h =
    let apart : eqb e.number n ≡ false = ne_eqb e.number n (λ z. omega (arith, z, last_above e.number rs a.1)) in
    rw (other g n e (withdrawn e.number rs) apart) (above_last e.number n g rs a.1 h)
above_last l n g (Withdrawn m ∷ rs) a h = above_last l n g rs a h

-- ---- the newest

-- Of editions above l none stands, or e is the newest: it is found by its number, and none above it is.
pub data Top (l : ℕ) (rs : List Record) : Type 0 where
  nothing : ((g : Given) (any : Bool) (n : ℕ) → latest_from g any n rs ≡ g) → Top l rs
  top : (e : Edition) → l < e.number → ((g : Given) (n : ℕ) → latest_from g true n rs ≡ given e)
      → ((g : Given) → latest_from g false e.number rs ≡ given e)
      → ((g : Given) (n : ℕ) → e.number < n → latest_from g false n rs ≡ g) → Top l rs

behind_withdrawal : (l n : ℕ) (rs : List Record) → Top l rs → Top l (Withdrawn n ∷ rs)
unfolding latest_from
behind_withdrawal l n rs (nothing h) = nothing h
behind_withdrawal l n rs (top e lt any own above) = top e lt any own above

module _ (l : ℕ) (e : Edition) (rs : List Record) (lt : l < e.number) where
  by_gone : (t : Bool) → withdrawn e.number rs ≡ t → Top e.number rs → Top l (Added e ∷ rs)
  unfolding latest_from
  by_gone true is (nothing h) = nothing (λ g any n. rw is (h g any n))
  by_gone true is (top f lf any own above) =
      top f (omega arith) (λ g n. rw is (any g n)) (λ g. rw is (own g)) (λ g n b. rw is (above g n b))
  by_gone false is (nothing h) =
      top e lt (λ g n. rw is (h (given e) true n)) (λ g. rw (is, eq-eqb e.number e.number refl) (h (given e) false e.number))
      (λ g n b. rw (is, ne_eqb e.number n (λ z. omega (arith, z))) (h g false n))
  by_gone false is (top f lf any own above) =
      top f (omega arith) (λ g n. any (later g true n (Added e) (withdrawn e.number rs)) n)
      (λ g. own (later g false f.number (Added e) (withdrawn e.number rs)))
      (λ g n b. rw (is, ne_eqb e.number n (λ z. omega (arith, z))) (above g n b))

pub top_of : (l : ℕ) (rs : List Record) → Ascending l rs → Top l rs
unfolding latest_from
top_of l [] a = nothing (λ g any n. refl)
top_of l (Added e ∷ rs) a = by_gone l e rs a.0 (withdrawn e.number rs) refl (top_of e.number rs a.1)
top_of l (Withdrawn n ∷ rs) a = behind_withdrawal l n rs (top_of l rs a)

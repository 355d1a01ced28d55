-- What the records that were let say of a number, by the calls that made them. Assumes nothing.
use mathlib.Core.Path.{◌≡◌, refl, sym, subst, ◌∙◌}
use mathlib.Core.Logic.{◌⊎◌, inl, inr}
use mathlib.Core.Bool.{true, false, not, ◌&&◌}
use mathlib.Core.List.{List, [], ◌∷◌, ◌++◌}
use Prim.Native.Nat.{ℕ, ◌≤◌, ◌<◌}
use native.Mathlib.Omega.{arith}
use lib.Dec.{eqb, ltb, leb}
use lib.ListN.{length}
use borrow.Author.Tests.{eqb-true, eq-eqb, ne_eqb, not-false}
use Rattle.tool_editions.specs.Rules.{given, missing, latest_from, latest, last_from, refusal_of}
use Rattle.tool_editions.specs.declared.records.Edition.{Edition}
use Rattle.tool_editions.specs.declared.records.Record.{Record}
use Rattle.tool_editions.specs.declared.records.Record.TheVariants.{Added, Withdrawn}
use Rattle.tool_editions.proofs.Accepting.{no_refusal, last_behind}
use Rattle.tool_editions.proofs.Standing.{Ascending, ascending_added, ascending_withdrawn, added_behind, other_withdrawn, withdrawn_last}
use Rattle.tool_editions.proofs.Keeping.{above, by_same, standing_below}
use Rattle.claims_editions.specs.History.{In, WasAdded, WasWithdrawn}
use Rattle.claims_editions.proofs.Membership.{clash, clash_back, same_edition, same_number, in_front, in_last, in_cases}

pub record Facts (rs : List Record) : Type 0 where
  pub order : Ascending 0 rs
  pub found : (e : Edition) → In (Added e) rs → (WasWithdrawn e.number rs → ⊥) → latest false e.number rs ≡ given e
  pub lost : (n : ℕ) → (WasAdded n rs → ⊥) → latest false n rs ≡ missing 8
  pub gone : (n : ℕ) → WasWithdrawn n rs → (latest false n rs ≡ missing 8) × (n ≤ last_from 0 rs)
  pub highest : (e : Edition) → In (Added e) rs → e.number ≤ last_from 0 rs
  pub last_is : (last_from 0 rs ≡ 0) ⊎ WasAdded (last_from 0 rs) rs

pub nothing_yet : Facts []
unfolding latest_from last_from
nothing_yet =
    record {
      order = tt;
      found = λ e h w. absurd h;
      lost = λ n h. refl;
      gone = λ n h. absurd h;
      highest = λ e h. absurd h;
      last_is = inl refl;
    }

-- ---- an edition more

module _ (rs : List Record) (f : Edition) (p : Facts rs) (ok : refusal_of rs true (Added f) ≡ 0) where
  abbrev more : List Record
  more = rs ++ (Added f ∷ [])

  higher : last_from 0 rs < f.number
  higher = above rs f ok

  last_now : last_from 0 more ≡ f.number
  last_now = last_behind 0 rs (Added f)

  apart : (n : ℕ) → (f.number ≡ n → ⊥) → latest false n more ≡ latest false n rs
  apart n h = added_behind (missing 8) false n rs f ∙ rw (ne_eqb f.number n h)

  found_more : (e : Edition) → In (Added e) rs ⊎ (Added e ≡ Added f) → (WasWithdrawn e.number more → ⊥) → latest false e.number more ≡ given e
  found_more e (inl h) w =
      apart e.number (λ z. omega (arith, z, higher, p.highest e h)) ∙ p.found e h (λ x. w (in_front _ rs (Added f ∷ []) x))
  found_more e (inr same) w =
      rw (same_edition same) (added_behind (missing 8) false f.number rs f ∙ rw (eq-eqb f.number f.number refl))

  gone_more : (n : ℕ) → In (Withdrawn n) rs ⊎ (Withdrawn n ≡ Added f) → (latest false n more ≡ missing 8) × (n ≤ last_from 0 more)
  gone_more n (inl h) =
      let g = p.gone n h in
      (apart n (λ z. omega (arith, z, higher, g.1)) ∙ g.0, rw last_now (omega (arith, higher, g.1)))
  gone_more n (inr same) = absurd (clash_back f n same)

  highest_more : (e : Edition) → In (Added e) rs ⊎ (Added e ≡ Added f) → e.number ≤ last_from 0 more
  highest_more e (inl h) = rw last_now (omega (arith, higher, p.highest e h))
  highest_more e (inr same) = rw (last_now, same_edition same) (omega arith)

  pub added_facts : Facts more
  added_facts =
      record {
        order = ascending_added 0 rs f p.order higher;
        found = λ e h w. found_more e (in_cases (Added e) (Added f) rs h) w;
        lost = λ n none.
            apart n (λ z. none (f, in_last (Added f) rs, z)) ∙ p.lost n (λ a. none (a.0, in_front (Added a.0) rs (Added f ∷ []) a.1, a.2));
        gone = λ n h. gone_more n (in_cases (Withdrawn n) (Added f) rs h);
        highest = λ e h. highest_more e (in_cases (Added e) (Added f) rs h);
        last_is = inr (f, in_last (Added f) rs, sym last_now);
      }

-- ---- a withdrawal more

module _ (rs : List Record) (m : ℕ) (p : Facts rs) (ok : refusal_of rs true (Withdrawn m) ≡ 0) where
  abbrev fewer : List Record
  fewer = rs ++ (Withdrawn m ∷ [])

  same_last : last_from 0 fewer ≡ last_from 0 rs
  same_last = last_behind 0 rs (Withdrawn m)

  stood : (latest false m rs).refusal ≡ 0
  stood =
      let tests = no_refusal false (not (eqb (latest false m rs).refusal 0)) (true && ltb (length rs) 64) ok in
      eqb-true (latest false m rs).refusal 0 (not-false (eqb (latest false m rs).refusal 0) tests.1)

  still_added : (n : ℕ) → WasAdded n rs → WasAdded n fewer
  still_added n a = (a.0, in_front (Added a.0) rs (Withdrawn m ∷ []) a.1, a.2)

  found_fewer : (e : Edition) → In (Added e) rs ⊎ (Added e ≡ Withdrawn m) → (WasWithdrawn e.number fewer → ⊥) → latest false e.number fewer ≡ given e
  found_fewer e (inl h) w =
      let other : m ≡ e.number → ⊥ = λ z. w (subst (λ (x : ℕ). In (Withdrawn x) fewer) z (in_last (Withdrawn m) rs)) in
      other_withdrawn e.number m other (missing 8) rs ∙ p.found e h (λ x. w (in_front _ rs (Withdrawn m ∷ []) x))
  found_fewer e (inr same) w = absurd (clash e m same)

  gone_fewer : (n : ℕ) → In (Withdrawn n) rs ⊎ (Withdrawn n ≡ Withdrawn m) → (latest false n fewer ≡ missing 8) × (n ≤ last_from 0 fewer)
  gone_fewer n (inl h) =
      let g = p.gone n h in
      (by_same n m rs g.0 (eqb m n) refl, rw same_last g.1)
  gone_fewer n (inr same) =
      rw (same_number same, same_last)
      (withdrawn_last m (missing 8) rs, standing_below m rs p.order stood (leb m (last_from 0 rs)) refl)

  highest_fewer : (e : Edition) → In (Added e) rs ⊎ (Added e ≡ Withdrawn m) → e.number ≤ last_from 0 fewer
  highest_fewer e (inl h) = rw same_last (p.highest e h)
  highest_fewer e (inr same) = absurd (clash e m same)

  last_fewer : (last_from 0 rs ≡ 0) ⊎ WasAdded (last_from 0 rs) rs → (last_from 0 fewer ≡ 0) ⊎ WasAdded (last_from 0 fewer) fewer
  last_fewer (inl z) = inl (same_last ∙ z)
  last_fewer (inr a) = inr (rw same_last (still_added (last_from 0 rs) a))

  pub withdrawn_facts : Facts fewer
  withdrawn_facts =
      record {
        order = ascending_withdrawn 0 rs m p.order;
        found = λ e h w. found_fewer e (in_cases (Added e) (Withdrawn m) rs h) w;
        lost = λ n none. by_same n m rs (p.lost n (λ a. none (still_added n a))) (eqb m n) refl;
        gone = λ n h. gone_fewer n (in_cases (Withdrawn n) (Withdrawn m) rs h);
        highest = λ e h. highest_fewer e (in_cases (Added e) (Withdrawn m) rs h);
        last_is = last_fewer p.last_is;
      }

pub facts_behind : (rs : List Record) (r : Record) → Facts rs → refusal_of rs true r ≡ 0 → Facts (rs ++ (r ∷ []))
facts_behind rs (Added f) p ok = added_facts rs f p ok
facts_behind rs (Withdrawn m) p ok = withdrawn_facts rs m p ok

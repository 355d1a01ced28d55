-- Demand 1, refusal 10: of a hold, and of a record. Assumes nothing.
use mathlib.Core.Path.{◌≡◌, refl, sym, ap, subst, ◌∙◌}
use mathlib.Core.Bool.{Bool, true, false, cond}
use mathlib.Core.List.{List}
use Prim.Native.Nat.{ℕ}
use native.Mathlib.Omega.{arith}
use lib.Dec.{eqb, ltb}
use lib.ListN.{length}
use borrow.Author.Tests.{ne_eqb}
use Rattle.qsm.specs.model.Event.{done, answer_of, passes, resets, does, step}
use Rattle.qsm.specs.claims.Count.{limited}
use Rattle.qsm.proofs.Limit.{hold_if}
use Rattle.qsm.specs.declared.state.Module.{Module}
use Rattle.qsm.specs.declared.event.Access.{Access}
use Rattle.qsm.specs.declared.event.Done.{Done}
use Rattle.qsm.specs.declared.event.Event.{Event}
use Rattle.qsm.specs.declared.event.Event.TheVariants.{Reset, Hold}
use Rattle.qsm.specs.declared.event.Event.TheVariants as event
use Rattle.trace.specs.Trace.{byte_at, word_at, long_at, by_kind}
use Rattle.trace.specs.declared.Parsed.{Parsed}
use Rattle.trace.specs.declared.Parsed.TheVariants.{Record, Unknown, Cut}
use Rattle.claims_refusals.specs.Refusals.{past_limit}
use Rattle.claims_refusals.specs.Demand1.{Refusal10}
use Rattle.claims_refusals.proofs.Tests.{split}
use Rattle.claims_refusals.proofs.Accesses.{answered_access}

hold_gives : (m : Module) (pins : ℕ) (rxd : Bool) (n : ℕ) → eqb (does m (Hold pins rxd n)).refusal 10 ≡ passes m n
hold_gives m pins rxd n = hold_if (λ d. eqb d.refusal 10 ≡ passes m n) m pins rxd n (λ h. sym h) (λ h. sym h)

hold_leaves : (m : Module) (pins : ℕ) (rxd : Bool) (n : ℕ) → eqb (does m (Hold pins rxd n)).refusal 10 ≡ true → does m (Hold pins rxd n) ≡ done m 10 0
hold_leaves m pins rxd n = hold_if (λ d. eqb d.refusal 10 ≡ true → d ≡ done m 10 0) m pins rxd n (λ h k. refl) (λ h k. cc)

pub refusal10 : Refusal10
unfolding step answer_of
refusal10 = (
  hold_gives,
  (λ m pins rxd n h.
      let is : does m (Hold pins rxd n) ≡ done m 10 0 = hold_leaves m pins rxd n h in
      (ap (λ (d : Done). d.state) is, ap (λ (d : Done). d.refusal) is, ap (λ (d : Done). d.value) is)),
)

-- ---- by the kind of a record

-- The event of a record that is whole.
event_of_holds : (few : Bool) (e x : Event) (n k : ℕ) → cond few Cut (Record e n) ≡ Record x k → e ≡ x
event_of_holds true e x n k h = cc
event_of_holds false e x n k h = cc

module _ (m : Module) where
  pub reset_free : limited m Reset ≡ false
  unfolding step does resets answer_of
  reset_free = refl

  pub access_free : (a : Access) → limited m (event.Access a) ≡ false
  unfolding step does answer_of
  access_free a = ne_eqb (does m (event.Access a)).refusal 10 (λ e. omega (arith, e, answered_access m a))

  hold_limited : (pins : ℕ) (rxd : Bool) (n : ℕ) → limited m (Hold pins rxd n) ≡ passes m n
  unfolding step answer_of
  hold_limited pins rxd n = hold_gives m pins rxd n

  module _ (t : List ℕ) (e : Event) (n : ℕ) where
    -- The test by a kind k.
    abbrev Is : ℕ → Type 0
    Is k = by_kind k t ≡ Record e n →
        limited m e ≡ cond (eqb k 2) (passes m (word_at t 3)) (cond (eqb k 5) (passes m (long_at t 3)) false)

    by_event : (few : Bool) (x : Event) (j : ℕ) (b : Bool) → limited m x ≡ b → cond few Cut (Record x j) ≡ Record e n → limited m e ≡ b
    by_event few x j b is h = subst (λ (y : Event). limited m y ≡ b) (event_of_holds few x e j n h) is

    other : (k : ℕ) → eqb k 1 ≡ false → eqb k 2 ≡ false → eqb k 3 ≡ false → eqb k 4 ≡ false → eqb k 5 ≡ false → Is k
    other k a b c d f h =
        let none : by_kind k t ≡ Unknown = simp (a, b, c, d, f) in
        let z : ◌≡◌ {A = Parsed} Unknown (Record e n) = sym none ∙ h in
        cc

    by_each_kind : (k : ℕ) → Is k
    by_each_kind k =
        split k 1 (λ z. subst Is (sym z) (λ h. by_event false Reset 1 false reset_free h)) (λ n1.
        split k 2 (λ z. subst Is (sym z) (λ h. by_event (ltb (length t) 5) _ 5 _ (hold_limited _ _ _) h)) (λ n2.
        split k 3 (λ z. subst Is (sym z) (λ h. by_event (ltb (length t) 4) _ 4 _ (access_free _) h)) (λ n3.
        split k 4 (λ z. subst Is (sym z) (λ h. by_event (ltb (length t) 8) _ 8 _ (access_free _) h)) (λ n4.
        split k 5 (λ z. subst Is (sym z) (λ h. by_event (ltb (length t) 7) _ 7 _ (hold_limited _ _ _) h)) (λ n5.
        other k n1 n2 n3 n4 n5)))))

    pub limited_is : by_kind (byte_at t 0) t ≡ Record e n → limited m e ≡ past_limit m t
    limited_is h = by_each_kind (byte_at t 0) h

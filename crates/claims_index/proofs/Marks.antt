-- The laws of an index by the walk. Assumes nothing.
use mathlib.Core.Path.{◌≡◌, refl, sym, ap, ◌∙◌}
use mathlib.Core.Logic.{inl, inr}
use mathlib.Core.Bool.{Bool, true, false, cond}
use mathlib.Core.List.{List, ◌∷◌, ◌++◌}
use Prim.Native.Nat.{ℕ, zero, suc, ◌+◌, ◌-◌, ◌*◌, ◌/◌, ◌<◌, ◌≤◌}
use native.Mathlib.Omega.{arith}
use lib.Dec.{eqb, ltb}
use lib.ListN.{length, take, replicate}
use borrow.Author.Tests.{lt-ltb, le-ltb, ltb-true, ltb-false, le-leb, eqb-true, eqb-false}
use Rattle.tool_index.specs.Records.{records, bytes_of, resets_in}
use Rattle.tool_index.specs.Walk.{start}
use Rattle.tool_index.specs.Marks.{room, fresh, built}
use Rattle.tool_index.specs.Find as looking
use Rattle.tool_index.specs.declared.find.Found.{Found as Answer}
use Rattle.tool_index.specs.declared.walk.Position.{Position}
use Rattle.tool_index.proofs.Lawful.{builds, finds}
use Rattle.tool_index.proofs.Origin.{marks_are, none_missing}
use Rattle.claims_index.specs.Walk.{Place, there, walk, from_start}
use Rattle.claims_index.specs.Marks.{There, Nowhere, Builds, Fits, TooMany, Refused, NotRefused, Limit, Finds}
use Rattle.claims_index.proofs.Walked.{walk_is}

-- ---- a record is there

abbrev count : List ℕ → ℕ
count t = length (records t)

refusal_is : (t : List ℕ) (n : ℕ) (b : Bool) → ltb n (count t) ≡ b → (from_start t n).refusal ≡ cond b 0 2
refusal_is t n true is = ap (λ (p : Place). p.refusal) (walk_is n t 0 0) ∙ rw is
refusal_is t n false is = ap (λ (p : Place). p.refusal) (walk_is n t 0 0) ∙ rw is

by_count : (t : List ℕ) (n : ℕ) (b : Bool) → ltb n (count t) ≡ b
    → (There t n → n < count t) × (Nowhere t n → count t ≤ n) × (n < count t → from_start t n ≡ there (0 + bytes_of (take n (records t))) (0 + resets_in (take n (records t))))
by_count t n true is = (
  λ h. ltb-true n (count t) is,
  λ h. absurd (omega (arith, h, refusal_is t n true is)),
  λ h. walk_is n t 0 0 ∙ rw is,
)
by_count t n false is = (
  λ h. absurd (omega (arith, h, refusal_is t n false is)),
  λ h. ltb-false n (count t) is,
  λ h. absurd (omega (arith, h, ltb-false n (count t) is)),
)

is_there : (t : List ℕ) (n : ℕ) → There t n → n < count t
is_there t n = (by_count t n (ltb n (count t)) refl).0

is_nowhere : (t : List ℕ) (n : ℕ) → Nowhere t n → count t ≤ n
is_nowhere t n = (by_count t n (ltb n (count t)) refl).1

at_record : (t : List ℕ) (n : ℕ) → n < count t → from_start t n ≡ there (0 + bytes_of (take n (records t))) (0 + resets_in (take n (records t)))
at_record t n = (by_count t n (ltb n (count t)) refl).2

there_of : (t : List ℕ) (n : ℕ) → n < count t → There t n
there_of t n h = ap (λ (p : Place). p.refusal) (at_record t n h)

-- ---- the marks

pub by_walk : Builds
by_walk t lent k fine =
    let o = built t lent in
    let h = builds t lent fine in
    record {
      counted = λ here. none_missing t o.list o.given.marks k h (is_there t (256 * k) here);
      no_more = λ none.
          let least = is_nowhere t (256 * k) none in
          omega (arith, h.all, least);
      place = λ here.
          let there_is = is_there t (256 * k) here in
          let mark = (marks_are t o.list o.given.marks k h (none_missing t o.list o.given.marks k h there_is)).0 in
          ap (λ (p : Position). p.place) mark ∙ sym (ap (λ (p : Place). p.place) (at_record t (256 * k) there_is));
      resets = λ here.
          let there_is = is_there t (256 * k) here in
          let mark = (marks_are t o.list o.given.marks k h (none_missing t o.list o.given.marks k h there_is)).0 in
          ap (λ (p : Position). p.resets) mark ∙ sym (ap (λ (p : Place). p.resets) (at_record t (256 * k) there_is));
    }

-- ---- the refusal

abbrev needed : List ℕ → ℕ
needed t = 0 + fresh start t 0

is_needed : (t : List ℕ) → needed t ≡ (count t + 255) / 256
is_needed t = let none : 0 + count t ≡ count t = omega arith in rw none (omega arith)

beyond : (t lent : List ℕ) → room lent < needed t → ((built t lent).given.refusal ≡ 7) × ((built t lent).list ≡ lent)
unfolding built
beyond t lent h = rw (lt-ltb (room lent) (needed t) h) (refl, refl)

within : (t lent : List ℕ) → needed t ≤ room lent → (built t lent).given.refusal ≡ 0
unfolding built
within t lent h = rw (le-ltb (room lent) (needed t) h)

small : (t lent : List ℕ) (k : ℕ) → 256 * k < count t → TooMany lent k → room lent < needed t
small t lent k here (inl many) = omega (arith, is_needed t, here, many)
small t lent k here (inr short) = omega (arith, is_needed t, here, short)

pub refused : Refused
refused t lent k here many = beyond t lent (small t lent k (is_there t (256 * k) here) many)

by_any : (t lent : List ℕ) → ((k : ℕ) → There t (256 * k) → Fits lent k) → (b : Bool) → eqb (count t) 0 ≡ b → needed t ≤ room lent
by_any t lent all true is = omega (arith, is_needed t, eqb-true (count t) 0 is)
by_any t lent all false is =
    let some = eqb-false (count t) 0 is in
    let k = (count t - 1) / 256 in
    let fits = all k (there_of t (256 * k) (omega (arith, some))) in
    omega (arith, is_needed t, some, fits.0, fits.1)

pub not_refused : NotRefused
not_refused t lent all = within t lent (by_any t lent all (eqb (count t) 0) refl)

-- ---- resets alone

resets_there : (n k place resets : ℕ) → k < n → (walk k (replicate n 0x01) place resets).refusal ≡ 0
resets_there zero k place resets h = absurd (omega arith)
resets_there (suc n) zero place resets h = rw (le-leb 1 (length {A = ℕ} (0x01 ∷ replicate n 0x01)) (omega arith))
resets_there (suc n) (suc k) place resets h =
    rw (le-leb 1 (length {A = ℕ} (0x01 ∷ replicate n 0x01)) (omega arith)) (resets_there n k (place + 1) (resets + 1) (omega arith))

few_resets : (n k place resets : ℕ) → (walk k (replicate n 0x01) place resets).refusal ≡ 0 → k < n
few_resets zero zero place resets h = absurd (omega (arith, h))
few_resets zero (suc k) place resets h = absurd (omega (arith, h))
few_resets (suc n) zero place resets h = omega arith
few_resets (suc n) (suc k) place resets h =
    let rest = few_resets n k (place + 1) (resets + 1) (rw (le-leb 1 (length {A = ℕ} (0x01 ∷ replicate n 0x01)) (omega arith)) at h) in
    omega arith

pub limit : Limit
limit lent n =
    record {
      beyond = λ many. (refused (replicate n 0x01) lent 4096 (resets_there n (256 * 4096) 0 0 (omega arith)) (inl (omega arith))).0;
      up_to = λ few long.
          not_refused (replicate n 0x01) lent
          (λ k here. let less = few_resets n (256 * k) 0 0 here in (omega arith, omega arith));
    }

-- ---- looking up

record Same (f : Answer) (p : Place) : Type 0 where
  place : f.place ≡ p.place
  resets : f.resets ≡ p.resets
  refusal : f.refusal ≡ p.refusal

same_found : (t : List ℕ) (n : ℕ) (b : Bool) → ltb n (count t) ≡ b → Same (looking.found t n) (from_start t n)
same_found t n true is =
    let all : n - 0 ≡ n = omega arith in
    let none : 0 + count t ≡ count t = omega arith in
    rw (none, is, all, at_record t n (ltb-true n (count t) is)) (record { place = refl; resets = refl; refusal = refl })
same_found t n false is =
    let none : 0 + count t ≡ count t = omega arith in
    rw (none, is, walk_is n t 0 0, is) (record { place = refl; resets = refl; refusal = refl })

pub found : Finds
found t lent u n fine =
    let h = finds t u (built t lent).list (built t lent).given.marks n (builds t lent fine) in
    let s = same_found (t ++ u) n (ltb n (count (t ++ u))) refl in
    record { place = h.place ∙ s.place; resets = h.resets ∙ s.resets; refusal = h.refusal ∙ s.refusal }

-- A log whose answers all begin with a kind, and such logs one behind the other. Assumes nothing.
use mathlib.Core.Path.{◌≡◌, refl, sym, ◌∙◌}
use mathlib.Core.Logic.{⊎_elim}
use mathlib.Core.Bool.{Bool, true, false, cond, ◌||◌}
use mathlib.Core.List.{List, [], ◌++◌}
use Prim.Native.Nat.{ℕ, zero, suc, ◌+◌, ◌-◌, ◌*◌, ◌<◌, ◌≤◌}
use native.Mathlib.Nat.{add-mul, suc-mul, mul-le-mul_right}
use native.Mathlib.Omega.{arith}
use lib.Dec.{ltb}
use lib.ListN.{length, length-append, get_or-append}
use lib.Seq.{get_or-append-add}
use borrow.Author.Tests.{le-ltb, ltb-true, ltb-false}
use Rattle.answers.specs.Answer.{stride_of}
use Rattle.tool_compare.specs.Kind.{begun, begins, first_other, mixed}
use Rattle.tool_compare.proofs.Found.{below_or_last}
use Rattle.tool_compare.proofs.Beginning.{stride_positive, byte_there, is_begun, step}

bounded : (t u : Bool) (f n : ℕ) → f ≤ n → cond t f (cond u (suc n) n) ≤ suc n
bounded true u f n h = omega arith
bounded false true f n h = omega arith
bounded false false f n h = omega arith

module _ (kind : ℕ) (log : List ℕ) where
  at_most : (n : ℕ) → first_other kind log n ≤ n
  unfolding first_other
  at_most zero = omega arith
  at_most (suc n) = bounded (ltb (first_other kind log n) n) (begins kind log n) (first_other kind log n) n (at_most n)

  by_tests : (n : ℕ) (before here : Bool) → ltb (first_other kind log n) n ≡ before → begins kind log n ≡ here
      → first_other kind log (suc n) ≡ suc n → (first_other kind log n ≡ n) × (begins kind log n ≡ true)
  by_tests n true here p q e = absurd (omega (arith, step kind log n true here p q, ltb-true (first_other kind log n) n p))
  by_tests n false true p q e = (omega (arith, at_most n, ltb-false (first_other kind log n) n p), q)
  by_tests n false false p q e = absurd (omega (arith, step kind log n false false p q))

  each : (n : ℕ) → first_other kind log n ≡ n → (i : ℕ) → i < n → begins kind log i ≡ true
  each zero e i h = absurd (omega arith)
  each (suc n) e i h =
      let both = by_tests n (ltb (first_other kind log n) n) (begins kind log n) refl refl e in
      ⊎_elim (λ l. each n both.0 i l) (λ q. rw q both.1) (below_or_last i n h)

  all : (n : ℕ) → ((i : ℕ) → i < n → begins kind log i ≡ true) → first_other kind log n ≡ n
  unfolding first_other
  all zero h = refl
  all (suc n) h =
      let e = all n (λ i l. h i (omega arith)) in
      step kind log n false true (le-ltb (first_other kind log n) n (omega arith)) (h n (omega arith))

  -- Every answer that is there begins with the kind.
  abbrev pub Clean : Type 0
  Clean = (i : ℕ) → i * stride_of kind < length log → begins kind log i ≡ true

  abbrev count : ℕ
  count = begun (stride_of kind) log

  pub clean : mixed kind log ≡ false → Clean
  clean e i h =
      let whole : first_other kind log count ≡ count = omega (arith, at_most count, ltb-false (first_other kind log count) count e) in
      each count whole i (is_begun (stride_of kind) (stride_positive kind) log i h)

  pub unmixed : Clean → mixed kind log ≡ false
  unmixed c =
      let whole = all count (λ i h. c i (byte_there (stride_of kind) (stride_positive kind) log i h)) in
      le-ltb (first_other kind log count) count (omega arith)

pub unmixed_nothing : (kind : ℕ) → mixed kind [] ≡ false
unmixed_nothing kind = unmixed kind [] (λ i h. absurd (omega arith))

-- A log of n whole answers, and more behind it.
module _ (kind : ℕ) (log more : List ℕ) (n : ℕ) (long : length log ≡ n * stride_of kind) where
  begins_old : (i : ℕ) → i * stride_of kind < length log → begins kind (log ++ more) i ≡ begins kind log i
  begins_old i h = rw (get_or-append log more 0 (i * stride_of kind) h)

  begins_new : (i : ℕ) → begins kind (log ++ more) (n + i) ≡ begins kind more i
  begins_new i = rw (add-mul n i (stride_of kind), ← long, get_or-append-add log more (i * stride_of kind) 0)

  front : Clean kind (log ++ more) → Clean kind log
  front c i h = sym (begins_old i h) ∙ c i (simp length-append (omega arith))

  back : Clean kind (log ++ more) → Clean kind more
  back c i h = sym (begins_new i) ∙ c (n + i) (rw (add-mul n i (stride_of kind)) (simp length-append (omega arith)))

  by_place : Clean kind log → Clean kind more → (i : ℕ) (t : Bool) → ltb i n ≡ t → i * stride_of kind < length (log ++ more)
      → begins kind (log ++ more) i ≡ true
  by_place c d i true e h =
      let p : suc i * stride_of kind ≤ n * stride_of kind = mul-le-mul_right (stride_of kind) (ltb-true i n e) in
      let q : i * stride_of kind < length log = omega (arith, suc-mul i (stride_of kind), stride_positive kind) in
      begins_old i q ∙ c i q
  by_place c d i false e h =
      let p : n + (i - n) ≡ i = omega (arith, ltb-false i n e) in
      let q : (n + (i - n)) * stride_of kind < length log + length more = rw p (simp length-append at h) in
      rw p at (begins_new (i - n) ∙ d (i - n) (omega (arith, add-mul n (i - n) (stride_of kind))))

  joined : Clean kind log → Clean kind more → Clean kind (log ++ more)
  joined c d i h = by_place c d i (ltb i n) refl h

  by_cases : (x y z : Bool) → mixed kind log ≡ x → mixed kind more ≡ y → mixed kind (log ++ more) ≡ z → z ≡ x || y
  by_cases false false z e f g = sym g ∙ unmixed kind (log ++ more) (joined (clean kind log e) (clean kind more f))
  by_cases true y true e f g = refl
  by_cases false true true e f g = refl
  by_cases true y false e f g = sym (unmixed kind log (front (clean kind (log ++ more) g))) ∙ e
  by_cases false true false e f g = sym (unmixed kind more (back (clean kind (log ++ more) g))) ∙ f

  pub mixed_more : mixed kind (log ++ more) ≡ mixed kind log || mixed kind more
  mixed_more = by_cases (mixed kind log) (mixed kind more) (mixed kind (log ++ more)) refl refl refl

-- The verdict on one answer, on a log without one, and on logs that are put together. Assumes nothing.
use mathlib.Core.Path.{◌≡◌, refl, sym, ap, ◌∙◌}
use mathlib.Core.Bool.{Bool, true, false, cond, ◌&&◌, ◌||◌}
use mathlib.Core.List.{List, [], ◌++◌}
use Prim.Native.Nat.{ℕ, suc, ◌+◌, ◌*◌, ◌/◌, ◌%◌, ◌<◌, ◌≤◌, min}
use native.Mathlib.Omega.{arith}
use lib.Dec.{eqb, ltb}
use lib.ListN.{length, take, drop, length-append, length-drop, length-take}
use borrow.Author.Tests.{lt-ltb, le-ltb, ltb-true, ltb-false, eq-eqb, ne_eqb, eqb-true, eqb-false}
use Rattle.trace.specs.Trace.{answer_length}
use Rattle.answers.specs.Field.{field_at}
use Rattle.answers.specs.declared.Field.{Field}
use Rattle.answers.specs.declared.Field.TheVariants.{Kind}
use Rattle.tool_judge.specs.Verdict.{alike, equal, first_wrong, short, wrong_in, verdict, numbered, before}
use Rattle.tool_judge.specs.Verdict.{Verdict, accept, reject}
use Rattle.tool_judge.proofs.Beginnings.{alike_left, alike_right, alike_front, alike_past, alike_take}

-- ---- tests that come to the same

same_less : (a b c d : ℕ) → (c < d → a < b) → (d ≤ c → b ≤ a) → ltb a b ≡ ltb c d
same_less a b c d f g = go (ltb c d) refl
  where
    go : (t : Bool) → ltb c d ≡ t → ltb a b ≡ t
    go true h = lt-ltb a b (f (ltb-true c d h))
    go false h = le-ltb a b (g (ltb-false c d h))

same_test : (a b c d : ℕ) → (c ≡ d → a ≡ b) → (a ≡ b → c ≡ d) → eqb a b ≡ eqb c d
same_test a b c d f g = go (eqb c d) refl
  where
    go : (t : Bool) → eqb c d ≡ t → eqb a b ≡ t
    go true h = eq-eqb a b (f (eqb-true c d h))
    go false h = ne_eqb a b (λ e. eqb-false c d h (g e))

-- ---- the ways out

pub accepted : (x y : List ℕ) → alike x y ≡ length x → alike x y ≡ length y → verdict x y ≡ accept
unfolding verdict
accepted x y p q = simp (eq-eqb (alike x y) (length x) p, eq-eqb (alike x y) (length y) q)

-- Where two bytes differ, or one list ends before the other.
differs : (x y : List ℕ) → equal x y ≡ false → verdict x y ≡ reject (first_wrong x y) (wrong_in x y (first_wrong x y))
unfolding verdict
differs x y e = rw e

before_the_end : (x y : List ℕ) → alike x y < length x → equal x y ≡ false
before_the_end x y h = rw (ne_eqb (alike x y) (length x) (λ e. omega arith))

-- One answer beside at most as many bytes.
module _ (x y : List ℕ) (whole : length x ≡ answer_length) (most : length y ≤ answer_length) where
  pub one_right : alike x y ≡ answer_length → verdict x y ≡ accept
  one_right e = accepted x y (omega arith) (omega (arith, alike_right x y))

  one_wrong : (alike x y ≡ answer_length → ⊥) → verdict x y ≡ reject 0 (cond (ltb (length y) answer_length) Kind (field_at (alike x y)))
  one_wrong ne =
      let less : alike x y < answer_length = omega (arith, ne, alike_left x y) in
      let first : alike x y / answer_length ≡ 0 = omega arith in
      let place : alike x y % answer_length ≡ alike x y = omega arith in
      let there : ltb (length x) (answer_length * 1) ≡ false = le-ltb (length x) (answer_length * 1) (omega arith) in
      differs x y (before_the_end x y (omega arith)) ∙ rw (first, there, place)

  pub one_cut : (alike x y ≡ answer_length → ⊥) → length y < answer_length → verdict x y ≡ reject 0 Kind
  one_cut ne few = one_wrong ne ∙ rw (lt-ltb (length y) answer_length few)

  pub one_field : (alike x y ≡ answer_length → ⊥) → answer_length ≤ length y → verdict x y ≡ reject 0 (field_at (alike x y))
  one_field ne has = one_wrong ne ∙ rw (le-ltb (length y) answer_length has)

-- No answer beside no byte, and beside some.
pub none_right : (y : List ℕ) → length y ≡ 0 → verdict [] y ≡ accept
unfolding alike
none_right y e = accepted [] y refl (sym e)

pub none_wrong : (y : List ℕ) → 0 < length y → verdict [] y ≡ reject 0 Kind
unfolding verdict alike
none_wrong y some = rw (ne_eqb 0 (length y) (λ e. omega arith))

-- ---- logs that are put together

module _ (x x' log : List ℕ) (n : ℕ) (whole : length x ≡ answer_length * n) where
  abbrev front : List ℕ
  front = take (length x) log

  abbrev rest : List ℕ
  rest = drop (length x) log

  front_length : length front ≡ min (length x) (length log)
  front_length = length-take (length x) log

  module _ (all : alike x log ≡ length x) where
    within : length x ≤ length log
    within = omega (arith, alike_right x log)

    on : alike (x ++ x') log ≡ length x + alike x' rest
    on = alike_past x x' log all

    good : verdict x front ≡ accept
    good = accepted x front (alike_take x log ∙ all) (alike_take x log ∙ all ∙ omega (arith, front_length, within))

    next_wrong : first_wrong (x ++ x') log ≡ n + first_wrong x' rest
    next_wrong = rw (on, whole) (omega arith)

    next_place : alike (x ++ x') log % answer_length ≡ alike x' rest % answer_length
    next_place = rw (on, whole) (omega arith)

    same_short : (k : ℕ) → short (x ++ x') (n + k) ≡ short x' k
    same_short k = same_less (length (x ++ x')) (answer_length * suc (n + k)) (length x') (answer_length * suc k) (λ h. omega (arith, h, length-append x x', whole)) (λ h. omega (arith, h, length-append x x', whole))

    same_cut : (k : ℕ) → short log (n + k) ≡ short rest k
    same_cut k = same_less (length log) (answer_length * suc (n + k)) (length rest) (answer_length * suc k) (λ h. omega (arith, h, length-drop (length x) log, within, whole)) (λ h. omega (arith, h, length-drop (length x) log, within, whole))

    ends : eqb (length x + alike x' rest) (length (x ++ x')) ≡ eqb (alike x' rest) (length x')
    ends =
        same_test (length x + alike x' rest) (length (x ++ x')) (alike x' rest) (length x')
        (λ e. omega (arith, e, length-append x x')) (λ e. omega (arith, e, length-append x x'))

    log_ends : eqb (length x + alike x' rest) (length log) ≡ eqb (alike x' rest) (length rest)
    log_ends =
        same_test (length x + alike x' rest) (length log) (alike x' rest) (length rest)
        (λ e. omega (arith, e, length-drop (length x) log, within)) (λ e. omega (arith, e, length-drop (length x) log, within))

    same_equal : equal (x ++ x') log ≡ equal x' rest
    same_equal =
        ap (λ (k : ℕ). eqb k (length (x ++ x')) && eqb k (length log)) on
        ∙ ap (λ (t : Bool). t && eqb (length x + alike x' rest) (length log)) ends
        ∙ ap (λ (t : Bool). eqb (alike x' rest) (length x') && t) log_ends

    counted_on : (t : Bool) (k : ℕ) (f : Field) → cond t accept (reject (n + k) f) ≡ numbered n (cond t accept (reject k f))
    counted_on true k f = refl
    counted_on false k f = refl

    after_good : verdict (x ++ x') log ≡ before (verdict x front) (numbered n (verdict x' rest))
    unfolding verdict
    after_good =
        ap (λ (t : Bool). cond t accept (reject (first_wrong (x ++ x') log) (wrong_in (x ++ x') log (first_wrong (x ++ x') log)))) same_equal
        ∙ ap (λ (k : ℕ). cond (equal x' rest) accept (reject k (wrong_in (x ++ x') log k))) next_wrong
        ∙ ap (λ (t : Bool). cond (equal x' rest) accept (reject (n + first_wrong x' rest) (cond (t || short log (n + first_wrong x' rest)) Kind (field_at (alike (x ++ x') log % answer_length))))) (same_short (first_wrong x' rest))
        ∙ ap (λ (t : Bool). cond (equal x' rest) accept (reject (n + first_wrong x' rest) (cond (short x' (first_wrong x' rest) || t) Kind (field_at (alike (x ++ x') log % answer_length))))) (same_cut (first_wrong x' rest))
        ∙ ap (λ (p : ℕ). cond (equal x' rest) accept (reject (n + first_wrong x' rest) (cond (short x' (first_wrong x' rest) || short rest (first_wrong x' rest)) Kind (field_at p)))) next_place
        ∙ counted_on (equal x' rest) (first_wrong x' rest) (wrong_in x' rest (first_wrong x' rest))
        ∙ sym (ap (λ (v : Verdict). before v (numbered n (verdict x' rest))) good)

  module _ (less : alike x log < length x) where
    still : alike (x ++ x') log ≡ alike x front
    still = alike_front x x' log less ∙ sym (alike_take x log)

    k : ℕ
    k = alike x front / answer_length

    inside : answer_length * suc k ≤ length x
    unfolding k
    inside = omega (arith, less, alike_take x log, whole)

    after_wrong : verdict (x ++ x') log ≡ before (verdict x front) (numbered n (verdict x' rest))
    unfolding k
    after_wrong =
        let a : short (x ++ x') k ≡ short x k = same_less (length (x ++ x')) (answer_length * suc k) (length x) (answer_length * suc k) (λ h. omega (arith, h, inside)) (λ h. omega (arith, inside, length-append x x')) in
        let b : short log k ≡ short front k = same_less (length log) (answer_length * suc k) (length front) (answer_length * suc k) (λ h. omega (arith, h, front_length, inside)) (λ h. omega (arith, h, front_length)) in
        differs (x ++ x') log (before_the_end (x ++ x') log (omega (arith, length-append x x', still, alike_take x log)))
        ∙ ap (λ (j : ℕ). reject (j / answer_length) (cond (short (x ++ x') (j / answer_length) || short log (j / answer_length)) Kind (field_at (j % answer_length)))) still
        ∙ ap (λ (t : Bool). reject k (cond (t || short log k) Kind (field_at (alike x front % answer_length)))) a
        ∙ ap (λ (t : Bool). reject k (cond (short x k || t) Kind (field_at (alike x front % answer_length)))) b
        ∙ sym (ap (λ (v : Verdict). before v (numbered n (verdict x' rest))) (differs x front (before_the_end x front (omega (arith, alike_take x log)))))

  -- The verdict on the first n answers stands before that on the rest, whose answers are numbered on.
  pub joined : verdict (x ++ x') log ≡ before (verdict x front) (numbered n (verdict x' rest))
  joined = go (eqb (alike x log) (length x)) refl
    where
      go : (t : Bool) → eqb (alike x log) (length x) ≡ t → verdict (x ++ x') log ≡ before (verdict x front) (numbered n (verdict x' rest))
      go true e = after_good (eqb-true (alike x log) (length x) e)
      go false e = let no = eqb-false (alike x log) (length x) e in after_wrong (omega (arith, no, alike_left x log))

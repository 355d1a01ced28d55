-- Each way out of a comparison, held to `compared` and `compared_as`. Assumes nothing.
use mathlib.Core.Path.{◌≡◌, refl}
use mathlib.Core.Bool.{Bool, true, false, cond, ◌&&◌, ◌||◌}
use mathlib.Core.List.{List, ◌++◌}
use Prim.Native.Nat.{ℕ, ◌+◌, ◌-◌, ◌*◌, ◌/◌, ◌%◌, ◌<◌, ◌≤◌}
use native.Mathlib.Nat.{mul-le-mul_right, min-le_left, min-le_right, div-mul-le_self}
use native.Mathlib.Omega.{arith}
use lib.ListN.{length, take, drop, length-drop}
use lib.Seq.{take_all}
use lib.Dec.{eqb, ltb}
use borrow.Author.Tests.{eq-eqb, ne_eqb, lt-ltb, le-ltb}
use Rattle.answers.specs.Answer.{fields_of, stride}
use Rattle.tool_compare.specs.Kind.{mixed}
use Rattle.tool_compare.specs.Compare.{differing, listed, common_end, common, cut, Outcome, refused, reported, compared, compared_as, Reports}

-- The answers that both have are within both.
pub common_within : (bytes : ℕ) (a b : List ℕ) → (common bytes a b * bytes ≤ length a) × (common bytes a b * bytes ≤ length b)
common_within bytes a b =
    let p : common bytes a b * bytes ≤ length a / bytes * bytes = mul-le-mul_right bytes (min-le_left _ _) in
    let q : common bytes a b * bytes ≤ length b / bytes * bytes = mul-le-mul_right bytes (min-le_right _ _) in
    (omega (arith, div-mul-le_self (length a) bytes), omega (arith, div-mul-le_self (length b) bytes))

module _ (fs a b lent : List ℕ) {bytes : ℕ} (bytes_is : bytes ≡ stride fs) where
  pub cut_first : (length a % bytes ≡ 0 → ⊥) → compared fs a b lent ≡ refused a b lent 6
  unfolding compared
  cut_first ne = rw (← bytes_is, ne_eqb (length a % bytes) 0 ne)

  module _ (first : length a % bytes ≡ 0) where
    pub cut_second : (length b % bytes ≡ 0 → ⊥) → compared fs a b lent ≡ refused a b lent 6
    unfolding compared
    cut_second ne = rw (← bytes_is, eq-eqb (length a % bytes) 0 first, ne_eqb (length b % bytes) 0 ne)

    module _ (second : length b % bytes ≡ 0) {n k : ℕ} (n_is : n ≡ common bytes a b) (k-is : k ≡ length (differing bytes a b n)) where
      pub short : length lent / 2 < k → compared fs a b lent ≡ refused a b lent 7
      unfolding compared
      short h =
          rw (← bytes_is, eq-eqb (length a % bytes) 0 first, eq-eqb (length b % bytes) 0 second, ← n_is, lt-ltb (length lent) (2 * length (differing bytes a b n)) (omega arith))

      pub enough : k ≤ length lent / 2 → compared fs a b lent ≡ reported fs a b lent (differing bytes a b n)
      unfolding compared
      enough h =
          rw (← bytes_is, eq-eqb (length a % bytes) 0 first, eq-eqb (length b % bytes) 0 second, ← n_is, le-ltb (length lent) (2 * length (differing bytes a b n)) (omega arith))

-- By the test of the kind.
module _ (kind : ℕ) (a b lent : List ℕ) where
  pub other_kind_holds : mixed kind a || mixed kind b ≡ true → compared_as kind a b lent ≡ refused a b lent 5
  unfolding compared_as
  other_kind_holds e = rw e

  pub one_kind : mixed kind a || mixed kind b ≡ false → compared_as kind a b lent ≡ compared (fields_of kind) a b lent
  unfolding compared_as
  one_kind e = rw e

-- Of which log the stretch is, and where it starts, by the refusal and the lengths.
module _ (fs a b lent : List ℕ) where
  by_tests : (bad short : Bool) →
      let o = cond bad (refused a b lent 6) (cond short (refused a b lent 7) (reported fs a b lent (differing (stride fs) a b (common (stride fs) a b)))) in
      (o.second ≡ eqb o.refusal 0 && ltb (length a) (length b)) × (o.start ≡ common_end a b)
  by_tests true short = (refl, refl)
  by_tests false true = (refl, refl)
  by_tests false false = (refl, refl)

  pub stretch_of : ((compared fs a b lent).second ≡ eqb (compared fs a b lent).refusal 0 && ltb (length a) (length b))
      × ((compared fs a b lent).start ≡ common_end a b)
  unfolding compared
  stretch_of =
      by_tests (cut (stride fs) a || cut (stride fs) b) (ltb (length lent) (2 * length (differing (stride fs) a b (common (stride fs) a b))))

module _ (kind : ℕ) (a b lent : List ℕ) where
  abbrev Stretch : Outcome → Type 0
  Stretch o = (o.second ≡ eqb o.refusal 0 && ltb (length a) (length b)) × (o.start ≡ common_end a b)

  of_kind : (bad : Bool) → Stretch (cond bad (refused a b lent 5) (compared (fields_of kind) a b lent))
  of_kind true = (refl, refl)
  of_kind false = stretch_of (fields_of kind) a b lent

  pub stretch_as : Stretch (compared_as kind a b lent)
  unfolding compared_as
  stretch_as = of_kind (mixed kind a || mixed kind b)

-- What is lent from a place on is the rest.
rest : (l : List ℕ) (at : ℕ) → take (length l - at) (drop at l) ≡ drop at l
rest l at = take_all (length l - at) (drop at l) (simp length-drop (omega arith))

-- Logs that stand at p and q.
module _ (a b lent : List ℕ) (p q : ℕ × ℕ) {start : ℕ} (start_is : start ≡ common_end a b) where
  pub refuses : {o : Outcome} {why : ℕ} → o ≡ refused a b lent why
      → Reports o p q lent 0 why (take (start - start) (drop start a)) (p.0, start + p.1)
  refuses is =
      let none : start - start ≡ 0 = omega arith in
      rw (is, none, start_is) (record { list_is = refl; count_is = refl; refusal_is = refl; part_is = refl; place_is = refl })

  module _ (fs : List ℕ) (bytes n : ℕ) {o : Outcome} {list : List ℕ} {k : ℕ} (is : o ≡ reported fs a b lent (differing bytes a b n))
      (list_is : list ≡ listed fs a b (differing bytes a b n) ++ drop (2 * length (differing bytes a b n)) lent)
      (k-is : k ≡ length (differing bytes a b n)) where
    pub reports_second : length a < length b
        → Reports o p q list k 0 (take (length b - start) (drop start b)) (q.0, start + q.1)
    reports_second lt =
        let least : common_end a b ≡ length a = omega arith in
        rw (is, rest b start, start_is, lt-ltb (length a) (length b) lt, least)
        (record { list_is = list_is; count_is = k-is; refusal_is = refl; part_is = refl; place_is = refl })

    pub reports_first : length b ≤ length a
        → Reports o p q list k 0 (take (length a - start) (drop start a)) (p.0, start + p.1)
    reports_first le =
        let least : common_end a b ≡ length b = omega arith in
        rw (is, rest a start, start_is, le-ltb (length a) (length b) le, least)
        (record { list_is = list_is; count_is = k-is; refusal_is = refl; part_is = refl; place_is = refl })

-- The marks of a trace or of a beginning of it are positions of the walk from the start. Assumes nothing.
use mathlib.Core.Path.{◌≡◌, refl, sym, ap, subst, ◌∙◌}
use mathlib.Core.Bool.{Bool, true, false, cond, ◌&&◌}
use mathlib.Core.List.{List, ◌++◌}
use Prim.Native.Nat.{ℕ, zero, suc, ◌+◌, ◌-◌, ◌*◌, ◌/◌, ◌<◌, min}
use native.Mathlib.Omega.{arith}
use lib.Dec.{ltb, eqb}
use lib.ListN.{length, get_or, take, length-take, get_or-append}
use lib.Seq.{get_or-take, get_or-append-add}
use borrow.Author.Tests.{ltb-true, ltb-false, eq-eqb, ne_eqb, eqb-true, eqb-false, le-leb}
use Rattle.tool_index.specs.Records.{records}
use Rattle.tool_index.specs.Walk.{start, past, walked, possible}
use Rattle.tool_index.specs.Marks.{spacing, mark, marks_from, held, mark_at, mark_for}
use Rattle.tool_index.specs.Laws.{Holds, MarksAre, NoneMissing}
use Rattle.tool_index.specs.declared.walk.Position.{Position}
use Rattle.tool_index.specs.declared.walk.Walked.{Walked}
use Rattle.tool_index.proofs.Walking.{Walking, starts, number_is, place_is, resets_below, came}
use Rattle.tool_index.proofs.Marking.{marks_length}
use Rattle.tool_index.proofs.Resuming.{same_walk}

-- Mark number k of a row of marks.
module _ (p : Position) (t : List ℕ) (c : ℕ) where
  abbrev At : ℕ → ℕ → Type 0
  At j k =
      (get_or (marks_from p t c j) (2 * k) 0 ≡ (walked p t (spacing * (c + k))).at.place)
      × (get_or (marks_from p t c j) (2 * k + 1) 0 ≡ (walked p t (spacing * (c + k))).at.resets)

  last : (j k : ℕ) → k ≡ j → At (suc j) k
  unfolding marks_from
  last j k e =
      let ms = marks_from p t c j in
      let m = mark p t (c + j) in
      let l = marks_length p t c j in
      let z : 2 * k ≡ length ms + 0 = omega arith in
      let o : 2 * k + 1 ≡ length ms + 1 = omega arith in (
        ap (λ (i : ℕ). get_or (ms ++ m) i 0) z ∙ get_or-append-add ms m 0 0 ∙ ap (λ (i : ℕ). (walked p t (spacing * (c + i))).at.place) (sym e),
        ap (λ (i : ℕ). get_or (ms ++ m) i 0) o ∙ get_or-append-add ms m 1 0 ∙ ap (λ (i : ℕ). (walked p t (spacing * (c + i))).at.resets) (sym e),
      )

  by_order : (j k : ℕ) → k < suc j → (k < j → At j k) → (b : Bool) → ltb k j ≡ b → At (suc j) k
  unfolding marks_from
  by_order j k lt below true h =
      let less = ltb-true k j h in
      let ms = marks_from p t c j in
      let m = mark p t (c + j) in
      let l = marks_length p t c j in
      (get_or-append ms m 0 (2 * k) (omega arith) ∙ (below less).0, get_or-append ms m 0 (2 * k + 1) (omega arith) ∙ (below less).1)
  by_order j k lt below false h = last j k (omega (arith, ltb-false k j h))

  pub mark_in : (j k : ℕ) → k < j → At j k
  mark_in zero k lt = absurd (omega arith)
  mark_in (suc j) k lt = by_order j k lt (mark_in j k) (ltb k j) refl

position_same : {a b c d e f : ℕ} → a ≡ d → b ≡ e → c ≡ f → ◌≡◌ {A = Position} (record { number = a; place = b; resets = c }) (record { number = d; place = e; resets = f })
position_same x y z = rw (x, y, z)

module _ (t lent : List ℕ) (count : ℕ) (h : Holds t lent count) (k : ℕ) (lt : k < count) where
  pub record_there_holds : spacing * k < length (records t)
  record_there_holds = omega (arith, h.all)

  pub mark_position : mark_at lent k ≡ (walked start t (spacing * k)).at
  mark_position =
      let m = mark_in start t 0 count k lt in
      let zero-plus : 0 + k ≡ k = omega arith in
      let first : get_or lent (2 * k) 0 ≡ (walked start t (spacing * k)).at.place =
      sym (get_or-take (2 * count) lent (2 * k) 0 (omega arith)) ∙ ap (λ (l : List ℕ). get_or l (2 * k) 0) h.marks ∙ m.0 ∙ ap (λ (i : ℕ). (walked start t (spacing * i)).at.place) zero-plus in
      let second : get_or lent (2 * k + 1) 0 ≡ (walked start t (spacing * k)).at.resets =
      sym (get_or-take (2 * count) lent (2 * k + 1) 0 (omega arith)) ∙ ap (λ (l : List ℕ). get_or l (2 * k + 1) 0) h.marks ∙ m.1 ∙ ap (λ (i : ℕ). (walked start t (spacing * i)).at.resets) zero-plus in
      position_same (omega (arith, record_there_holds, length-take (spacing * k - 0) (records t))) first second

pub marks_are : MarksAre
marks_are t lent count k h lt =
    let e : spacing * k - 0 ≡ spacing * k = omega arith in
    (mark_position t lent count h k lt ∙ ap (λ (n : ℕ). past start (take n (records t))) e, record_there_holds t lent count h k lt)

pub none_missing : NoneMissing
none_missing t lent count k h there = omega (arith, h.all)

-- The mark for record n, or the last one, in a trace that has grown: where the walk from the start stands at record m.
pub record Origin (t lent : List ℕ) (count n : ℕ) : Type 0 where
  pub m : ℕ
  pub walking : Walking start t m (mark_for lent (held lent count) n) (mark_for lent (held lent count) n).place
  pub m_is : m ≡ spacing * min (n / spacing) (count - 1)
  pub number : (mark_for lent (held lent count) n).number ≡ m
  pub possible_is : possible (mark_for lent (held lent count) n) (length t) ≡ true

pub and_true : (a b : Bool) → a ≡ true → b ≡ true → a && b ≡ true
and_true true b e f = f
and_true false b e f = e

module _ (t u lent : List ℕ) (count n : ℕ) (h : Holds t lent count) where
  abbrev grown : List ℕ
  grown = t ++ u

  held_is : held lent count ≡ count
  held_is = omega (arith, h.fit)

  -- Any walk from the start stands at a possible position.
  from_walking : {m : ℕ} {q : Position} → Walking start grown m q q.place → possible q (length grown) ≡ true
  from_walking {m} {q} w =
      and_true _ _ (le-leb q.resets q.number (omega (arith, resets_below w, number_is w)))
      (and_true _ _ (le-leb q.number q.place (omega (arith, number_is w, w.each))) (le-leb q.place (length grown) w.within))

  none : count ≡ 0 → Origin grown lent count n
  none z =
      let e : held lent count ≡ 0 = held_is ∙ z in
      let p : mark_for lent (held lent count) n ≡ start = rw (eq-eqb (held lent count) 0 e) in
      let w : Walking start grown 0 start 0 = starts start grown 0 in
      record {
        m = 0;
        walking = rw p w;
        m_is = omega arith;
        number = rw p;
        possible_is = rw p (from_walking w);
      }

  some : (count ≡ 0 → ⊥) → Origin grown lent count n
  some nz =
      let k = min (n / spacing) (count - 1) in
      let lt : k < count = omega (arith, nz) in
      let r = (walked start grown (spacing * k)).at in
      let e : mark_for lent (held lent count) n ≡ mark_at lent k =
      ap (λ (c : ℕ). cond (eqb c 0) start (mark_at lent (min (n / spacing) (c - 1)))) held_is ∙ rw (ne_eqb count 0 nz) in
      let p : mark_for lent (held lent count) n ≡ r =
      e ∙ mark_position t lent count h k lt
      ∙ sym (ap (λ (x : Walked). x.at) (same_walk start t u (spacing * k) (omega (arith, record_there_holds t lent count h k lt)))) in
      let w = came start grown (spacing * k) in
      let same : (walked start grown (spacing * k)).read ≡ r.place = omega (arith, place_is w) in
      let w' : Walking start grown (spacing * k) r r.place = subst (Walking start grown (spacing * k) r) same w in
      record {
        m = spacing * k;
        walking = rw p w';
        m_is = refl;
        number = ap (λ (x : Position). x.number) e;
        possible_is = rw p (from_walking w');
      }

  by_count : (b : Bool) → eqb count 0 ≡ b → Origin grown lent count n
  by_count true e = none (eqb-true count 0 e)
  by_count false e = some (eqb-false count 0 e)

  pub origin : Origin grown lent count n
  origin = by_count (eqb count 0) refl

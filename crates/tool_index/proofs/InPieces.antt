-- Pieces of a trace, indexed one after the other, give what the whole gives. Assumes nothing.
use mathlib.Core.Path.{◌≡◌, refl, sym, ap, subst, ◌∙◌}
use mathlib.Core.Bool.{Bool, true, false}
use mathlib.Core.List.{List, [], ◌∷◌, ◌++◌}
use Prim.Native.Nat.{ℕ, ◌+◌, ◌-◌, ◌*◌, ◌≤◌}
use native.Mathlib.Omega.{arith}
use lib.Dec.{ltb, leb}
use lib.ListN.{length, take, drop, length-append, length-drop}
use lib.Seq.{drop-append-le, take_all}
use borrow.Author.Tests.{le-leb, leb-true, leb-false, ltb-false}
use Rattle.tool_index.specs.Records.{records, bytes_of, rest}
use Rattle.tool_index.specs.Walk.{past, up_to, walked, largest, possible}
use Rattle.tool_index.specs.Marks.{spacing, marks_from, room, held, fresh, grown, report, indexed_from, gone_on}
use Rattle.tool_index.specs.Laws.{InPieces, WalksOn}
use Rattle.tool_index.specs.declared.walk.Position.{Position}
use Rattle.tool_index.specs.declared.walk.Walked.{Walked}
use Rattle.tool_index.proofs.Items.{records_within}
use Rattle.tool_index.proofs.Walking.{Walking, number_is, place_is, resets_below, walks_on, came}
use Rattle.tool_index.proofs.Possible.{possible_is}
use Rattle.tool_index.proofs.Marking.{written_length, written_take, written_drop}
use Rattle.tool_index.proofs.Resuming.{marks_same, resumed, same_walk, more_records}
use Rattle.tool_index.proofs.Origin.{and_true}

-- A walk leaves a position that a trace can have.
walks_possibly : {p : Position} {t : List ℕ} {m : ℕ} {q : Position} {read : ℕ} → Walking p t m q read → length t ≤ largest
    → possible p (largest - length t) ≡ true → possible q (largest - length (drop read t)) ≡ true
walks_possibly {p} {t} {m} {q} {read} w long h =
    let d = possible_is p (largest - length t) h in
    let n = number_is w in
    and_true _ _ (le-leb q.resets q.number (omega (arith, resets_below w, d.resets)))
    (and_true _ _ (le-leb q.number q.place (omega (arith, place_is w, w.each, d.number)))
    (le-leb q.place (largest - length (drop read t)) (omega (arith, place_is w, length-drop read t, w.within, d.place))))

module _ (p : Position) (t u lent : List ℕ) where
  -- The position past the records of t, and what is left there.
  abbrev q : Position
  q = past p (records t)

  abbrev last : ℕ
  last = p.number + length (records t)

  all_of : walked p (t ++ u) last ≡ record { at = q; read = bytes_of (records t) }
  all_of =
      let e : up_to p t last ≡ records t = take_all (last - p.number) (records t) (omega arith) in
      same_walk p t u last (omega arith) ∙ rw e

  stands : Walking p (t ++ u) last q (bytes_of (records t))
  stands =
      subst (λ (w : Walked). Walking p (t ++ u) last w.at w.read) all_of (came p (t ++ u) last)

  rest_is : drop (bytes_of (records t)) (t ++ u) ≡ rest t ++ u
  rest_is = drop-append-le (bytes_of (records t)) t u (records_within t)

  still_possible : length (t ++ u) ≤ largest → possible p (largest - length (t ++ u)) ≡ true → possible q (largest - length (rest t ++ u)) ≡ true
  still_possible long h = rw (← rest_is) (walks_possibly stands long h)

  so_far : length (t ++ u) ≤ largest → possible p (largest - length (t ++ u)) ≡ true → possible p (largest - length t) ≡ true
  so_far long h =
      let d = possible_is p (largest - length (t ++ u)) h in
      and_true _ _ (le-leb p.resets p.number d.resets)
      (and_true _ _ (le-leb p.number p.place d.number) (le-leb p.place (largest - length t) (omega (arith, d.place, length-append t u))))

  module _ (c : ℕ) (le : c ≤ room lent) (fits : c + fresh p t c ≤ room lent) where
    abbrev k : ℕ
    k = c + fresh p t c

    abbrev list : List ℕ
    list = grown p t lent c

    long : 2 * k ≤ length lent
    long = omega arith

    front : take (2 * k) list ≡ take (2 * c) lent ++ marks_from p (t ++ u) c (k - c)
    front =
        let e : k - c ≡ fresh p t c = omega arith in
        written_take p t c (fresh p t c) lent long
        ∙ ap (λ (l : List ℕ). take (2 * c) lent ++ l)
        (marks_same p p t (t ++ u) c (fresh p t c)
        (λ i lt. sym (ap (λ (w : Walked). w.at.place ∷ w.at.resets ∷ []) (same_walk p t u (spacing * (c + i)) (omega arith)))))
        ∙ ap (λ (n : ℕ). take (2 * c) lent ++ marks_from p (t ++ u) c n) (sym e)

    pub joined : ((indexed_from q (rest t ++ u) list k).given ≡ (indexed_from p (t ++ u) lent c).given)
        × ((indexed_from p (t ++ u) lent c).given.refusal ≡ 0 → (indexed_from q (rest t ++ u) list k).list ≡ (indexed_from p (t ++ u) lent c).list)
    joined =
        let s = resumed stands lent list c k (omega arith) (omega arith) (omega (arith, more_records t u)) front (written_drop p t c (fresh p t c) lent long) (written_length p t c (fresh p t c) lent long) in
        rw (← rest_is) (s.0, s.1)

not_refused : (p : Position) (t lent : List ℕ) (c : ℕ) (b : Bool) → ltb (room lent) (c + fresh p t c) ≡ b → (indexed_from p t lent c).given.refusal ≡ 0
    → (c + fresh p t c ≤ room lent) × (indexed_from p t lent c ≡ record { list = grown p t lent c; given = report p t c 0 })
not_refused p t lent c true e z = absurd (let y = rw e at z in omega arith)
not_refused p t lent c false e z = (ltb-false (room lent) (c + fresh p t c) e, rw e)

goes : (p : Position) (t lent : List ℕ) (count : ℕ) → possible p (largest - length t) ≡ true → gone_on p t lent count ≡ indexed_from p t lent (held lent count)
unfolding gone_on
goes p t lent count h = rw h

pub in_pieces : InPieces
in_pieces p t u lent count long h z =
    let c = held lent count in
    let le : c ≤ room lent = omega arith in
    let first = goes p t lent count (so_far p t u lent long h) in
    let r = not_refused p t lent c (ltb (room lent) (c + fresh p t c)) refl (rw first at z) in
    let list = grown p t lent c in
    let k = c + fresh p t c in
    let same : length list ≡ length lent = written_length p t c (fresh p t c) lent (omega (arith, r.0)) in
    let there : held list k ≡ k = omega (arith, r.0, same) in
    let next = goes (past p (records t)) (rest t ++ u) list k (still_possible p t u lent long h) ∙ ap (indexed_from (past p (records t)) (rest t ++ u) list) there in
    let j = joined p t u lent c le r.0 in
    rw (first, r.1, next, goes p (t ++ u) lent count h) (j.0, λ y. j.1 (ap (λ i. i.refusal) (sym j.0) ∙ y))

-- Where the walk up to record n through t stands, in the whole.
module _ (p : Position) (t u : List ℕ) (n : ℕ) where
  abbrev w : Walked
  w = walked p t n

  stands_by : (b : Bool) → leb (n - p.number) (length (records t)) ≡ b → (m : ℕ) × (m ≤ n) × Walking p (t ++ u) m w.at w.read
  stands_by true e = (
    n,
    omega arith,
    subst (λ (v : Walked). Walking p (t ++ u) n v.at v.read) (same_walk p t u n (leb-true (n - p.number) (length (records t)) e)) (came p (t ++ u) n),
  )
  stands_by false e =
      let lt = leb-false (n - p.number) (length (records t)) e in
      let all : records t ≡ up_to p t n = sym (take_all (n - p.number) (records t) (omega arith)) in (
        p.number + length (records t),
        omega arith,
        subst (λ rs. Walking p (t ++ u) (p.number + length (records t)) (past p rs) (bytes_of rs)) all (stands p t u []),
      )

  there : (m : ℕ) × (m ≤ n) × Walking p (t ++ u) m w.at w.read
  there = stands_by (leb (n - p.number) (length (records t))) refl

pub walk_on : WalksOn
walk_on p t u n long h =
    let s = there p t u n in
    let v = w p t u n in
    let e : drop v.read (t ++ u) ≡ drop v.read t ++ u = drop-append-le v.read t u (came p t n).within in
    rw (so_far p t u [] long h, h, rw e at (walks_possibly s.2 long h), ← e) (walks_on s.2 n s.1)

-- The laws of specs/Laws. Assumes nothing.
use mathlib.Core.Path.{◌≡◌, refl, sym, ap, ◌∙◌}
use mathlib.Core.Bool.{Bool, true, false}
use mathlib.Core.List.{List, [], ◌∷◌, ◌++◌}
use Prim.Native.Nat.{ℕ, ◌+◌, ◌-◌, ◌*◌, ◌≤◌}
use native.Mathlib.Omega.{arith}
use lib.Dec.{ltb}
use lib.ListN.{length, take, drop, length-take}
use lib.Seq.{take_at, length-take-le}
use borrow.Author.Tests.{ltb-false}
use Rattle.tool_index.specs.Records.{records}
use Rattle.tool_index.specs.Walk.{start, largest}
use Rattle.tool_index.specs.Marks.{spacing, marks_from, room, held, fresh, grown, indexed_from, built, mark_for, extended}
use Rattle.tool_index.specs.Find.{found_from, looked_up}
use Rattle.tool_index.specs.Laws.{Holds, Builds, Alike, Finds, Near, Behind, Extends, KeepsOld}
use Rattle.tool_index.specs.declared.walk.Position.{Position}
use Rattle.tool_index.proofs.Walking.{Walking, walks_on}
use Rattle.tool_index.proofs.Marking.{written_length, written_take}
use Rattle.tool_index.proofs.Resuming.{marks_same, same_end, resumed, same_walk, more_records}
use Rattle.tool_index.proofs.Origin.{Origin, origin}

-- ---- building

module _ (t lent : List ℕ) where
  abbrev n : ℕ
  n = 0 + fresh start t 0

  holds : ltb (room lent) n ≡ false → Holds t (grown start t lent 0) n
  holds e =
      let fits = ltb-false (room lent) n e in
      let long : 2 * n ≤ length lent = omega arith in
      let same = written_length start t 0 (fresh start t 0) lent long in
      let f : fresh start t 0 ≡ n = omega arith in
      record {
        all = omega arith;
        fit = omega (arith, same);
        marks = written_take start t 0 (fresh start t 0) lent long ∙ ap (marks_from start t 0) f;
      }

  by_room : (b : Bool) → ltb (room lent) n ≡ b → (indexed_from start t lent 0).given.refusal ≡ 0
      → Holds t (indexed_from start t lent 0).list (indexed_from start t lent 0).given.marks
  by_room true e z = let y = rw e at z in absurd (omega arith)
  by_room false e z = rw e (holds e)

pub builds : Builds
unfolding built
builds t lent z = by_room t lent (ltb (room lent) (n t lent)) refl z

-- ---- looking up

module _ {p : Position} {t : List ℕ} {m : ℕ} {r : Position} {read : ℕ} (w : Walking p t m r read) (i : ℕ) (le : m ≤ i) where
  same_last : r.number + length (records (drop read t)) ≡ p.number + length (records t)
  same_last = ap (λ (x : Position). x.number) (same_end w)

  found_by : (b : Bool) → ltb i (r.number + length (records (drop read t))) ≡ b → ltb i (p.number + length (records t)) ≡ b → Alike (found_from r (drop read t) i) (found_from p t i)
  found_by true e f =
      rw (e, f)
      (record {
        place = ap (λ (x : Position). x.place) (walks_on w i le);
        resets = ap (λ (x : Position). x.resets) (walks_on w i le);
        refusal = refl;
      })
  found_by false e f = rw (e, f) (record { place = refl; resets = refl; refusal = refl })

  same_found : Alike (found_from r (drop read t) i) (found_from p t i)
  same_found = found_by (ltb i (r.number + length (records (drop read t)))) refl (ap (ltb i) (sym same_last))

-- The walk of a lookup starts at its origin.
module _ (t u lent : List ℕ) (count i : ℕ) (h : Holds t lent count) where
  abbrev o : Origin (t ++ u) lent count i
  o = origin t u lent count i h

  abbrev from-mark : Position
  from-mark = mark_for lent (held lent count) i

  looks : looked_up (t ++ u) lent count i ≡ found_from from-mark (drop from-mark.place (t ++ u)) i
  unfolding looked_up
  looks = rw o.possible_is

  below : o.m ≤ i
  below = omega (arith, o.m_is)

pub finds : Finds
finds t u lent count i h =
    rw (looks t u lent count i h) (same_found (o t u lent count i h).walking i (below t u lent count i h))

few_by : (p : Position) (t : List ℕ) (i : ℕ) (b : Bool) → ltb i (p.number + length (records t)) ≡ b → (found_from p t i).walked ≤ i - p.number
few_by p t i true e = rw e (omega (arith, length-take (i - p.number) (records t)))
few_by p t i false e = rw e (omega (arith, length-take (i - p.number) (records t)))

walked_few : (p : Position) (t : List ℕ) (i : ℕ) → (found_from p t i).walked ≤ i - p.number
walked_few p t i = few_by p t i (ltb i (p.number + length (records t))) refl

pub near : Near
near t u lent count i h lt =
    let g = o t u lent count i h in
    let p = from-mark t u lent count i h in
    rw (looks t u lent count i h) (omega (arith, walked_few p (drop p.place (t ++ u)) i, g.number, g.m_is))

pub behind : Behind
behind t u lent count i h le =
    let g = o t u lent count i h in
    let p = from-mark t u lent count i h in
    rw (looks t u lent count i h) (omega (arith, walked_few p (drop p.place (t ++ u)) i, g.number, g.m_is))

-- ---- extending

keeps_by : (p : Position) (t list : List ℕ) (c : ℕ) → 2 * c ≤ length list → (b : Bool) → ltb (room list) (c + fresh p t c) ≡ b → take (2 * c) (indexed_from p t list c).list ≡ take (2 * c) list
keeps_by p t list c le true e = rw e
keeps_by p t list c le false e =
    rw e (take_at (take (2 * c) list) (marks_from p t c (fresh p t c) ++ drop (2 * (c + fresh p t c)) list) (2 * c) (length-take-le (2 * c) list le))

module _ (t u lent : List ℕ) (count : ℕ) (h : Holds t lent count) where
  abbrev v : List ℕ
  v = t ++ u

  abbrev last : Position
  last = mark_for lent (held lent count) largest

  there : held lent count ≡ count
  there = omega (arith, h.fit)

  goes : extended v lent count ≡ indexed_from last (drop last.place v) lent count
  unfolding extended
  goes = rw ((o t u lent count largest h).possible_is, there)

  marks_kept : marks_from start t 0 count ≡ marks_from start v 0 count
  marks_kept =
      marks_same start start t v 0 count
      (λ i lt. sym (ap (λ x. x.at.place ∷ x.at.resets ∷ []) (same_walk start t u (spacing * (0 + i)) (omega (arith, h.all)))))

  front : take (2 * count) lent ≡ take (2 * 0) lent ++ marks_from start v 0 (count - 0)
  front = let e : count - 0 ≡ count = omega arith in h.marks ∙ marks_kept ∙ ap (marks_from start v 0) (sym e)

  pub extends_so : ((extended v lent count).list ≡ (built v lent).list) × ((extended v lent count).given ≡ (built v lent).given)
  unfolding built
  extends_so =
      let g = o t u lent count largest h in
      let s = resumed g.walking lent lent 0 count (omega (arith, g.m_is)) (omega arith) (omega (arith, h.all, more_records t u)) front refl refl in
      rw goes (s.2 refl, s.0)

  pub keeps_so : take (2 * count) (extended v lent count).list ≡ take (2 * count) lent
  keeps_so =
      rw goes
      (keeps_by last (drop last.place v) lent count (omega (arith, h.fit)) (ltb (room lent) (count + fresh last (drop last.place v) count)) refl)

pub extends : Extends
extends = extends_so

pub keeps_old : KeepsOld
keeps_old = keeps_so

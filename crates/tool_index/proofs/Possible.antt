-- Positions that a trace can have, and the mark that a walk starts from. Assumes nothing.
use mathlib.Core.Path.{◌≡◌, refl, sym, ap, ◌∙◌}
use mathlib.Core.Bool.{Bool, true, false, cond, ◌&&◌, false≢true}
use mathlib.Core.List.{List}
use Prim.Native.Nat.{ℕ, ◌+◌, ◌-◌, ◌*◌, ◌/◌, ◌<◌, ◌≤◌, min}
use native.Mathlib.Omega.{arith}
use lib.Dec.{leb, eqb}
use lib.ListN.{length, get_or, take, drop, length-drop}
use borrow.Author.Tests.{leb-true, eq-eqb, ne_eqb}
use Rattle.tool_index.specs.Walk.{start, largest, possible, Sound}
use Rattle.tool_index.specs.Marks.{spacing, room, held, mark_at, mark_for}
use Rattle.tool_index.specs.Find.{from}
use Rattle.tool_index.specs.declared.walk.Position.{Position}
use Rattle.tool_index.proofs.Walking.{lent}

both : (p q : Bool) → p && q ≡ true → (p ≡ true) × (q ≡ true)
both true q e = (refl, e)
both false q e = absurd (false≢true e)

pub record Possible (p : Position) (last : ℕ) : Type 0 where
  pub resets : p.resets ≤ p.number
  pub number : p.number ≤ p.place
  pub place : p.place ≤ last

pub possible_is : (p : Position) (last : ℕ) → possible p last ≡ true → Possible p last
possible_is p last h =
    let a = both (leb p.resets p.number) (leb p.number p.place && leb p.place last) h in
    let b = both (leb p.number p.place) (leb p.place last) a.1 in
    record { resets = leb-true _ _ a.0; number = leb-true _ _ b.0; place = leb-true _ _ b.1 }

-- With the bytes of a piece to come.
pub piece_sound : (p : Position) (n : ℕ) → n ≤ largest → possible p (largest - n) ≡ true → Sound p n
piece_sound p n le h = let d = possible_is p (largest - n) h in (d.resets, d.number, omega (arith, d.place))

-- What is lent of a trace from a position on.
pub rest_sound : (p : Position) (t : List ℕ) → length t ≤ largest → Possible p (length t) → Sound p (length (take (length t - p.place) (drop p.place t)))
rest_sound p t le d = (d.resets, d.number, rw (lent t p.place) (omega (arith, d.place, length-drop p.place t)))

pub start_sound : (t : List ℕ) → length t ≤ largest → Sound start (length t)
start_sound t le = (omega arith, omega arith, omega arith)

by_test : (p : Position) (long : ℕ) (b : Bool) → possible p long ≡ b → Possible (cond b p start) long
by_test p long true h = possible_is p long h
by_test p long false h = record { resets = omega arith; number = omega arith; place = omega arith }

pub from_possible : (p : Position) (long : ℕ) → Possible (from p long) long
from_possible p long = by_test p long (possible p long) refl

below_by : (p : Position) (n : ℕ) (b : Bool) → p.number ≤ n → (cond b p start).number ≤ n
below_by p n true h = h
below_by p n false h = omega arith

mark_below_by : (list : List ℕ) (count n : ℕ) (b : Bool) → (cond b start (mark_at list (min (n / spacing) (count - 1)))).number ≤ n
mark_below_by list count n true = omega arith
mark_below_by list count n false = omega arith

pub from_below : (list : List ℕ) (count n long : ℕ) → (from (mark_for list count n) long).number ≤ n
from_below list count n long = below_by (mark_for list count n) n (possible (mark_for list count n) long) (mark_below_by list count n (eqb count 0))

-- The mark that is read.
module _ (list : List ℕ) (count n : ℕ) {long there : ℕ} (long-is : long ≡ room list) (there_is : there ≡ min count long) where
  held_is : held list count ≡ there
  held_is = ap (min count) (sym long-is) ∙ sym there_is

  pub no_mark : there ≡ 0 → start ≡ mark_for list (held list count) n
  no_mark z = rw (eq-eqb (held list count) 0 (held_is ∙ z))

  module _ (some : there ≡ 0 → ⊥) {k : ℕ} (k-is : k ≡ min (n / spacing) (there - 1)) where
    pub one_mark : record { number = spacing * k; place = get_or list (2 * k) 0; resets = get_or list (2 * k + 1) 0 } ≡ mark_for list (held list count) n
    one_mark = rw (held_is, ne_eqb there 0 some, k-is)

    pub mark_within : (2 * k + 1 < length list) × (k < 4096)
    mark_within = (omega arith, omega arith)

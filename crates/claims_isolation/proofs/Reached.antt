-- What a driver reaches is not masked for the other one's sake: of its own words it reads, and the other's transmit words it does not write.
-- Assumes nothing.
use mathlib.Core.Path.{◌≡◌, refl, sym, ap, ◌∙◌}
use mathlib.Core.Bool.{Bool, true, false, not, ◌||◌, false≢true}
use Prim.Native.Nat.{ℕ, ◌+◌, ◌%◌, ◌<◌}
use native.Mathlib.Omega.{arith}
use lib.Dec.{eqb, ltb, leb}
use borrow.Author.Tests.{ltb-true, ltb-false, leb-true, leb-false}
use Rattle.sci.proofs.Membership.{and_left, and_right}
use Rattle.qsm.specs.model.Map.{from, decode}
use Rattle.qsm.specs.model.Access.{next}
use Rattle.qsm.specs.model.Lanes.{upper_lane, lower_lane}
use Rattle.qsm.proofs.Booleans.{on}
use Rattle.qsm.proofs.Ranges.{inside, before, bounds, past_map}
use Rattle.qsm.specs.declared.map.QueueWord.TheVariants.{Spcr0, Spcr1, Spcr2, Spcr3Spsr, Receive, Transmit, Command}
use Rattle.qsm.specs.declared.map.Place.{Place}
use Rattle.qsm.specs.declared.map.Place.TheVariants.{Own, Serial, Queue, Hole}
use Rattle.drivers.specs.State.{other, holds, proper, begun, owns}
use Rattle.drivers.specs.Reach.{reaches_word, reaches}
use Rattle.drivers.specs.declared.state.Driver.{Driver}
use Rattle.drivers.specs.declared.state.Driver.TheVariants.{Axis, Spindle}
use Rattle.drivers.specs.declared.state.Shared.{Shared}
use Rattle.claims_isolation.specs.Twins.{is_transmit, to_transmit}
use Rattle.claims_isolation.proofs.Writes.{hidden, Hidden}
use Rattle.claims_isolation.proofs.Values.{readable, Readable}

-- ---- who owns an entry

above : (t : Bool) (s i : ℕ) → ltb i s ≡ t → i < 16 → from s 15 i ≡ not t
above true s i e less = before s 15 i (ltb-true i s e)
above false s i e less = inside s 15 i (ltb-false i s e) (omega arith)

not_not : (a b : Bool) → a ≡ not b → b ≡ not a
not_not a true e = rw e
not_not a false e = rw e

-- Of sixteen entries each has one owner.
pub one_owner : (who : Driver) (s i : ℕ) → i < 16 → owns s (other who) i ≡ not (owns s who i)
one_owner Axis s i less = above (ltb i s) s i refl less
one_owner Spindle s i less = not_not (from s 15 i) (ltb i s) (above (ltb i s) s i refl less)

one_of_sixteen : (who : Driver) (s i : ℕ) → proper s ≡ true → owns s who i ≡ true → i < 16
one_of_sixteen Axis s i p h = omega (arith, (bounds 1 15 s p).1, ltb-true i s h)
one_of_sixteen Spindle s i p h = omega (arith, (bounds s 15 i h).1)

-- An owned word by its number modulo 16.
owned : (who : Driver) (s i : ℕ) → proper s ≡ true → owns s who i ≡ true → owns s who (i % 16) ≡ true
owned who s i p h =
    let same : i % 16 ≡ i = omega (arith, one_of_sixteen who s i p h) in
    ap (owns s who) same ∙ h

foreign : (who : Driver) (s i : ℕ) → proper s ≡ true → owns s (other who) i ≡ true → not (owns s who (i % 16)) ≡ true
foreign who s i p h =
    sym (one_owner who s (i % 16) (omega arith)) ∙ owned (other who) s i p h

-- ---- a word reached

word_readable : (who : Driver) (s : ℕ) (claimed : Bool) (p : Place) (upper lower : Bool) → proper s ≡ true →
    reaches_word s (other who) claimed p upper lower ≡ true → readable (owns s who) p ≡ true
word_readable who s claimed (Own w) upper lower f h = absurd (false≢true h)
word_readable who s claimed (Serial w) upper lower f h = absurd (false≢true h)
word_readable who s claimed (Queue Spcr0) upper lower f h = refl
word_readable who s claimed (Queue Spcr1) upper lower f h = refl
word_readable who s claimed (Queue Spcr2) upper lower f h = refl
word_readable who s claimed (Queue Spcr3Spsr) upper lower f h = refl
word_readable who s claimed (Queue (Receive i)) upper lower f h = foreign who s i f h
word_readable who s claimed (Queue (Transmit i)) upper lower f h = foreign who s i f h
word_readable who s claimed (Queue (Command i)) upper lower f h = refl
word_readable who s claimed Hole upper lower f h = absurd (false≢true h)

word_hidden : (who : Driver) (s : ℕ) (claimed : Bool) (p : Place) (upper lower : Bool) → proper s ≡ true → is_transmit p ≡ true →
    reaches_word s who claimed p upper lower ≡ true → hidden (owns s who) p ≡ true
word_hidden who s claimed (Own w) upper lower f t h = absurd (false≢true h)
word_hidden who s claimed (Serial w) upper lower f t h = absurd (false≢true h)
word_hidden who s claimed (Queue Spcr0) upper lower f t h = absurd (false≢true h)
word_hidden who s claimed (Queue Spcr1) upper lower f t h = absurd (false≢true t)
word_hidden who s claimed (Queue Spcr2) upper lower f t h = absurd (false≢true t)
word_hidden who s claimed (Queue Spcr3Spsr) upper lower f t h = absurd (false≢true t)
word_hidden who s claimed (Queue (Receive i)) upper lower f t h = absurd (false≢true t)
word_hidden who s claimed (Queue (Transmit i)) upper lower f t h = owned who s i f h
word_hidden who s claimed (Queue (Command i)) upper lower f t h = absurd (false≢true t)
word_hidden who s claimed Hole upper lower f t h = absurd (false≢true h)

-- ---- an access reached

-- The second word of a long that is no hole stands two bytes on.
next_place : (P : Place → Bool) (b : ℕ) → P Hole ≡ false → P (decode (b + 2)) ≡ true → P (decode (next b)) ≡ true
next_place P b hole h =
    on (leb (b + 2) 0x14F)
    (λ within.
    let same : (b + 2) % 65536 ≡ b + 2 = omega (arith, leb-true (b + 2) 0x14F within) in
    ap (λ k. P (decode k)) same ∙ h)
    (λ out. absurd (false≢true (sym hole ∙ ap P (sym (past_map (b + 2) (leb-false (b + 2) 0x14F out))) ∙ h)))

needed : (a b : Bool) → not a || b ≡ true → a ≡ true → b ≡ true
needed true b h e = h
needed false b h e = absurd (false≢true e)

module _ (who : Driver) (d : Shared) (width offset : ℕ) (f : begun d ≡ true) where
  pub reads_readable : reaches d (other who) width offset ≡ true → Readable (owns d.split who) width offset
  unfolding reaches
  reads_readable h =
      let reached : Place → Bool =
      λ p. reaches_word d.split (other who) (holds d (other who)) p (upper_lane width offset) (lower_lane width offset) in
      let first : reached (decode offset) ≡ true = and_left _ _ h in
      let second : not (eqb width 4) || reached (decode (offset + 2)) ≡ true = and_right (reached (decode offset)) _ h in
      record {
        first = word_readable who d.split (holds d (other who)) (decode offset) _ _ f first;
        second =
            λ long. word_readable who d.split (holds d (other who)) (decode (next offset)) _ _ f
            (next_place reached offset refl (needed (eqb width 4) _ second long));
      }

  pub writes_hidden : to_transmit width offset ≡ true → reaches d who width offset ≡ true → Hidden (owns d.split who) width offset
  unfolding reaches
  writes_hidden t h =
      let reached : Place → Bool =
      λ p. reaches_word d.split who (holds d who) p (upper_lane width offset) (lower_lane width offset) in
      let first : reached (decode offset) ≡ true = and_left _ _ h in
      let second : not (eqb width 4) || reached (decode (offset + 2)) ≡ true = and_right (reached (decode offset)) _ h in
      let also : not (eqb width 4) || is_transmit (decode (offset + 2)) ≡ true = and_right (is_transmit (decode offset)) _ t in
      record {
        first = word_hidden who d.split (holds d who) (decode offset) _ _ f (and_left _ _ t) first;
        second =
            λ long. word_hidden who d.split (holds d who) (decode (next offset)) _ _ f
            (next_place is_transmit offset refl (needed (eqb width 4) _ also long))
            (next_place reached offset refl (needed (eqb width 4) _ second long));
      }

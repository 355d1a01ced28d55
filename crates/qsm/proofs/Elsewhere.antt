-- A word written changes no other word of the map as it is read, but for SCSR and PORTQS. Assumes nothing.
use mathlib.Core.Path.{◌≡◌, refl, sym, ◌∙◌}
use mathlib.Core.Bool.{Bool, true, false, not, ◌&&◌, ◌||◌, false≢true}
use Prim.Native.Nat.{ℕ, ◌-◌, ◌*◌, ◌/◌, ◌%◌, ◌<◌, ◌≤◌}
use native.Mathlib.Omega.{arith}
use lib.Dec.{eqb, leb}
use borrow.Author.Tests.{eqb-true, ne_eqb, leb-true}
use Rattle.steps.specs.Iterate.{iterate}
use Rattle.sci.proofs.Membership.{and_left, and_right}
use Rattle.qsm.specs.model.Map.{decode, mapped}
use Rattle.qsm.specs.model.Word.{peek, put}
use Rattle.qsm.specs.model.Access.{store, stored}
use Rattle.qsm.specs.model.Decision.{permits, stored_by, decide_stored}
use Rattle.qsm.specs.model.Event.{refused, writes, does, step}
use Rattle.qsm.specs.claims.Registers.{reading, writing, Sized, Elsewhere}
use Rattle.qsm.specs.declared.state.Module.{Module}
use Rattle.qsm.proofs.Booleans.{on}
use Rattle.qsm.proofs.Stored.{state_if}
use Rattle.qsm.proofs.ResetReads.{every, at, even}
use Rattle.qsm.proofs.Words.{in_map, hole_read, word_read}
use Rattle.qsm.proofs.RamReads.{spot, ram_word_holds}
use Rattle.qsm.proofs.OtherWords.{place_at, place_in_ram, other, others, hole_put}

-- ---- each place stands where it is decoded: a test that computes

abbrev there : ℕ → Bool
there k = not (mapped (decode (k * 2))) || eqb (place_at (decode (k * 2))) k

abbrev blocks : ℕ → Bool
blocks k = not (place_in_ram (decode (k * 2))) || leb 128 k

all_there : every there 168 ≡ true
unfolding decode
all_there = refl

all_blocks : every blocks 168 ≡ true
unfolding decode
all_blocks = refl

or_right : (a b : Bool) → a ≡ true → not a || b ≡ true → b ≡ true
or_right true b h t = t
or_right false b h t = absurd (false≢true h)

below : (k : ℕ) → mapped (decode (k * 2)) ≡ true → k < 168
below k h = let small : k * 2 < 0x150 = in_map (k * 2) h in omega arith

stands : (k : ℕ) → mapped (decode (k * 2)) ≡ true → place_at (decode (k * 2)) ≡ k
stands k h =
    eqb-true (place_at (decode (k * 2))) k (or_right (mapped (decode (k * 2))) _ h (at there 168 all_there k (below k h)))

ram_from : (k : ℕ) → mapped (decode (k * 2)) ≡ true → place_in_ram (decode (k * 2)) ≡ true → 128 ≤ k
ram_from k h r =
    leb-true 128 k (or_right (place_in_ram (decode (k * 2))) _ r (at blocks 168 all_blocks k (below k h)))

-- ---- a word, and another

module _ (m : Module) (z : Sized m) (i j v : ℕ) (n : others i j) (a : others (j * 2) 0x0C) (b : others (j * 2) 0x14) where
  both_ram : mapped (decode (i * 2)) ≡ true → mapped (decode (j * 2)) ≡ true →
      place_in_ram (decode (i * 2)) && place_in_ram (decode (j * 2)) ≡ true →
      peek (put m (decode (i * 2)) v true true) (decode (j * 2)) ≡ peek m (decode (j * 2))
  both_ram g h r =
      let from : 128 ≤ i = ram_from i g (and_left _ (place_in_ram (decode (j * 2))) r) in
      let to : 128 ≤ j = ram_from j h (and_right (place_in_ram (decode (i * 2))) _ r) in
      let less : i < 168 = below i g in
      let short : j < 168 = below j h in
      ram_word_holds m z v true true (spot (i * 2) (i - 128) (omega arith) (omega arith)) (spot (j * 2) (j - 128) (omega arith) (omega arith))
      ∙ rw (ne_eqb (i - 128) (j - 128) (λ e. n (omega arith)))

  put_other : mapped (decode (j * 2)) ≡ true → peek (put m (decode (i * 2)) v true true) (decode (j * 2)) ≡ peek m (decode (j * 2))
  put_other h =
      on (mapped (decode (i * 2)))
      (λ g.
      on (place_in_ram (decode (i * 2)) && place_in_ram (decode (j * 2))) (λ r. both_ram g h r)
      (λ r.
      other m v (decode (i * 2)) (decode (j * 2)) (rw (stands i g, stands j h) n) (rw (stands j h) (λ e. a (omega arith)))
      (rw (stands j h) (λ e. b (omega arith))) r))
      (λ g. rw (hole_put m (decode (i * 2)) v g))

-- A write leaves the module, or puts its word.
either : (P : Module → Type 0) (m : Module) (o v : ℕ) → P m → P (put m (decode o) (v % 65536 * 65536 / 65536) true true) →
    P (writing m 2 o v).state
unfolding step does writes refused stored_by stored store iterate
either P m o v p q =
    state_if P (permits (decide_stored m (stored_by m 2 o v) true 2 o v)) m (stored_by m 2 o v).state 0 0 _ (λ e. q) (λ e. p)

pub elsewhere : Elsewhere
elsewhere m z i j v n a b =
    on (mapped (decode (j * 2)))
    (λ h.
    either (λ k. (reading k 2 (j * 2)).value ≡ (reading m 2 (j * 2)).value) m (i * 2) v refl
    (word_read (put m (decode (i * 2)) (v % 65536 * 65536 / 65536) true true) (j * 2) (even j) h
    ∙ put_other m z i j (v % 65536 * 65536 / 65536) n a b h ∙ sym (word_read m (j * 2) (even j) h)))
    (λ h. (hole_read (writing m 2 (i * 2) v).state 2 (j * 2) (even j) h).0 ∙ sym (hole_read m 2 (j * 2) (even j) h).0)

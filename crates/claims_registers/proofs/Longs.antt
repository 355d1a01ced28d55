-- A long write as its two words. Assumes nothing.
use mathlib.Core.Path.{◌≡◌, refl, sym, ap, ◌∙◌}
use mathlib.Core.Bool.{Bool, true, false, ◌&&◌, ◌||◌, true≢false}
use Prim.Native.Nat.{ℕ, ◌+◌, ◌*◌, ◌/◌, ◌%◌, ◌<◌}
use native.Mathlib.Omega.{arith}
use lib.Dec.{eqb}
use borrow.Author.Tests.{eq-eqb, ltb-true}
use Rattle.steps.specs.Iterate.{iterate}
use Rattle.qsm.specs.model.Map.{decode, mapped}
use Rattle.qsm.specs.model.Lanes as lanes
use Rattle.qsm.specs.model.Word.{put, unmodelled, guarded}
use Rattle.qsm.specs.model.Access.{store, stored}
use Rattle.qsm.specs.model.Decision.{fits, admitted, stored_by, decide_stored}
use Rattle.qsm.specs.model.Event.{answer_of, refused, writes, does, step}
use Rattle.qsm.specs.claims.Registers.{writing}
use Rattle.qsm.specs.declared.state.Module.{Module}
use Rattle.qsm.proofs.Words.{in_map, written, word_written_holds, word_let}
use Rattle.claims_registers.specs.Longs.{half, Long, LongWrites}

even : (k : ℕ) → eqb (k * 2 % 2) 0 ≡ true
even k = eq-eqb (k * 2 % 2) 0 (omega arith)

even_next : (k : ℕ) → eqb ((k * 2 + 2) % 2) 0 ≡ true
even_next k = eq-eqb ((k * 2 + 2) % 2) 0 (omega arith)

-- What is let through is in the map.
is_mapped : (m : Module) (k v : ℕ) (fit inside : Bool) → fits 4 v ≡ fit → lanes.in_map 4 (k * 2) ≡ inside →
    (writing m 4 (k * 2) v).answer.refusal ≡ 0 → inside ≡ true
unfolding step answer_of does writes refused decide_stored admitted
is_mapped m k v fit true f i r = refl
is_mapped m k v true false f i r = absurd (two (rw (even k, f, i) at r))
  where
    two : ◌≡◌ {A = ℕ} 2 0 → ⊥
    two e = omega arith
is_mapped m k v false false f i r = absurd (one (rw (even k, f) at r))
  where
    one : ◌≡◌ {A = ℕ} 1 0 → ⊥
    one e = omega arith

and_both : (a b : Bool) → a && b ≡ true → (a ≡ true) × (b ≡ true)
and_both true true h = (refl, refl)
and_both true false h = absurd (true≢false (sym h))
and_both false b h = absurd (true≢false (sym h))

or_both : (a b : Bool) → a || b ≡ false → (a ≡ false) × (b ≡ false)
or_both true b h = absurd (true≢false h)
or_both false b h = (refl, h)

module _ (m : Module) (k v : ℕ) (r : (writing m 4 (k * 2) v).answer.refusal ≡ 0) where
  both_mapped : (mapped (decode (k * 2)) ≡ true) × (mapped (decode (k * 2 + 2)) ≡ true)
  unfolding lanes.in_map
  both_mapped = and_both (mapped (decode (k * 2))) (mapped (decode (k * 2 + 2))) (is_mapped m k v (fits 4 v) (lanes.in_map 4 (k * 2)) refl refl r)

  long : Long m k v
  unfolding step answer_of does stored_by stored store iterate lanes.in_map
  long =
      let here : (mapped (decode (k * 2)) ≡ true) × (mapped (decode (k * 2 + 2)) ≡ true) = both_mapped in
      let w = written m 4 (k * 2) v (rw (even k)) (rw (here.0, here.1)) r in
      let less : v < 4294967296 = ltb-true v 4294967296 w.fits in
      let high : v / 65536 < 65536 = omega arith in
      let low : v % 65536 < 65536 = omega arith in
      let place : (k * 2 + 2) % 65536 ≡ k * 2 + 2 = omega (arith, in_map (k * 2) here.0) in
      let rest : v % 65536 * 65536 / 65536 ≡ v % 65536 = omega arith in
      let un = or_both (unmodelled m (decode (k * 2)) (v / 65536) true true) _ (rw (place, rest) at w.unmodelled) in
      let gu = or_both (guarded m (decode (k * 2)) (v / 65536) true true) _ (rw (place, rest) at w.guarded) in
      let first : (writing m 2 (k * 2) (v / 65536)).answer.refusal ≡ 0 =
      word_let m (k * 2) (v / 65536) high (even k) here.0 un.0 gu.0 in
      let there : half m k v ≡ put m (decode (k * 2)) (v / 65536) true true =
      (word_written_holds m (k * 2) (v / 65536) (even k) here.0 first).state in
      let second : (writing (half m k v) 2 (k * 2 + 2) (v % 65536)).answer.refusal ≡ 0 =
      word_let (half m k v) (k * 2 + 2) (v % 65536) low (even_next k) here.1 (rw there un.1) (rw there gu.1) in
      record {
        first = first;
        second = second;
        state =
            rw (place, rest) at w.state
            ∙ ap (λ n. put n (decode (k * 2 + 2)) (v % 65536) true true) (sym there)
            ∙ sym (word_written_holds (half m k v) (k * 2 + 2) (v % 65536) (even_next k) here.1 second).state;
      }

pub long_writes : LongWrites
long_writes m k v r = long m k v r

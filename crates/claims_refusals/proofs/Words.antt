-- Refusals 3 and 4: the module's tests of places are the table's tests of registers by their offsets. Assumes nothing.
use mathlib.Core.Path.{◌≡◌, refl, sym, subst, ◌∙◌}
use mathlib.Core.Bool.{Bool, true, false, cond, not, ◌&&◌, ◌||◌}
use Prim.Native.Nat.{ℕ, ◌+◌, ◌*◌, ◌/◌, ◌%◌, ◌<◌}
use native.Mathlib.Omega.{arith}
use lib.Dec.{eqb}
use Rattle.steps.specs.Iterate.{iterate}
use Rattle.sci.specs.model.Serial.{sccr0_guarded, sccr1_guarded}
use Rattle.qsm.specs.model.Map.{from, decode, mapped}
use Rattle.qsm.specs.model.Own.{own_unmodelled}
use Rattle.qsm.specs.model.Serial.{serial_unmodelled, serial_guarded}
use Rattle.qsm.specs.model.Queue.{queue_unmodelled, queue_guarded}
use Rattle.qsm.specs.model.Word.{put}
use Rattle.qsm.specs.model.Word as places
use Rattle.qsm.specs.model.Lanes.{in_map, upper_lane, lower_lane}
use Rattle.qsm.specs.model.Access.{store, stored}
use Rattle.qsm.specs.model.Decision.{shaped, stored_by}
use Rattle.qsm.specs.declared.map.Place.{Place}
use Rattle.qsm.specs.declared.map.Place.TheVariants.{Queue, Hole}
use Rattle.qsm.specs.declared.map.QueueWord.TheVariants.{Receive, Transmit, Command}
use Rattle.qsm.specs.declared.state.Module.{Module}
use Rattle.qsm.proofs.Ranges.{decode_word, by_words}
use Rattle.claims_refusals.specs.Refusals.{sets_unmodelled, changes_guarded, unmodelled, guarded}
use Rattle.claims_refusals.proofs.Tests.{split, widths, absurd_bool}
use Rattle.claims_refusals.proofs.Bytes.{in_map_below}

-- Every word, by its number: the registers one by one, and the rest.
by_word : (P : ℕ → Type 0) (w : ℕ) → P 0 → P 2 → P 4 → P 5 → P 6 → P 7 → P 10 → P 11 → P 12 → P 13 → P 14 → P 15
    → (eqb w 0 ≡ false → eqb w 2 ≡ false → eqb w 4 ≡ false → eqb w 5 ≡ false → eqb w 6 ≡ false → eqb w 7 ≡ false
    → eqb w 10 ≡ false → eqb w 11 ≡ false → eqb w 12 ≡ false → eqb w 13 ≡ false → eqb w 14 ≡ false → eqb w 15 ≡ false → P w) → P w
by_word P w p0 p2 p4 p5 p6 p7 p10 p11 p12 p13 p14 p15 rest =
    split w 0 (λ e. subst P (sym e) p0) (λ n0.
    split w 2 (λ e. subst P (sym e) p2) (λ n2.
    split w 4 (λ e. subst P (sym e) p4) (λ n4.
    split w 5 (λ e. subst P (sym e) p5) (λ n5.
    split w 6 (λ e. subst P (sym e) p6) (λ n6.
    split w 7 (λ e. subst P (sym e) p7) (λ n7.
    split w 10 (λ e. subst P (sym e) p10) (λ n10.
    split w 11 (λ e. subst P (sym e) p11) (λ n11.
    split w 12 (λ e. subst P (sym e) p12) (λ n12.
    split w 13 (λ e. subst P (sym e) p13) (λ n13.
    split w 14 (λ e. subst P (sym e) p14) (λ n14.
    split w 15 (λ e. subst P (sym e) p15) (λ n15. rest n0 n2 n4 n5 n6 n7 n10 n11 n12 n13 n14 n15))))))))))))

ram_unmodelled : (m : Module) (a b c : Bool) (i j k v : ℕ) (upper lower : Bool) →
    places.unmodelled m (cond a (Queue (Receive i)) (cond b (Queue (Transmit j)) (cond c (Queue (Command k)) Hole))) v upper lower ≡ false
unfolding places.unmodelled queue_unmodelled
ram_unmodelled m true b c i j k v upper lower = refl
ram_unmodelled m false true c i j k v upper lower = refl
ram_unmodelled m false false true i j k v upper lower = refl
ram_unmodelled m false false false i j k v upper lower = refl

ram_guarded : (m : Module) (a b c : Bool) (i j k v : ℕ) (upper lower : Bool) →
    places.guarded m (cond a (Queue (Receive i)) (cond b (Queue (Transmit j)) (cond c (Queue (Command k)) Hole))) v upper lower ≡ false
unfolding places.guarded queue_guarded
ram_guarded m true b c i j k v upper lower = refl
ram_guarded m false true c i j k v upper lower = refl
ram_guarded m false false true i j k v upper lower = refl
ram_guarded m false false false i j k v upper lower = refl

sets_is : (m : Module) (o v : ℕ) (upper lower : Bool) → places.unmodelled m (decode o) v upper lower ≡ sets_unmodelled m o v upper lower
unfolding places.unmodelled own_unmodelled serial_unmodelled queue_unmodelled
sets_is m o v upper lower =
    rw (by_words o)
    (by_word (λ w. places.unmodelled m (decode_word w) v upper lower ≡
    cond (eqb w 0) (upper && not (eqb (v / 8192 % 8) 0))
    (cond (eqb w 5) (places.unmodelled m (decode_word 5) v upper lower)
    (cond (eqb w 12) (places.unmodelled m (decode_word 12) v upper lower)
    (cond (eqb w 13) (places.unmodelled m (decode_word 13) v upper lower)
    (cond (eqb w 15) (places.unmodelled m (decode_word 15) v upper lower) false))))) (o / 2)
    refl refl refl refl refl refl refl refl refl refl refl refl
    (λ n0 n2 n4 n5 n6 n7 n10 n11 n12 n13 n14 n15.
    simp (n0, n2, n4, n5, n6, n7, n10, n11, n12, n13, n14, n15)
    (ram_unmodelled m (from 128 143 (o / 2)) (from 144 159 (o / 2)) (from 160 167 (o / 2)) _ _ _ v upper lower)))

changes_is : (m : Module) (o v : ℕ) (upper lower : Bool) → places.guarded m (decode o) v upper lower ≡ changes_guarded m o v upper lower
unfolding places.guarded serial_guarded queue_guarded sccr0_guarded sccr1_guarded
changes_is m o v upper lower =
    rw (by_words o)
    (by_word (λ w. places.guarded m (decode_word w) v upper lower ≡
    cond (eqb w 4) (places.guarded m (decode_word 4) v upper lower)
    (cond (eqb w 5) (places.guarded m (decode_word 5) v upper lower)
    (cond (eqb w 12) (places.guarded m (decode_word 12) v upper lower)
    (cond (eqb w 13) (places.guarded m (decode_word 13) v upper lower) false)))) (o / 2)
    refl refl refl refl refl refl refl refl refl refl refl refl
    (λ n0 n2 n4 n5 n6 n7 n10 n11 n12 n13 n14 n15.
    simp (n0, n2, n4, n5, n6, n7, n10, n11, n12, n13, n14, n15)
    (ram_guarded m (from 128 143 (o / 2)) (from 144 159 (o / 2)) (from 160 167 (o / 2)) _ _ _ v upper lower)))

-- ---- the words of a write

byte_word : (v : ℕ) → v % 256 * 256 + v % 256 ≡ v % 256 * 16842752 / 65536
byte_word v = omega arith

word_word : (v : ℕ) → v % 65536 ≡ v % 65536 * 65536 / 65536
word_word v = omega arith

-- The second half of a long in the map is two bytes on.
next_is : (o : ℕ) → mapped (decode (o + 2)) ≡ true → o + 2 ≡ (o + 2) % 65536
next_is o h = let below : o + 2 < 0x150 = in_map_below (o + 2) h in omega arith

second : (a b : Bool) → a && b ≡ true → b ≡ true
second true b h = h
second false b h = absurd_bool h

module _ (f : Module → Place → ℕ → Bool → Bool → Bool) (g : Module → ℕ → ℕ → Bool → Bool → Bool)
    (is : (m : Module) (o v : ℕ) (upper lower : Bool) → f m (decode o) v upper lower ≡ g m o v upper lower) where
  one_byte : (m : Module) (o v : ℕ) (upper lower : Bool) →
      g m o (v % 256 * 256 + v % 256) upper lower ≡ f m (decode o) (v % 256 * 16842752 / 65536) upper lower
  one_byte m o v upper lower = rw (← byte_word v) (sym (is m o _ upper lower))

  one_word : (m : Module) (o v : ℕ) (upper lower : Bool) →
      g m o (v % 65536) upper lower ≡ f m (decode o) (v % 65536 * 65536 / 65536) upper lower
  one_word m o v upper lower = rw (← word_word v) (sym (is m o _ upper lower))

  two_words : (m p : Module) (o v : ℕ) → mapped (decode (o + 2)) ≡ true →
      g m o (v / 65536) true true || g p (o + 2) (v % 65536) true true
      ≡ f m (decode o) (v / 65536) true true || f p (decode ((o + 2) % 65536)) (v % 65536 * 65536 / 65536) true true
  two_words m p o v h =
      rw (← next_is o h, ← word_word v, is m o (v / 65536) true true, is p (o + 2) (v % 65536) true true)

pub unmodelled_is : (m : Module) (w o v : ℕ) → shaped w o ≡ true → in_map w o ≡ true → unmodelled m w o v ≡ (stored_by m w o v).unmodelled
unfolding stored_by stored store iterate in_map
unmodelled_is m w o v =
    widths (λ w. shaped w o ≡ true → in_map w o ≡ true → unmodelled m w o v ≡ (stored_by m w o v).unmodelled) w
    (λ h k. one_byte places.unmodelled sets_unmodelled sets_is m o v (upper_lane 1 o) (lower_lane 1 o))
    (λ h k. one_word places.unmodelled sets_unmodelled sets_is m o v true true)
    (λ h k. two_words places.unmodelled sets_unmodelled sets_is m (put m (decode o) (v / 65536) true true) o v
    (second (mapped (decode o)) (mapped (decode (o + 2))) k))
    (λ a b c h. absurd_bool (sym (simp (a, b, c)) ∙ h))

pub guarded_is : (m : Module) (w o v : ℕ) → shaped w o ≡ true → in_map w o ≡ true → guarded m w o v ≡ (stored_by m w o v).guarded
unfolding stored_by stored store iterate in_map
guarded_is m w o v =
    widths (λ w. shaped w o ≡ true → in_map w o ≡ true → guarded m w o v ≡ (stored_by m w o v).guarded) w
    (λ h k. one_byte places.guarded changes_guarded changes_is m o v (upper_lane 1 o) (lower_lane 1 o))
    (λ h k. one_word places.guarded changes_guarded changes_is m o v true true)
    (λ h k. two_words places.guarded changes_guarded changes_is m (put m (decode o) (v / 65536) true true) o v
    (second (mapped (decode o)) (mapped (decode (o + 2))) k))
    (λ a b c h. absurd_bool (sym (simp (a, b, c)) ∙ h))

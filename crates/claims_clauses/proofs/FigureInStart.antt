-- The noise figure over a sample of the start bit: its ones at RT3, RT5, RT7 and RT8 to RT10. Assumes nothing.
use mathlib.Core.Path.{◌≡◌, refl}
use mathlib.Core.Bool.{Bool, true, false, true≢false, false≢true}
use Prim.Native.Nat.{ℕ, ◌+◌, ◌%◌, ◌≤◌}
use native.Mathlib.Omega.{arith}
use Rattle.steps.specs.Bits.{digit}
use Rattle.sci.specs.model.Bits.{vote, ones_of}
use Rattle.sci.specs.model.Framer.{start_bit, judged}
use Rattle.claims_clauses.specs.Noise.{start_gives}
use Rattle.claims_clauses.proofs.Figure.{digit_small, made, start, InStart, Going, bits}

module _ (n : ℕ) (few : n ≤ 200) (left : ℕ) (a b : Bool) (noise : ℕ) (moved : Bool) (shift : ℕ) (l1 x : Bool) (sum : ℕ) where
  abbrev pub FromStart : ℕ → Type 0
  FromStart rt =
      InStart n (made true left rt a b noise moved shift) sum →
      (start_bit (made true left rt a b noise moved shift) (rt % 16 + 1) x).framing ≡ true →
      Going n (start_bit (made true left rt a b noise moved shift) (rt % 16 + 1) x) x l1 (sum + start_gives (rt % 16 + 1) x)

  pub start_2 : FromStart 1
  unfolding start_bit
  start_2 i g =
      start refl (record { low = omega arith; high = omega arith; left = i.left; so_far = omega (arith, i.so_far, i.bound, digit_small a, digit_small b, digit_small x); bound = omega (arith, i.bound, digit_small x) })

  pub start_3 : FromStart 2
  unfolding start_bit
  start_3 i g =
      start refl (record { low = omega arith; high = omega arith; left = i.left; so_far = omega (arith, i.so_far, i.bound, digit_small a, digit_small b, digit_small x); bound = omega (arith, i.bound, digit_small x) })

  pub start_4 : FromStart 3
  unfolding start_bit
  start_4 i g =
      start refl (record { low = omega arith; high = omega arith; left = i.left; so_far = omega (arith, i.so_far, i.bound, digit_small a, digit_small b, digit_small x); bound = omega (arith, i.bound, digit_small x) })

  pub start_5 : FromStart 4
  unfolding start_bit
  start_5 i g =
      start refl (record { low = omega arith; high = omega arith; left = i.left; so_far = omega (arith, i.so_far, i.bound, digit_small a, digit_small b, digit_small x); bound = omega (arith, i.bound, digit_small x) })

  pub start_6 : FromStart 5
  unfolding start_bit
  start_6 i g =
      start refl (record { low = omega arith; high = omega arith; left = i.left; so_far = omega (arith, i.so_far, i.bound, digit_small a, digit_small b, digit_small x); bound = omega (arith, i.bound, digit_small x) })

  few_ones : (u v w : Bool) → (vote u v w).bit ≡ false → digit u + digit v + digit w ≤ 1
  few_ones true true w h = absurd (true≢false h)
  few_ones true false true h = absurd (true≢false h)
  few_ones true false false h = omega arith
  few_ones false true true h = absurd (true≢false h)
  few_ones false true false h = omega arith
  few_ones false false true h = omega arith
  few_ones false false false h = omega arith

  judged_7 : (v : Bool) → (vote a b x).bit ≡ v → InStart n (made true left 6 a b noise moved shift) sum →
      (judged v (made true left 6 a b noise moved shift) (ones_of a b x)).framing ≡ true →
      Going n (judged v (made true left 6 a b noise moved shift) (ones_of a b x)) x l1 (sum + digit x)
  judged_7 true e i g = absurd (false≢true g)
  judged_7 false e i g =
      let ones : digit a + digit b + digit x ≤ 1 = few_ones a b x e in
      start refl (record { low = omega arith; high = omega arith; left = i.left; so_far = omega (arith, i.so_far, i.bound); bound = omega (arith, i.bound) })

  pub start_7 : FromStart 6
  unfolding start_bit
  start_7 i g = judged_7 (vote a b x).bit refl i g

  pub start_8 : FromStart 7
  unfolding start_bit
  start_8 i g =
      start refl (record { low = omega arith; high = omega arith; left = i.left; so_far = omega (arith, i.so_far, i.bound, digit_small a, digit_small b, digit_small x); bound = omega (arith, i.bound, digit_small x) })

  pub start_9 : FromStart 8
  unfolding start_bit
  start_9 i g =
      start refl (record { low = omega arith; high = omega arith; left = i.left; so_far = omega (arith, i.so_far, i.bound, digit_small a, digit_small b, digit_small x); bound = omega (arith, i.bound, digit_small x) })

  pub start_10 : FromStart 9
  unfolding start_bit
  start_10 i g =
      start refl (record { low = omega arith; high = omega arith; left = i.left; so_far = omega (arith, i.so_far, i.bound, digit_small a, digit_small b, digit_small x); bound = omega (arith, i.bound, digit_small x) })

  pub start_11 : FromStart 10
  unfolding start_bit
  start_11 i g =
      start refl (record { low = omega arith; high = omega arith; left = i.left; so_far = omega (arith, i.so_far, i.bound, digit_small a, digit_small b, digit_small x); bound = omega (arith, i.bound, digit_small x) })

  pub start_12 : FromStart 11
  unfolding start_bit
  start_12 i g =
      start refl (record { low = omega arith; high = omega arith; left = i.left; so_far = omega (arith, i.so_far, i.bound, digit_small a, digit_small b, digit_small x); bound = omega (arith, i.bound, digit_small x) })

  pub start_13 : FromStart 12
  unfolding start_bit
  start_13 i g =
      start refl (record { low = omega arith; high = omega arith; left = i.left; so_far = omega (arith, i.so_far, i.bound, digit_small a, digit_small b, digit_small x); bound = omega (arith, i.bound, digit_small x) })

  pub start_14 : FromStart 13
  unfolding start_bit
  start_14 i g =
      start refl (record { low = omega arith; high = omega arith; left = i.left; so_far = omega (arith, i.so_far, i.bound, digit_small a, digit_small b, digit_small x); bound = omega (arith, i.bound, digit_small x) })

  pub start_15 : FromStart 14
  unfolding start_bit
  start_15 i g =
      start refl (record { low = omega arith; high = omega arith; left = i.left; so_far = omega (arith, i.so_far, i.bound, digit_small a, digit_small b, digit_small x); bound = omega (arith, i.bound, digit_small x) })

  pub start_16 : FromStart 15
  unfolding start_bit
  start_16 i g =
      bits refl (record { high = omega arith; so_far = omega (arith, i.so_far); bound = omega (arith, i.bound, i.left); stop = λ h. refl; at_8 = λ h. absurd (omega (arith, h)); at_9 = λ h. absurd (omega (arith, h)) })

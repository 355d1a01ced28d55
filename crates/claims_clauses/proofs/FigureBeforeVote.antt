-- The noise figure over a sample at RT1 to RT7 past the start bit: nothing is added, also where the bit begins anew. Assumes nothing.
use mathlib.Core.Path.{◌≡◌, refl}
use mathlib.Core.Bool.{Bool, true, false, not, ◌&&◌, false≢true}
use Prim.Native.Nat.{ℕ, ◌+◌, ◌-◌, ◌%◌, ◌≤◌}
use native.Mathlib.Omega.{arith}
use lib.Dec.{eqb}
use borrow.Author.Tests.{eqb-false}
use Rattle.steps.specs.Bits.{bit}
use Rattle.sci.specs.model.Framer.{adjusts, adjusted, data_bit, stop_bit, fixed, framed}
use Rattle.sci.specs.declared.framer.Framer.{Framer}
use Rattle.sci.proofs.Membership.{and_right}
use Rattle.claims_clauses.specs.Noise.{bit_gives}
use Rattle.claims_clauses.proofs.Figure.{made, InBits, Going, bits}
use Rattle.claims_clauses.proofs.ByCase.{by_case, by_stop}

module _ (n : ℕ) (few : n ≤ 200) (left : ℕ) (a b : Bool) (noise : ℕ) (moved : Bool) (shift : ℕ) (l1 l2 three x : Bool) (sum : ℕ) where
  abbrev at-rt : ℕ → Framer
  at-rt rt = made false left rt a b noise moved shift

  abbrev Next : ℕ → Framer → Type 0
  Next rt g = g.framing ≡ true → Going n g x l1 (sum + bit_gives (rt % 16 + 1) l2 l1 x)

  abbrev pub FromBits : ℕ → Type 0
  FromBits rt = InBits n (at-rt rt) l1 l2 sum → Next rt (framed n (at-rt rt) three x)

  adjusted_0 : InBits n (at-rt 0) l1 l2 sum → adjusts n (at-rt 0) three x ≡ true → Next 0 (adjusted (at-rt 0))
  adjusted_0 i e g = absurd (false≢true (and_right (not x && three && true && true && bit (n - 1) shift) _ e))

  data_0 : InBits n (at-rt 0) l1 l2 sum → eqb left 0 ≡ false → Next 0 (data_bit n (at-rt 0) 1 x)
  unfolding data_bit
  data_0 i e g = bits refl (record { high = omega arith; so_far = omega (arith, i.so_far); bound = omega (arith, i.bound); stop = λ h. absurd (eqb-false left 0 e h); at_8 = λ h. absurd (omega (arith, h)); at_9 = λ h. absurd (omega (arith, h)) })

  stop_0 : InBits n (at-rt 0) l1 l2 sum → eqb left 0 ≡ true → Next 0 (stop_bit (at-rt 0) 1 x)
  unfolding stop_bit
  stop_0 i e g = bits refl (record { high = omega arith; so_far = omega (arith, i.so_far); bound = omega (arith, i.bound); stop = λ h. refl; at_8 = λ h. absurd (omega (arith, h)); at_9 = λ h. absurd (omega (arith, h)) })

  pub bits_0 : FromBits 0
  unfolding framed fixed
  bits_0 i =
      by_case (Next 0) (adjusts n (at-rt 0) three x) (adjusted (at-rt 0)) _ (λ e. adjusted_0 i e)
      (λ e. by_stop (Next 0) (eqb left 0) n (at-rt 0) 1 x (stop_0 i) (data_0 i))

  adjusted_1 : InBits n (at-rt 1) l1 l2 sum → adjusts n (at-rt 1) three x ≡ true → Next 1 (adjusted (at-rt 1))
  adjusted_1 i e g = bits refl (record { high = omega arith; so_far = omega (arith, i.so_far); bound = omega (arith, i.bound); stop = λ h. refl; at_8 = λ h. absurd (omega (arith, h)); at_9 = λ h. absurd (omega (arith, h)) })

  data_1 : InBits n (at-rt 1) l1 l2 sum → eqb left 0 ≡ false → Next 1 (data_bit n (at-rt 1) 2 x)
  unfolding data_bit
  data_1 i e g = bits refl (record { high = omega arith; so_far = omega (arith, i.so_far); bound = omega (arith, i.bound); stop = λ h. absurd (eqb-false left 0 e h); at_8 = λ h. absurd (omega (arith, h)); at_9 = λ h. absurd (omega (arith, h)) })

  stop_1 : InBits n (at-rt 1) l1 l2 sum → eqb left 0 ≡ true → Next 1 (stop_bit (at-rt 1) 2 x)
  unfolding stop_bit
  stop_1 i e g = bits refl (record { high = omega arith; so_far = omega (arith, i.so_far); bound = omega (arith, i.bound); stop = λ h. refl; at_8 = λ h. absurd (omega (arith, h)); at_9 = λ h. absurd (omega (arith, h)) })

  pub bits_1 : FromBits 1
  unfolding framed fixed
  bits_1 i =
      by_case (Next 1) (adjusts n (at-rt 1) three x) (adjusted (at-rt 1)) _ (λ e. adjusted_1 i e)
      (λ e. by_stop (Next 1) (eqb left 0) n (at-rt 1) 2 x (stop_1 i) (data_1 i))

  adjusted_2 : InBits n (at-rt 2) l1 l2 sum → adjusts n (at-rt 2) three x ≡ true → Next 2 (adjusted (at-rt 2))
  adjusted_2 i e g = bits refl (record { high = omega arith; so_far = omega (arith, i.so_far); bound = omega (arith, i.bound); stop = λ h. refl; at_8 = λ h. absurd (omega (arith, h)); at_9 = λ h. absurd (omega (arith, h)) })

  data_2 : InBits n (at-rt 2) l1 l2 sum → eqb left 0 ≡ false → Next 2 (data_bit n (at-rt 2) 3 x)
  unfolding data_bit
  data_2 i e g = bits refl (record { high = omega arith; so_far = omega (arith, i.so_far); bound = omega (arith, i.bound); stop = λ h. absurd (eqb-false left 0 e h); at_8 = λ h. absurd (omega (arith, h)); at_9 = λ h. absurd (omega (arith, h)) })

  stop_2 : InBits n (at-rt 2) l1 l2 sum → eqb left 0 ≡ true → Next 2 (stop_bit (at-rt 2) 3 x)
  unfolding stop_bit
  stop_2 i e g = bits refl (record { high = omega arith; so_far = omega (arith, i.so_far); bound = omega (arith, i.bound); stop = λ h. refl; at_8 = λ h. absurd (omega (arith, h)); at_9 = λ h. absurd (omega (arith, h)) })

  pub bits_2 : FromBits 2
  unfolding framed fixed
  bits_2 i =
      by_case (Next 2) (adjusts n (at-rt 2) three x) (adjusted (at-rt 2)) _ (λ e. adjusted_2 i e)
      (λ e. by_stop (Next 2) (eqb left 0) n (at-rt 2) 3 x (stop_2 i) (data_2 i))

  adjusted_3 : InBits n (at-rt 3) l1 l2 sum → adjusts n (at-rt 3) three x ≡ true → Next 3 (adjusted (at-rt 3))
  adjusted_3 i e g = bits refl (record { high = omega arith; so_far = omega (arith, i.so_far); bound = omega (arith, i.bound); stop = λ h. refl; at_8 = λ h. absurd (omega (arith, h)); at_9 = λ h. absurd (omega (arith, h)) })

  data_3 : InBits n (at-rt 3) l1 l2 sum → eqb left 0 ≡ false → Next 3 (data_bit n (at-rt 3) 4 x)
  unfolding data_bit
  data_3 i e g = bits refl (record { high = omega arith; so_far = omega (arith, i.so_far); bound = omega (arith, i.bound); stop = λ h. absurd (eqb-false left 0 e h); at_8 = λ h. absurd (omega (arith, h)); at_9 = λ h. absurd (omega (arith, h)) })

  stop_3 : InBits n (at-rt 3) l1 l2 sum → eqb left 0 ≡ true → Next 3 (stop_bit (at-rt 3) 4 x)
  unfolding stop_bit
  stop_3 i e g = bits refl (record { high = omega arith; so_far = omega (arith, i.so_far); bound = omega (arith, i.bound); stop = λ h. refl; at_8 = λ h. absurd (omega (arith, h)); at_9 = λ h. absurd (omega (arith, h)) })

  pub bits_3 : FromBits 3
  unfolding framed fixed
  bits_3 i =
      by_case (Next 3) (adjusts n (at-rt 3) three x) (adjusted (at-rt 3)) _ (λ e. adjusted_3 i e)
      (λ e. by_stop (Next 3) (eqb left 0) n (at-rt 3) 4 x (stop_3 i) (data_3 i))

  adjusted_4 : InBits n (at-rt 4) l1 l2 sum → adjusts n (at-rt 4) three x ≡ true → Next 4 (adjusted (at-rt 4))
  adjusted_4 i e g = bits refl (record { high = omega arith; so_far = omega (arith, i.so_far); bound = omega (arith, i.bound); stop = λ h. refl; at_8 = λ h. absurd (omega (arith, h)); at_9 = λ h. absurd (omega (arith, h)) })

  data_4 : InBits n (at-rt 4) l1 l2 sum → eqb left 0 ≡ false → Next 4 (data_bit n (at-rt 4) 5 x)
  unfolding data_bit
  data_4 i e g = bits refl (record { high = omega arith; so_far = omega (arith, i.so_far); bound = omega (arith, i.bound); stop = λ h. absurd (eqb-false left 0 e h); at_8 = λ h. absurd (omega (arith, h)); at_9 = λ h. absurd (omega (arith, h)) })

  stop_4 : InBits n (at-rt 4) l1 l2 sum → eqb left 0 ≡ true → Next 4 (stop_bit (at-rt 4) 5 x)
  unfolding stop_bit
  stop_4 i e g = bits refl (record { high = omega arith; so_far = omega (arith, i.so_far); bound = omega (arith, i.bound); stop = λ h. refl; at_8 = λ h. absurd (omega (arith, h)); at_9 = λ h. absurd (omega (arith, h)) })

  pub bits_4 : FromBits 4
  unfolding framed fixed
  bits_4 i =
      by_case (Next 4) (adjusts n (at-rt 4) three x) (adjusted (at-rt 4)) _ (λ e. adjusted_4 i e)
      (λ e. by_stop (Next 4) (eqb left 0) n (at-rt 4) 5 x (stop_4 i) (data_4 i))

  adjusted_5 : InBits n (at-rt 5) l1 l2 sum → adjusts n (at-rt 5) three x ≡ true → Next 5 (adjusted (at-rt 5))
  adjusted_5 i e g = bits refl (record { high = omega arith; so_far = omega (arith, i.so_far); bound = omega (arith, i.bound); stop = λ h. refl; at_8 = λ h. absurd (omega (arith, h)); at_9 = λ h. absurd (omega (arith, h)) })

  data_5 : InBits n (at-rt 5) l1 l2 sum → eqb left 0 ≡ false → Next 5 (data_bit n (at-rt 5) 6 x)
  unfolding data_bit
  data_5 i e g = bits refl (record { high = omega arith; so_far = omega (arith, i.so_far); bound = omega (arith, i.bound); stop = λ h. absurd (eqb-false left 0 e h); at_8 = λ h. absurd (omega (arith, h)); at_9 = λ h. absurd (omega (arith, h)) })

  stop_5 : InBits n (at-rt 5) l1 l2 sum → eqb left 0 ≡ true → Next 5 (stop_bit (at-rt 5) 6 x)
  unfolding stop_bit
  stop_5 i e g = bits refl (record { high = omega arith; so_far = omega (arith, i.so_far); bound = omega (arith, i.bound); stop = λ h. refl; at_8 = λ h. absurd (omega (arith, h)); at_9 = λ h. absurd (omega (arith, h)) })

  pub bits_5 : FromBits 5
  unfolding framed fixed
  bits_5 i =
      by_case (Next 5) (adjusts n (at-rt 5) three x) (adjusted (at-rt 5)) _ (λ e. adjusted_5 i e)
      (λ e. by_stop (Next 5) (eqb left 0) n (at-rt 5) 6 x (stop_5 i) (data_5 i))

  adjusted_6 : InBits n (at-rt 6) l1 l2 sum → adjusts n (at-rt 6) three x ≡ true → Next 6 (adjusted (at-rt 6))
  adjusted_6 i e g = bits refl (record { high = omega arith; so_far = omega (arith, i.so_far); bound = omega (arith, i.bound); stop = λ h. refl; at_8 = λ h. absurd (omega (arith, h)); at_9 = λ h. absurd (omega (arith, h)) })

  data_6 : InBits n (at-rt 6) l1 l2 sum → eqb left 0 ≡ false → Next 6 (data_bit n (at-rt 6) 7 x)
  unfolding data_bit
  data_6 i e g = bits refl (record { high = omega arith; so_far = omega (arith, i.so_far); bound = omega (arith, i.bound); stop = λ h. absurd (eqb-false left 0 e h); at_8 = λ h. absurd (omega (arith, h)); at_9 = λ h. absurd (omega (arith, h)) })

  stop_6 : InBits n (at-rt 6) l1 l2 sum → eqb left 0 ≡ true → Next 6 (stop_bit (at-rt 6) 7 x)
  unfolding stop_bit
  stop_6 i e g = bits refl (record { high = omega arith; so_far = omega (arith, i.so_far); bound = omega (arith, i.bound); stop = λ h. refl; at_8 = λ h. absurd (omega (arith, h)); at_9 = λ h. absurd (omega (arith, h)) })

  pub bits_6 : FromBits 6
  unfolding framed fixed
  bits_6 i =
      by_case (Next 6) (adjusts n (at-rt 6) three x) (adjusted (at-rt 6)) _ (λ e. adjusted_6 i e)
      (λ e. by_stop (Next 6) (eqb left 0) n (at-rt 6) 7 x (stop_6 i) (data_6 i))

  adjusted_16 : InBits n (at-rt 16) l1 l2 sum → adjusts n (at-rt 16) three x ≡ true → Next 16 (adjusted (at-rt 16))
  adjusted_16 i e g = absurd (false≢true (and_right (not x && three && true && true && bit (n - 1) shift) _ e))

  data_16 : InBits n (at-rt 16) l1 l2 sum → eqb left 0 ≡ false → Next 16 (data_bit n (at-rt 16) 1 x)
  unfolding data_bit
  data_16 i e g = bits refl (record { high = omega arith; so_far = omega (arith, i.so_far); bound = omega (arith, i.bound); stop = λ h. absurd (eqb-false left 0 e h); at_8 = λ h. absurd (omega (arith, h)); at_9 = λ h. absurd (omega (arith, h)) })

  stop_16 : InBits n (at-rt 16) l1 l2 sum → eqb left 0 ≡ true → Next 16 (stop_bit (at-rt 16) 1 x)
  unfolding stop_bit
  stop_16 i e g = bits refl (record { high = omega arith; so_far = omega (arith, i.so_far); bound = omega (arith, i.bound); stop = λ h. refl; at_8 = λ h. absurd (omega (arith, h)); at_9 = λ h. absurd (omega (arith, h)) })

  pub bits_16 : FromBits 16
  unfolding framed fixed
  bits_16 i =
      by_case (Next 16) (adjusts n (at-rt 16) three x) (adjusted (at-rt 16)) _ (λ e. adjusted_16 i e)
      (λ e. by_stop (Next 16) (eqb left 0) n (at-rt 16) 1 x (stop_16 i) (data_16 i))

-- The noise figure over the three samples that are voted on: what disagrees is added at RT10. Assumes nothing.
use mathlib.Core.Path.{◌≡◌, refl, ◌∙◌}
use mathlib.Core.Bool.{Bool, true, false, not, ◌&&◌, false≢true}
use Prim.Native.Nat.{ℕ, ◌+◌, ◌-◌, ◌%◌, ◌≤◌}
use native.Mathlib.Omega.{arith}
use lib.Dec.{eqb}
use borrow.Author.Tests.{eqb-false}
use Rattle.steps.specs.Bits.{bit}
use Rattle.sci.specs.model.Bits.{vote}
use Rattle.sci.specs.model.Framer.{adjusts, adjusted, data_bit, stop_bit, fixed, framed}
use Rattle.sci.specs.declared.framer.Framer.{Framer}
use Rattle.sci.proofs.Membership.{and_right}
use Rattle.claims_clauses.specs.Noise.{disagree, bit_gives}
use Rattle.claims_clauses.proofs.Figure.{disagrees, disagree_small, made, InBits, Going, bits}
use Rattle.claims_clauses.proofs.ByCase.{by_case, by_stop}

module _ (n : ℕ) (few : n ≤ 200) (left : ℕ) (a b : Bool) (noise : ℕ) (moved : Bool) (shift : ℕ) (l1 l2 three x : Bool) (sum : ℕ) where
  abbrev at-rt : ℕ → Framer
  at-rt rt = made false left rt a b noise moved shift

  abbrev Next : ℕ → Framer → Type 0
  Next rt g = g.framing ≡ true → Going n g x l1 (sum + bit_gives (rt % 16 + 1) l2 l1 x)

  abbrev FromBits : ℕ → Type 0
  FromBits rt = InBits n (at-rt rt) l1 l2 sum → Next rt (framed n (at-rt rt) three x)

  adjusted_7 : InBits n (at-rt 7) l1 l2 sum → adjusts n (at-rt 7) three x ≡ true → Next 7 (adjusted (at-rt 7))
  adjusted_7 i e g = absurd (false≢true (and_right (not x && three && true && true && bit (n - 1) shift) _ e))

  data_7 : InBits n (at-rt 7) l1 l2 sum → eqb left 0 ≡ false → Next 7 (data_bit n (at-rt 7) 8 x)
  unfolding data_bit
  data_7 i e g = bits refl (record { high = omega arith; so_far = omega (arith, i.so_far); bound = omega (arith, i.bound); stop = λ h. absurd (eqb-false left 0 e h); at_8 = λ h. refl; at_9 = λ h. absurd (omega (arith, h)) })

  stop_7 : InBits n (at-rt 7) l1 l2 sum → eqb left 0 ≡ true → Next 7 (stop_bit (at-rt 7) 8 x)
  unfolding stop_bit
  stop_7 i e g = bits refl (record { high = omega arith; so_far = omega (arith, i.so_far); bound = omega (arith, i.bound); stop = λ h. refl; at_8 = λ h. refl; at_9 = λ h. absurd (omega (arith, h)) })

  pub bits_7 : FromBits 7
  unfolding framed fixed
  bits_7 i =
      by_case (Next 7) (adjusts n (at-rt 7) three x) (adjusted (at-rt 7)) _ (λ e. adjusted_7 i e)
      (λ e. by_stop (Next 7) (eqb left 0) n (at-rt 7) 8 x (stop_7 i) (data_7 i))

  adjusted_8 : InBits n (at-rt 8) l1 l2 sum → adjusts n (at-rt 8) three x ≡ true → Next 8 (adjusted (at-rt 8))
  adjusted_8 i e g = absurd (false≢true (and_right (not x && three && true && true && bit (n - 1) shift) _ e))

  data_8 : InBits n (at-rt 8) l1 l2 sum → eqb left 0 ≡ false → Next 8 (data_bit n (at-rt 8) 9 x)
  unfolding data_bit
  data_8 i e g = bits refl (record { high = omega arith; so_far = omega (arith, i.so_far); bound = omega (arith, i.bound); stop = λ h. absurd (eqb-false left 0 e h); at_8 = λ h. absurd (omega (arith, h)); at_9 = λ h. (i.at_8 refl, refl) })

  stop_8 : InBits n (at-rt 8) l1 l2 sum → eqb left 0 ≡ true → Next 8 (stop_bit (at-rt 8) 9 x)
  unfolding stop_bit
  stop_8 i e g = bits refl (record { high = omega arith; so_far = omega (arith, i.so_far); bound = omega (arith, i.bound); stop = λ h. refl; at_8 = λ h. absurd (omega (arith, h)); at_9 = λ h. (i.at_8 refl, refl) })

  pub bits_8 : FromBits 8
  unfolding framed fixed
  bits_8 i =
      by_case (Next 8) (adjusts n (at-rt 8) three x) (adjusted (at-rt 8)) _ (λ e. adjusted_8 i e)
      (λ e. by_stop (Next 8) (eqb left 0) n (at-rt 8) 9 x (stop_8 i) (data_8 i))

  adjusted_9 : InBits n (at-rt 9) l1 l2 sum → adjusts n (at-rt 9) three x ≡ true → Next 9 (adjusted (at-rt 9))
  adjusted_9 i e g = absurd (false≢true (and_right (not x && three && true && true && bit (n - 1) shift) _ e))

  data_9 : InBits n (at-rt 9) l1 l2 sum → eqb left 0 ≡ false → Next 9 (data_bit n (at-rt 9) 10 x)
  unfolding data_bit
  data_9 i e g =
      let said : (vote a b x).disagreed ≡ disagree l2 l1 x = disagrees a b x ∙ rw ((i.at_9 refl).0, (i.at_9 refl).1) in
      rw said (bits refl (record { high = omega arith; so_far = omega (arith, i.so_far, i.bound, disagree_small l2 l1 x); bound = omega (arith, i.bound, disagree_small l2 l1 x); stop = λ h. absurd (eqb-false left 0 e h); at_8 = λ h. absurd (omega (arith, h)); at_9 = λ h. absurd (omega (arith, h)) }))

  stop_9 : InBits n (at-rt 9) l1 l2 sum → eqb left 0 ≡ true → Next 9 (stop_bit (at-rt 9) 10 x)
  unfolding stop_bit
  stop_9 i e g = absurd (false≢true g)

  pub bits_9 : FromBits 9
  unfolding framed fixed
  bits_9 i =
      by_case (Next 9) (adjusts n (at-rt 9) three x) (adjusted (at-rt 9)) _ (λ e. adjusted_9 i e)
      (λ e. by_stop (Next 9) (eqb left 0) n (at-rt 9) 10 x (stop_9 i) (data_9 i))

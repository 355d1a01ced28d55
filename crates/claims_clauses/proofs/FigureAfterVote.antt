-- The noise figure over a sample at RT11 to RT16: nothing is added, also where the next bit begins early. Assumes nothing.
use mathlib.Core.Path.{◌≡◌, refl}
use mathlib.Core.Bool.{Bool, true, false, not, ◌&&◌, false≢true}
use Prim.Native.Nat.{ℕ, ◌+◌, ◌-◌, ◌%◌, ◌≤◌, ◌<◌}
use native.Mathlib.Omega.{arith}
use lib.Dec.{eqb, ltb}
use borrow.Author.Tests.{eqb-true, eqb-false, ltb-true}
use Rattle.steps.specs.Bits.{bit}
use Rattle.sci.specs.model.Framer.{adjusts, adjusted, data_bit, stop_bit, fixed, framed}
use Rattle.sci.specs.declared.framer.Framer.{Framer}
use Rattle.sci.proofs.Membership.{and_right}
use Rattle.qsm.proofs.Booleans.{one_of}
use Rattle.claims_clauses.specs.Noise.{bit_gives}
use Rattle.claims_clauses.proofs.Figure.{made, InBits, Going, bits}
use Rattle.claims_clauses.proofs.ByCase.{by_case, by_stop}

module _ (n : ℕ) (few : n ≤ 200) (left : ℕ) (a b : Bool) (noise : ℕ) (moved : Bool) (shift : ℕ) (l1 l2 three x : Bool) (sum : ℕ) where
  abbrev at-rt : ℕ → Framer
  at-rt rt = made false left rt a b noise moved shift

  abbrev Next : ℕ → Framer → Type 0
  Next rt g = g.framing ≡ true → Going n g x l1 (sum + bit_gives (rt % 16 + 1) l2 l1 x)

  abbrev FromBits : ℕ → Type 0
  FromBits rt = InBits n (at-rt rt) l1 l2 sum → Next rt (framed n (at-rt rt) three x)

  adjusted_10 : InBits n (at-rt 10) l1 l2 sum → adjusts n (at-rt 10) three x ≡ true → Next 10 (adjusted (at-rt 10))
  adjusted_10 i e g =
      let more_left : ltb 1 left ≡ true = one_of (ltb 1 left) false (and_right (not x && three && true && true && bit (n - 1) shift) _ e) (λ h. h) (λ h. absurd (false≢true h)) in
      let two : 1 < left = ltb-true 1 left more_left in
      rw more_left (bits refl (record { high = omega arith; so_far = omega (arith, i.so_far); bound = omega (arith, i.bound); stop = λ h. refl; at_8 = λ h. absurd (omega (arith, h)); at_9 = λ h. absurd (omega (arith, h)) }))

  data_10 : InBits n (at-rt 10) l1 l2 sum → eqb left 0 ≡ false → Next 10 (data_bit n (at-rt 10) 11 x)
  unfolding data_bit
  data_10 i e g = bits refl (record { high = omega arith; so_far = omega (arith, i.so_far); bound = omega (arith, i.bound); stop = λ h. absurd (eqb-false left 0 e h); at_8 = λ h. absurd (omega (arith, h)); at_9 = λ h. absurd (omega (arith, h)) })

  stop_10 : InBits n (at-rt 10) l1 l2 sum → eqb left 0 ≡ true → Next 10 (stop_bit (at-rt 10) 11 x)
  unfolding stop_bit
  stop_10 i e g = absurd (let no : ◌≡◌ {A = ℕ} 1 0 = i.stop (eqb-true left 0 e) in omega (arith, no))

  pub bits_10 : FromBits 10
  unfolding framed fixed
  bits_10 i =
      by_case (Next 10) (adjusts n (at-rt 10) three x) (adjusted (at-rt 10)) _ (λ e. adjusted_10 i e)
      (λ e. by_stop (Next 10) (eqb left 0) n (at-rt 10) 11 x (stop_10 i) (data_10 i))

  adjusted_11 : InBits n (at-rt 11) l1 l2 sum → adjusts n (at-rt 11) three x ≡ true → Next 11 (adjusted (at-rt 11))
  adjusted_11 i e g =
      let more_left : ltb 1 left ≡ true = one_of (ltb 1 left) false (and_right (not x && three && true && true && bit (n - 1) shift) _ e) (λ h. h) (λ h. absurd (false≢true h)) in
      let two : 1 < left = ltb-true 1 left more_left in
      rw more_left (bits refl (record { high = omega arith; so_far = omega (arith, i.so_far); bound = omega (arith, i.bound); stop = λ h. refl; at_8 = λ h. absurd (omega (arith, h)); at_9 = λ h. absurd (omega (arith, h)) }))

  data_11 : InBits n (at-rt 11) l1 l2 sum → eqb left 0 ≡ false → Next 11 (data_bit n (at-rt 11) 12 x)
  unfolding data_bit
  data_11 i e g = bits refl (record { high = omega arith; so_far = omega (arith, i.so_far); bound = omega (arith, i.bound); stop = λ h. absurd (eqb-false left 0 e h); at_8 = λ h. absurd (omega (arith, h)); at_9 = λ h. absurd (omega (arith, h)) })

  stop_11 : InBits n (at-rt 11) l1 l2 sum → eqb left 0 ≡ true → Next 11 (stop_bit (at-rt 11) 12 x)
  unfolding stop_bit
  stop_11 i e g = absurd (let no : ◌≡◌ {A = ℕ} 1 0 = i.stop (eqb-true left 0 e) in omega (arith, no))

  pub bits_11 : FromBits 11
  unfolding framed fixed
  bits_11 i =
      by_case (Next 11) (adjusts n (at-rt 11) three x) (adjusted (at-rt 11)) _ (λ e. adjusted_11 i e)
      (λ e. by_stop (Next 11) (eqb left 0) n (at-rt 11) 12 x (stop_11 i) (data_11 i))

  adjusted_12 : InBits n (at-rt 12) l1 l2 sum → adjusts n (at-rt 12) three x ≡ true → Next 12 (adjusted (at-rt 12))
  adjusted_12 i e g =
      let more_left : ltb 1 left ≡ true = one_of (ltb 1 left) false (and_right (not x && three && true && true && bit (n - 1) shift) _ e) (λ h. h) (λ h. absurd (false≢true h)) in
      let two : 1 < left = ltb-true 1 left more_left in
      rw more_left (bits refl (record { high = omega arith; so_far = omega (arith, i.so_far); bound = omega (arith, i.bound); stop = λ h. refl; at_8 = λ h. absurd (omega (arith, h)); at_9 = λ h. absurd (omega (arith, h)) }))

  data_12 : InBits n (at-rt 12) l1 l2 sum → eqb left 0 ≡ false → Next 12 (data_bit n (at-rt 12) 13 x)
  unfolding data_bit
  data_12 i e g = bits refl (record { high = omega arith; so_far = omega (arith, i.so_far); bound = omega (arith, i.bound); stop = λ h. absurd (eqb-false left 0 e h); at_8 = λ h. absurd (omega (arith, h)); at_9 = λ h. absurd (omega (arith, h)) })

  stop_12 : InBits n (at-rt 12) l1 l2 sum → eqb left 0 ≡ true → Next 12 (stop_bit (at-rt 12) 13 x)
  unfolding stop_bit
  stop_12 i e g = absurd (let no : ◌≡◌ {A = ℕ} 1 0 = i.stop (eqb-true left 0 e) in omega (arith, no))

  pub bits_12 : FromBits 12
  unfolding framed fixed
  bits_12 i =
      by_case (Next 12) (adjusts n (at-rt 12) three x) (adjusted (at-rt 12)) _ (λ e. adjusted_12 i e)
      (λ e. by_stop (Next 12) (eqb left 0) n (at-rt 12) 13 x (stop_12 i) (data_12 i))

  adjusted_13 : InBits n (at-rt 13) l1 l2 sum → adjusts n (at-rt 13) three x ≡ true → Next 13 (adjusted (at-rt 13))
  adjusted_13 i e g =
      let more_left : ltb 1 left ≡ true = one_of (ltb 1 left) false (and_right (not x && three && true && true && bit (n - 1) shift) _ e) (λ h. h) (λ h. absurd (false≢true h)) in
      let two : 1 < left = ltb-true 1 left more_left in
      rw more_left (bits refl (record { high = omega arith; so_far = omega (arith, i.so_far); bound = omega (arith, i.bound); stop = λ h. refl; at_8 = λ h. absurd (omega (arith, h)); at_9 = λ h. absurd (omega (arith, h)) }))

  data_13 : InBits n (at-rt 13) l1 l2 sum → eqb left 0 ≡ false → Next 13 (data_bit n (at-rt 13) 14 x)
  unfolding data_bit
  data_13 i e g = bits refl (record { high = omega arith; so_far = omega (arith, i.so_far); bound = omega (arith, i.bound); stop = λ h. absurd (eqb-false left 0 e h); at_8 = λ h. absurd (omega (arith, h)); at_9 = λ h. absurd (omega (arith, h)) })

  stop_13 : InBits n (at-rt 13) l1 l2 sum → eqb left 0 ≡ true → Next 13 (stop_bit (at-rt 13) 14 x)
  unfolding stop_bit
  stop_13 i e g = absurd (let no : ◌≡◌ {A = ℕ} 1 0 = i.stop (eqb-true left 0 e) in omega (arith, no))

  pub bits_13 : FromBits 13
  unfolding framed fixed
  bits_13 i =
      by_case (Next 13) (adjusts n (at-rt 13) three x) (adjusted (at-rt 13)) _ (λ e. adjusted_13 i e)
      (λ e. by_stop (Next 13) (eqb left 0) n (at-rt 13) 14 x (stop_13 i) (data_13 i))

  adjusted_14 : InBits n (at-rt 14) l1 l2 sum → adjusts n (at-rt 14) three x ≡ true → Next 14 (adjusted (at-rt 14))
  adjusted_14 i e g =
      let more_left : ltb 1 left ≡ true = one_of (ltb 1 left) false (and_right (not x && three && true && true && bit (n - 1) shift) _ e) (λ h. h) (λ h. absurd (false≢true h)) in
      let two : 1 < left = ltb-true 1 left more_left in
      rw more_left (bits refl (record { high = omega arith; so_far = omega (arith, i.so_far); bound = omega (arith, i.bound); stop = λ h. refl; at_8 = λ h. absurd (omega (arith, h)); at_9 = λ h. absurd (omega (arith, h)) }))

  data_14 : InBits n (at-rt 14) l1 l2 sum → eqb left 0 ≡ false → Next 14 (data_bit n (at-rt 14) 15 x)
  unfolding data_bit
  data_14 i e g = bits refl (record { high = omega arith; so_far = omega (arith, i.so_far); bound = omega (arith, i.bound); stop = λ h. absurd (eqb-false left 0 e h); at_8 = λ h. absurd (omega (arith, h)); at_9 = λ h. absurd (omega (arith, h)) })

  stop_14 : InBits n (at-rt 14) l1 l2 sum → eqb left 0 ≡ true → Next 14 (stop_bit (at-rt 14) 15 x)
  unfolding stop_bit
  stop_14 i e g = absurd (let no : ◌≡◌ {A = ℕ} 1 0 = i.stop (eqb-true left 0 e) in omega (arith, no))

  pub bits_14 : FromBits 14
  unfolding framed fixed
  bits_14 i =
      by_case (Next 14) (adjusts n (at-rt 14) three x) (adjusted (at-rt 14)) _ (λ e. adjusted_14 i e)
      (λ e. by_stop (Next 14) (eqb left 0) n (at-rt 14) 15 x (stop_14 i) (data_14 i))

  adjusted_15 : InBits n (at-rt 15) l1 l2 sum → adjusts n (at-rt 15) three x ≡ true → Next 15 (adjusted (at-rt 15))
  adjusted_15 i e g =
      let more_left : ltb 1 left ≡ true = one_of (ltb 1 left) false (and_right (not x && three && true && true && bit (n - 1) shift) _ e) (λ h. h) (λ h. absurd (false≢true h)) in
      let two : 1 < left = ltb-true 1 left more_left in
      rw more_left (bits refl (record { high = omega arith; so_far = omega (arith, i.so_far); bound = omega (arith, i.bound); stop = λ h. refl; at_8 = λ h. absurd (omega (arith, h)); at_9 = λ h. absurd (omega (arith, h)) }))

  data_15 : InBits n (at-rt 15) l1 l2 sum → eqb left 0 ≡ false → Next 15 (data_bit n (at-rt 15) 16 x)
  unfolding data_bit
  data_15 i e g = bits refl (record { high = omega arith; so_far = omega (arith, i.so_far); bound = omega (arith, i.bound, (eqb-false left 0 e)); stop = λ h. refl; at_8 = λ h. absurd (omega (arith, h)); at_9 = λ h. absurd (omega (arith, h)) })

  stop_15 : InBits n (at-rt 15) l1 l2 sum → eqb left 0 ≡ true → Next 15 (stop_bit (at-rt 15) 16 x)
  unfolding stop_bit
  stop_15 i e g = absurd (let no : ◌≡◌ {A = ℕ} 1 0 = i.stop (eqb-true left 0 e) in omega (arith, no))

  pub bits_15 : FromBits 15
  unfolding framed fixed
  bits_15 i =
      by_case (Next 15) (adjusts n (at-rt 15) three x) (adjusted (at-rt 15)) _ (λ e. adjusted_15 i e)
      (λ e. by_stop (Next 15) (eqb left 0) n (at-rt 15) 16 x (stop_15 i) (data_15 i))

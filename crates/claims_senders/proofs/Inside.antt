-- Inside a frame, by the number of samples until it ends; one sample that makes no adjustment. Assumes nothing.
use mathlib.Core.Path.{◌≡◌, refl}
use mathlib.Core.Bool.{Bool, true, false, cond, ◌&&◌}
use Prim.Native.Nat.{ℕ, suc, ◌+◌, ◌-◌, ◌*◌, ◌%◌, ◌≤◌, ◌<◌}
use native.Mathlib.Omega.{arith}
use lib.Dec.{eqb, leb}
use borrow.Author.Tests.{eqb-true, eqb-false, leb-true, ne_eqb, eq-eqb}
use Rattle.sci.specs.model.Bits.{vote}
use Rattle.sci.specs.model.Framer.{more, ends, collected, start_bit, data_bit, stop_bit, in_bit, fixed}
use Rattle.sci.specs.declared.framer.Framer.{Framer}
use Rattle.sci.proofs.Membership.{and_right}
use Rattle.sci.proofs.Frames.{by_cond}

-- Without noise so far: in the start bit, and past it.
abbrev pub in_start : ℕ → ℕ → Bool → Bool → Bool → ℕ → Framer
in_start left rt p q mv s =
    record { framing = true; starting = true; left = left; rt = rt; first = p; second = q; noise = 0; moved = mv; shift = s }

abbrev pub in_data : ℕ → ℕ → Bool → Bool → Bool → ℕ → Framer
in_data left rt p q mv s =
    record { framing = true; starting = false; left = left; rt = rt; first = p; second = q; noise = 0; moved = mv; shift = s }

-- The frame ends with the w-th sample from here; s is what is collected; the samples taken of a vote under way are x.
pub data Inside (n : ℕ) (x : Bool) (w s : ℕ) : Framer → Type 0 where
  early : (rt : ℕ) (p q mv : Bool) → 10 ≤ rt → rt < 16 → w + rt ≡ 16 * n + 26 → Inside n x w s (in_start n rt p q mv s)
  late : (left rt : ℕ) (p q mv : Bool) → 0 < rt → rt ≤ 16 → w + rt % 16 ≡ 16 * left + 10 → (rt ≡ 8 → p ≡ x) → (rt ≡ 9 → p ≡ x) →
      (rt ≡ 9 → q ≡ x) → Inside n x w s (in_data left rt p q mv s)

-- What is collected after a sample that leaves w to go: RT10 of a data bit leaves a multiple of 16.
abbrev pub taken : ℕ → Bool → ℕ → ℕ → ℕ
taken n x w s = cond (eqb (w % 16) 0) (collected x n s) s

keeps : {n : ℕ} {x : Bool} {w s : ℕ} {f : Framer} → (w % 16 ≡ 0 → ⊥) → Inside n x w s f → Inside n x w (taken n x w s) f
keeps {w = w} h i = rw (ne_eqb (w % 16) 0 h) i

takes : {n : ℕ} {x : Bool} {w : ℕ} (s : ℕ) {f : Framer} → w % 16 ≡ 0 → Inside n x w (collected x n s) f → Inside n x w (taken n x w s) f
takes {w = w} s h i = rw (eq-eqb (w % 16) 0 h) i

-- The start bit from RT11 on.
module _ (n w s rt : ℕ) (p q mv x : Bool) (g : 10 ≤ rt) (h : rt < 16) (e : suc w + rt ≡ 16 * n + 26) where
  abbrev P : Framer → Type 0
  P f = Inside n x w (taken n x w s) f

  start_on : (rt % 16 + 1 ≡ 16 → ⊥) → P (in_start n (rt % 16 + 1) p q mv s)
  start_on k = keeps (λ z. omega arith) (early (rt % 16 + 1) p q mv (omega arith) (omega arith) (omega arith))

  start_over : rt % 16 + 1 ≡ 16 → P (in_data n (rt % 16 + 1) p q mv s)
  start_over k =
      keeps (λ z. omega arith)
      (late n (rt % 16 + 1) p q mv (omega arith) (omega arith) (omega arith) (λ z. absurd (omega arith)) (λ z. absurd (omega arith)) (λ z. absurd (omega arith)))

  start_step : P (start_bit (in_start n rt p q mv s) (rt % 16 + 1) x)
  unfolding start_bit
  start_step =
      by_cond P (eqb (rt % 16 + 1) 3) (λ z. absurd (omega (arith, eqb-true (rt % 16 + 1) 3 z)))
      (λ _. by_cond P (eqb (rt % 16 + 1) 5) (λ z. absurd (omega (arith, eqb-true (rt % 16 + 1) 5 z)))
      (λ _. by_cond P (eqb (rt % 16 + 1) 7) (λ z. absurd (omega (arith, eqb-true (rt % 16 + 1) 7 z)))
      (λ _. by_cond P (eqb (rt % 16 + 1) 16) (λ z. start_over (eqb-true _ _ z))
      (λ z. by_cond P (leb 8 (rt % 16 + 1) && leb (rt % 16 + 1) 10)
      (λ v. absurd (omega (arith, leb-true (rt % 16 + 1) 10 (and_right (leb 8 (rt % 16 + 1)) (leb (rt % 16 + 1) 10) v))))
      (λ v. start_on (eqb-false _ _ z))))))

-- A data bit, and the stop bit up to its RT9.
module _ (n w s left rt : ℕ) (p q mv x : Bool) (g : 0 < rt) (h : rt ≤ 16) (e : suc w + rt % 16 ≡ 16 * left + 10)
    (first : rt ≡ 8 → p ≡ x) (first' : rt ≡ 9 → p ≡ x) (second : rt ≡ 9 → q ≡ x) (some : 0 < w) where
  abbrev Q : Framer → Type 0
  Q f = Inside n x w (taken n x w s) f

  at_8 : rt % 16 + 1 ≡ 8 → Q (in_data left (rt % 16 + 1) x q mv s)
  at_8 k =
      keeps (λ z. omega arith)
      (late left (rt % 16 + 1) x q mv (omega arith) (omega arith) (omega arith) (λ z. refl) (λ z. absurd (omega arith)) (λ z. absurd (omega arith)))

  at_9 : rt % 16 + 1 ≡ 9 → Q (in_data left (rt % 16 + 1) p x mv s)
  at_9 k =
      keeps (λ z. omega arith)
      (late left (rt % 16 + 1) p x mv (omega arith) (omega arith) (omega arith) (λ z. absurd (omega arith)) (λ z. first (omega arith)) (λ z. refl))

  no_noise : (x : Bool) → more 0 (vote x x x).disagreed ≡ 0
  no_noise true = refl
  no_noise false = refl

  same_bit : (x : Bool) → (vote x x x).bit ≡ x
  same_bit true = refl
  same_bit false = refl

  at_10 : rt % 16 + 1 ≡ 10 →
      Q (record {
        framing = true;
        starting = false;
        left = left;
        rt = rt % 16 + 1;
        first = p;
        second = q;
        noise = more 0 (vote p q x).disagreed;
        moved = mv;
        shift = collected (vote p q x).bit n s;
      })
  at_10 k =
      let a : p ≡ x = first' (omega arith) in
      let b : q ≡ x = second (omega arith) in
      rw (a, b, no_noise x, same_bit x)
      (takes s (omega arith)
      (late left (rt % 16 + 1) x x mv (omega arith) (omega arith) (omega arith) (λ z. refl) (λ z. refl) (λ z. refl)))

  at_16 : 0 < left → rt % 16 + 1 ≡ 16 → Q (in_data (left - 1) (rt % 16 + 1) p q false s)
  at_16 l k =
      keeps (λ z. omega arith)
      (late (left - 1) (rt % 16 + 1) p q false (omega arith) (omega arith) (omega arith) (λ z. absurd (omega arith)) (λ z. absurd (omega arith)) (λ z. absurd (omega arith)))

  between : (rt % 16 + 1 ≡ 8 → ⊥) → (rt % 16 + 1 ≡ 9 → ⊥) → (rt % 16 + 1 ≡ 10 → ⊥) → (rt % 16 + 1 ≡ 16 → ⊥) →
      Q (in_data left (rt % 16 + 1) p q mv s)
  between a b c d =
      keeps (λ z. omega arith)
      (late left (rt % 16 + 1) p q mv (omega arith) (omega arith) (omega arith) (λ z. absurd (a z)) (λ z. absurd (b z)) (λ z. absurd (b z)))

  data_step : 0 < left → Q (data_bit n (in_data left rt p q mv s) (rt % 16 + 1) x)
  unfolding data_bit
  data_step l =
      by_cond Q (eqb (rt % 16 + 1) 8) (λ z. at_8 (eqb-true _ _ z))
      (λ a. by_cond Q (eqb (rt % 16 + 1) 9) (λ z. at_9 (eqb-true _ _ z))
      (λ b. by_cond Q (eqb (rt % 16 + 1) 10) (λ z. at_10 (eqb-true _ _ z))
      (λ c. by_cond Q (eqb (rt % 16 + 1) 16) (λ z. at_16 l (eqb-true _ _ z))
      (λ d. between (eqb-false _ _ a) (eqb-false _ _ b) (eqb-false _ _ c) (eqb-false _ _ d)))))

  stop_step : left ≡ 0 → Q (stop_bit (in_data left rt p q mv s) (rt % 16 + 1) x)
  unfolding stop_bit
  stop_step l =
      by_cond Q (eqb (rt % 16 + 1) 8) (λ z. at_8 (eqb-true _ _ z))
      (λ a. by_cond Q (eqb (rt % 16 + 1) 9) (λ z. at_9 (eqb-true _ _ z))
      (λ b. by_cond Q (eqb (rt % 16 + 1) 10) (λ z. absurd (omega (arith, eqb-true (rt % 16 + 1) 10 z)))
      (λ c. between (eqb-false _ _ a) (eqb-false _ _ b) (eqb-false _ _ c) (λ z. omega arith))))

  late_step : (stopping : Bool) → eqb left 0 ≡ stopping → Q (in_bit false stopping n (in_data left rt p q mv s) (rt % 16 + 1) x)
  late_step true z = stop_step (eqb-true left 0 z)
  late_step false z = data_step (omega (arith, eqb-false left 0 z))

-- One sample without an adjustment.
pub fixed_on : {n : ℕ} {x : Bool} {w s : ℕ} {f : Framer} → Inside n x (suc w) s f → 0 < w → (three : Bool) →
    Inside n x w (taken n x w s) (fixed n f three x)
unfolding fixed
fixed_on {n} {x} {w} {s} (early rt p q mv g h e) some three = start_step n w s rt p q mv x g h e
fixed_on {n} {x} {w} {s} (late left rt p q mv g h e a b c) some three =
    late_step n w s left rt p q mv x g h e a b c some (eqb left 0) refl

-- It is not the frame's last.
pub not_last : {n : ℕ} {x : Bool} {w s : ℕ} {f : Framer} → Inside n x w s f → 1 < w → ends f ≡ false
not_last (early rt p q mv g h e) some = refl
not_last {w = w} (late left rt p q mv g h e a b c) some = go (eqb left 0) (eqb rt 9) (eqb-true left 0) (eqb-true rt 9)
  where
    go : (y z : Bool) → (y ≡ true → left ≡ 0) → (z ≡ true → rt ≡ 9) → y && z ≡ false
    go true true k l = absurd (omega (arith, k refl, l refl))
    go true false k l = refl
    go false z k l = refl

-- Where the level may change no vote is under way.
pub turned : {n : ℕ} {x : Bool} {w s : ℕ} {f : Framer} (j : ℕ) (y : Bool) → 16 * j + 3 ≤ w → w ≤ 16 * j + 16 → Inside n x w s f →
    Inside n y w s f
turned j y l u (early rt p q mv g h e) = early rt p q mv g h e
turned j y l u (late left rt p q mv g h e a b c) =
    late left rt p q mv g h e (λ z. absurd (omega arith)) (λ z. absurd (omega arith)) (λ z. absurd (omega arith))

-- Samples that lead a framer through a frame, one step after another: sixteen samples of a bit are sixteen steps that compute, whatever
-- the samples are.
-- Assumes nothing.
use Prim.Native.Nat.{ℕ, suc, ◌+◌, ◌-◌, ◌%◌}
use mathlib.Core.Bool.{Bool, true, false, ◌&&◌}
use mathlib.Core.List.{List, [], ◌∷◌}
use mathlib.Core.Path.{◌≡◌, refl, subst, ◌∙◌}
use lib.Dec.{eqb, eqb-suc-zero}
use Rattle.steps.specs.Bits.{digit}
use Rattle.sci.specs.model.Bits.{majority, disagreed, ones_of}
use Rattle.sci.specs.model.Framer.{more, begun, ends, collected, start_bit, data_bit, stop_bit, fixed, adjusts, framed}
use Rattle.sci.specs.claims.Levels.{framer_after, Unmoved}
use Rattle.sci.specs.declared.framer.Framer.{Framer}

-- Samples that lead a framer from f to g inside a frame, none of them the frame's last.
pub data Walk (n : ℕ) : List Bool → Framer → Framer → Type 0 where
  here : {f : Framer} → Walk n [] f f
  on : {f g : Framer} {x : Bool} {xs : List Bool} (next : Framer) → f.framing ≡ true → ends f ≡ false →
      ((three : Bool) → fixed n f three x ≡ next) → Walk n xs next g → Walk n (x ∷ xs) f g

-- Inside a bit: the start bit; a data bit or the stop bit, with m data bits left.
abbrev in_start : ℕ → ℕ → Bool → Bool → ℕ → Framer
in_start n rt a c noise =
    record { framing = true; starting = true; left = n; rt = rt; first = a; second = c; noise = noise; moved = false; shift = 0 }

abbrev pub bit_at : ℕ → ℕ → Bool → Bool → ℕ → ℕ → Framer
bit_at m rt a c noise s =
    record { framing = true; starting = false; left = m; rt = rt; first = a; second = c; noise = noise; moved = false; shift = s }

start_step : {n : ℕ} {xs : List Bool} {g : Framer} {x : Bool} (rt : ℕ) (a c : Bool) (noise : ℕ) (next : Framer) →
    start_bit (in_start n rt a c noise) (rt % 16 + 1) x ≡ next → Walk n xs next g → Walk n (x ∷ xs) (in_start n rt a c noise) g
unfolding fixed
start_step rt a c noise next e w = on next refl refl (λ three. e) w

data_step : {n : ℕ} {xs : List Bool} {g : Framer} {x : Bool} (m rt : ℕ) (a c : Bool) (noise s : ℕ) (next : Framer) →
    data_bit n (bit_at (suc m) rt a c noise s) (rt % 16 + 1) x ≡ next → Walk n xs next g →
    Walk n (x ∷ xs) (bit_at (suc m) rt a c noise s) g
unfolding fixed
data_step {x = x} m rt a c noise s next e w =
    on {f = bit_at (suc m) rt a c noise s} {x = x} next refl (rw (eqb-suc-zero m)) (λ three. rw (eqb-suc-zero m) e) w

stop_step : {n : ℕ} {xs : List Bool} {g : Framer} {x : Bool} (rt : ℕ) (a c : Bool) (noise s : ℕ) (next : Framer) →
    eqb rt 9 ≡ false → stop_bit (bit_at 0 rt a c noise s) (rt % 16 + 1) x ≡ next → Walk n xs next g →
    Walk n (x ∷ xs) (bit_at 0 rt a c noise s) g
unfolding fixed
stop_step rt a c noise s next h e w = on next refl h (λ three. e) w

-- The start bit from RT2 on, its vote at RT7 no majority of ones: the ones at RT3, RT5, RT7 and at RT8, RT9, RT10 are its noise.
pub walk_start : {g : Framer} (n : ℕ) (x2 x3 x4 x5 x6 x7 x8 x9 x10 x11 x12 x13 x14 x15 x16 : Bool) (xs : List Bool) → majority x3 x5 x7 ≡ false →
    Walk n xs (bit_at n 16 x3 x5 (more (more (more (more 0 (ones_of x3 x5 x7)) (digit x8)) (digit x9)) (digit x10)) 0) g →
    Walk n (x2 ∷ x3 ∷ x4 ∷ x5 ∷ x6 ∷ x7 ∷ x8 ∷ x9 ∷ x10 ∷ x11 ∷ x12 ∷ x13 ∷ x14 ∷ x15 ∷ x16 ∷ xs) (begun n) g
unfolding start_bit
walk_start n x2 x3 x4 x5 x6 x7 x8 x9 x10 x11 x12 x13 x14 x15 x16 xs v w =
    let n₀ : ℕ = more 0 (ones_of x3 x5 x7) in
    let n₁ : ℕ = more n₀ (digit x8) in
    let n₂ : ℕ = more n₁ (digit x9) in
    let n₃ : ℕ = more n₂ (digit x10) in
    start_step 1 false false 0 (in_start n 2 false false 0) refl
    (start_step 2 false false 0 (in_start n 3 x3 false 0) refl
    (start_step 3 x3 false 0 (in_start n 4 x3 false 0) refl
    (start_step 4 x3 false 0 (in_start n 5 x3 x5 0) refl
    (start_step 5 x3 x5 0 (in_start n 6 x3 x5 0) refl
    (start_step 6 x3 x5 0 (in_start n 7 x3 x5 n₀) (rw v)
    (start_step 7 x3 x5 n₀ (in_start n 8 x3 x5 n₁) refl
    (start_step 8 x3 x5 n₁ (in_start n 9 x3 x5 n₂) refl
    (start_step 9 x3 x5 n₂ (in_start n 10 x3 x5 n₃) refl
    (start_step 10 x3 x5 n₃ (in_start n 11 x3 x5 n₃) refl
    (start_step 11 x3 x5 n₃ (in_start n 12 x3 x5 n₃) refl
    (start_step 12 x3 x5 n₃ (in_start n 13 x3 x5 n₃) refl
    (start_step 13 x3 x5 n₃ (in_start n 14 x3 x5 n₃) refl
    (start_step 14 x3 x5 n₃ (in_start n 15 x3 x5 n₃) refl
    (start_step 15 x3 x5 n₃ (bit_at n 16 x3 x5 n₃ 0) refl
    w))))))))))))))

-- A data bit: RT8, RT9 and RT10 are voted on.
pub walk_bit : {g : Framer} (n m : ℕ) (a c : Bool) (noise s : ℕ) (x1 x2 x3 x4 x5 x6 x7 x8 x9 x10 x11 x12 x13 x14 x15 x16 : Bool) (xs : List Bool) →
    Walk n xs (bit_at (suc m - 1) 16 x8 x9 (more noise (disagreed x8 x9 x10)) (collected (majority x8 x9 x10) n s)) g →
    Walk n (x1 ∷ x2 ∷ x3 ∷ x4 ∷ x5 ∷ x6 ∷ x7 ∷ x8 ∷ x9 ∷ x10 ∷ x11 ∷ x12 ∷ x13 ∷ x14 ∷ x15 ∷ x16 ∷ xs) (bit_at (suc m) 16 a c noise s) g
unfolding data_bit
walk_bit n m a c noise s x1 x2 x3 x4 x5 x6 x7 x8 x9 x10 x11 x12 x13 x14 x15 x16 xs w =
    let v : ℕ = more noise (disagreed x8 x9 x10) in
    let t : ℕ = collected (majority x8 x9 x10) n s in
    data_step m 16 a c noise s (bit_at (suc m) 1 a c noise s) refl
    (data_step m 1 a c noise s (bit_at (suc m) 2 a c noise s) refl
    (data_step m 2 a c noise s (bit_at (suc m) 3 a c noise s) refl
    (data_step m 3 a c noise s (bit_at (suc m) 4 a c noise s) refl
    (data_step m 4 a c noise s (bit_at (suc m) 5 a c noise s) refl
    (data_step m 5 a c noise s (bit_at (suc m) 6 a c noise s) refl
    (data_step m 6 a c noise s (bit_at (suc m) 7 a c noise s) refl
    (data_step m 7 a c noise s (bit_at (suc m) 8 x8 c noise s) refl
    (data_step m 8 x8 c noise s (bit_at (suc m) 9 x8 x9 noise s) refl
    (data_step m 9 x8 x9 noise s (bit_at (suc m) 10 x8 x9 v t) refl
    (data_step m 10 x8 x9 v t (bit_at (suc m) 11 x8 x9 v t) refl
    (data_step m 11 x8 x9 v t (bit_at (suc m) 12 x8 x9 v t) refl
    (data_step m 12 x8 x9 v t (bit_at (suc m) 13 x8 x9 v t) refl
    (data_step m 13 x8 x9 v t (bit_at (suc m) 14 x8 x9 v t) refl
    (data_step m 14 x8 x9 v t (bit_at (suc m) 15 x8 x9 v t) refl
    (data_step m 15 x8 x9 v t (bit_at (suc m - 1) 16 x8 x9 v t) refl
    w)))))))))))))))

-- Nine samples of the stop bit; the tenth is the frame's last.
pub walk_stop : (n : ℕ) (a c : Bool) (noise s : ℕ) (x1 x2 x3 x4 x5 x6 x7 x8 x9 : Bool) →
    Walk n (x1 ∷ x2 ∷ x3 ∷ x4 ∷ x5 ∷ x6 ∷ x7 ∷ x8 ∷ x9 ∷ []) (bit_at 0 16 a c noise s) (bit_at 0 9 x8 x9 noise s)
unfolding stop_bit
walk_stop n a c noise s x1 x2 x3 x4 x5 x6 x7 x8 x9 =
    stop_step 16 a c noise s (bit_at 0 1 a c noise s) refl refl
    (stop_step 1 a c noise s (bit_at 0 2 a c noise s) refl refl
    (stop_step 2 a c noise s (bit_at 0 3 a c noise s) refl refl
    (stop_step 3 a c noise s (bit_at 0 4 a c noise s) refl refl
    (stop_step 4 a c noise s (bit_at 0 5 a c noise s) refl refl
    (stop_step 5 a c noise s (bit_at 0 6 a c noise s) refl refl
    (stop_step 6 a c noise s (bit_at 0 7 a c noise s) refl refl
    (stop_step 7 a c noise s (bit_at 0 8 x8 c noise s) refl refl
    (stop_step 8 x8 c noise s (bit_at 0 9 x8 x9 noise s) refl refl
    here))))))))

-- A sample that makes no adjustment.
pub unmoved : (n : ℕ) (f : Framer) (three x : Bool) → adjusts n f three x ≡ false → framed n f three x ≡ fixed n f three x
unfolding framed
unmoved n f three x e = rw e

-- Where none does, a walk is what the framer does.
pub along : {n : ℕ} {xs : List Bool} {f g : Framer} (a b c : Bool) → Walk n xs f g → Unmoved n a b c f xs →
    framer_after n a b c f xs ≡ g
unfolding framer_after Unmoved
along a b c here u = refl
along {n} a b c (on {f = f} {g = g} {x = x} {xs = xs} next h q e w) u =
    let s : framed n f (a && b && c) x ≡ next = unmoved n f (a && b && c) x u.0 ∙ e (a && b && c) in
    rw s (along x a b w (subst (λ (k : Framer). Unmoved n x a b k xs) s u.1))

-- The noise figure of a frame is the sum over its samples, by the walk through its bits.
use Prim.Native.Nat.{ℕ, zero, suc, ◌+◌, ◌-◌, ◌*◌, ◌≤◌}
use mathlib.Core.Bool.{Bool, true, false, true≢false}
use mathlib.Core.List.{List, [], ◌∷◌, ◌++◌}
use mathlib.Core.Path.{◌≡◌, refl, ap, ◌∙◌}
use native.Mathlib.Omega.{arith}
use lib.ListN.{length}
use Rattle.steps.specs.Bits.{digit}
use Rattle.sci.specs.model.Bits.{majority, disagreed, ones_of}
use Rattle.sci.specs.model.Framer.{more, searching, begun, ends, frame_of, collected, fixed, framed}
use Rattle.sci.specs.claims.Levels.{framer_after, Unmoved}
use Rattle.sci.specs.claims.Figure.{disagreements, figure, Stands, FrameFigure}
use Rattle.sci.specs.declared.framer.Framer.{Framer}
use Rattle.sci.proofs.Votes.{disagreed_small, digit_small}
use Rattle.sci.proofs.Walk.{Walk, bit_at, walk_start, walk_bit, walk_stop, along}

-- Samples of a whole bit, and of a stop bit up to RT9.
data Sixteen : List Bool → Type 0 where
  sixteen : (x1 x2 x3 x4 x5 x6 x7 x8 x9 x10 x11 x12 x13 x14 x15 x16 : Bool) (xs : List Bool) → Sixteen (x1 ∷ x2 ∷ x3 ∷ x4 ∷ x5 ∷ x6 ∷ x7 ∷ x8 ∷ x9 ∷ x10 ∷ x11 ∷ x12 ∷ x13 ∷ x14 ∷ x15 ∷ x16 ∷ xs)

whole_bit : (xs : List Bool) → 16 ≤ length xs → Sixteen xs
whole_bit (x1 ∷ x2 ∷ x3 ∷ x4 ∷ x5 ∷ x6 ∷ x7 ∷ x8 ∷ x9 ∷ x10 ∷ x11 ∷ x12 ∷ x13 ∷ x14 ∷ x15 ∷ x16 ∷ xs) h = sixteen x1 x2 x3 x4 x5 x6 x7 x8 x9 x10 x11 x12 x13 x14 x15 x16 xs
whole_bit [] h = absurd (omega arith)
whole_bit (x1 ∷ []) h = absurd (omega arith)
whole_bit (x1 ∷ x2 ∷ []) h = absurd (omega arith)
whole_bit (x1 ∷ x2 ∷ x3 ∷ []) h = absurd (omega arith)
whole_bit (x1 ∷ x2 ∷ x3 ∷ x4 ∷ []) h = absurd (omega arith)
whole_bit (x1 ∷ x2 ∷ x3 ∷ x4 ∷ x5 ∷ []) h = absurd (omega arith)
whole_bit (x1 ∷ x2 ∷ x3 ∷ x4 ∷ x5 ∷ x6 ∷ []) h = absurd (omega arith)
whole_bit (x1 ∷ x2 ∷ x3 ∷ x4 ∷ x5 ∷ x6 ∷ x7 ∷ []) h = absurd (omega arith)
whole_bit (x1 ∷ x2 ∷ x3 ∷ x4 ∷ x5 ∷ x6 ∷ x7 ∷ x8 ∷ []) h = absurd (omega arith)
whole_bit (x1 ∷ x2 ∷ x3 ∷ x4 ∷ x5 ∷ x6 ∷ x7 ∷ x8 ∷ x9 ∷ []) h = absurd (omega arith)
whole_bit (x1 ∷ x2 ∷ x3 ∷ x4 ∷ x5 ∷ x6 ∷ x7 ∷ x8 ∷ x9 ∷ x10 ∷ []) h = absurd (omega arith)
whole_bit (x1 ∷ x2 ∷ x3 ∷ x4 ∷ x5 ∷ x6 ∷ x7 ∷ x8 ∷ x9 ∷ x10 ∷ x11 ∷ []) h = absurd (omega arith)
whole_bit (x1 ∷ x2 ∷ x3 ∷ x4 ∷ x5 ∷ x6 ∷ x7 ∷ x8 ∷ x9 ∷ x10 ∷ x11 ∷ x12 ∷ []) h = absurd (omega arith)
whole_bit (x1 ∷ x2 ∷ x3 ∷ x4 ∷ x5 ∷ x6 ∷ x7 ∷ x8 ∷ x9 ∷ x10 ∷ x11 ∷ x12 ∷ x13 ∷ []) h = absurd (omega arith)
whole_bit (x1 ∷ x2 ∷ x3 ∷ x4 ∷ x5 ∷ x6 ∷ x7 ∷ x8 ∷ x9 ∷ x10 ∷ x11 ∷ x12 ∷ x13 ∷ x14 ∷ []) h = absurd (omega arith)
whole_bit (x1 ∷ x2 ∷ x3 ∷ x4 ∷ x5 ∷ x6 ∷ x7 ∷ x8 ∷ x9 ∷ x10 ∷ x11 ∷ x12 ∷ x13 ∷ x14 ∷ x15 ∷ []) h = absurd (omega arith)

data Nine : List Bool → Type 0 where
  nine : (x1 x2 x3 x4 x5 x6 x7 x8 x9 : Bool) → Nine (x1 ∷ x2 ∷ x3 ∷ x4 ∷ x5 ∷ x6 ∷ x7 ∷ x8 ∷ x9 ∷ [])

stop_bit_holds : (xs : List Bool) → length xs ≡ 9 → Nine xs
stop_bit_holds (x1 ∷ x2 ∷ x3 ∷ x4 ∷ x5 ∷ x6 ∷ x7 ∷ x8 ∷ x9 ∷ []) h = nine x1 x2 x3 x4 x5 x6 x7 x8 x9
stop_bit_holds (x1 ∷ x2 ∷ x3 ∷ x4 ∷ x5 ∷ x6 ∷ x7 ∷ x8 ∷ x9 ∷ x ∷ xs) h = absurd (omega arith)
stop_bit_holds [] h = absurd (omega arith)
stop_bit_holds (x1 ∷ []) h = absurd (omega arith)
stop_bit_holds (x1 ∷ x2 ∷ []) h = absurd (omega arith)
stop_bit_holds (x1 ∷ x2 ∷ x3 ∷ []) h = absurd (omega arith)
stop_bit_holds (x1 ∷ x2 ∷ x3 ∷ x4 ∷ []) h = absurd (omega arith)
stop_bit_holds (x1 ∷ x2 ∷ x3 ∷ x4 ∷ x5 ∷ []) h = absurd (omega arith)
stop_bit_holds (x1 ∷ x2 ∷ x3 ∷ x4 ∷ x5 ∷ x6 ∷ []) h = absurd (omega arith)
stop_bit_holds (x1 ∷ x2 ∷ x3 ∷ x4 ∷ x5 ∷ x6 ∷ x7 ∷ []) h = absurd (omega arith)
stop_bit_holds (x1 ∷ x2 ∷ x3 ∷ x4 ∷ x5 ∷ x6 ∷ x7 ∷ x8 ∷ []) h = absurd (omega arith)

-- The walk to RT9 of the stop bit, whose RT10 is x.
record Summed (n : ℕ) (xs : List Bool) (f : Framer) (x : Bool) (sum : ℕ) : Type 0 where
  a : Bool
  c : Bool
  noise : ℕ
  s : ℕ
  walk : Walk n xs f (bit_at 0 9 a c noise s)
  total : noise + disagreed a c x ≡ sum
  small : noise ≤ 254

held : (noise by : ℕ) → noise + by ≤ 255 → more noise by ≡ noise + by
held noise by h = omega arith

suc_less : (m : ℕ) → suc m - 1 ≡ m
suc_less m = omega arith

-- m data bits and the stop bit.
summed : (n m : ℕ) (xs : List Bool) (x a c : Bool) (noise s : ℕ) → length xs ≡ 16 * m + 9 → noise + m ≤ 254 →
    Summed n xs (bit_at m 16 a c noise s) x (noise + disagreements m (xs ++ (x ∷ [])))
unfolding disagreements
summed n zero xs x a c noise s h k = go xs (stop_bit_holds xs h)
  where
    go : (xs : List Bool) → Nine xs → Summed n xs (bit_at 0 16 a c noise s) x (noise + disagreements zero (xs ++ (x ∷ [])))
    go _ (nine x1 x2 x3 x4 x5 x6 x7 x8 x9) =
        record {
          a = x8;
          c = x9;
          noise = noise;
          s = s;
          walk = walk_stop n a c noise s x1 x2 x3 x4 x5 x6 x7 x8 x9;
          total = refl;
          small = omega arith;
        }
summed n (suc m) xs x a c noise s h k =
    go xs (whole_bit xs (omega arith)) h (λ xs a c noise s h k. summed n m xs x a c noise s h k)
  where
    go : (xs : List Bool) → Sixteen xs → length xs ≡ 16 * suc m + 9 →
        ((xs : List Bool) (a c : Bool) (noise s : ℕ) → length xs ≡ 16 * m + 9 → noise + m ≤ 254 →
        Summed n xs (bit_at m 16 a c noise s) x (noise + disagreements m (xs ++ (x ∷ [])))) →
        Summed n xs (bit_at (suc m) 16 a c noise s) x (noise + disagreements (suc m) (xs ++ (x ∷ [])))
    go _ (sixteen x1 x2 x3 x4 x5 x6 x7 x8 x9 x10 x11 x12 x13 x14 x15 x16 xs) h rest =
        let d : ℕ = disagreed x8 x9 x10 in
        let t : ℕ = collected (majority x8 x9 x10) n s in
        let few : d ≤ 1 = disagreed_small x8 x9 x10 in
        let r : Summed n xs (bit_at m 16 x8 x9 (noise + d) t) x (noise + d + disagreements m (xs ++ (x ∷ []))) =
        rest xs x8 x9 (noise + d) t (omega arith) (omega arith) in
        record {
          a = r.a;
          c = r.c;
          noise = r.noise;
          s = r.s;
          walk = walk_bit {g = bit_at 0 9 r.a r.c r.noise r.s} n m a c noise s x1 x2 x3 x4 x5 x6 x7 x8 x9 x10 x11 x12 x13 x14 x15 x16 xs (rw (suc_less m, held noise d (omega arith)) r.walk);
          total = r.total ∙ omega arith;
          small = r.small;
        }

-- The start bit's ones, as the walk adds them up.
start_sum : (a b c d e f : Bool) →
    more (more (more (more 0 (ones_of a b c)) (digit d)) (digit e)) (digit f)
    ≡ digit a + digit b + digit c + digit d + digit e + digit f
start_sum a b c d e f =
    omega (arith, digit_small a, digit_small b, digit_small c, digit_small d, digit_small e, digit_small f)

-- A start bit that stands gives at most four.
few_ones : (a b c d e f : Bool) → majority a b c ≡ false → digit a + digit b + digit c + digit d + digit e + digit f ≤ 4
few_ones a b c d e f v =
    omega (arith, single a b c v, digit_small d, digit_small e, digit_small f)
  where
    single : (a b c : Bool) → majority a b c ≡ false → digit a + digit b + digit c ≤ 1
    single true true c v = absurd (true≢false v)
    single true false true v = absurd (true≢false v)
    single true false false v = omega arith
    single false true true v = absurd (true≢false v)
    single false true false v = omega arith
    single false false true v = omega arith
    single false false false v = omega arith

-- A zero after three ones is RT1.
begins_frame_holds : (n : ℕ) (xs : List Bool) →
    framer_after n true true true searching (false ∷ xs) ≡ framer_after n false true true (begun n) xs
unfolding framer_after framed fixed
begins_frame_holds n xs = refl

first_unmoved : (n : ℕ) (xs : List Bool) → Unmoved n true true true searching (false ∷ xs) → Unmoved n false true true (begun n) xs
unfolding Unmoved framed fixed
first_unmoved n xs u = u.1

-- The whole frame.
pub frame_figure : FrameFigure
frame_figure n xs x k t = go xs (whole_bit xs (omega (arith, t.whole))) t
  where
    go : (xs : List Bool) → Sixteen xs → Stands n xs →
        let f : Framer = framer_after n true true true searching xs in
        (ends f ≡ true) × ((frame_of f x).noise ≡ figure n (xs ++ (x ∷ [])))
    go _ (sixteen true x2 x3 x4 x5 x6 x7 x8 x9 x10 x11 x12 x13 x14 x15 x16 xs) t = absurd (true≢false t.begins)
    go _ (sixteen false x2 x3 x4 x5 x6 x7 x8 x9 x10 x11 x12 x13 x14 x15 x16 xs) t =
        let o : ℕ = digit x3 + digit x5 + digit x7 + digit x8 + digit x9 + digit x10 in
        let few : o ≤ 4 = few_ones x3 x5 x7 x8 x9 x10 t.stands in
        let long : length xs ≡ 16 * n + 9 = omega (arith, t.whole) in
        let r : Summed n xs (bit_at n 16 x3 x5 o 0) x (o + disagreements n (xs ++ (x ∷ []))) =
        summed n n xs x x3 x5 o 0 long (omega arith) in
        let last : Framer = bit_at 0 9 r.a r.c r.noise r.s in
        let w : Walk n (x2 ∷ x3 ∷ x4 ∷ x5 ∷ x6 ∷ x7 ∷ x8 ∷ x9 ∷ x10 ∷ x11 ∷ x12 ∷ x13 ∷ x14 ∷ x15 ∷ x16 ∷ xs) (begun n) last =
        walk_start {g = last} n x2 x3 x4 x5 x6 x7 x8 x9 x10 x11 x12 x13 x14 x15 x16 xs t.stands (rw (start_sum x3 x5 x7 x8 x9 x10) r.walk) in
        let e : framer_after n true true true searching (false ∷ x2 ∷ x3 ∷ x4 ∷ x5 ∷ x6 ∷ x7 ∷ x8 ∷ x9 ∷ x10 ∷ x11 ∷ x12 ∷ x13 ∷ x14 ∷ x15 ∷ x16 ∷ xs) ≡ last =
        begins_frame_holds n (x2 ∷ x3 ∷ x4 ∷ x5 ∷ x6 ∷ x7 ∷ x8 ∷ x9 ∷ x10 ∷ x11 ∷ x12 ∷ x13 ∷ x14 ∷ x15 ∷ x16 ∷ xs) ∙ along false true true w (first_unmoved n _ t.unmoved) in
        let few₁ : disagreed r.a r.c x ≤ 1 = disagreed_small r.a r.c x in (
          ap ends e,
          ap (λ (f : Framer). (frame_of f x).noise) e ∙ held r.noise (disagreed r.a r.c x) (omega (arith, r.small)) ∙ r.total,
        )

-- The rule of moving sampling points, place by place; the last decided bit; and lines at exact rate.
-- Assumes nothing.
use mathlib.Core.Path.{◌≡◌, refl, ap, sym, subst, ◌∙◌}
use mathlib.Core.Bool.{Bool, true, false, cond, not, ◌&&◌, ◌||◌, and-false}
use Prim.Native.Nat.{ℕ, suc, ◌+◌, ◌-◌, ◌/◌, ◌%◌, ◌^◌, ◌≤◌, ◌<◌}
use native.Mathlib.Omega.{arith}
use native.Mathlib.Nat.{div-lt_iff_lt-mul, div-eq_of_lt, add-div_right, zero-div, pow-suc}
use lib.Pow.{pow_pos}
use Rattle.steps.specs.Bits.{digit}
use lib.Dec.{eqb, leb, ltb}
use borrow.Author.Tests.{lt-ltb, le-leb, lt-leb, ne_eqb, eqb-true, eqb-false}
use Rattle.sci.specs.model.Framer.{begins, searched, start_bit, data_bit, stop_bit, in_bit, next_rt, fixed, after_one, near_this, early_fall, late_fall, adjusts, adjusted, framed}
use Rattle.sci.specs.claims.Levels.{low_bits, framer_after}
use Rattle.sci.specs.claims.Moves.{rt1_with, Falls, Rule, LastDecided, lasting, Moves}
use Rattle.sci.specs.declared.framer.Framer.{Framer}
use Rattle.sci.proofs.Frames.{by_cond}
use Rattle.sci.proofs.Walk.{unmoved}
use Rattle.sci.proofs.Heard.{exact_rate}

module _ (n : ℕ) (f : Framer) (three x : Bool) where
  abbrev falls : Bool
  falls = not x && three && f.framing && not f.starting && after_one n f

  -- Neither place.
  nowhere : early_fall f ≡ false → late_fall f ≡ false → framed n f three x ≡ fixed n f three x
  nowhere a b =
      let none : early_fall f || late_fall f ≡ false = rw (a, b) in
      unmoved n f three x (ap (λ (c : Bool). falls && c) none ∙ and-false falls)

  not_early_holds : next_rt f < 11 → early_fall f ≡ false
  not_early_holds h = ap (λ (c : Bool). c && ltb 1 f.left) (lt-leb 11 (next_rt f) h)

  not_late : 7 < next_rt f → late_fall f ≡ false
  not_late h =
      ap (λ (c : Bool). leb 2 (next_rt f) && c && ltb 0 f.left && not f.moved) (lt-leb (next_rt f) 7 h)
      ∙ ap (λ (c : Bool). c && ltb 0 f.left && not f.moved) (and-false (leb 2 (next_rt f)))

  moves : falls ≡ true → early_fall f || late_fall f ≡ true → framed n f three x ≡ adjusted f
  unfolding framed
  moves a b = rw (a, b)

  fallen : Falls n f three x → falls ≡ true
  fallen h = rw (h.zero, h.ones, h.framing, h.started, h.last)

  next : Falls n f three x → 11 ≤ next_rt f → 1 < f.left → framed n f three x ≡ rt1_with f (f.left - 1)
  next h a b =
      let e : early_fall f ≡ true = rw (le-leb 11 (next_rt f) a, lt-ltb 1 f.left b) in
      moves (fallen h) (rw e) ∙ ap (λ (c : Bool). rt1_with f (cond c (f.left - 1) f.left)) e

  same : Falls n f three x → 2 ≤ next_rt f → next_rt f ≤ 7 → 0 < f.left → f.moved ≡ false → framed n f three x ≡ rt1_with f f.left
  same h a b c d =
      let e : early_fall f ≡ false = not_early_holds (omega arith) in
      let l : late_fall f ≡ true = rw (le-leb 2 (next_rt f) a, le-leb (next_rt f) 7 b, lt-ltb 0 f.left c, d) in
      moves (fallen h) (rw (e, l)) ∙ ap (λ (c : Bool). rt1_with f (cond c (f.left - 1) f.left)) e

  first : next_rt f ≡ 1 → framed n f three x ≡ fixed n f three x
  first e =
      nowhere (not_early_holds (omega arith))
      (ap (λ (c : Bool). c && leb (next_rt f) 7 && ltb 0 f.left && not f.moved) (lt-leb 2 (next_rt f) (omega arith)))

  stop : f.left ≡ 0 → framed n f three x ≡ fixed n f three x
  stop e =
      nowhere (rw e (and-false (leb 11 (next_rt f))))
      (rw e (ap (λ (c : Bool). c && not f.moved) (and-false (near_this f))))

  before_stop_holds : f.left ≡ 1 → 8 ≤ next_rt f → framed n f three x ≡ fixed n f three x
  before_stop_holds e h = nowhere (rw e (and-false (leb 11 (next_rt f)))) (not_late (omega arith))

  once : f.moved ≡ true → next_rt f ≤ 10 → framed n f three x ≡ fixed n f three x
  once e h = nowhere (not_early_holds (omega arith)) (rw e (and-false (near_this f && ltb 0 f.left)))

  no_fall : falls ≡ false → framed n f three x ≡ fixed n f three x
  no_fall e = unmoved n f three x (ap (λ (c : Bool). c && (early_fall f || late_fall f)) e)

  -- A data bit that ends.
  ended : (rt : ℕ) → (data_bit n f rt x).rt ≡ 16 → (data_bit n f rt x).moved ≡ false
  unfolding data_bit
  ended rt =
      by_cond P (eqb rt 8) (λ e z. absurd (omega (arith, eqb-true rt 8 e)))
      (λ e₁. by_cond P (eqb rt 9) (λ e z. absurd (omega (arith, eqb-true rt 9 e)))
      (λ e₂. by_cond P (eqb rt 10) (λ e z. absurd (omega (arith, eqb-true rt 10 e)))
      (λ e₃. by_cond P (eqb rt 16) (λ e z. refl) (λ e z. absurd (eqb-false rt 16 e z)))))
    where
      P : Framer → Type 0
      P g = g.rt ≡ 16 → g.moved ≡ false

  in_data_holds : f.framing ≡ true → f.starting ≡ false → 0 < f.left → fixed n f three x ≡ data_bit n f (next_rt f) x
  unfolding fixed
  in_data_holds a b c = go f.framing f.starting (eqb f.left 0) a b (ne_eqb f.left 0 (λ z. omega arith))
    where
      go : (p q r : Bool) → p ≡ true → q ≡ false → r ≡ false →
          cond p (in_bit q r n f (next_rt f) x) (searched (begins f three x) f n) ≡ data_bit n f (next_rt f) x
      go p q r a b c = rw (a, b, c)

  passes : f.framing ≡ true → f.starting ≡ false → 0 < f.left → (framed n f three x).rt ≡ 16 → (framed n f three x).moved ≡ false
  unfolding framed
  passes a b c =
      by_cond (λ (g : Framer). g.rt ≡ 16 → g.moved ≡ false) (adjusts n f three x) (λ e z. absurd (omega arith))
      (λ e. subst (λ (g : Framer). g.rt ≡ 16 → g.moved ≡ false) (sym (in_data_holds a b c)) (ended (next_rt f)))

  rule : Rule n f three x
  rule =
      record {
        next = next;
        same = same;
        first = first;
        voting = λ a b. nowhere (not_early_holds (omega arith)) (not_late (omega arith));
        stop = stop;
        before_stop = before_stop_holds;
        once = once;
        one = λ e. no_fall (rw e);
        fewer = λ e. no_fall (rw (e, and-false (not x)));
        search = λ e. no_fall (rw (e, and-false (not x && three)));
        start = λ e. no_fall (rw (e, and-false (not x && three && f.framing)));
        after_zero = λ e. no_fall (rw (e, and-false (not x && three && f.framing && not f.starting)));
        passes = passes;
      }

-- The bit that came in last stands at the top.
module _ (n w : ℕ) (h : w < 2 ^ suc n) where
  half : w / 2 < 2 ^ n
  half = (div-lt_iff_lt-mul {k = 2} (omega arith)).1 (subst (λ (y : ℕ). w < y) (pow-suc 2 n) h)

  at_top : (b : Bool) → cond b (w / 2 + 2 ^ n) (w / 2) / 2 ^ n ≡ digit b
  at_top true = add-div_right (w / 2) (pow_pos n) ∙ rw (div-eq_of_lt half)
  at_top false = div-eq_of_lt half

  below : (b : Bool) → cond b (w / 2 + 2 ^ n) (w / 2) < 2 ^ suc n
  below true = rw (pow-suc 2 n) (omega (arith, half))
  below false = rw (pow-suc 2 n) (omega (arith, half))

  is_digit : (b : Bool) → eqb (digit b % 2) 1 ≡ b
  is_digit true = refl
  is_digit false = refl

less : (n : ℕ) → suc n - 1 ≡ n
less n = omega arith

last_decided : (n w : ℕ) (b : Bool) → LastDecided n w b
last_decided n w b =
    record {
      begins = rw (zero-div (2 ^ (suc n - 1)));
      collects = λ h. rw (less n, at_top n w h b) (is_digit n w h b);
      holds = λ h. rw (less n) (below n w h b);
    }

pub moving : Moves
unfolding framer_after framed fixed start_bit data_bit stop_bit lasting low_bits
moving = record { rule = rule; last = last_decided; exact = exact_rate; arrives = refl; word = refl }

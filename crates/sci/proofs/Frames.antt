-- One sample of the framer: RT stays within its bit, and a frame comes one sample nearer to its end.
use mathlib.Core.Path.{◌≡◌, refl, sym, ◌∙◌}
use mathlib.Core.Bool.{Bool, true, false, cond, not, ◌&&◌, true≢false, false≢true}
use Prim.Native.Nat.{ℕ, suc, ◌+◌, ◌-◌, ◌*◌, ◌%◌, ◌≤◌, ◌<◌}
use native.Mathlib.Omega.{arith}
use lib.Dec.{eqb, leb}
use borrow.Author.Tests.{eqb-true, eqb-false}
use Rattle.sci.specs.model.Bits.{vote, ones_of}
use Rattle.sci.specs.model.Framer.{more, searching, ends, searched, judged, start_bit, data_bit, stop_bit, in_bit, fixed, early_fall, adjusts, adjusted, framed}
use Rattle.sci.specs.claims.Sound.{togo, Fits}
use Rattle.sci.specs.declared.framer.Framer.{Framer}
use Rattle.sci.proofs.Membership.{and_left, and_right}
use Rattle.sci.proofs.Adjusting.{Adjusting, adjusting}

pub by_cond : {A : Type 0} (P : A → Type 0) (b : Bool) {x y : A} → (b ≡ true → P x) → (b ≡ false → P y) → P (cond b x y)
by_cond P true f g = f refl
by_cond P false f g = g refl

-- What a sample x makes of the framer f.
pub record Moved (n : ℕ) (f : Framer) (x : Bool) (g : Framer) : Type 0 where
  pub fits : Fits n g
  pub onward : x ≡ true → 0 < togo n g → suc (togo n g) ≡ togo n f
  pub over : ends f ≡ true → (togo n f ≡ 1) × (togo n g ≡ 0)

abbrev at : Bool → Bool → ℕ → ℕ → Bool → Bool → ℕ → Bool → ℕ → Framer
at framing starting left rt first second noise moved shift =
    record {
      framing = framing;
      starting = starting;
      left = left;
      rt = rt;
      first = first;
      second = second;
      noise = noise;
      moved = moved;
      shift = shift;
    }

fits_searching : (n : ℕ) → Fits n searching
fits_searching n =
    record { rests = λ e. refl; early = λ e h. absurd (false≢true e); late = λ e h. absurd (false≢true e) }

-- A frame that runs, in its start bit and past it.
fits_early : (n rt : ℕ) (first second : Bool) (noise : ℕ) (moved : Bool) (shift : ℕ) → 0 < rt → rt < 16 →
    Fits n (at true true n rt first second noise moved shift)
fits_early n rt first second noise moved shift g h =
    record { rests = λ e. absurd (true≢false e); early = λ e k. (g, h, refl); late = λ e k. absurd (true≢false k) }

fits_late : (n left rt : ℕ) (first second : Bool) (noise : ℕ) (moved : Bool) (shift : ℕ) → rt % 16 < 16 * left + 10 → left ≤ n →
    Fits n (at true false left rt first second noise moved shift)
fits_late n left rt first second noise moved shift g h =
    record { rests = λ e. absurd (true≢false e); early = λ e k. absurd (false≢true k); late = λ e k. (g, h) }

module _ (n rt : ℕ) (first second : Bool) (noise : ℕ) (moved : Bool) (shift : ℕ) (x : Bool) (g : 0 < rt) (h : rt < 16) where
  abbrev start : Framer
  start = at true true n rt first second noise moved shift

  -- The next sample of the start bit.
  start_on : (first' second' : Bool) (noise' : ℕ) → (rt % 16 + 1 ≡ 16 → ⊥) →
      Moved n start x (at true true n (rt % 16 + 1) first' second' noise' moved shift)
  start_on first' second' noise' e =
      record {
        fits = fits_early n (rt % 16 + 1) first' second' noise' moved shift (omega arith) (omega arith);
        onward = λ k z. omega arith;
        over = λ k. absurd (false≢true k);
      }

  start_judged : (b : Bool) (ones : ℕ) → rt % 16 + 1 ≡ 7 → Moved n start x (judged b start ones)
  start_judged true ones e =
      record { fits = fits_searching n; onward = λ k z. absurd (omega arith); over = λ k. absurd (false≢true k) }
  start_judged false ones e =
      record {
        fits = fits_early n 7 first second (more noise ones) moved shift (omega arith) (omega arith);
        onward = λ k z. omega arith;
        over = λ k. absurd (false≢true k);
      }

  start_over : rt % 16 + 1 ≡ 16 → Moved n start x (at true false n (rt % 16 + 1) first second noise moved shift)
  start_over e =
      record {
        fits = fits_late n n (rt % 16 + 1) first second noise moved shift (omega arith) (omega arith);
        onward = λ k z. omega arith;
        over = λ k. absurd (false≢true k);
      }

  start_moved : Moved n start x (start_bit start (rt % 16 + 1) x)
  unfolding start_bit
  start_moved =
      by_cond (Moved n start x) (eqb (rt % 16 + 1) 3)
      (λ e. start_on x second noise (omega (arith, eqb-true (rt % 16 + 1) 3 e)))
      (λ e₁. by_cond (Moved n start x) (eqb (rt % 16 + 1) 5)
      (λ e. start_on first x noise (omega (arith, eqb-true (rt % 16 + 1) 5 e)))
      (λ e₂. by_cond (Moved n start x) (eqb (rt % 16 + 1) 7)
      (λ e. start_judged (vote first second x).bit (ones_of first second x) (eqb-true _ _ e))
      (λ e₃. by_cond (Moved n start x) (eqb (rt % 16 + 1) 16)
      (λ e. start_over (eqb-true _ _ e))
      (λ e. by_cond (Moved n start x) (leb 8 (rt % 16 + 1) && leb (rt % 16 + 1) 10)
      (λ v. start_on first second _ (eqb-false _ _ e))
      (λ v. start_on first second noise (eqb-false _ _ e))))))

module _ (n left rt : ℕ) (first second : Bool) (noise : ℕ) (moved : Bool) (shift : ℕ) (x : Bool) (h : left ≤ n) where
  abbrev late : Framer
  late = at true false left rt first second noise moved shift

  -- The next sample of a data bit, or of the stop bit before its RT10.
  late_on : (first' second' : Bool) (noise' shift' : ℕ) → rt % 16 + 1 < 16 → rt % 16 + 1 < 16 * left + 10 →
      Moved n late x (at true false left (rt % 16 + 1) first' second' noise' moved shift')
  late_on first' second' noise' shift' g k =
      record {
        fits = fits_late n left (rt % 16 + 1) first' second' noise' moved shift' (omega arith) h;
        onward = λ e z. omega arith;
        over = λ e. not_over (eqb left 0) (eqb rt 9) e (eqb-true left 0) (eqb-true rt 9);
      }
    where
      not_over : (a b : Bool) → a && b ≡ true → (a ≡ true → left ≡ 0) → (b ≡ true → rt ≡ 9) →
          (togo n late ≡ 1) × (16 * left + 10 - (rt % 16 + 1) % 16 ≡ 0)
      not_over true true e p q = absurd (omega (arith, p refl, q refl))
      not_over true false e p q = absurd (false≢true e)
      not_over false b e p q = absurd (false≢true e)

  -- The last sample of a data bit.
  data_over : 0 < left → rt % 16 + 1 ≡ 16 →
      Moved n late x (at true false (left - 1) (rt % 16 + 1) first second noise false shift)
  data_over g k =
      record {
        fits = fits_late n (left - 1) (rt % 16 + 1) first second noise false shift (omega arith) (omega arith);
        onward = λ e z. omega arith;
        over = λ e. absurd (not_over (eqb left 0) (eqb rt 9) e (eqb-true left 0));
      }
    where
      not_over : (a b : Bool) → a && b ≡ true → (a ≡ true → left ≡ 0) → ⊥
      not_over true b e p = omega (arith, p refl)
      not_over false b e p = absurd (false≢true e)

  data_moved : 0 < left → Moved n late x (data_bit n late (rt % 16 + 1) x)
  unfolding data_bit
  data_moved g =
      by_cond (Moved n late x) (eqb (rt % 16 + 1) 8)
      (λ e. late_on x second noise shift (omega (arith, eqb-true (rt % 16 + 1) 8 e)) (omega (arith, eqb-true (rt % 16 + 1) 8 e)))
      (λ e₁. by_cond (Moved n late x) (eqb (rt % 16 + 1) 9)
      (λ e. late_on first x noise shift (omega (arith, eqb-true (rt % 16 + 1) 9 e)) (omega (arith, eqb-true (rt % 16 + 1) 9 e)))
      (λ e₂. by_cond (Moved n late x) (eqb (rt % 16 + 1) 10)
      (λ e. late_on first second _ _ (omega (arith, eqb-true (rt % 16 + 1) 10 e)) (omega (arith, eqb-true (rt % 16 + 1) 10 e)))
      (λ e₃. by_cond (Moved n late x) (eqb (rt % 16 + 1) 16)
      (λ e. data_over g (eqb-true (rt % 16 + 1) 16 e))
      (λ e. late_on first second noise shift (omega (arith, eqb-false (rt % 16 + 1) 16 e)) (omega (arith, eqb-false (rt % 16 + 1) 16 e))))))

  stop_over : left ≡ 0 → rt % 16 + 1 ≡ 10 → Moved n late x searching
  stop_over z k =
      record {
        fits = fits_searching n;
        onward = λ e y. absurd (omega arith);
        over = λ e. (omega arith, omega arith);
      }

  stop_moved : left ≡ 0 → rt % 16 < 10 → Moved n late x (stop_bit late (rt % 16 + 1) x)
  unfolding stop_bit
  stop_moved z g =
      by_cond (Moved n late x) (eqb (rt % 16 + 1) 8)
      (λ e. late_on x second noise shift (omega (arith, eqb-true (rt % 16 + 1) 8 e)) (omega (arith, eqb-true (rt % 16 + 1) 8 e)))
      (λ e₁. by_cond (Moved n late x) (eqb (rt % 16 + 1) 9)
      (λ e. late_on first x noise shift (omega (arith, eqb-true (rt % 16 + 1) 9 e)) (omega (arith, eqb-true (rt % 16 + 1) 9 e)))
      (λ e₂. by_cond (Moved n late x) (eqb (rt % 16 + 1) 10)
      (λ e. stop_over z (eqb-true (rt % 16 + 1) 10 e))
      (λ e. late_on first second noise shift (omega arith) (omega (arith, eqb-false (rt % 16 + 1) 10 e)))))

  late_moved : (stopping : Bool) → eqb left 0 ≡ stopping → rt % 16 < 16 * left + 10 →
      Moved n late x (in_bit false stopping n late (rt % 16 + 1) x)
  late_moved true e g = stop_moved (eqb-true left 0 e) (omega (arith, eqb-true left 0 e))
  late_moved false e g = data_moved (omega (arith, eqb-false left 0 e))

search_moved : (n : ℕ) (three x : Bool) (f : Framer) → f.framing ≡ false → Fits n f →
    Moved n f x (searched (three && not x) f n)
search_moved n true false f e i =
    record {
      fits = fits_early n 1 false false 0 false 0 (omega arith) (omega arith);
      onward = λ k z. absurd (false≢true k);
      over = λ k. absurd (false≢true (rw e at k));
    }
search_moved n true true f e i =
    record {
      fits = i;
      onward = λ k z. let w : 0 < 0 = rw e at z in absurd (omega arith);
      over = λ k. absurd (false≢true (rw e at k));
    }
search_moved n false x f e i =
    record {
      fits = i;
      onward = λ k z. let w : 0 < 0 = rw e at z in absurd (omega arith);
      over = λ k. absurd (false≢true (rw e at k));
    }

-- A sample that makes no adjustment.
fixed_at : (n : ℕ) (framing starting : Bool) (left rt : ℕ) (first second : Bool) (noise : ℕ) (moved : Bool) (shift : ℕ) (three x : Bool) →
    Fits n (at framing starting left rt first second noise moved shift) →
    Moved n (at framing starting left rt first second noise moved shift) x
    (fixed n (at framing starting left rt first second noise moved shift) three x)
unfolding fixed
fixed_at n true true left rt first second noise moved shift three x i =
    let t = i.early refl refl in
    rw t.2 (start_moved n rt first second noise moved shift x t.0 t.1)
fixed_at n true false left rt first second noise moved shift three x i =
    let t = i.late refl refl in
    late_moved n left rt first second noise moved shift x t.1 (eqb left 0) refl t.0
fixed_at n false starting left rt first second noise moved shift three x i =
    search_moved n three x (at false starting left rt first second noise moved shift) refl i

-- An adjustment leaves RT1 of a data bit.
adjusted_moved : (n : ℕ) (f : Framer) (x : Bool) → Adjusting f x → Fits n f → Moved n f x (adjusted f)
adjusted_moved n f x a i =
    let d : 0 < f.left = a.data_bit_holds in
    let t = i.late a.framing a.starting in
    let less : (adjusted f).left ≤ f.left = not_more (early_fall f) in
    record {
      fits =
          record {
            rests = λ e. absurd (true≢false (sym a.framing ∙ e));
            early = λ e k. absurd (false≢true (sym a.starting ∙ k));
            late = λ e k. (omega arith, omega arith);
          };
      onward = λ k z. absurd (false≢true (sym a.zero ∙ k));
      over = λ k. absurd (not_over (ends_left k) d);
    }
  where
    not_more : (b : Bool) → cond b (f.left - 1) f.left ≤ f.left
    not_more true = omega arith
    not_more false = omega arith

    ends_left : ends f ≡ true → f.left ≡ 0
    ends_left k =
        eqb-true f.left 0 (and_right (f.framing && not f.starting) _ (and_left (f.framing && not f.starting && eqb f.left 0) _ k))

    not_over : f.left ≡ 0 → 0 < f.left → ⊥
    not_over e d = omega arith

pub moved : (n : ℕ) (f : Framer) (three x : Bool) → Fits n f → Moved n f x (framed n f three x)
unfolding framed
moved n f three x i =
    by_cond (Moved n f x) (adjusts n f three x) (λ e. adjusted_moved n f x (adjusting n f three x e) i)
    (λ e.
    fixed_at n f.framing f.starting f.left f.rt f.first f.second f.noise f.moved f.shift three x i)

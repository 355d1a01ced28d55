-- Zeros from a start, and from a fall inside a frame, up to where the level may change. Assumes nothing.
use mathlib.Core.Path.{◌≡◌, refl, ap, sym, subst, ◌∙◌}
use mathlib.Core.Bool.{Bool, true, false, ◌&&◌}
use mathlib.Core.List.{List, ◌∷◌, ◌++◌}
use Prim.Native.Nat.{ℕ, zero, suc, ◌+◌, ◌-◌, ◌*◌, ◌/◌, ◌≤◌, ◌<◌}
use native.Mathlib.Omega.{arith}
use lib.ListN.{replicate}
use Rattle.sci.specs.model.Framer.{searching, framed}
use Rattle.sci.specs.declared.framer.Framer.{Framer}
use Rattle.claims_senders.specs.Heard.{ended_in}
use Rattle.claims_senders.proofs.Inside.{in_start, Inside, early, not_last}
use Rattle.claims_senders.proofs.Runs.{poured, last1, last2, last3, Ran, run, goes, Fell, anew, onward, falls, begins_ten, cut}

-- A change in bounds, k bits and u samples after a fall.
pub record InBounds (k u : ℕ) : Type 0 where
  pub early : 16 * k ≤ u + 6
  pub late : u ≤ 16 * k + 7

-- After m bits, d samples, of zeros with j bits to come: the count begins with them, or it is the one before, of k bits and u samples then.
pub data Which (w k u m d j : ℕ) : Type 0 where
  new : w + d ≡ 16 * (m + j) + 10 → Which w k u m d j
  old : w + (u + d) ≡ 16 * (k + m + j) + 10 → Which w k u m d j

pub record Landed (n s t t' : ℕ) (a b c : Bool) (f : Framer) (k u m d j : ℕ) (ys : List Bool) : Type 0 where
  pub w : ℕ
  pub to : Framer
  pub a' : Bool
  pub b' : Bool
  pub c' : Bool
  pub which : Which w k u m d j
  pub inside : Inside n false w (poured n false s m) to
  pub same : ended_in n t a b c f (replicate d false ++ ys) ≡ ended_in n t' a' b' c' to ys

-- Zeros from here on, of the first of j₀ bits.
abbrev pub Lands : ℕ → ℕ → ℕ → ℕ → ℕ → ℕ → Bool → Bool → Bool → Framer → Type 0
Lands n j₀ s k u t a b c f =
    (m j d t' : ℕ) (ys : List Bool) → j₀ ≡ m + j → 0 < m → t' ≡ d + t → InBounds m d → InBounds (k + m) (u + d) →
    Landed n s t t' a b c f k u m d j ys

-- From where the level may change, or the first sample after it, up to where it may change again.
pub on_level : {n v : ℕ} {f : Framer} (x : Bool) (s j₀ m j d t t' w : ℕ) (a b c : Bool) (ys : List Bool) → Inside n x v s f → j₀ ≡ m + j →
    16 * j₀ + 2 ≤ v → v ≤ 16 * j₀ + 16 → v ≡ d + w → 16 * j + 3 ≤ w → w ≤ 16 * j + 16 → t' ≡ d + t → (a && b && c ≡ true → x ≡ true) →
    Ran n x d t t' a b c f ys w (poured n x s m)
unfolding poured
on_level {n} {v} {f} x s j₀ m j d t t' w a b c ys i e l u z g h o same =
    let p : suc j₀ - (v + 15) / 16 ≡ 0 = omega arith in
    let q : suc j₀ - (w + 15) / 16 ≡ m = omega arith in
    let i' : Inside n x v (poured n x s (suc j₀ - (v + 15) / 16)) f = rw p i in
    subst (λ (y : ℕ). Ran n x d t t' a b c f ys w (poured n x s y)) q
    (run s (suc j₀) d v w t t' a b c ys i' z (omega arith) (omega arith) o same)

-- From a fall.
module _ (n j₀ s k u t w : ℕ) (a b c : Bool) (f : Framer) (i : Inside n true w s f) (l : 16 * j₀ + 3 ≤ w) (h : w ≤ 16 * j₀ + 16)
    (e : w + u ≡ 16 * (k + j₀) + 10) where
  module _ (m j d t' : ℕ) (ys : List Bool) (z : j₀ ≡ m + j) (some : 0 < m) (o : t' ≡ suc d + t) (p : InBounds m (suc d)) (q : InBounds (k + m) (u + suc d)) where
    abbrev g : Framer
    g = framed n f (a && b && c) false

    first_zero : ended_in n t a b c f (false ∷ (replicate d false ++ ys)) ≡ ended_in n (suc t) false a b g (replicate d false ++ ys)
    first_zero = goes n t a b c f false (replicate d false ++ ys) (not_last i (omega arith))

    landed : (v w' : ℕ) → Inside n false v s g → 16 * j₀ + 2 ≤ v → v ≤ 16 * j₀ + 16 → v ≡ d + w' → 16 * j + 3 ≤ w' → w' ≤ 16 * j + 16 →
        Which w' k u m (suc d) j → Landed n s t t' a b c f k u m (suc d) j ys
    landed v w' i' l h y g h' which =
        let r : Ran n false d (suc t) t' false a b (framed n f (a && b && c) false) ys w' (poured n false s m) =
        on_level false s j₀ m j d (suc t) t' w' false a b ys i' z l h y g h' (omega arith) (λ y. y) in
        record {
          w = w';
          to = r.to;
          a' = last1 d false false a b;
          b' = last2 d false false a b;
          c' = last3 d false false a b;
          which = which;
          inside = r.inside;
          same = first_zero ∙ r.same;
        }

    by_fall : Fell n j₀ w s g → Landed n s t t' a b c f k u m (suc d) j ys
    by_fall (anew i') =
        landed (16 * j₀ + 9) (16 * j₀ + 9 - d) i' (omega arith) (omega arith) (omega arith) (omega arith) (omega arith) (new (omega arith))
    by_fall (onward v y i') =
        landed v (v - d) i' (omega arith) (omega arith) (omega arith) (omega arith) (omega arith) (old (omega arith))

  pub lands_fall : Lands n j₀ s k u t a b c f
  lands_fall m j zero t' ys z some o p q = absurd (omega arith)
  lands_fall m j (suc d) t' ys z some o p q = by_fall m j d t' ys z some o p q (falls j₀ (a && b && c) l h i)

poured_nothing : (n i : ℕ) → poured n false 0 i ≡ 0
unfolding poured
poured_nothing n zero = refl
poured_nothing n (suc i) = rw (poured_nothing n i)

-- From a start.
pub lands_start : (n t : ℕ) → Lands n (suc n) 0 0 0 t true true true searching
lands_start n t m j d t' ys z some o p q =
    let i : Inside n false (16 * n + 16) (poured n false 0 (suc n - (16 * n + 16 + 15) / 16)) (in_start n 10 false false false 0) =
    rw (poured_nothing n (suc n - (16 * n + 16 + 15) / 16)) (early 10 false false false (omega arith) (omega arith) (omega arith)) in
    go (16 * suc n + 10 - d) (omega arith)
    (run 0 (suc n) (d - 10) (16 * n + 16) (16 * suc n + 10 - d) (10 + t) t' false false false ys i (omega arith) (omega arith) (omega arith) (omega arith) (λ y. y))
  where
    go : (w : ℕ) → w + d ≡ 16 * suc n + 10 →
        Ran n false (d - 10) (10 + t) t' false false false (in_start n 10 false false false 0) ys w (poured n false 0 (suc n - (w + 15) / 16)) →
        Landed n 0 t t' true true true searching 0 0 m d j ys
    go w e r =
        record {
          w = w;
          to = r.to;
          a' = last1 (d - 10) false false false false;
          b' = last2 (d - 10) false false false false;
          c' = last3 (d - 10) false false false false;
          which = new (omega arith);
          inside =
              subst (λ (y : ℕ). Inside n false w y r.to) (poured_nothing n (suc n - (w + 15) / 16) ∙ sym (poured_nothing n m)) r.inside;
          same =
              ap (ended_in n t true true true searching) (cut 10 (d - 10) d false ys (omega arith))
              ∙ begins_ten n t (10 + t) (replicate (d - 10) false ++ ys) refl ∙ r.same;
        }

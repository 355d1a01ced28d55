-- Where a start bit begins, where it is abandoned and where a frame ends, told by the framer before a sample and after it.
-- Assumes nothing.
use mathlib.Core.Path.{◌≡◌, refl, ap, sym, ◌∙◌}
use mathlib.Core.Bool.{Bool, true, false, not, ◌&&◌}
use Prim.Native.Nat.{ℕ, ◌+◌, ◌%◌, ◌≤◌, ◌<◌}
use native.Mathlib.Omega.{arith}
use lib.Dec.{eqb, leb}
use borrow.Author.Tests.{eqb-true, eqb-false, eq-eqb, ne_eqb}
use Rattle.sci.specs.model.Bits.{vote, ones_of}
use Rattle.sci.specs.model.Framer.{begins, abandons, ends, searched, judged, start_bit, data_bit, stop_bit, in_bit, collected, next_rt, fixed, adjusts, adjusted, framed}
use Rattle.sci.specs.declared.framer.Framer.{Framer}
use Rattle.sci.proofs.Adjusting.{Adjusting, adjusting}
use Rattle.sci.proofs.Frames.{by_cond}
use Rattle.sci.proofs.Moves.{moving}

pub record Turned (f : Framer) (three x : Bool) (g : Framer) : Type 0 where
  pub begun : begins f three x ≡ not f.framing && g.framing
  pub abandoned : abandons f x ≡ f.framing && f.starting && not g.framing
  pub ended : ends f ≡ f.framing && not f.starting && not g.framing
  pub within : g.rt ≤ 16

-- RT k + 1 comes after RT k alone.
next_is : (rt k : ℕ) → rt ≤ 16 → 0 < k → k < 16 → eqb rt k ≡ eqb (rt % 16 + 1) (k + 1)
next_is rt k h l m = go (eqb rt k) refl
  where
    go : (b : Bool) → eqb rt k ≡ b → b ≡ eqb (rt % 16 + 1) (k + 1)
    go true e = sym (eq-eqb (rt % 16 + 1) (k + 1) (omega (arith, eqb-true rt k e)))
    go false e = sym (ne_eqb (rt % 16 + 1) (k + 1) (λ z. eqb-false rt k e (omega arith)))

-- A frame goes on, or is over, by the test of its RT; and RT stays within its bit.
record Goes (over : Bool) (g : Framer) : Type 0 where
  framing : over ≡ not g.framing
  rt : g.rt ≤ 16

module _ (f : Framer) (x : Bool) (e : f.framing ≡ true) where
  abbrev r : ℕ
  r = next_rt f

  on : (over : Bool) (g : Framer) → over ≡ false → g.framing ≡ true → g.rt ≤ 16 → Goes over g
  on over g o k l = record { framing = rw (o, k); rt = l }

  abbrev abandoning : Bool
  abandoning = eqb r 7 && (vote f.first f.second x).bit

  start_goes : Goes abandoning (start_bit f r x)
  unfolding start_bit
  start_goes =
      by_cond (Goes abandoning) (eqb r 3) (λ u. on abandoning _ (not_at (omega (arith, eqb-true r 3 u))) e (omega arith))
      (λ u₁. by_cond (Goes abandoning) (eqb r 5) (λ u. on abandoning _ (not_at (omega (arith, eqb-true r 5 u))) e (omega arith))
      (λ u₂. by_cond (Goes abandoning) (eqb r 7) (λ u. rw u (judges (vote f.first f.second x).bit))
      (λ u₃. by_cond (Goes abandoning) (eqb r 16) (λ u. on abandoning _ (not_at (eqb-false r 7 u₃)) e (omega arith))
      (λ u. by_cond (Goes abandoning) (leb 8 r && leb r 10) (λ v. on abandoning _ (not_at (eqb-false r 7 u₃)) e (omega arith))
      (λ v. on abandoning _ (not_at (eqb-false r 7 u₃)) e (omega arith))))))
    where
      not_at : (r ≡ 7 → ⊥) → abandoning ≡ false
      not_at k = ap (λ (b : Bool). b && (vote f.first f.second x).bit) (ne_eqb r 7 k)

      judges : (v : Bool) → Goes v (judged v f (ones_of f.first f.second x))
      judges true = record { framing = refl; rt = omega arith }
      judges false = on false _ refl e (omega arith)

  stop_goes : Goes (eqb r 10) (stop_bit f r x)
  unfolding stop_bit
  stop_goes =
      by_cond (Goes (eqb r 10)) (eqb r 8) (λ u. on (eqb r 10) _ (ne_eqb r 10 (omega (arith, eqb-true r 8 u))) e (omega arith))
      (λ u₁. by_cond (Goes (eqb r 10)) (eqb r 9) (λ u. on (eqb r 10) _ (ne_eqb r 10 (omega (arith, eqb-true r 9 u))) e (omega arith))
      (λ u₂. by_cond (Goes (eqb r 10)) (eqb r 10) (λ u. record { framing = u; rt = omega arith })
      (λ u. on (eqb r 10) _ u e (omega arith))))

  data_goes : (n : ℕ) → Goes false (data_bit n f r x)
  unfolding data_bit
  data_goes n =
      by_cond (Goes false) (eqb r 8) (λ u. on false _ refl e (omega arith))
      (λ u₁. by_cond (Goes false) (eqb r 9) (λ u. on false _ refl e (omega arith))
      (λ u₂. by_cond (Goes false) (eqb r 10) (λ u. on false _ refl e (omega arith))
      (λ u₃. by_cond (Goes false) (eqb r 16) (λ u. on false _ refl e (omega arith)) (λ u. on false _ refl e (omega arith)))))

-- In the start bit, and past it.
early : (f g : Framer) (x over : Bool) → f.framing ≡ true → f.starting ≡ true → eqb f.rt 6 && (vote f.first f.second x).bit ≡ over →
    Goes over g → abandons f x ≡ f.framing && f.starting && not g.framing
early f g x over e s o h = rw (e, s) (o ∙ h.framing)

late : (f g : Framer) (over : Bool) → f.framing ≡ true → f.starting ≡ false → eqb f.left 0 && eqb f.rt 9 ≡ over → Goes over g →
    ends f ≡ f.framing && not f.starting && not g.framing
late f g over e s o h = rw (e, s) (o ∙ h.framing)

-- In a bit, by which bit it is.
in_bit_holds : (n : ℕ) (f : Framer) (three x : Bool) → f.rt ≤ 16 → f.framing ≡ true → (starting stopping : Bool) → f.starting ≡ starting →
    eqb f.left 0 ≡ stopping → Turned f three x (in_bit starting stopping n f (next_rt f) x)
in_bit_holds n f three x h e true stopping s l =
    let g : Goes _ (start_bit f (next_rt f) x) = start_goes f x e in
    record {
      begun = rw e;
      abandoned = early f _ x _ e s (ap (λ (b : Bool). b && (vote f.first f.second x).bit) (next_is f.rt 6 h (omega arith) (omega arith))) g;
      ended = rw (e, s);
      within = g.rt;
    }
in_bit_holds n f three x h e false true s l =
    let g : Goes _ (stop_bit f (next_rt f) x) = stop_goes f x e in
    record {
      begun = rw e;
      abandoned = rw (e, s);
      ended = late f _ (eqb (next_rt f) 10) e s (rw l (next_is f.rt 9 h (omega arith) (omega arith))) g;
      within = g.rt;
    }
in_bit_holds n f three x h e false false s l =
    let g : Goes _ (data_bit n f (next_rt f) x) = data_goes f x e n in
    record { begun = rw e; abandoned = rw (e, s); ended = late f _ false e s (rw l) g; within = g.rt }

search : (n : ℕ) (f : Framer) (three x : Bool) → f.rt ≤ 16 → f.framing ≡ false → (b : Bool) → begins f three x ≡ b →
    Turned f three x (searched b f n)
search n f three x h e true u = record { begun = u ∙ rw e; abandoned = rw e; ended = rw e; within = omega arith }
search n f three x h e false u = record { begun = u ∙ rw e; abandoned = rw e; ended = rw e; within = h }

-- An adjustment begins, abandons and ends nothing.
adjusted_turned : (f : Framer) (three x : Bool) → Adjusting f x → Turned f three x (adjusted f)
adjusted_turned f three x a =
    let data_bit_holds : eqb f.left 0 ≡ false = ne_eqb f.left 0 (λ z. omega (arith, a.data_bit_holds)) in
    record {
      begun = rw a.framing;
      abandoned = rw (a.framing, a.starting);
      ended = rw (a.framing, a.starting, data_bit_holds);
      within = omega arith;
    }

pub turned : (n : ℕ) (f : Framer) (three x : Bool) → f.rt ≤ 16 → Turned f three x (framed n f three x)
unfolding framed fixed
turned n f three x h =
    by_cond (Turned f three x) (adjusts n f three x) (λ a. adjusted_turned f three x (adjusting n f three x a))
    (λ a. by_cond (Turned f three x) f.framing (λ e. in_bit_holds n f three x h e f.starting (eqb f.left 0) refl refl)
    (λ e. search n f three x h e (begins f three x) refl))

-- RT10 of a data bit.
pub data_bit_holds : (n : ℕ) (f : Framer) (three x : Bool) → f.framing ≡ true → f.starting ≡ false → 0 < f.left → f.rt ≡ 9 →
    (framed n f three x).shift ≡ collected (vote f.first f.second x).bit n f.shift
unfolding fixed data_bit
data_bit_holds n f three x e s l z =
    let more : eqb f.left 0 ≡ false = ne_eqb f.left 0 (λ k. omega arith) in
    let here : next_rt f ≡ 10 = omega arith in
    ap (λ (g : Framer). g.shift) ((moving.rule n f three x).voting (omega arith) (omega arith)) ∙ rw (e, s, more, here)

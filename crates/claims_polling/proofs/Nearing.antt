-- The least number of samples until a frame ends goes down by at most one at a sample. Assumes nothing.
use mathlib.Core.Path.{◌≡◌, refl, sym, subst, ◌∙◌}
use mathlib.Core.Bool.{Bool, true, false, cond, not, ◌&&◌, ◌||◌, true≢false}
use Prim.Native.Nat.{ℕ, zero, suc, ◌+◌, ◌-◌, ◌*◌, ◌%◌, ◌≤◌, ◌<◌}
use native.Mathlib.Omega.{arith}
use lib.Dec.{eqb, leb, ltb}
use borrow.Author.Tests.{eqb-true, eqb-false, leb-true, ltb-true, not-true}
use Rattle.steps.specs.Bits.{digit}
use Rattle.sci.specs.model.Bits.{vote, ones_of}
use Rattle.sci.specs.model.Framer.{searching, begins, ends, searched, at_rt, first_at, second_at, noise_at, judged, started, decided, passed, start_bit, data_bit, stop_bit, in_bit, fixed, next_rt, after_one, near_next, near_this, early_fall, late_fall, adjusts, adjusted, framed}
use Rattle.sci.specs.claims.Moves.{rt1_with}
use Rattle.sci.specs.claims.Sound.{Fits}
use Rattle.sci.specs.declared.framer.Framer.{Framer}
use Rattle.sci.proofs.Membership.{and_left, and_right}
use Rattle.sci.proofs.Adjusting.{Adjusting, adjusting}
use Rattle.sci.proofs.Frames.{by_cond}
use Rattle.claims_polling.specs.Spacing.{apart}

-- Past the start bit: in the stop bit, in the last data bit, and in one that others follow, after r of its samples.
abbrev in_data : Bool → ℕ → ℕ → ℕ
in_data moves zero r = 10 - r
in_data moves (suc zero) r = 26 - r
in_data moves (suc (suc k)) r = cond moves 10 16 - r + k * cond moves 10 16 + 26

abbrev least : Bool → ℕ → Bool → Bool → ℕ → ℕ → ℕ
least moves n framing starting left rt =
    cond framing (cond starting (apart moves n - rt) (in_data moves left (rt % 16))) (apart moves n)

abbrev pub soonest : Bool → ℕ → Framer → ℕ
soonest moves n f = least moves n f.framing f.starting f.left f.rt

-- The next sample of a bit, the last one of a data bit, and a data bit after the start bit.
data_on : (moves : Bool) (left r : ℕ) → in_data moves left r ≤ suc (in_data moves left (suc r))
data_on moves zero r = omega arith
data_on moves (suc zero) r = omega arith
data_on true (suc (suc k)) r = omega arith
data_on false (suc (suc k)) r = omega arith

data_over : (moves : Bool) (k : ℕ) → in_data moves (suc k) 15 ≤ suc (in_data moves k 0)
data_over moves zero = omega arith
data_over true (suc zero) = omega arith
data_over false (suc zero) = omega arith
data_over true (suc (suc k)) = omega arith
data_over false (suc (suc k)) = omega arith

start_over : (moves : Bool) (k : ℕ) → apart moves (suc k) - 15 ≤ suc (in_data moves (suc k) 0)
start_over true zero = omega arith
start_over false zero = omega arith
start_over true (suc k) = omega arith
start_over false (suc k) = omega arith

-- A zero at RT11 or later, and one at RT2 to RT7.
early_fall_holds : (k r : ℕ) → 10 ≤ r → in_data true (suc (suc k)) r ≤ suc (in_data true (suc k) 1)
early_fall_holds zero r h = omega arith
early_fall_holds (suc k) r h = omega arith

late_fall_holds : (k r : ℕ) → 1 ≤ r → in_data true (suc k) r ≤ suc (in_data true (suc k) 1)
late_fall_holds zero r h = omega arith
late_fall_holds (suc k) r h = omega arith

-- One sample takes a framer f to g.
abbrev Nears : Bool → ℕ → Framer → Framer → Type 0
Nears moves n f g = soonest moves n f ≤ suc (soonest moves n g)

module _ (moves : Bool) (k : ℕ) (f : Framer) (x : Bool) where
  abbrev n : ℕ
  n = suc k

  abbrev rt : ℕ
  rt = f.rt % 16 + 1

  abbrev P : Framer → Type 0
  P g = Nears moves n f g

  -- In the start bit.
  module _ (framing : f.framing ≡ true) (starting : f.starting ≡ true) (left : f.left ≡ n) (low : f.rt < 16) where
    start_on : (g : Framer) → g.framing ≡ true → g.starting ≡ true → g.rt ≡ rt → P g
    start_on g a b c = rw (framing, starting, a, b, c) (omega arith)

    start_judged : (b : Bool) (ones : ℕ) → rt ≡ 7 → P (judged b f ones)
    start_judged true ones e = rw (framing, starting) (omega arith)
    start_judged false ones e = rw (framing, starting) (omega arith)

    start_ends : (g : Framer) → rt ≡ 16 → g.framing ≡ true → g.starting ≡ false → g.left ≡ f.left → g.rt ≡ rt → P g
    start_ends g e a b c d =
        let z : f.rt ≡ 15 = omega arith in
        rw (framing, starting, a, b, c, d, left, z) (start_over moves k)

    in_start : P (start_bit f rt x)
    unfolding start_bit
    in_start =
        by_cond P (eqb rt 3) (λ e. start_on (first_at f rt x) framing starting refl)
        (λ _. by_cond P (eqb rt 5) (λ e. start_on (second_at f rt x) framing starting refl)
        (λ _. by_cond P (eqb rt 7) (λ e. start_judged (vote f.first f.second x).bit (ones_of f.first f.second x) (eqb-true _ _ e))
        (λ _. by_cond P (eqb rt 16) (λ e. start_ends (started f rt) (eqb-true _ _ e) framing refl refl refl)
        (λ _. by_cond P (leb 8 rt && leb rt 10) (λ _. start_on (noise_at f rt (digit x)) framing starting refl) (λ _. start_on (at_rt f rt) framing starting refl)))))

  -- Past it.
  module _ (framing : f.framing ≡ true) (starting : f.starting ≡ false) where
    late_on : (g : Framer) → g.framing ≡ true → g.starting ≡ false → g.left ≡ f.left → g.rt ≡ rt → rt < 16 → P g
    late_on g a b c d e =
        let z : rt % 16 ≡ suc (f.rt % 16) = omega arith in
        rw (framing, starting, a, b, c, d, z) (data_on moves f.left (f.rt % 16))

    late_over : (g : Framer) (l : ℕ) → f.left ≡ suc l → rt ≡ 16 → g.framing ≡ true → g.starting ≡ false → g.left ≡ l → g.rt ≡ rt → P g
    late_over g l s e a b c d =
        let z : f.rt % 16 ≡ 15 = omega arith in
        rw (framing, starting, a, b, c, d, s, z) (data_over moves l)

    in_data_holds : (l : ℕ) → f.left ≡ suc l → P (data_bit n f rt x)
    unfolding data_bit
    in_data_holds l s =
        by_cond P (eqb rt 8) (λ e. late_on (first_at f rt x) framing starting refl refl (omega (arith, eqb-true rt 8 e)))
        (λ _. by_cond P (eqb rt 9) (λ e. late_on (second_at f rt x) framing starting refl refl (omega (arith, eqb-true rt 9 e)))
        (λ _. by_cond P (eqb rt 10) (λ e. late_on (decided n f rt x) framing starting refl refl (omega (arith, eqb-true rt 10 e)))
        (λ _. by_cond P (eqb rt 16) (λ e. late_over (passed f rt) l s (eqb-true rt 16 e) framing starting (omega arith) refl)
        (λ e. late_on (at_rt f rt) framing starting refl refl (omega (arith, eqb-false rt 16 e))))))

    stop_over : f.left ≡ 0 → P searching
    stop_over z = rw (framing, starting, z) (omega arith)

    stop_on : (g : Framer) → f.left ≡ 0 → g.framing ≡ true → g.starting ≡ false → g.left ≡ f.left → g.rt ≡ rt → P g
    stop_on g z a b c d = rw (framing, starting, a, b, c, d, z) (omega arith)

    in_stop : f.left ≡ 0 → P (stop_bit f rt x)
    unfolding stop_bit
    in_stop z =
        by_cond P (eqb rt 8) (λ e. stop_on (first_at f rt x) z framing starting refl refl)
        (λ _. by_cond P (eqb rt 9) (λ e. stop_on (second_at f rt x) z framing starting refl refl)
        (λ _. by_cond P (eqb rt 10) (λ e. stop_over z) (λ e. stop_on (at_rt f rt) z framing starting refl refl)))

    late : (stopping : Bool) → eqb f.left 0 ≡ stopping → P (in_bit false stopping n f rt x)
    late true e = in_stop (eqb-true f.left 0 e)
    late false e = in_data_holds (f.left - 1) (omega (arith, eqb-false f.left 0 e))

  search_on : f.framing ≡ false → (b : Bool) → P (searched b f n)
  search_on e true = rw e (omega arith)
  search_on e false = rw e (omega arith)

  in_frame : (starting : Bool) → f.starting ≡ starting → f.framing ≡ true → Fits n f → P (in_bit starting (eqb f.left 0) n f rt x)
  in_frame true b a i =
      let t = i.early a b in
      in_start a b t.2 t.1
  in_frame false b a i = late a b (eqb f.left 0) refl

  fixed_near : (three : Bool) → Fits n f → P (fixed n f three x)
  unfolding fixed
  fixed_near three i =
      by_cond P f.framing (λ a. in_frame f.starting refl a i) (λ a. search_on a (begins f three x))

-- An adjustment, where points move: RT1 of the next data bit, or of this one.
module _ (k : ℕ) (f : Framer) (framing : f.framing ≡ true) (starting : f.starting ≡ false) where
  by_early : (l : ℕ) → f.left ≡ suc (suc l) → 10 ≤ f.rt % 16 → Nears true (suc k) f (rt1_with f (suc l))
  by_early l e h = rw (framing, starting, e) (early_fall_holds l (f.rt % 16) h)

  by_late : (l : ℕ) → f.left ≡ suc l → 1 ≤ f.rt % 16 → Nears true (suc k) f (rt1_with f (suc l))
  by_late l e h = rw (framing, starting, e) (late_fall_holds l (f.rt % 16) h)

  adjusted_near : (early : Bool) → early_fall f ≡ early → early || late_fall f ≡ true → Nears true (suc k) f (adjusted f)
  adjusted_near true e h =
      let a : 11 ≤ f.rt % 16 + 1 = leb-true 11 (next_rt f) (and_left (near_next f) (ltb 1 f.left) e) in
      let b : 1 < f.left = ltb-true 1 f.left (and_right (near_next f) (ltb 1 f.left) e) in
      let c : f.left - 1 ≡ suc (f.left - 2) = omega arith in
      rw (e, c) (by_early (f.left - 2) (omega arith) (omega arith))
  adjusted_near false e h =
      let g : near_this f && ltb 0 f.left ≡ true = and_left (near_this f && ltb 0 f.left) (not f.moved) h in
      let a : 2 ≤ f.rt % 16 + 1 = leb-true 2 (next_rt f) (and_left (leb 2 (next_rt f)) (leb (next_rt f) 7) (and_left (near_this f) (ltb 0 f.left) g)) in
      let b : 0 < f.left = ltb-true 0 f.left (and_right (near_this f) (ltb 0 f.left) g) in
      let c : f.left ≡ suc (f.left - 1) = omega arith in
      rw e (by_late_here c (omega arith))
    where
      by_late_here : f.left ≡ suc (f.left - 1) → 1 ≤ f.rt % 16 → Nears true (suc k) f (rt1_with f f.left)
      by_late_here c h = subst (λ (l : ℕ). Nears true (suc k) f (rt1_with f l)) (sym c) (by_late (f.left - 1) c h)

pub nears : (moves : Bool) (k : ℕ) (f : Framer) (three x : Bool) → Fits (suc k) f → (moves ≡ false → adjusts (suc k) f three x ≡ false) →
    Nears moves (suc k) f (framed (suc k) f three x)
unfolding framed
nears true k f three x i h =
    by_cond (Nears true (suc k) f) (adjusts (suc k) f three x)
    (λ e. let a : Adjusting f x = adjusting (suc k) f three x e in
    adjusted_near k f a.framing a.starting (early_fall f) refl (and_right (not x && three && f.framing && not f.starting && after_one (suc k) f) (early_fall f || late_fall f) e))
    (λ _. fixed_near true k f x three i)
nears false k f three x i h =
    by_cond (Nears false (suc k) f) (adjusts (suc k) f three x) (λ e. absurd (true≢false (sym e ∙ h refl)))
    (λ _. fixed_near false k f x three i)

-- A sample that ends a frame is the last one, and the search begins anew.
pub at_end_holds : (moves : Bool) (m : ℕ) (f : Framer) → ends f ≡ true → soonest moves m f ≡ 1
at_end_holds moves m f e =
    let a : f.framing && not f.starting && eqb f.left 0 ≡ true = and_left (f.framing && not f.starting && eqb f.left 0) (eqb f.rt 9) e in
    let b : f.framing && not f.starting ≡ true = and_left (f.framing && not f.starting) (eqb f.left 0) a in
    let framing : f.framing ≡ true = and_left f.framing (not f.starting) b in
    let starting : f.starting ≡ false = not-true f.starting (and_right f.framing (not f.starting) b) in
    let left : f.left ≡ 0 = eqb-true f.left 0 (and_right (f.framing && not f.starting) (eqb f.left 0) a) in
    let last : f.rt ≡ 9 = eqb-true f.rt 9 (and_right (f.framing && not f.starting && eqb f.left 0) (eqb f.rt 9) e) in
    rw (framing, starting, left, last)

pub end_searches : (m : ℕ) (f : Framer) (three x : Bool) → ends f ≡ true → framed m f three x ≡ searching
unfolding framed fixed stop_bit
end_searches m f three x e =
    let a : f.framing && not f.starting && eqb f.left 0 ≡ true = and_left (f.framing && not f.starting && eqb f.left 0) (eqb f.rt 9) e in
    let b : f.framing && not f.starting ≡ true = and_left (f.framing && not f.starting) (eqb f.left 0) a in
    let framing : f.framing ≡ true = and_left f.framing (not f.starting) b in
    let starting : f.starting ≡ false = not-true f.starting (and_right f.framing (not f.starting) b) in
    let left : f.left ≡ 0 = eqb-true f.left 0 (and_right (f.framing && not f.starting) (eqb f.left 0) a) in
    let last : f.rt ≡ 9 = eqb-true f.rt 9 (and_right (f.framing && not f.starting && eqb f.left 0) (eqb f.rt 9) e) in
    by_cond (λ (g : Framer). g ≡ searching) (adjusts m f three x)
    (λ d. absurd (omega (arith, left, (adjusting m f three x d).data_bit_holds)))
    (λ _. rw (framing, starting, left, last))

-- A turn of the search: k steady clocks, from a module that has come so far that `left` of all clocks are left. Assumes nothing.
use mathlib.Core.Bool.{Bool, true, false, not, ◌&&◌}
use mathlib.Core.Path.{◌≡◌, refl, sym, ap, ◌∙◌}
use Prim.Native.Nat.{ℕ, zero, suc, ◌+◌, ◌-◌, ◌<◌, ◌≤◌, min}
use native.Mathlib.Omega.{arith}
use lib.Dec.{eqb}
use Rattle.std.specs.Prelude.{Some}
use Rattle.steps.specs.Iterate.{iterate}
use Rattle.qsm.specs.model.Event.{clock_limit, clocks, held}
use Rattle.qsm.specs.declared.state.Module.{Module}
use Rattle.until_change.specs.Change.{look, same_look, first_of, until_change}
use Rattle.until_change.specs.Steady.{ahead, steady}
use Rattle.until_change.specs.declared.Look.{Look}
use Rattle.until_change.proofs.First.{found, passes}
use Rattle.until_change.proofs.Steadily.{steady_look, look_ahead, ahead_add}

-- After n clocks of m something else than `now` is shown.
abbrev pub changed : Look → Module → Bool → ℕ → Bool
changed now m rxd n = not (same_look now (look (clocks m rxd n)))

pub begins : (all : ℕ) (rxd : Bool) (m : Module) → m ≡ ahead (all - all) rxd m
unfolding iterate
begins all rxd m = let none : all - all ≡ 0 = omega arith in ap (λ (n : ℕ). ahead n rxd m) (sym none)

pub meant : (m from : Module) (now : Look) (all pins : ℕ) (rxd : Bool) → now ≡ look m → from ≡ held m pins → all ≡ clock_limit - m.clock →
    first_of (changed now from rxd) all 1 ≡ until_change m pins rxd
unfolding until_change
meant m from now all pins rxd e f g =
    ap (λ (l : Look). first_of (changed l from rxd) all 1) e
    ∙ ap (λ (t : Module). first_of (changed (look m) t rxd) all 1) f
    ∙ ap (λ (n : ℕ). first_of (changed (look m) (held m pins) rxd) n 1) g

-- Four tests, of which one fails: as `!=` groups them, and as `same_look` does.
apart : (p q r s differ : Bool) → differ ≡ not (p && (q && (r && s))) → p && q && r && s ≡ not differ
apart true true true true differ e = ap not (sym e)
apart true true true false differ e = ap not (sym e)
apart true true false s differ e = ap not (sym e)
apart true false r s differ e = ap not (sym e)
apart false q r s differ e = ap not (sym e)

pub looks_apart : (a b : Look) (differ : Bool) →
    differ ≡ not (eqb a.levels b.levels && (eqb a.mask b.mask && (eqb a.level b.level && eqb a.vector b.vector))) →
    same_look a b ≡ not differ
looks_apart a b differ e =
    apart (eqb a.levels b.levels) (eqb a.mask b.mask) (eqb a.level b.level) (eqb a.vector b.vector) differ e

-- Numbers.
not_past : (i g : ℕ) → i - g ≡ 0 → i ≤ g
not_past i g h = omega arith

past : (i g j : ℕ) → i - g ≡ suc j → i ≡ g + 1 + j
past i g j h = omega arith

inside : (all left k i j : ℕ) → left ≤ all → k ≤ left → i ≤ all - (left - k) → i ≡ all - left + 1 + j → j < k
inside all left k i j enough fits high here = omega arith

module _ (now : Look) (m s : Module) (rxd : Bool) (all left k : ℕ) (enough : left ≤ all) (more : 1 ≤ left) (at : s ≡ ahead (all - left) rxd m)
    (f : s.sci.prescaler ≤ 65535) (many : k ≡ min left (steady s rxd))
    (none : (i : ℕ) → 1 ≤ i → i ≤ all - left → changed now m rxd i ≡ false) where
  pub some : (1 ≤ k) × (k ≤ left)
  some = (omega (arith, many), omega (arith, many))

  settles : (j : ℕ) → j < k → look (ahead (suc j) rxd s) ≡ look (ahead k rxd s)
  settles j less =
      let whole : suc (k - 1) ≡ k = omega arith in
      steady_look s rxd j f (omega (arith, many))
      ∙ sym (steady_look s rxd (k - 1) f (omega (arith, many)))
      ∙ ap (λ (n : ℕ). look (ahead n rxd s)) whole

  -- All of them show what the last of them does.
  each : (j : ℕ) → j < k → changed now m rxd (all - left + 1 + j) ≡ not (same_look now (look (ahead k rxd s)))
  each j less =
      let sum : all - left + 1 + j ≡ suc j + (all - left) = omega arith in
      ap (λ (l : Look). not (same_look now l))
      (ap (λ (n : ℕ). look (clocks m rxd n)) sum
      ∙ look_ahead (suc j + (all - left)) rxd m
      ∙ ap look (sym (ahead_add (suc j) (all - left) rxd m))
      ∙ ap (λ (t : Module). look (ahead (suc j) rxd t)) (sym at)
      ∙ settles j less)

  -- With the same shown, nothing else is up to the last of them.
  pub goes_on : same_look now (look (ahead k rxd s)) ≡ true → (i : ℕ) → 1 ≤ i → i ≤ all - (left - k) → changed now m rxd i ≡ false
  goes_on same i low high = go (i - (all - left)) refl
    where
      go : (d : ℕ) → i - (all - left) ≡ d → changed now m rxd i ≡ false
      go zero z = none i low (not_past i (all - left) z)
      go (suc j) z =
          let here : i ≡ all - left + 1 + j = past i (all - left) j z in
          ap (changed now m rxd) here ∙ each j (inside all left k i j enough some.1 high here) ∙ ap not same

  -- Else the first of them is the change.
  pub ends : same_look now (look (ahead k rxd s)) ≡ false → first_of (changed now m rxd) all 1 ≡ Some (all - left + 1)
  ends other =
      let sum : all ≡ all - left + left = omega arith in
      let parts : left ≡ suc (left - 1) = omega arith in
      let here : all - left + 1 + 0 ≡ all - left + 1 = omega arith in
      let there : 1 + (all - left) ≡ all - left + 1 = omega arith in
      ap (λ (n : ℕ). first_of (changed now m rxd) n 1) sum
      ∙ passes (changed now m rxd) (all - left) left 1 (λ j less. none (1 + j) (omega arith) (omega arith))
      ∙ ap (first_of (changed now m rxd) left) there
      ∙ ap (λ (n : ℕ). first_of (changed now m rxd) n (all - left + 1)) parts
      ∙ found (changed now m rxd) (left - 1) (all - left + 1)
      (sym (ap (changed now m rxd) here) ∙ each 0 (omega (arith, some.0)) ∙ ap not other)

  pub stands : ahead k rxd s ≡ ahead (all - (left - k)) rxd m
  stands =
      let far : k + (all - left) ≡ all - (left - k) = omega (arith, some.1) in
      ap (ahead k rxd) at ∙ ahead_add k (all - left) rxd m ∙ ap (λ (n : ℕ). ahead n rxd m) far

-- A hold played in stretches, with whole periods left out where a state comes back. Assumes nothing.
use mathlib.Core.Path.{◌≡◌, refl, sym, ap, ◌∙◌}
use mathlib.Core.Bool.{Bool, true, false, cond}
use Prim.Native.Nat.{ℕ, ◌+◌, ◌-◌, ◌%◌, ◌≤◌, ◌<◌}
use native.Mathlib.Omega.{arith}
use Rattle.steps.specs.Iterate.{iterate}
use Rattle.steps.proofs.Iterate.{iterate_add, iterate_period}
use Rattle.std.specs.Bool.{Decides}
use Rattle.qspi.specs.model.Queue.{clock}
use Rattle.qspi.specs.claims.Laws.{PeriodOut}
use Rattle.qspi.specs.declared.Qspi.{Qspi}

pub period_out : PeriodOut
period_out pins n p q = iterate_period n p (λ r. clock r pins) q

module _ (f : Qspi → Qspi) where
  -- k of the clocks left.
  pub stretched : (left k : ℕ) (q : Qspi) → k ≤ left → iterate (left - k) f (iterate k f q) ≡ iterate left f q
  stretched left k q less =
      let parts : left - k + k ≡ left = omega arith in
      sym (iterate_add (left - k) k f q) ∙ ap (λ m. iterate m f q) parts

  -- The saved state is k clocks further back.
  pub further_back : (before left k : ℕ) (saved q : Qspi) → left ≤ before → k ≤ left →
      iterate (before - left) f saved ≡ q → iterate (before - (left - k)) f saved ≡ iterate k f q
  further_back before left k saved q more less here =
      let parts : before - (left - k) ≡ k + (before - left) = omega arith in
      ap (λ m. iterate m f saved) parts ∙ iterate_add k (before - left) f saved ∙ ap (iterate k f) here

  -- If it is the state after p clocks, they are a period.
  pub rested : (again : Bool) (left p : ℕ) (q saved : Qspi) → Decides again (q ≡ saved) → 0 < p → iterate p f saved ≡ q →
      iterate (cond again (left % p) left) f q ≡ iterate left f q
  rested true left p q saved same some here =
      sym (iterate_period left p f q some (ap (iterate p f) (same.0 refl) ∙ here))
  rested false left p q saved same some here = refl

  -- A state just saved.
  pub just_saved : (left : ℕ) (q : Qspi) → iterate (left - left) f q ≡ q
  unfolding iterate
  just_saved left q =
      let none : left - left ≡ 0 = omega arith in
      ap (λ m. iterate m f q) none

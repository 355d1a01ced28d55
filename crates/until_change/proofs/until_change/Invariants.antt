-- The invariant: the module stands so many clocks on, the kept one not more, and up to there nothing else is shown.
use mathlib.Core.Path.{◌≡◌}
use mathlib.Core.Bool.{false}
use Prim.Native.Nat.{ℕ, ◌-◌, ◌≤◌}
use Rattle.until_change.specs.Steady.{ahead}
use Rattle.until_change.proofs.Turns.{changed}
use Rattle.until_change.proofs.until_change.Given as goal

abbrev pub invariant-loop-left : goal.invariant-loop-left
invariant-loop-left l = (l.left ≤ l.kept_left) × (l.kept_left ≤ l.all) × (l.s ≡ ahead (l.all - l.left) l.rxd l.initial.s) × (l.kept ≡ ahead (l.all - l.kept_left) l.rxd l.initial.s)
    × ((i : ℕ) → 1 ≤ i → i ≤ l.all - l.left → changed l.now l.initial.s l.rxd i ≡ false)

abbrev pub decreases-loop-left : goal.decreases-loop-left
decreases-loop-left l = l.left

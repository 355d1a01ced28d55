-- A plan that is accepted is given, and no other. Assumes nothing.
use mathlib.Core.Path.{◌≡◌}
use mathlib.Core.Bool.{true, false}
use Prim.Native.Nat.{ℕ}
use Rattle.std.specs.Prelude.{Some, None}
use Rattle.tool_plan.specs.Check.{proper, accepts}
use Rattle.tool_plan.specs.Quickest.{if_accepted}
use Rattle.tool_plan.specs.declared.SetPoints.{SetPoints}
use Rattle.tool_plan.specs.declared.Plan.{Plan}
use Rattle.tool_plan.proofs.Verdict.{not_proper, other_number}

module _ (s : SetPoints) (window : ℕ) (p : Plan) where
  pub given : accepts s window p ≡ true → if_accepted s window p ≡ Some p
  unfolding if_accepted
  given h = rw h

  pub refused : accepts s window p ≡ false → if_accepted s window p ≡ None
  unfolding if_accepted
  refused h = rw h

  -- Of set-points that have no plan, and of a plan of another number of entries.
  pub improper : proper s ≡ false → if_accepted s window p ≡ None
  improper h = refused (not_proper s window p h)

  pub miscounted : (p.count ≡ s.count → ⊥) → if_accepted s window p ≡ None
  miscounted h = refused (other_number s window p h)

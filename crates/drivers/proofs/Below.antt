-- The module below never answers 9, and its reset is `reset_module`. Assumes nothing.
use mathlib.Core.Path.{◌≡◌, refl}
use mathlib.Core.Bool.{Bool, true, false, cond}
use lib.Dec.{eqb}
use Rattle.qsm.specs.model.State.{reset_module}
use Rattle.qsm.specs.model.Decision.{permits, refusal_of, decide_read, decide_stored, stored_by}
use Rattle.qsm.specs.model.Event.{answer_of, passes, refused, resets, holds, reads, writes, does, step}
use Rattle.qsm.specs.declared.state.Module.{Module}
use Rattle.qsm.specs.declared.decision.Decision.{Decision}
use Rattle.qsm.specs.declared.decision.Decision.TheVariants.{Permitted, Blocked, Misshapen, Unmapped, Unmodelled, Guarded}
use Rattle.qsm.specs.declared.event.Access.TheVariants.{Read, Write}
use Rattle.qsm.specs.declared.event.Event.{Event}
use Rattle.qsm.specs.declared.event.Event.TheVariants.{Reset, Hold}
use Rattle.qsm.specs.declared.event.Event.TheVariants as event
use Rattle.qsm.specs.declared.event.Done.{Done}

either : (t : Bool) (x y : Done) → eqb x.refusal 9 ≡ false → eqb y.refusal 9 ≡ false → eqb (cond t x y).refusal 9 ≡ false
either true x y h k = h
either false x y h k = k

decided : (d : Decision) → eqb (refusal_of d) 9 ≡ false
decided Permitted = refl
decided Blocked = refl
decided Misshapen = refl
decided Unmapped = refl
decided Unmodelled = refl
decided Guarded = refl

pub not_nine : (m : Module) (e : Event) → eqb (step m e).answer.refusal 9 ≡ false
unfolding step does answer_of resets holds reads writes refused
not_nine m Reset = refl
not_nine m (Hold pins rxd n) = either (passes m n) _ _ refl refl
not_nine m (event.Access (Read s w o)) =
    either (permits (decide_read m s w o)) _ _ refl (decided (decide_read m s w o))
not_nine m (event.Access (Write s w o v)) =
    let d : Decision = decide_stored m (stored_by m w o v) s w o v in either (permits d) _ _ refl (decided d)

pub after_reset : (m : Module) → (step m Reset).state ≡ reset_module
unfolding step does resets
after_reset m = refl

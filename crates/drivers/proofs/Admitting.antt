-- A write of which nothing is refused 3 or 4 is permitted exactly if 1, 2 and privilege let it through.
use mathlib.Core.Bool.{Bool, false, ◌&&◌}
use mathlib.Core.Path.{◌≡◌, refl}
use Prim.Native.Nat.{ℕ}
use Rattle.qsm.specs.model.Decision.{shaped, fits, permits, tested, admitted, decide_stored}
use Rattle.qsm.specs.declared.state.Module.{Module}
use Rattle.qsm.specs.declared.access.Store.{Store}
use Rattle.qsm.specs.declared.decision.Decision.{Decision}
use Rattle.qsm.specs.declared.decision.Decision.TheVariants.{Permitted, Blocked, Misshapen, Unmapped, Unmodelled, Guarded}
use Rattle.qsm.specs.declared.event.Access.TheVariants.{Write}
use Rattle.drivers.specs.Reach.{admits}

untested : (d : Decision) → permits (tested d (permits d) false false) ≡ permits d
untested Permitted = refl
untested Blocked = refl
untested Misshapen = refl
untested Unmapped = refl
untested Unmodelled = refl
untested Guarded = refl

abbrev pub unrefused : Module → Store
unrefused m = record { state = m; at = 0; words = 0; unmodelled = false; guarded = false }

pub admitting :
    (m : Module) (supervisor : Bool) (width offset value : ℕ) →
    permits (decide_stored m (unrefused m) supervisor width offset value) ≡ admits m (Write supervisor width offset value)
unfolding decide_stored admits
admitting m supervisor width offset value =
    untested (admitted m (shaped width offset && fits width value) supervisor width offset)

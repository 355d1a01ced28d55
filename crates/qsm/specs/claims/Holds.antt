-- Document 01, events: a hold gives pin levels, an RXD level and a number of clocks. What it leaves, its count of clocks included, does not
-- depend on how its clocks are cut into holds, where it is not refused 10 (02, L5 and L9).
use Rattle.std.specs.Prelude.{◌≡◌, Bool, false, ◌||◌, ℕ, suc, ◌+◌}
use Rattle.steps.specs.Iterate.{iterate}
use Rattle.qsm.specs.model.Event.{passes, step}
use Rattle.qsm.specs.declared.state.Module.{Module}
use Rattle.qsm.specs.declared.event.Event.TheVariants.{Hold}

-- A hold split into two of the same pins and RXD and the same total, either of them of no clocks too, leaves the same module; the second
-- gives the whole one's answer.
abbrev pub Splits : Type 0
Splits =
    (m : Module) (pins : ℕ) (rxd : Bool) (a b : ℕ) → passes m (a + b) ≡ false →
    step (step m (Hold pins rxd a)).state (Hold pins rxd b) ≡ step m (Hold pins rxd (a + b))

-- The whole is refused exactly if one of the two is.
abbrev pub RefusedInParts : Type 0
RefusedInParts =
    (m : Module) (pins : ℕ) (rxd : Bool) (a b : ℕ) →
    passes m (a + b) ≡ passes m a || passes (step m (Hold pins rxd a)).state b

-- A hold of n clocks, of one at least, leaves what n holds of one clock leave.
abbrev pub OneByOne : Type 0
OneByOne =
    (m : Module) (pins : ℕ) (rxd : Bool) (n : ℕ) → passes m (suc n) ≡ false →
    (step m (Hold pins rxd (suc n))).state ≡ iterate (suc n) (λ s. (step s (Hold pins rxd 1)).state) m

-- A hold of no clocks gives its levels and no more: at the levels that stand it leaves the module, and a later one's replace them.
abbrev pub NoClocks : Type 0
NoClocks =
    ((m : Module) (rxd : Bool) → (step m (Hold m.inputs rxd 0)).state ≡ m)
    × ((m : Module) (pins later : ℕ) (rxd now : Bool) (n : ℕ) → passes m n ≡ false →
    step (step m (Hold pins rxd 0)).state (Hold later now n) ≡ step m (Hold later now n))

pub record HeldInParts : Type 0 where
  pub splits : Splits
  pub refused_in_parts : RefusedInParts
  pub one_by_one : OneByOne
  pub no_clocks : NoClocks

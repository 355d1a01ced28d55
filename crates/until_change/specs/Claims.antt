-- What the number says: nothing else is shown before it, something else is shown at it; and none means that it never will be.
use Rattle.std.specs.Prelude.{Bool, true, false, not, List, [], ◌∷◌, Some, None, ◌≡◌, ℕ, ◌<◌, ◌≤◌}
use Rattle.qsm.specs.model.Event.{does, step, passes}
use Rattle.qsm.specs.model.State.{reset_module}
use Rattle.qsm.specs.declared.state.Module.{Module}
use Rattle.qsm.specs.declared.event.Access.TheVariants.{Write}
use Rattle.qsm.specs.declared.event.Event.TheVariants.{Hold}
use Rattle.qsm.specs.declared.event.Event.TheVariants as event
use Rattle.until_change.specs.Change.{look_of, look, same_look, differs, until_change}

-- The answer to a hold that is not refused shows what is compared.
abbrev pub OfAHold : Type 0
OfAHold =
    (m : Module) (pins : ℕ) (rxd : Bool) (n : ℕ) → passes m n ≡ false →
    differs m pins rxd n ≡ not (same_look (look m) (look_of (step m (Hold pins rxd n)).answer))

abbrev pub Least : Type 0
Least =
    (m : Module) (pins : ℕ) (rxd : Bool) (n : ℕ) → until_change m pins rxd ≡ Some n →
    (differs m pins rxd n ≡ true) × (1 ≤ n) × (passes m n ≡ false) × ((k : ℕ) → 1 ≤ k → k < n → differs m pins rxd k ≡ false)

-- What holds at these levels leave, one after another, refused ones among them.
unfoldable pub after : Module → ℕ → Bool → List ℕ → Module
after m pins rxd [] = m
after m pins rxd (n ∷ ns) = after (step m (Hold pins rxd n)).state pins rxd ns

-- None: no hold at these levels, after any such holds, gets an answer that shows something else.
abbrev pub Never : Type 0
Never =
    (m : Module) (pins : ℕ) (rxd : Bool) → until_change m pins rxd ≡ None →
    (ns : List ℕ) (n : ℕ) → same_look (look m) (look_of (step (after m pins rxd ns) (Hold pins rxd n)).answer) ≡ true

-- A queue that starts with SPBR 4: MSTR, then SPE. SCK turns with edge 1, at clock 4.
abbrev pub started : Module
started = (does (does reset_module (event.Access (Write true 2 0x18 0x8104))).state (event.Access (Write true 2 0x1A 0x8404))).state

pub record Claims : Type 0 where
  pub of_a_hold : OfAHold
  pub least : Least
  pub never : Never
  pub met : until_change started 0xFF true ≡ Some 4
  pub none_met : until_change reset_module 0xFF true ≡ None

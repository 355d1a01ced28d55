-- Document 01, Flags: what was seen, told from the history since a reset by what a host can see, with no look at the marks kept.
use Rattle.std.specs.Prelude.{◌≡◌, Bool, true, false, not, ◌&&◌, ◌||◌, List, [], ◌∷◌, ℕ, ◌<◌}
use Rattle.qsm.specs.model.State.{reset_module}
use Rattle.qsm.specs.model.Event.{step}
use Rattle.qsm.specs.declared.state.Module.{Module}
use Rattle.qsm.specs.declared.event.Access.{Access}
use Rattle.qsm.specs.declared.event.Event.{Event}
use Rattle.qsm.specs.declared.event.Event.TheVariants.{Reset, Hold}
use Rattle.qsm.specs.declared.event.Event.TheVariants as event
use Rattle.claims_clauses.specs.FlagsFall.{after, set, seen, looks, handles}

-- Each event gets the module that the last one left.
abbrev pub run : List Event → Module → Module
run [] m = m
run (e ∷ es) m = run es (step m e).state

-- A reset forgets; a hold shows nothing, whatever rises in it; an access that looks at SCSR shows each flag then set; one that falls is forgotten.
abbrev pub shown_by : ℕ → Module → Event → Bool → Bool
shown_by k m Reset was = false
shown_by k m (Hold pins rxd n) was = was
shown_by k m (event.Access a) was = (was || (looks m a && set m k)) && set (after m a) k

abbrev pub shown : ℕ → List Event → Module → Bool → Bool
shown k [] m was = was
shown k (e ∷ es) m was = shown k es (step m e).state (shown_by k m e was)

-- For every flag but RAF, which does not fall by being seen.
abbrev pub SeenBy : Type 0
SeenBy = (es : List Event) (k : ℕ) → k < 9 → (k ≡ 5 → ⊥) → seen (run es reset_module) k ≡ shown k es reset_module false

-- In a hold none of them falls.
abbrev pub HoldKeeps : Type 0
HoldKeeps =
    (m : Module) (pins : ℕ) (rxd : Bool) (n k : ℕ) → k < 9 → (k ≡ 5 → ⊥) → set m k ≡ true → set (step m (Hold pins rxd n)).state k ≡ true

-- So, after any history, by what a host can see alone: a flag falls exactly if it is set, was shown before or is by the same read, and SCDR's low
-- byte is read (a receive flag) or written (TDRE, TC).
abbrev pub FallsBy : Type 0
FallsBy =
    (es : List Event) (a : Access) (k : ℕ) → k < 9 → (k ≡ 5 → ⊥) →
    let m : Module = run es reset_module in
    set (after m a) k ≡ set m k && not ((shown k es reset_module false || looks m a) && handles m a k)

pub record SeenClauses : Type 0 where
  pub seen_by : SeenBy
  pub hold_keeps : HoldKeeps
  pub falls_by : FallsBy

-- Document 02, L10: an accepted plan does what it says, whoever made it, however it was loaded, and under a host that reads while it runs.
use Rattle.std.specs.Prelude.{◌≡◌, Bool, false, true, List, [], ◌∷◌, ◌++◌, ℕ, ◌^◌, ◌<◌}
use Rattle.qspi.specs.model.Fields.{spe}
use Rattle.qsm.specs.model.Event.{does}
use Rattle.qsm.specs.declared.state.Module.{Module}
use Rattle.qsm.specs.declared.event.Access.TheVariants.{Write}
use Rattle.qsm.specs.declared.event.Event.{Event}
use Rattle.qsm.specs.declared.event.Event.TheVariants as event
use Rattle.tool_plan.specs.Check.{accepts}
use Rattle.tool_plan.specs.Loading.{writing, with_pointers, entries_written, loading}
use Rattle.tool_plan.specs.Running.{played, Span, holding, total, Counts, NoFault, Ready, Sized}
use Rattle.tool_plan.specs.declared.SetPoints.{SetPoints}
use Rattle.tool_plan.specs.declared.Plan.{Plan}
use Rattle.claims_plans.specs.Watching.{clocks_in, Watched}
use Rattle.claims_plans.specs.Standing.{Laid, RunsPlan}
use Rattle.claims_plans.specs.Converter.{Wired, Holds}

-- What a module with the plan loaded does: by its pins and SPIF, and by the converters on its pins.
pub record Works (s : SetPoints) (p : Plan) (m : Module) : Type 0 where
  pub runs : RunsPlan s p m
  pub arrives : Wired m → Holds s p m

-- Loaded by any last write at all, of any width, as supervisor or as user, that finds SPE clear and leaves the plan standing, SPCR1 with it.
abbrev pub AnyLastWrite : Type 0
AnyLastWrite =
    (s : SetPoints) (window : ℕ) (p : Plan) (m : Module) (supervisor : Bool) (width offset value : ℕ) → accepts s window p ≡ true →
    spe m.qspi.registers.spcr1 ≡ false →
    Laid p (does m (event.Access (Write supervisor width offset value))).state →
    (does m (event.Access (Write supervisor width offset value))).state.qspi.registers.spcr1 ≡ p.spcr1 →
    Works s p (does m (event.Access (Write supervisor width offset value))).state

-- The supervisor's word to SPCR1, into any module with SPE clear where the rest stands, is such a write.
abbrev pub WordLast : Type 0
WordLast =
    (s : SetPoints) (window : ℕ) (p : Plan) (m : Module) → accepts s window p ≡ true → p.spcr1 < 2 ^ 16 →
    spe m.qspi.registers.spcr1 ≡ false → Laid p m → Works s p (does m (writing 2 0x1A p.spcr1)).state

-- The writes of `load` but the last leave such a module,
abbrev pub all_but_last : Plan → List Event
all_but_last p = entries_written p p.count ++ (writing 2 0x18 p.spcr0 ∷ writing 2 0x1C (with_pointers p) ∷ [])

pub record Lays (p : Plan) (m : Module) : Type 0 where
  pub off : spe (played (all_but_last p) m).qspi.registers.spcr1 ≡ false
  pub laid : Laid p (played (all_but_last p) m)
  pub last : loading p ≡ all_but_last p ++ (writing 2 0x1A p.spcr1 ∷ [])

abbrev pub LoadLays : Type 0
LoadLays =
    (s : SetPoints) (window : ℕ) (p : Plan) (m : Module) → accepts s window p ≡ true → Sized p → Ready m → Lays p m

-- and so they are an instance,
abbrev pub LoadedInOrder : Type 0
LoadedInOrder =
    (s : SetPoints) (window : ℕ) (p : Plan) (m : Module) → accepts s window p ≡ true → Sized p → Ready m → Works s p (played (loading p) m)

-- as the holds of `DoesWhatItSays` are.
abbrev pub HoldsAreWatched : Type 0
HoldsAreWatched =
    (m : Module) (hs : List Span) → Counts m hs → NoFault m hs → Watched m (holding hs) × (clocks_in (holding hs) ≡ total hs)

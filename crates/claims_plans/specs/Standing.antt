-- Document 02, L10: a module in which a plan stands, and what it does from SPE's rise on under a host that reads while it runs.
use Rattle.std.specs.Prelude.{◌≡◌, true, false, List, ℕ, ◌<◌, leb, get_or}
use Rattle.steps.specs.Bits.{bit}
use Rattle.qspi.specs.model.Fields.{halt}
use Rattle.qsm.specs.claims.PinClauses.{assigned}
use Rattle.qsm.specs.claims.StatusFlags.{SPIF, is_set}
use Rattle.qsm.specs.declared.state.Module.{Module}
use Rattle.qsm.specs.declared.event.Event.{Event}
use Rattle.tool_plan.specs.Check.{command_no, sent_no}
use Rattle.tool_plan.specs.Loading.{place_no, with_pointers}
use Rattle.tool_plan.specs.Running.{played, Does}
use Rattle.tool_plan.specs.declared.SetPoints.{SetPoints}
use Rattle.tool_plan.specs.declared.Plan.{Plan}
use Rattle.claims_plans.specs.Watching.{clocks_in, Watched}

-- A module in which the plan's entries, SPCR0 and SPCR2 stand, with SPIF and HALT clear and MOSI an assigned output. Nothing is said of how
-- they came there, nor of anything else.
pub record Laid (p : Plan) (m : Module) : Type 0 where
  pub words : (k : ℕ) → k < p.count → get_or m.qspi.ram.transmit (place_no p k) 0 ≡ sent_no p k
  pub commands : (k : ℕ) → k < p.count → get_or m.qspi.ram.commands (place_no p k) 0 ≡ command_no p k
  pub spcr0 : m.qspi.registers.spcr0 ≡ p.spcr0
  pub spcr2 : m.qspi.registers.spcr2 ≡ with_pointers p
  pub low : m.qspi.spsr.flags.spif ≡ false
  pub goes : halt m.qspi.registers.spcr3 ≡ false
  pub mosi_assigned : assigned m 1 ≡ true
  pub mosi_output : bit 1 m.ddrqs ≡ true

-- A module that does what the plan says under every host that only holds and reads; and a read of SPSR shows SPIF from the stated clock on
-- and not before.
abbrev pub RunsPlan : SetPoints → Plan → Module → Type 0
RunsPlan s p m =
    (es : List Event) → Watched m es →
    Does s p (played es m) (clocks_in es) × (is_set (played es m) SPIF ≡ leb p.clock (clocks_in es))

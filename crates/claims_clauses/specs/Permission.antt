-- Document 01, Seven refusals: of an access to the serial half's registers, 'permitted' by what a host sees: refusal 0, and a supervisor's
-- or SUPV clear.
use Rattle.std.specs.Prelude.{◌≡◌, Bool, true, not, ◌&&◌, ◌||◌, ℕ, eqb}
use Rattle.steps.specs.Bits.{bit}
use Rattle.qsm.specs.model.Event.{step}
use Rattle.qsm.specs.declared.state.Module.{Module}
use Rattle.qsm.specs.declared.event.Access.{Access}
use Rattle.qsm.specs.declared.event.Access.TheVariants.{Read, Write}
use Rattle.qsm.specs.declared.event.Event.TheVariants as event
use Rattle.claims_clauses.specs.FlagsFall.{word, permitted, has_byte}

abbrev pub supervisors : Access → Bool
supervisors (Read s w o) = s
supervisors (Write s w o v) = s

-- A byte of SCCR1, SCSR or SCDR is touched.
abbrev pub reaches : ℕ → ℕ → Bool
reaches w o = has_byte 0x0A w o || has_byte 0x0B w o || has_byte 0x0C w o || has_byte 0x0D w o || has_byte 0x0E w o || has_byte 0x0F w o

abbrev pub serial : Access → Bool
serial (Read s w o) = reaches w o
serial (Write s w o v) = reaches w o

-- SUPV is bit 7 of QSMCR.
abbrev pub SUPV : Module → Bool
SUPV m = bit 7 (word m 0x00)

abbrev pub Permission : Type 0
Permission =
    (m : Module) (a : Access) → serial a ≡ true →
    permitted m a ≡ eqb (step m (event.Access a)).answer.refusal 0 && (supervisors a || not (SUPV m))

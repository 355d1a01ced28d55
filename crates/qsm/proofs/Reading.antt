-- What a supervisor's read gives of the registers that pins and requests depend on. Assumes nothing.
use mathlib.Core.Path.{◌≡◌}
use Prim.Native.Nat.{◌/◌, ◌%◌}
use native.Mathlib.Nat.{zero-add}
use native.Mathlib.Omega.{arith}
use Rattle.steps.specs.Iterate.{iterate}
use Rattle.sci.specs.model.Serial.{sccr1_word}
use Rattle.qspi.specs.model.Registers.{spcr3_spsr}
use Rattle.qsm.specs.model.Map.{decode}
use Rattle.qsm.specs.model.Pins.{outputs, portqs_read}
use Rattle.qsm.specs.model.Own.{peek_own}
use Rattle.qsm.specs.model.Serial.{peek_serial}
use Rattle.qsm.specs.model.Queue.{peek_queue}
use Rattle.qsm.specs.model.Word.{peek}
use Rattle.qsm.specs.model.Lanes.{in_map}
use Rattle.qsm.specs.model.Access.{fetch, fetched}
use Rattle.qsm.specs.model.Decision.{admitted, decide_read}
use Rattle.qsm.specs.model.Event.{read_value, reads, does}
use Rattle.qsm.specs.claims.StatusFlags.{read_at}
use Rattle.qsm.specs.declared.state.Module.{Module}

pub scsr_read : (m : Module) → read_at m 2 0x0C ≡ m.sci.status.flags.bits % 512
unfolding does reads decide_read admitted in_map decode read_value fetched fetch iterate peek peek_serial
scsr_read m = zero-add _

pub sccr1_read : (m : Module) → read_at m 2 0x0A ≡ sccr1_word m.sci
unfolding does reads decide_read admitted in_map decode read_value fetched fetch iterate peek peek_serial
sccr1_read m = zero-add _

pub spcr1_read : (m : Module) → read_at m 2 0x1A ≡ m.qspi.registers.spcr1
unfolding does reads decide_read admitted in_map decode read_value fetched fetch iterate peek peek_queue
spcr1_read m = zero-add _

pub spcr3_read : (m : Module) → read_at m 1 0x1E ≡ spcr3_spsr m.qspi / 256 % 256
unfolding does reads decide_read admitted in_map decode read_value fetched fetch iterate peek peek_queue
spcr3_read m = rw zero-add

pub spsr_read : (m : Module) → read_at m 1 0x1F ≡ spcr3_spsr m.qspi % 256
unfolding does reads decide_read admitted in_map decode read_value fetched fetch iterate peek peek_queue
spsr_read m = rw zero-add

pub portqs_read_holds : (m : Module) → read_at m 1 0x15 ≡ portqs_read (outputs m) m.inputs % 256
unfolding does reads decide_read admitted in_map decode read_value fetched fetch iterate peek peek_own
portqs_read_holds m = omega arith

use mathlib.Core.Path.{refl}
use Rattle.claims_registers.proofs.shown.Goals as goal
use Rattle.claims_registers.proofs.Formed.{keeps}
use Rattle.claims_registers.proofs.Bytes.{bytes_back}
use Rattle.claims_registers.proofs.OwnBytes.{byte_14}
use Rattle.claims_registers.proofs.QueueBytes.{halt_byte}
use Rattle.claims_registers.proofs.Longs.{long_writes}
use Rattle.claims_registers.proofs.Users.{users_are}
use Rattle.claims_registers.proofs.Reading.{shown_by}

pub returns : goal.returns
returns c = (
  refl,
  record {
    keeps = keeps;
    bytes_back = bytes_back;
    halt_byte = halt_byte;
    byte_14 = byte_14;
    long_writes = long_writes;
    users = users_are;
    shown_by = shown_by;
  },
)

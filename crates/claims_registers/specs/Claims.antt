-- Registers by bytes, users' accesses, and pins and requests by what a host reads.
use Rattle.std.specs.Prelude.{ℕ}
use Rattle.qsm.specs.declared.state.Module.{Module}
use Rattle.claims_registers.specs.Formed.{Keeps}
use Rattle.claims_registers.specs.Bytes.{BytesBack, HaltByte, Byte14}
use Rattle.claims_registers.specs.Longs.{LongWrites}
use Rattle.claims_registers.specs.Users.{Users}
use Rattle.claims_registers.specs.Reading.{ShownBy}

pub record Claims : Type 0 where
  pub keeps : Keeps
  pub bytes_back : BytesBack
  pub halt_byte : (m : Module) (v : ℕ) → HaltByte m v
  pub byte_14 : Byte14
  pub long_writes : LongWrites
  pub users : Users
  pub shown_by : ShownBy

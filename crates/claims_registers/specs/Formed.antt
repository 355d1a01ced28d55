-- What registers hold in every module: bits that exist, and no others. A reset leaves a module so, and every event keeps it so.
use Rattle.std.specs.Prelude.{◌≡◌, ◌+◌, ◌*◌, ◌/◌, ◌%◌, ◌<◌}
use Rattle.qsm.specs.model.Event.{step}
use Rattle.qsm.specs.declared.state.Module.{Module}
use Rattle.qsm.specs.declared.event.Event.{Event}
use Rattle.qsm.specs.declared.event.Event.TheVariants.{Reset}

-- SUPV 7 and IARB 3:0; ILQSPI 5:3 and ILSCI 2:0; bit 0 of QIVR; PQSPAR 6:3 and 1:0; eight directions; SPIFIE, WREN and WRTO 15:13, ENDQP 11:8,
-- NEWQP 3:0.
pub record Formed (m : Module) : Type 0 where
  pub QSMCR : m.qsmcr ≡ m.qsmcr / 128 % 2 * 128 + m.qsmcr % 16
  pub QILR : m.qilr < 64
  pub QIVR : m.qivr < 256
  pub lowest : m.qivr % 2 ≡ 1
  pub PQSPAR : m.pqspar ≡ m.pqspar / 8 % 16 * 8 + m.pqspar % 4
  pub DDRQS : m.ddrqs < 256
  pub SPCR2 :
      m.qspi.registers.spcr2
      ≡ m.qspi.registers.spcr2 / 8192 * 8192 + m.qspi.registers.spcr2 / 256 % 16 * 256 + m.qspi.registers.spcr2 % 16

pub record Keeps : Type 0 where
  pub reset : (m : Module) → Formed (step m Reset).state
  pub kept : (m : Module) (e : Event) → Formed m → Formed (step m e).state

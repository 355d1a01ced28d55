-- Document 01, Register map: the module's own registers beside its two halves, and the values after a reset.
use Rattle.sci.specs.model.Serial.{reset_sci}
use Rattle.sci.specs.declared.serial.Sci.{Sci}
use Rattle.qspi.specs.model.Registers.{reset}
use Rattle.qspi.specs.declared.Qspi.{Qspi}
use Rattle.qsm.specs.declared.state.Module.{Module}

-- QSMCR 0080, QILR 00, QIVR 0F; pins 0, and their last input 0 until a hold; no clock counted (02, L9).
unfoldable pub reset_module : Module
reset_module =
    record {
      sci = reset_sci;
      qspi = reset;
      qsmcr = 0x80;
      qilr = 0;
      qivr = 0x0F;
      portqs = 0;
      pqspar = 0;
      ddrqs = 0;
      inputs = 0;
      clock = 0;
    }

abbrev pub with_sci : Module → Sci → Module
with_sci m s =
    record {
      sci = s;
      qspi = m.qspi;
      qsmcr = m.qsmcr;
      qilr = m.qilr;
      qivr = m.qivr;
      portqs = m.portqs;
      pqspar = m.pqspar;
      ddrqs = m.ddrqs;
      inputs = m.inputs;
      clock = m.clock;
    }

abbrev pub with_qspi : Module → Qspi → Module
with_qspi m q =
    record {
      sci = m.sci;
      qspi = q;
      qsmcr = m.qsmcr;
      qilr = m.qilr;
      qivr = m.qivr;
      portqs = m.portqs;
      pqspar = m.pqspar;
      ddrqs = m.ddrqs;
      inputs = m.inputs;
      clock = m.clock;
    }

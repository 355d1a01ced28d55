-- Document 01, Register map: the module's own words. `upper` and `lower` say which bytes of a word an access touches.
use Rattle.std.specs.Prelude.{Bool, false, cond, not, ◌&&◌, ℕ, ◌+◌, ◌*◌, ◌/◌, ◌%◌, eqb}
use Rattle.steps.specs.Bits.{lower_byte, word, merge}
use Rattle.qsm.specs.model.Pins.{outputs, portqs_read}
use Rattle.qsm.specs.declared.map.OwnWord.{OwnWord}
use Rattle.qsm.specs.declared.map.OwnWord.TheVariants.{Qsmcr, QilrQivr, Portqs, PqsparDdrqs}
use Rattle.qsm.specs.declared.state.Module.{Module}

-- Words are big-endian; byte 14, beside PORTQS, reads zero.
unfoldable pub peek_own : Module → OwnWord → ℕ
peek_own m Qsmcr = m.qsmcr
peek_own m QilrQivr = word m.qilr m.qivr
peek_own m Portqs = word 0 (portqs_read (outputs m) m.inputs)
peek_own m PqsparDdrqs = word m.pqspar m.ddrqs

-- Bits that don't exist are dropped. SUPV and IARB of QSMCR.
abbrev pub qsmcr_bits : ℕ → ℕ
qsmcr_bits w = w / 128 % 2 * 128 + w % 16

abbrev pub put_qsmcr : Module → ℕ → Bool → Bool → Module
put_qsmcr m v upper lower =
    record {
      sci = m.sci;
      qspi = m.qspi;
      qsmcr = qsmcr_bits (merge m.qsmcr v upper lower);
      qilr = m.qilr;
      qivr = m.qivr;
      portqs = m.portqs;
      pqspar = m.pqspar;
      ddrqs = m.ddrqs;
      inputs = m.inputs;
      clock = m.clock;
    }

-- QILR has six bits; bit 0 of QIVR reads 1.
abbrev pub with_interrupts : Module → ℕ → Module
with_interrupts m w =
    record {
      sci = m.sci;
      qspi = m.qspi;
      qsmcr = m.qsmcr;
      qilr = w / 256 % 64;
      qivr = w % 256 / 2 * 2 + 1;
      portqs = m.portqs;
      pqspar = m.pqspar;
      ddrqs = m.ddrqs;
      inputs = m.inputs;
      clock = m.clock;
    }

abbrev pub put_interrupts : Module → ℕ → Bool → Bool → Module
put_interrupts m v upper lower = with_interrupts m (merge (word m.qilr m.qivr) v upper lower)

-- Byte 14 has no bits.
abbrev pub put_portqs : Module → ℕ → Bool → Module
put_portqs m v lower =
    record {
      sci = m.sci;
      qspi = m.qspi;
      qsmcr = m.qsmcr;
      qilr = m.qilr;
      qivr = m.qivr;
      portqs = cond lower (lower_byte v) m.portqs;
      pqspar = m.pqspar;
      ddrqs = m.ddrqs;
      inputs = m.inputs;
      clock = m.clock;
    }

-- PQSPAR has bits 6:3 and 1:0.
abbrev pub with_directions : Module → ℕ → Module
with_directions m w =
    record {
      sci = m.sci;
      qspi = m.qspi;
      qsmcr = m.qsmcr;
      qilr = m.qilr;
      qivr = m.qivr;
      portqs = m.portqs;
      pqspar = w / 0x800 % 16 * 8 + w / 256 % 4;
      ddrqs = w % 256;
      inputs = m.inputs;
      clock = m.clock;
    }

abbrev pub put_directions : Module → ℕ → Bool → Bool → Module
put_directions m v upper lower = with_directions m (merge (word m.pqspar m.ddrqs) v upper lower)

unfoldable pub put_own : Module → OwnWord → ℕ → Bool → Bool → Module
put_own m Qsmcr v upper lower = put_qsmcr m v upper lower
put_own m QilrQivr v upper lower = put_interrupts m v upper lower
put_own m Portqs v upper lower = put_portqs m v lower
put_own m PqsparDdrqs v upper lower = put_directions m v upper lower

-- STOP and FRZ are bits 15:13 of QSMCR.
unfoldable pub own_unmodelled : OwnWord → ℕ → Bool → Bool
own_unmodelled Qsmcr v upper = upper && not (eqb (v / 0x2000 % 8) 0)
own_unmodelled QilrQivr v upper = false
own_unmodelled Portqs v upper = false
own_unmodelled PqsparDdrqs v upper = false

-- Document 01, Pins: 0 to 7 are MISO, MOSI, SCK, PCS0 to PCS3, TXD.
use Rattle.std.specs.Prelude.{cond, ℕ, ◌-◌, ◌*◌, ◌%◌}
use Rattle.std.specs.Int.Bits.{bit_and, bit_or}
use Rattle.sci.specs.model.Serial.{txd_driven, txd}
use Rattle.qspi.specs.model.Outputs.{enabled, sck, mosi, pcs}
use Rattle.qsm.specs.declared.state.Module.{Module}
use Rattle.qsm.specs.declared.pins.Outputs.{Outputs}

-- What the halves put out, and the pin registers.
abbrev pub outputs : Module → Outputs
outputs m =
    record {
      spe = enabled m.qspi;
      mosi = mosi m.qspi;
      sck = sck m.qspi;
      pcs = pcs m.qspi m.portqs;
      driving = txd_driven m.sci;
      txd = txd m.sci;
      portqs = m.portqs;
      pqspar = m.pqspar;
      ddrqs = m.ddrqs;
    }

-- Pins of a that are not in b.
abbrev pub without : ℕ → ℕ → ℕ
without a b = a - bit_and a b

-- The levels of a for the pins of a set, of b for the others.
abbrev pub select : ℕ → ℕ → ℕ → ℕ
select pins a b = bit_or (bit_and a pins) (without b pins)

-- The driven pins: those of DDRQS, but with SPE set an assigned MISO isn't, and SCK (bit 2) is whatever DDRQS says; TXD (bit 7) while the
-- transmitter drives it.
unfoldable pub mask : Outputs → ℕ
mask o =
    bit_or (bit_or (without o.ddrqs (cond o.spe (bit_and o.pqspar 1) 0)) (cond o.spe 4 0))
    (cond o.driving 128 0)

-- With SPE set SCK and the assigned MOSI (bit 1) and PCS (bits 6:3) are the queue's, while it drives TXD is the transmitter's; the rest is
-- PORTQS's.
unfoldable pub owned : Outputs → ℕ
owned o = bit_or (cond o.spe (bit_or (bit_and o.pqspar 0x7A) 4) 0) (cond o.driving 128 0)

unfoldable pub own_levels : Outputs → ℕ
own_levels o =
    bit_or (bit_or (bit_or (cond o.mosi 2 0) (cond o.sck 4 0)) (o.pcs % 16 * 8)) (cond o.txd 128 0)

-- Undriven levels are 0.
unfoldable pub levels : Outputs → ℕ
levels o = bit_and (select (owned o) (own_levels o) o.portqs) (mask o)

-- PORTQS reads driven levels, else the last input.
unfoldable pub portqs_read : Outputs → ℕ → ℕ
portqs_read o inputs = select (mask o) (levels o) inputs

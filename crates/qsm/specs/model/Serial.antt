-- Document 01, Register map: the words of the serial half.
use Rattle.std.specs.Prelude.{Bool, false, cond, ℕ, ◌%◌}
use Rattle.sci.specs.model.Control.{sccr0_bits}
use Rattle.sci.specs.model.Control as control
use Rattle.sci.specs.model.Serial.{sccr1_word, status_read, data_read, data_written, wrote_sccr0, wrote_sccr1, sccr0_guarded, sccr1_guarded}
use Rattle.sci.specs.declared.serial.Sci.{Sci}
use Rattle.qsm.specs.declared.map.SerialWord.{SerialWord}
use Rattle.qsm.specs.declared.map.SerialWord.TheVariants.{Sccr0, Sccr1, Scsr, Scdr}

unfoldable pub peek_serial : Sci → SerialWord → ℕ
peek_serial s Sccr0 = sccr0_bits s.sccr0
peek_serial s Sccr1 = sccr1_word s
peek_serial s Scsr = s.status.flags.bits % 512
peek_serial s Scdr = s.receiver.scdr % 512

-- What a read leaves that touches SCSR, SCDR's low byte, or both: status, then data.
unfoldable pub serial_read : Bool → Bool → Sci → Sci
serial_read status low s = cond low (data_read (cond status (status_read s) s)) (cond status (status_read s) s)

-- A write of SCSR does nothing.
unfoldable pub put_serial : Sci → SerialWord → ℕ → Bool → Bool → Sci
put_serial s Sccr0 v upper lower = wrote_sccr0 s v upper lower
put_serial s Sccr1 v upper lower = wrote_sccr1 s v upper lower
put_serial s Scsr v upper lower = s
put_serial s Scdr v upper lower = data_written lower s v upper

unfoldable pub serial_unmodelled : SerialWord → ℕ → Bool → Bool → Bool
serial_unmodelled Sccr0 v upper lower = false
serial_unmodelled Sccr1 v upper lower = control.unmodelled v upper lower
serial_unmodelled Scsr v upper lower = false
serial_unmodelled Scdr v upper lower = false

unfoldable pub serial_guarded : Sci → SerialWord → ℕ → Bool → Bool → Bool
serial_guarded s Sccr0 v upper lower = sccr0_guarded s v upper lower
serial_guarded s Sccr1 v upper lower = sccr1_guarded s v upper lower
serial_guarded s Scsr v upper lower = false
serial_guarded s Scdr v upper lower = false

-- The queue's registers: their words after reset, what a read gives, what a write by byte lanes leaves, what it is refused for.
use Rattle.std.specs.Prelude.{Bool, true, false, cond, not, ◌&&◌, ◌||◌, ℕ, ◌+◌, ◌*◌, ◌/◌, ◌%◌, eqb, leb, replicate}
use Rattle.steps.specs.Bits.{bit, word, merge, upper_byte}
use Rattle.qspi.specs.model.Fields.{mstr, bits_field, spe, newqp}
use Rattle.qspi.specs.model.Parts.{with_registers, with_spsr, with_next, with_entry}
use Rattle.qspi.specs.model.Spsr.{spsr_byte, flags_seen, falling, fallen}
use Rattle.qspi.specs.model.Entry.{abandoned, silent}
use Rattle.qspi.specs.declared.Qspi.{Qspi}
use Rattle.qspi.specs.declared.registers.Registers.{Registers}
use Rattle.qspi.specs.declared.spsr.Flags.{Flags}

abbrev no_flags : Flags
no_flags = record { spif = false; modf = false; halta = false }

-- SPCR0 0104, SPCR1 0404, all else 0; nothing seen.
unfoldable pub reset : Qspi
reset =
    record {
      registers = record { spcr0 = 0x0104; spcr1 = 0x0404; spcr2 = 0; spcr3 = 0 };
      spsr = record { flags = no_flags; seen = no_flags; cptqp = 0 };
      next = record { working = 0; pointer = 0; pending = false };
      entry =
          record {
            command = 0;
            word = 0;
            playing = false;
            delaying = false;
            halted = false;
            left = 0;
            edges = 0;
            mosi = false;
            collected = 0;
            selecting = false;
          };
      ram = record { receive = replicate 16 0; transmit = replicate 16 0; commands = replicate 16 0 };
    }

-- Words at 18, 1A and 1C; a read of SPCR2 gives the register, not its working copy.
abbrev pub spcr0_word : Qspi → ℕ
spcr0_word q = q.registers.spcr0

abbrev pub spcr1_word : Qspi → ℕ
spcr1_word q = q.registers.spcr1

abbrev pub spcr2_word : Qspi → ℕ
spcr2_word q = q.registers.spcr2

-- Word at 1E: SPCR3 and SPSR.
abbrev pub spcr3_spsr : Qspi → ℕ
spcr3_spsr q = word q.registers.spcr3 (spsr_byte q.spsr)

-- A read touching byte 1F.
abbrev pub status_read : Qspi → Qspi
status_read q = with_spsr q (flags_seen q.spsr)

abbrev pub with_spcr0 : Registers → ℕ → Registers
with_spcr0 r w = record { spcr0 = w; spcr1 = r.spcr1; spcr2 = r.spcr2; spcr3 = r.spcr3 }

abbrev pub with_spcr1 : Registers → ℕ → Registers
with_spcr1 r w = record { spcr0 = r.spcr0; spcr1 = w; spcr2 = r.spcr2; spcr3 = r.spcr3 }

abbrev pub with_spcr2 : Registers → ℕ → Registers
with_spcr2 r w = record { spcr0 = r.spcr0; spcr1 = r.spcr1; spcr2 = w; spcr3 = r.spcr3 }

abbrev pub with_spcr3 : Registers → ℕ → Registers
with_spcr3 r w = record { spcr0 = r.spcr0; spcr1 = r.spcr1; spcr2 = r.spcr2; spcr3 = w }

-- SPE falls.
abbrev pub disabled : Registers → Registers
disabled r = with_spcr1 r (r.spcr1 % 0x8000)

-- SPE rising: pointer from NEWQP, working copy of SPCR2, MOSI 0 until the first bit.
abbrev pub risen : Qspi → Qspi
risen q =
    with_entry
    (with_next q
    (record { working = q.registers.spcr2; pointer = newqp q.registers.spcr2; pending = q.next.pending }))
    (silent (abandoned q.entry))

-- SPE before and after a write.
abbrev pub switched : Bool → Bool → Qspi → Qspi
switched false false q = q
switched false true q = risen q
switched true false q = with_entry q (abandoned q.entry)
switched true true q = q

abbrev pub write_spcr0 : Qspi → ℕ → Bool → Bool → Qspi
write_spcr0 q v upper lower = with_registers q (with_spcr0 q.registers (merge q.registers.spcr0 v upper lower))

unfoldable pub write_spcr1 : Qspi → ℕ → Bool → Bool → Qspi
write_spcr1 q v upper lower =
    switched (spe q.registers.spcr1) (spe (merge q.registers.spcr1 v upper lower))
    (with_registers q (with_spcr1 q.registers (merge q.registers.spcr1 v upper lower)))

-- Bits 12 and 7:4 don't exist.
abbrev pub spcr2_bits : ℕ → ℕ
spcr2_bits w = w / 0x2000 * 0x2000 + w / 256 % 16 * 256 + w % 16

-- A write touching the lower byte touches NEWQP, also with its own value.
abbrev pub write_spcr2 : Qspi → ℕ → Bool → Bool → Qspi
write_spcr2 q v upper lower =
    with_next
    (with_registers q (with_spcr2 q.registers (spcr2_bits (merge q.registers.spcr2 v upper lower))))
    (record { working = q.next.working; pointer = q.next.pointer; pending = q.next.pending || lower })

-- CPTQP can't be written.
abbrev pub write_spcr3_spsr : Qspi → ℕ → Bool → Bool → Qspi
write_spcr3_spsr q v upper lower =
    with_spsr
    (with_registers q (with_spcr3 q.registers (cond upper (upper_byte v % 8) q.registers.spcr3)))
    (fallen q.spsr (falling q.spsr v lower))

-- Refusal 3: WOMQ, or BITS 1 to 7.
abbrev pub spcr0_unmodelled : ℕ → Bool → Bool
spcr0_unmodelled v upper = upper && (bit 14 v || (leb 1 (bits_field v) && leb (bits_field v) 7))

-- Refusal 3: SPE with MSTR clear.
abbrev pub spcr1_unmodelled : Qspi → ℕ → Bool → Bool
spcr1_unmodelled q v upper = (upper && spe v) && not (mstr q.registers.spcr0)

-- Refusal 3: LOOPQ.
abbrev pub spcr3_unmodelled : ℕ → Bool → Bool
spcr3_unmodelled v upper = upper && bit 10 v

-- Refusal 4: SPCR0 changed while SPE is set.
abbrev pub spcr0_guarded : Qspi → ℕ → Bool → Bool → Bool
spcr0_guarded q v upper lower =
    spe q.registers.spcr1 && not (eqb (merge q.registers.spcr0 v upper lower) q.registers.spcr0)

-- Refusal 4: DSCKL or DTL changed while SPE is set.
abbrev pub spcr1_guarded : Qspi → ℕ → Bool → Bool → Bool
spcr1_guarded q v upper lower =
    spe q.registers.spcr1
    && not (eqb (merge q.registers.spcr1 v upper lower % 0x8000) (q.registers.spcr1 % 0x8000))

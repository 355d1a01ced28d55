-- What the queue puts on SCK, MOSI and the four PCS, and whether it asks for an interrupt.
use Rattle.std.specs.Prelude.{Bool, cond, not, ◌&&◌, ◌||◌, ℕ, ◌/◌, ◌%◌, eqb}
use Rattle.qspi.specs.model.Fields.{cpol, spe, spifie, hmie, pcs_field}
use Rattle.qspi.specs.declared.Qspi.{Qspi}

abbrev pub enabled : Qspi → Bool
enabled q = spe q.registers.spcr1

-- SCK rests at CPOL and turns with each edge.
abbrev pub sck : Qspi → Bool
sck q = cond (eqb (q.entry.edges % 2) 1) (not (cpol q.registers.spcr0)) (cpol q.registers.spcr0)

-- MOSI holds the entry's bit.
abbrev pub mosi : Qspi → Bool
mosi q = q.entry.mosi

-- PCS0 to PCS3 as bits 0 to 3: the command's value, or PORTQS.
abbrev pub pcs : Qspi → ℕ → ℕ
pcs q portqs = cond q.entry.selecting (pcs_field q.entry.command) (portqs / 8 % 16)

-- SPIF and working SPIFIE, or MODF or HALTA and HMIE.
abbrev pub asks : Qspi → Bool
asks q =
    (q.spsr.flags.spif && spifie q.next.working)
    || ((q.spsr.flags.modf || q.spsr.flags.halta) && hmie q.registers.spcr3)

-- Document 01, Register map: offsets from the module's base, decoded by ranges into single registers, three RAM blocks and holes.
use Rattle.std.specs.Prelude.{Bool, true, false, cond, ◌&&◌, ℕ, ◌-◌, ◌/◌, leb}
use Rattle.qsm.specs.declared.map.OwnWord.{OwnWord}
use Rattle.qsm.specs.declared.map.OwnWord.TheVariants.{Qsmcr, QilrQivr, Portqs, PqsparDdrqs}
use Rattle.qsm.specs.declared.map.SerialWord.TheVariants.{Sccr0, Sccr1, Scsr, Scdr}
use Rattle.qsm.specs.declared.map.QueueWord.TheVariants.{Spcr0, Spcr1, Spcr2, Spcr3Spsr, Receive, Transmit, Command}
use Rattle.qsm.specs.declared.map.Place.{Place}
use Rattle.qsm.specs.declared.map.Place.TheVariants.{Own, Serial, Queue, Hole}

-- The bytes from the first to the last.
abbrev pub from : ℕ → ℕ → ℕ → Bool
from first last b = leb first b && leb b last

-- The word that holds the byte at an offset. Byte 14 is in the map beside PORTQS; in the RAM, words are numbered in each block.
unfoldable pub decode : ℕ → Place
decode b =
    cond (from 0x00 0x01 b) (Own Qsmcr)
    (cond (from 0x04 0x05 b) (Own QilrQivr)
    (cond (from 0x08 0x09 b) (Serial Sccr0)
    (cond (from 0x0A 0x0B b) (Serial Sccr1)
    (cond (from 0x0C 0x0D b) (Serial Scsr)
    (cond (from 0x0E 0x0F b) (Serial Scdr)
    (cond (from 0x14 0x15 b) (Own Portqs)
    (cond (from 0x16 0x17 b) (Own PqsparDdrqs)
    (cond (from 0x18 0x19 b) (Queue Spcr0)
    (cond (from 0x1A 0x1B b) (Queue Spcr1)
    (cond (from 0x1C 0x1D b) (Queue Spcr2)
    (cond (from 0x1E 0x1F b) (Queue Spcr3Spsr)
    (cond (from 0x100 0x11F b) (Queue (Receive ((b - 0x100) / 2)))
    (cond (from 0x120 0x13F b) (Queue (Transmit ((b - 0x120) / 2)))
    (cond (from 0x140 0x14F b) (Queue (Command ((b - 0x140) / 2))) Hole))))))))))))))

abbrev pub mapped : Place → Bool
mapped (Own w) = true
mapped (Serial w) = true
mapped (Queue w) = true
mapped Hole = false

-- QSMCR, QILR, QIVR.
abbrev pub own_restricted : OwnWord → Bool
own_restricted Qsmcr = true
own_restricted QilrQivr = true
own_restricted Portqs = false
own_restricted PqsparDdrqs = false

abbrev pub restricted : Place → Bool
restricted (Own w) = own_restricted w
restricted (Serial w) = false
restricted (Queue w) = false
restricted Hole = false

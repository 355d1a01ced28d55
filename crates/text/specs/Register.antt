-- Document 01, Register map: the names of the registers that an access touches.
use Rattle.std.specs.Prelude.{cond, List, [], ◌++◌, ℕ, ◌+◌, ◌*◌, ◌%◌, eqb}
use Rattle.qsm.specs.model.Map.{decode}
use Rattle.qsm.specs.declared.map.OwnWord.{OwnWord}
use Rattle.qsm.specs.declared.map.OwnWord.TheVariants.{Qsmcr, QilrQivr, Portqs, PqsparDdrqs}
use Rattle.qsm.specs.declared.map.SerialWord.{SerialWord}
use Rattle.qsm.specs.declared.map.SerialWord.TheVariants.{Sccr0, Sccr1, Scsr, Scdr}
use Rattle.qsm.specs.declared.map.QueueWord.{QueueWord}
use Rattle.qsm.specs.declared.map.QueueWord.TheVariants.{Spcr0, Spcr1, Spcr2, Spcr3Spsr, Receive, Transmit, Command}
use Rattle.qsm.specs.declared.map.Place.{Place}
use Rattle.qsm.specs.declared.map.Place.TheVariants.{Own, Serial, Queue, Hole}
use Rattle.text.specs.Digits.{ascii, decimal}
use Rattle.text.specs.declared.register.Part.{Part}
use Rattle.text.specs.declared.register.Part.TheVariants.{Upper, Lower, Whole}

-- What of the word at an offset is named: a byte access touches one of its halves.
abbrev pub part_of : ℕ → ℕ → Part
part_of width offset = cond (eqb width 1) (cond (eqb (offset % 2) 0) Upper Lower) Whole

-- Two registers that share a word.
abbrev pub pair : Part → List ℕ → List ℕ → List ℕ
pair Upper upper lower = upper
pair Lower upper lower = lower
pair Whole upper lower = upper ++ ascii "/" ++ lower

abbrev pub own : Part → OwnWord → List ℕ
own p Qsmcr = ascii "QSMCR"
own p QilrQivr = pair p (ascii "QILR") (ascii "QIVR")
own p Portqs = ascii "PORTQS"
own p PqsparDdrqs = pair p (ascii "PQSPAR") (ascii "DDRQS")

abbrev pub serial : SerialWord → List ℕ
serial Sccr0 = ascii "SCCR0"
serial Sccr1 = ascii "SCCR1"
serial Scsr = ascii "SCSR"
serial Scdr = ascii "SCDR"

-- Two command bytes share a word.
unfoldable pub command : Part → ℕ → List ℕ
command p k = ascii "command RAM " ++ pair p (decimal 3 (k * 2)) (decimal 3 (k * 2 + 1))

abbrev pub queue : Part → QueueWord → List ℕ
queue p Spcr0 = ascii "SPCR0"
queue p Spcr1 = ascii "SPCR1"
queue p Spcr2 = ascii "SPCR2"
queue p Spcr3Spsr = pair p (ascii "SPCR3") (ascii "SPSR")
queue p (Receive k) = ascii "receive RAM " ++ decimal 3 k
queue p (Transmit k) = ascii "transmit RAM " ++ decimal 3 k
queue p (Command k) = command p k

unfoldable pub register : Part → Place → List ℕ
register p (Own w) = own p w
register p (Serial w) = serial w
register p (Queue w) = queue p w
register p Hole = ascii "unmapped"

-- The register at an offset; of a long, those of both its words.
unfoldable pub registers : ℕ → ℕ → List ℕ
registers width offset =
    register (part_of width offset) (decode offset)
    ++ cond (eqb width 4) (ascii " and " ++ register Whole (decode (offset + 2))) []

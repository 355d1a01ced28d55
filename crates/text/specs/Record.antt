-- The line of a record: `2: write as supervisor, width 2, SCCR1 at 000A, value 0000000C`.
use Rattle.std.specs.Prelude.{Bool, cond, List, [], ◌∷◌, ◌++◌, ℕ, eqb}
use Rattle.qsm.specs.declared.event.Access.{Access}
use Rattle.qsm.specs.declared.event.Access.TheVariants.{Read, Write}
use Rattle.qsm.specs.declared.event.Event.{Event}
use Rattle.qsm.specs.declared.event.Event.TheVariants.{Reset, Hold}
use Rattle.qsm.specs.declared.event.Event.TheVariants as events
use Rattle.trace.specs.Trace.{long_hold_kind}
use Rattle.text.specs.Digits.{ascii, decimal, hex_byte, hex_word, hex_long, number}
use Rattle.text.specs.Register.{registers}

abbrev pub privilege : Bool → List ℕ
privilege supervisor = cond supervisor (ascii " as supervisor, width ") (ascii " as user, width ")

-- Who accesses what: supervisor or user, the width in bytes, the registers and the offset.
unfoldable pub place : Bool → ℕ → ℕ → List ℕ
place supervisor width offset =
    privilege supervisor
    ++ decimal 3 width
    ++ ascii ", "
    ++ registers width offset
    ++ ascii " at "
    ++ hex_word offset

abbrev pub long : Bool → List ℕ
long is = cond is (ascii "long ") []

unfoldable pub hold : ℕ → Bool → ℕ → List ℕ
hold pins rxd clocks =
    ascii "hold pins "
    ++ hex_byte pins
    ++ cond rxd (ascii ", RXD 1, clocks ") (ascii ", RXD 0, clocks ")
    ++ decimal 10 clocks

abbrev pub access : Access → List ℕ
access (Read supervisor width offset) = ascii "read" ++ place supervisor width offset
access (Write supervisor width offset value) =
    ascii "write" ++ place supervisor width offset ++ ascii ", value " ++ hex_long value

unfoldable pub event : Event → List ℕ
event Reset = ascii "reset"
event (Hold pins rxd clocks) = hold pins rxd clocks
event (events.Access a) = access a

-- The line of record n, of a kind and its event, with the byte that ends a line. A hold of 05 is a long hold.
abbrev pub record_line : ℕ → ℕ → Event → List ℕ
record_line n kind e = number n ++ long (eqb kind long_hold_kind) ++ event e ++ (10 ∷ [])

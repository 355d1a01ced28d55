-- Document 01, Trace, with kind 05 (02, L5): a record's bytes, from its kind and its event.
use Rattle.std.specs.Prelude.{Bool, cond, List, [], ◌∷◌, ◌++◌, ℕ, ◌+◌, ◌-◌, ◌/◌, ◌%◌, eqb, length, replicate}
use Rattle.steps.specs.Bits.{digit, upper_byte, lower_byte}
use Rattle.qsm.specs.declared.event.Access.{Access}
use Rattle.qsm.specs.declared.event.Access.TheVariants.{Read, Write}
use Rattle.qsm.specs.declared.event.Event.{Event}
use Rattle.qsm.specs.declared.event.Event.TheVariants.{Reset, Hold}
use Rattle.qsm.specs.declared.event.Event.TheVariants as events
use Rattle.trace.specs.Trace.{reset_kind, hold_kind, read_kind, write_kind, long_hold_kind}
use Rattle.tool_assemble.specs.declared.encode.Encoded.{Encoded}

-- A width with bit 7 for the supervisor.
abbrev pub width_byte : Bool → ℕ → ℕ
width_byte supervisor width = cond supervisor (128 + width % 128) (width % 128)

-- A word, and a long, high byte first.
abbrev pub word_bytes : ℕ → List ℕ
word_bytes n = upper_byte n ∷ lower_byte n ∷ []

abbrev pub long_bytes : ℕ → List ℕ
long_bytes n = word_bytes (n / 65536 % 65536) ++ word_bytes (n % 65536)

abbrev pub hold_bytes : ℕ → Bool → ℕ → List ℕ
hold_bytes pins rxd clocks = hold_kind ∷ pins ∷ digit rxd ∷ word_bytes (clocks % 65536)

abbrev pub long_hold_bytes : ℕ → Bool → ℕ → List ℕ
long_hold_bytes pins rxd clocks = long_hold_kind ∷ pins ∷ digit rxd ∷ long_bytes clocks

abbrev pub read_bytes : Bool → ℕ → ℕ → List ℕ
read_bytes supervisor width offset = read_kind ∷ width_byte supervisor width ∷ word_bytes offset

abbrev pub write_bytes : Bool → ℕ → ℕ → ℕ → List ℕ
write_bytes supervisor width offset value = write_kind ∷ width_byte supervisor width ∷ word_bytes offset ++ long_bytes value

abbrev pub access_bytes : Access → List ℕ
access_bytes (Read supervisor width offset) = read_bytes supervisor width offset
access_bytes (Write supervisor width offset value) = write_bytes supervisor width offset value

abbrev pub record_bytes : ℕ → Event → List ℕ
record_bytes kind Reset = reset_kind ∷ []
record_bytes kind (Hold pins rxd clocks) =
    cond (eqb kind long_hold_kind) (long_hold_bytes pins rxd clocks) (hold_bytes pins rxd clocks)
record_bytes kind (events.Access a) = access_bytes a

-- A record's bytes at the start of eight.
abbrev pub padded : List ℕ → Encoded
padded t = record { bytes = t ++ replicate (8 - length t) 0; length = length t }

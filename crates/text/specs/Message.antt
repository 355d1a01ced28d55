-- What is said of a trace that stops and of bytes that are no log or no trace: `refusal 6, record cut by the end of the trace: record 3 at byte 17`.
use Rattle.std.specs.Prelude.{Bool, cond, List, [], ◌∷◌, ◌++◌, ℕ}
use Rattle.trace.specs.Play.{stop_number}
use Rattle.trace.specs.declared.Stop.{Stop}
use Rattle.trace.specs.declared.Stop.TheVariants.{End, UnknownKind, CutRecord, NoRoom, ClockLimit}
use Rattle.text.specs.Digits.{ascii, decimal}
use Rattle.text.specs.declared.message.Fault.{Fault}
use Rattle.text.specs.declared.message.Fault.TheVariants.{NoAnswer, OtherKind, NoRefusal, NotDriven, NoRecord, Cut}

-- Document 01, Seven refusals, and 02, L9: those that stop a trace.
abbrev pub stop_words : Stop → List ℕ
stop_words End = ascii "end of the trace"
stop_words UnknownKind = ascii "unknown record kind"
stop_words CutRecord = ascii "record cut by the end of the trace"
stop_words NoRoom = ascii "no room left for an answer"
stop_words ClockLimit = ascii "hold past the clock's limit"

abbrev pub fault_words : Fault → List ℕ
fault_words NoAnswer = ascii "its first byte is neither hex 10 nor hex 11"
fault_words OtherKind = ascii "it is of another kind than those before it"
fault_words NoRefusal = ascii "its refusal is neither 0 to 4 nor 9"
fault_words NotDriven = ascii "it gives the level of a pin that is not driven"
fault_words NoRecord = ascii "unknown record kind"
fault_words Cut = ascii "cut by the end of the input"

-- What stands where: its number, from 0, and its place in bytes.
abbrev pub located : List ℕ → ℕ → ℕ → List ℕ
located what number place = what ++ decimal 20 number ++ ascii " at byte " ++ decimal 20 place

abbrev pub stop_line : Stop → ℕ → ℕ → List ℕ
stop_line stop number place =
    ascii "refusal " ++ decimal 3 (stop_number stop) ++ ascii ", " ++ stop_words stop ++ ascii ": " ++ located (ascii "record ") number place ++ (10 ∷ [])

-- Of a record of a trace, or of an answer of a log.
abbrev pub fault_line : Bool → Fault → ℕ → ℕ → List ℕ
fault_line traces fault number place =
    located (cond traces (ascii "record ") (ascii "answer ")) number place ++ ascii ": " ++ fault_words fault ++ (10 ∷ [])

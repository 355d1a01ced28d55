-- No message is longer than a line has room for. Assumes nothing.
use mathlib.Core.Bool.{Bool}
use Prim.Native.Nat.{ℕ, ◌≤◌}
use native.Mathlib.Omega.{arith}
use lib.ListN.{length, length-append}
use Rattle.trace.specs.Play.{stop_number}
use Rattle.trace.specs.declared.Stop.{Stop}
use Rattle.trace.specs.declared.Stop.TheVariants.{End, UnknownKind, CutRecord, NoRoom, ClockLimit}
use Rattle.text.specs.Digits.{ascii}
use Rattle.text.specs.Line.{room}
use Rattle.text.specs.Message.{stop_words, fault_words, stop_line, fault_line}
use Rattle.text.specs.declared.message.Fault.{Fault}
use Rattle.text.specs.declared.message.Fault.TheVariants.{NoAnswer, OtherKind, NoRefusal, NotDriven, NoRecord, Cut}
use Rattle.text.proofs.Lengths.{either, decimal_length}

stop_words_length : (stop : Stop) → length (stop_words stop) ≤ 34
stop_words_length End = omega arith
stop_words_length UnknownKind = omega arith
stop_words_length CutRecord = omega arith
stop_words_length NoRoom = omega arith
stop_words_length ClockLimit = omega arith

fault_words_length : (fault : Fault) → length (fault_words fault) ≤ 46
fault_words_length NoAnswer = omega arith
fault_words_length OtherKind = omega arith
fault_words_length NoRefusal = omega arith
fault_words_length NotDriven = omega arith
fault_words_length NoRecord = omega arith
fault_words_length Cut = omega arith

pub stop_fits : (stop : Stop) (number place : ℕ) → length (stop_line stop number place) ≤ room
stop_fits stop number place =
    simp length-append
    (omega (arith, decimal_length 3 (stop_number stop), stop_words_length stop, decimal_length 20 number, decimal_length 20 place))

pub fault_fits : (traces : Bool) (fault : Fault) (number place : ℕ) → length (fault_line traces fault number place) ≤ room
fault_fits traces fault number place =
    simp length-append
    (omega (
      arith,
      either traces (ascii "record ") (ascii "answer ") 7 (omega arith) (omega arith),
      fault_words_length fault,
      decimal_length 20 number,
      decimal_length 20 place,
    ))

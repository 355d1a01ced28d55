-- Document 01, Trace, and 02, L9: a log is a row of answers of one kind, ten bytes of kind 10 or 18 of kind 11; what stands at the start of
-- a rest of one.
use Rattle.std.specs.Prelude.{Bool, cond, not, ◌&&◌, Result, Ok, Err, List, ℕ, ◌+◌, ◌*◌, ◌^◌, eqb, ltb, length}
use Rattle.std.specs.Int.Bits.{bit_and}
use Rattle.answers.specs.Answer.{clocked, known_kind, length_of}
use Rattle.answers.specs.Field.{start_of}
use Rattle.answers.specs.declared.Field.TheVariants.{Refusal, Value, Levels, Mask, Level, Vector, Clock}
use Rattle.trace.specs.Trace.{byte_at, long_at}
use Rattle.qsm.specs.declared.event.Answer.{Answer}
use Rattle.text.specs.Answer.{unnamed}
use Rattle.text.specs.declared.message.Fault.{Fault}
use Rattle.text.specs.declared.message.Fault.TheVariants.{NoAnswer, OtherKind, NoRefusal, NotDriven, Cut}
use Rattle.text.specs.declared.log.Logged.{Logged}

-- A number of eight bytes, by its upper and its lower four.
abbrev pub wide : ℕ → ℕ → ℕ
wide h l = h * 2 ^ 32 + l

-- The clock, the last eight bytes of kind 11; 0 where there is none.
abbrev pub clock_at : ℕ → List ℕ → ℕ
clock_at kind t = cond (eqb kind clocked) (wide (long_at t (start_of Clock)) (long_at t (start_of Clock + 4))) 0

-- The bytes of an answer of a kind.
abbrev pub answer_at : ℕ → List ℕ → Answer
answer_at kind t =
    record {
      refusal = byte_at t (start_of Refusal);
      value = long_at t (start_of Value);
      levels = byte_at t (start_of Levels);
      mask = byte_at t (start_of Mask);
      level = byte_at t (start_of Level);
      vector = byte_at t (start_of Vector);
      clock = clock_at kind t;
    }

abbrev pub nothing : Logged
nothing =
    record { kind = 0; answer = record { refusal = 0; value = 0; levels = 0; mask = 0; level = 0; vector = 0; clock = 0 } }

-- What stands there, whether it is an answer of the model or not; zeros where there are fewer bytes than an answer's.
abbrev pub logged_at : List ℕ → Logged
logged_at t =
    cond (ltb (length t) (length_of (byte_at t 0))) nothing (record { kind = byte_at t 0; answer = answer_at (byte_at t 0) t })

-- What is wrong first: a refusal that no answer has, a level of a pin that is not driven; else the answer.
abbrev pub tested : Logged → Result Logged Fault
tested l =
    cond (unnamed l.answer.refusal) (Err NoRefusal)
    (cond (not (eqb (bit_and l.answer.levels l.answer.mask) l.answer.levels)) (Err NotDriven) (Ok l))

-- The first byte of an answer: of no kind, or of another than the answers before it, whose kind is given, or 0 if there are none.
abbrev pub foreign_kind : ℕ → Bool
foreign_kind first = not (known_kind first)

abbrev pub other_kind : ℕ → ℕ → Bool
other_kind kind first = not (eqb kind 0) && not (eqb kind first)

abbrev pub entry : ℕ → List ℕ → Result Logged Fault
entry kind t =
    cond (eqb (length t) 0) (Err Cut)
    (cond (foreign_kind (byte_at t 0)) (Err NoAnswer)
    (cond (other_kind kind (byte_at t 0)) (Err OtherKind)
    (cond (ltb (length t) (length_of (byte_at t 0))) (Err Cut) (tested (logged_at t)))))

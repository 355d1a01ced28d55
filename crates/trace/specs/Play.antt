-- Document 01, Trace and refusals 5 to 7, and refusal 10 (02, L9): what playing a trace into so much room answers and leaves.
use Rattle.std.specs.Prelude.{◌≡◌, cond, ℕ, zero, suc, ◌-◌, ◌*◌, eqb, ltb, length, take, drop}
use mathlib.Core.List.{List, [], ◌∷◌, ◌++◌, flatten}
use Rattle.qsm.specs.model.Event.{step}
use Rattle.qsm.specs.claims.Count.{limited}
use Rattle.qsm.specs.declared.state.Module.{Module}
use Rattle.qsm.specs.declared.event.Stepped.{Stepped}
use Rattle.trace.specs.Trace.{parsed_by, answer_length, Reader, reader}
use Rattle.trace.specs.declared.Parsed.{Parsed}
use Rattle.trace.specs.declared.Parsed.TheVariants.{Record, Unknown, Cut}
use Rattle.trace.specs.declared.Stop.{Stop}
use Rattle.trace.specs.declared.Stop.TheVariants.{End, UnknownKind, CutRecord, NoRoom, ClockLimit}
use Rattle.trace.specs.declared.Played.{Played}

-- The refusal that stopped a trace, or 0 at its end.
abbrev pub stop_number : Stop → ℕ
stop_number End = 0
stop_number UnknownKind = 5
stop_number CutRecord = 6
stop_number NoRoom = 7
stop_number ClockLimit = 10

-- The refusal of what is no whole record.
abbrev pub refusal_of : Parsed → ℕ
refusal_of (Record e n) = 0
refusal_of Unknown = 5
refusal_of Cut = 6

-- The module that is left, the records answered, the bytes of their answers, and the refusal that stopped the trace or 0.
pub record Outcome : Type 0 where
  pub state : Module
  pub records : List (List ℕ)
  pub answers : List ℕ
  pub stop : ℕ

-- The trace stops before a record: the module stays as it is.
abbrev pub stopped : Module → ℕ → Outcome
stopped m why = record { state = m; records = []; answers = []; stop = why }

-- A record that is answered.
abbrev pub answered_by : Reader → Stepped → List ℕ → Outcome
answered_by R s r = record { state = s.state; records = r ∷ []; answers = R.bytes s.answer; stop = 0 }

abbrev pub answered : Stepped → List ℕ → Outcome
answered s r = answered_by reader s r

-- One part of a trace and then the next: earlier answers stand.
abbrev pub followed : Outcome → Outcome → Outcome
followed o p =
    record {
      state = p.state;
      records = o.records ++ p.records;
      answers = o.answers ++ p.answers;
      stop = p.stop;
    }

-- What comes of the record at the start of t, in the order 5, 6, 7, 10; `on` plays what follows it.
abbrev pub turn : Reader → (Module → List ℕ → ℕ → Outcome) → Module → List ℕ → ℕ → Parsed → Outcome
turn R on m t room (Record e n) =
    cond (ltb room R.size) (stopped m 7)
    (cond (limited m e) (stopped m 10)
    (followed (answered_by R (step m e) (take n t)) (on (step m e).state (drop n t) (room - R.size))))
turn R on m t room Unknown = stopped m 5
turn R on m t room Cut = stopped m 6

-- At most so many records, to such a reader.
unfoldable pub play_for : Reader → ℕ → Module → List ℕ → ℕ → Outcome
play_for R zero m t room = stopped m 0
play_for R (suc k) m t room =
    cond (eqb (length t) 0) (stopped m 0) (turn R (play_for R k) m t room (parsed_by R.takes t))

-- The trace t into so much room. A record has at least one byte, so there are no more records than bytes.
abbrev pub play_by : Reader → Module → List ℕ → ℕ → Outcome
play_by R m t room = play_for R (length t) m t room

abbrev pub play : Module → List ℕ → ℕ → Outcome
play m t room = play_by reader m t room

-- What `play` answers, and what it leaves of a lent output: the answers, and past them what stood there.
pub record Plays (o : Outcome) (lent : List ℕ) (r : Played) (left : List ℕ) : Type 0 where
  pub state : r.state ≡ o.state
  pub read : r.read ≡ length (flatten o.records)
  pub written : r.written ≡ answer_length * length o.records
  pub stop : stop_number r.stop ≡ o.stop
  pub output : left ≡ o.answers ++ drop r.written lent

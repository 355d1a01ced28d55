-- Document 02, L12: what the judge's verdict says of a log, and that parts of a trace and a log give what the whole gives.
use Rattle.std.specs.Prelude.{◌≡◌, Bool, false, List, [], ◌∷◌, ◌++◌, ℕ, ◌+◌, ◌*◌, ◌≤◌, take, drop}
use Rattle.qsm.specs.model.State.{reset_module}
use Rattle.qsm.specs.declared.state.Module.{Module}
use Rattle.trace.specs.Trace.{answer_length}
use Rattle.trace.specs.Play.{play}
use Rattle.answers.specs.declared.Field.{Field}
use Rattle.answers.specs.declared.Field.TheVariants.{Kind}
use Rattle.tool_judge.specs.Verdict.{numbered, before}
use Rattle.tool_judge.specs.Judge.{enough, expected, judged, walked}
use Rattle.tool_judge.specs.Verdict.{accept, reject}
use Rattle.tool_judge.specs.declared.Walked.{Walked}

-- Our own log of any trace, given room enough, is accepted.
abbrev pub OwnAccepted : Type 0
OwnAccepted =
    (t : List ℕ) (room : ℕ) → enough t ≤ room → (judged t (play reset_module t room).answers).verdict ≡ accept

-- accept means equal, byte for byte, to what playing the trace gives, whatever room above enough it is given.
abbrev pub AcceptedEqual : Type 0
AcceptedEqual =
    (t log : List ℕ) (room : ℕ) → enough t ≤ room → (judged t log).verdict ≡ accept → log ≡ (play reset_module t room).answers

-- Answer k of a log; fewer bytes where it is cut, none where it is missing.
abbrev pub answer : List ℕ → ℕ → List ℕ
answer log k = take answer_length (drop (answer_length * k) log)

-- The number is that of the first answer that differs: those before it are the same, and it is not.
abbrev pub FirstDiffering : Type 0
FirstDiffering =
    (t log : List ℕ) (k : ℕ) (f : Field) → (judged t log).verdict ≡ reject k f →
    (take (answer_length * k) log ≡ take (answer_length * k) (expected t).answers)
    × (answer log k ≡ answer (expected t).answers k → ⊥)

-- The stop is that of the trace, whatever the log.
abbrev pub StopTold : Type 0
StopTold = (t log : List ℕ) → (judged t log).stop ≡ (expected t).stop

-- One part and then what follows it, from the module that the part left: the answers are numbered on.
abbrev pub afterwards : Walked → Walked → Walked
afterwards v w =
    record {
      state = w.state;
      records = v.records + w.records;
      read = v.read + w.read;
      passed = v.passed + w.passed;
      verdict = before v.verdict (numbered v.records w.verdict);
      stop = w.stop;
    }

-- A part of a trace beside a part of a log, and then what they left with more of both, are the whole.
abbrev pub InParts : Type 0
InParts =
    (m : Module) (t u a b : List ℕ) (last : Bool) →
    let v : Walked = walked m t a false in
    walked m (t ++ u) (a ++ b) last
    ≡ afterwards v (walked v.state (drop v.read t ++ u) (drop v.passed a ++ b) last)

-- A log that is right and one that is not: none for no record, and a byte for none.
pub record Met : Type 0 where
  pub right : (judged [] []).verdict ≡ accept
  pub wrong : (judged [] (0x11 ∷ [])).verdict ≡ reject 0 Kind

pub record Claims : Type 0 where
  pub own_accepted : OwnAccepted
  pub accepted_equal : AcceptedEqual
  pub first_differing : FirstDiffering
  pub stop_told : StopTold
  pub in_parts : InParts
  pub met : Met

-- Document 02, L12: a verdict by the bytes of the log and those that playing the trace gives. An answer has 18 bytes.
use Rattle.std.specs.Prelude.{◌≡◌, ◌⊎◌, true, List, ◌++◌, ℕ, ◌+◌, ◌*◌, ◌≤◌, ◌<◌, length, take, drop}
use Rattle.qsm.specs.model.State.{reset_module}
use Rattle.qsm.specs.declared.state.Module.{Module}
use Rattle.trace.specs.Play.{play}
use Rattle.answers.specs.declared.Field.{Field}
use Rattle.answers.specs.declared.Field.TheVariants.{Kind, Refusal, Value, Levels, Mask, Level, Vector, Clock}
use Rattle.tool_judge.specs.Judge.{judged, walked}
use Rattle.tool_judge.specs.Claims.{afterwards}
use Rattle.tool_judge.specs.declared.Judged.{Judged}
use Rattle.tool_judge.specs.Verdict.{accept, reject}
use Rattle.tool_judge.specs.declared.Walked.{Walked}

-- Room enough: a record has at least one byte.
abbrev pub Enough : List ℕ → ℕ → Type 0
Enough t room = 18 * length t ≤ room

-- What a module of ours gives, after reset.
abbrev pub right : List ℕ → ℕ → List ℕ
right t room = (play reset_module t room).answers

-- The refusal that stopped the trace or 0.
abbrev pub stop_of : Judged → ℕ
stop_of j = j.stop

-- Answer k of a log; fewer bytes where it is cut, none where it is missing.
abbrev pub answer : List ℕ → ℕ → List ℕ
answer log k = take 18 (drop (18 * k) log)

-- ---- accepted

abbrev pub Accepts : Type 0
Accepts =
    (t log : List ℕ) (room : ℕ) → Enough t room →
    ((judged t log).verdict ≡ accept → log ≡ right t room) × (log ≡ right t room → (judged t log).verdict ≡ accept)

-- ---- the first wrong answer

-- Kind, refusal, value (4), driven levels, driven mask, level, vector, clock (8).
abbrev pub start : Field → ℕ
start Kind = 0
start Refusal = 1
start Value = 2
start Levels = 6
start Mask = 7
start Level = 8
start Vector = 9
start Clock = 10

abbrev pub bytes : Field → ℕ
bytes Kind = 1
bytes Refusal = 1
bytes Value = 4
bytes Levels = 1
bytes Mask = 1
bytes Level = 1
bytes Vector = 1
bytes Clock = 8

abbrev pub field : Field → List ℕ → List ℕ
field f a = take (bytes f) (drop (start f) a)

pub record WrongAt (ours log : List ℕ) (k : ℕ) (f : Field) : Type 0 where
  -- All answers before it are right, and it is not, or is missing, or is one too many.
  pub before : take (18 * k) log ≡ take (18 * k) ours
  pub differs : answer log k ≡ answer ours k → ⊥
  -- Missing or cut; surplus.
  pub cut : length log < 18 * k + 18 → f ≡ Kind
  pub surplus : length ours < 18 * k + 18 → f ≡ Kind
  -- A whole answer: fields before it are equal in both, and it differs.
  pub fields_before : 18 * k + 18 ≤ length log → 18 * k + 18 ≤ length ours → take (start f) (answer log k) ≡ take (start f) (answer ours k)
  pub field_differs : 18 * k + 18 ≤ length log → 18 * k + 18 ≤ length ours → field f (answer log k) ≡ field f (answer ours k) → ⊥

abbrev pub FirstWrong : Type 0
FirstWrong =
    (t log : List ℕ) (room k : ℕ) (f : Field) → Enough t room → (judged t log).verdict ≡ reject k f → WrongAt (right t room) log k f

-- ---- the stop

-- That of playing the trace, whatever the log; at the end, or by 5, 6 or 10, never for want of room.
abbrev pub StopOfPlay : Type 0
StopOfPlay =
    (t log : List ℕ) (room : ℕ) → Enough t room →
    let stop = stop_of (judged t log) in
    (stop ≡ (play reset_module t room).stop) × ((stop ≡ 0) ⊎ ((stop ≡ 5) ⊎ ((stop ≡ 6) ⊎ (stop ≡ 10))))

-- ---- parts

-- Where the log has ended, further parts of the trace are judged on: what is left of the log is its end.
abbrev pub PartsAfterLog : Type 0
PartsAfterLog =
    (m : Module) (t u log : List ℕ) →
    let v : Walked = walked m t log true in
    walked m (t ++ u) log true ≡ afterwards v (walked v.state (drop v.read t ++ u) (drop v.passed log) true)

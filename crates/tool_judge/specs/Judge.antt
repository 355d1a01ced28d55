-- Document 02, L12: the judge. What document 01 with the changes since gives is what `play` answers with room enough.
use Rattle.std.specs.Prelude.{Bool, cond, ℕ, ◌-◌, ◌*◌, min, eqb, length, take, drop, replicate}
use mathlib.Core.List.{List, flatten}
use Rattle.qsm.specs.model.State.{reset_module}
use Rattle.qsm.specs.declared.state.Module.{Module}
use Rattle.trace.specs.Trace.{answer_length}
use Rattle.trace.specs.Play.{Outcome, play}
use Rattle.tool_judge.specs.Verdict.{verdict}
use Rattle.tool_judge.specs.declared.Judged.{Judged}
use Rattle.tool_judge.specs.declared.Walked.{Walked}
use Rattle.tool_judge.specs.declared.Ran.{Ran}

-- Room for the answers to any trace of so many bytes: a record has at least one.
abbrev pub enough : List ℕ → ℕ
enough t = answer_length * length t

-- What a module after reset gives.
abbrev pub expected : List ℕ → Outcome
expected t = play reset_module t (enough t)

-- The verdict on a log, and the refusal that stopped the trace or 0.
abbrev pub judged : List ℕ → List ℕ → Judged
judged t log = record { verdict = verdict (expected t).answers log; stop = (expected t).stop }

-- A part of a log gives room for as many answers as it has; the last part for any number, since no more come.
abbrev pub room_of : Bool → List ℕ → List ℕ → ℕ
room_of last t log = cond last (enough t) (length log)

-- A part of a trace that is played beside a part of a log: the verdict is on the answers that it gave.
abbrev pub walked_to : List ℕ → Outcome → Walked
walked_to log o =
    record {
      state = o.state;
      records = length o.records;
      read = length (flatten o.records);
      passed = min (length o.answers) (length log);
      verdict = verdict o.answers (take (length o.answers) log);
      stop = o.stop;
    }

abbrev pub walked : Module → List ℕ → List ℕ → Bool → Walked
walked m t log last = walked_to log (play m t (room_of last t log))

-- The last of some answers, or zeros where there is none.
abbrev pub last_of : List ℕ → List ℕ
last_of answers = cond (eqb (length answers) 0) (replicate answer_length 0) (drop (length answers - answer_length) answers)

-- The same with the model's last answer.
abbrev pub ran : Module → List ℕ → List ℕ → Bool → Ran
ran m t log last =
    record { walked = walked m t log last; ours = last_of (play m t (room_of last t log)).answers }

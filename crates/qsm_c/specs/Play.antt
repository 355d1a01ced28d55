-- What playing a trace answers a host, with the refusal as its number.
use Rattle.std.specs.Prelude.{◌≡◌, ℕ, ◌*◌, length, drop}
use mathlib.Core.List.{List, ◌++◌, flatten}
use Rattle.trace.specs.Trace.{answer_length}
use Rattle.trace.specs.Play.{Outcome}
use Rattle.qsm_c.specs.declared.Played.{Played}

-- The answer to the outcome o, and what is left of a lent log: the answers, and past them what stood there.
pub record Plays (o : Outcome) (lent : List ℕ) (r : Played) (left : List ℕ) : Type 0 where
  pub state : r.state ≡ o.state
  pub read : r.read ≡ length (flatten o.records)
  pub written : r.written ≡ answer_length * length o.records
  pub stop : r.stop ≡ o.stop
  pub output : left ≡ o.answers ++ drop r.written lent

-- The module that a run ends with.
use Rattle.std.specs.Prelude.{List, ◌≡◌, ℕ}
use Rattle.qsm.specs.model.State.{reset_module}
use Rattle.trace.specs.Play.{play}
use Rattle.trace.specs.Records.{events, leaves}
use Rattle.cmd_replay.specs.declared.piece.Run.{Run}
use Rattle.cmd_replay.specs.declared.stream.Turned.{Turned}

-- What a turn makes of the module: it plays some bytes, none where it reads, into the room that there is. Which bytes come is the system's.
pub record Turns (r : Run) (room : ℕ) (t : Turned) : Type 0 where
  pub bytes : List ℕ
  pub state : t.run.state ≡ (play r.state bytes room).state

-- The module is the one that the records answered lead to from reset. Which records come is the system's. With the law `OfRecords` of claims_account
-- (document 02, L14) what it reports of its frames is what the events since the last reset among them give.
pub record Reached (r : Run) : Type 0 where
  pub answered : List (List ℕ)
  pub state : r.state ≡ leaves (events answered) reset_module

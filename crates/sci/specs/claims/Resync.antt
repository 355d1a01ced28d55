-- Demand 3, first half, of the receiver: ones enough, and a status read that shows no receive flag, make it equal to one first enabled
-- after a reset.
use Rattle.std.specs.Prelude.{Bool, true, false, List, ◌≡◌, ℕ, ◌≤◌}
use Rattle.sci.specs.model.Flags.{receive_flags, common}
use Rattle.sci.specs.model.Control.{M, bits_of, settings}
use Rattle.sci.specs.model.Receiver.{start_state}
use Rattle.sci.specs.claims.Line.{Op, read, act, acts, shown, no_flag, watch, Ones, samples_in, resync_samples}
use Rattle.sci.specs.claims.Sound.{Sound}
use Rattle.sci.specs.declared.receiver.Received.{Received}

-- First enabled after a reset, RWU clear: the start state, no receive flag set or seen.
pub record Started (q : Received) : Type 0 where
  pub start : q.receiver ≡ start_state q.receiver
  pub awake : q.receiver.asleep ≡ false
  pub unset : shown q.status ≡ no_flag
  pub unseen : common q.status.seen receive_flags ≡ no_flag

-- A receiver that is on and awake gets the ones of `quiet` and then a status read, which shows no receive flag.
pub record Quiet (sccr1 : ℕ) (p : Received) (quiet : List Op) : Type 0 where
  pub sound : Sound (bits_of (M sccr1)) p
  pub awake : p.receiver.asleep ≡ false
  pub ones : Ones quiet
  pub enough : resync_samples ≤ samples_in quiet
  pub clear : shown (acts sccr1 quiet p).status ≡ no_flag

-- A receiver first enabled after a reset gets the ones of `quiet`.
pub record Waited (q : Received) (quiet : List Op) : Type 0 where
  pub started : Started q
  pub ones : Ones quiet
  pub enough : resync_samples ≤ samples_in quiet

-- Of the two, with equal settings, the same is seen at every later sample and read.
abbrev pub Resynchronised : Type 0
Resynchronised =
    (a b : ℕ) → settings a ≡ settings b → (p q : Received) (quiet waited : List Op) →
    Quiet a p quiet → Waited q waited → (scdr : Bool) (later : List Op) →
    watch a later (act a (read true scdr) (acts a quiet p)) ≡ watch b later (acts b waited q)

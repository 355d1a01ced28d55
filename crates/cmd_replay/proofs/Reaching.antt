-- A turn plays records more, and the module is still the one that all of them lead to. Assumes nothing.
use mathlib.Core.Path.{◌≡◌, refl, sym, ap, ◌∙◌}
use mathlib.Core.Bool.{Bool}
use mathlib.Core.List.{List, [], ◌++◌}
use Prim.Native.Nat.{ℕ}
use Rattle.qsm.specs.model.State.{reset_module}
use Rattle.qsm.specs.declared.state.Module.{Module}
use Rattle.qsm.specs.declared.event.Event.{Event}
use Rattle.reception.specs.declared.tally.Tally.{Tally}
use Rattle.trace.specs.Trace.{reader}
use Rattle.trace.specs.Play.{Outcome, play}
use Rattle.trace.specs.Records.{events, leaves}
use Rattle.trace.proofs.Playing.{play_none}
use Rattle.trace.proofs.Records.{state_left, events_append, leaves_append}
use Rattle.cmd_replay.specs.Piece.{started, Steps}
use Rattle.cmd_replay.specs.Noted.{Notes}
use Rattle.cmd_replay.specs.Reached.{Turns, Reached}
use Rattle.cmd_replay.specs.declared.piece.Run.{Run}
use Rattle.cmd_replay.specs.declared.piece.Stepped.{Stepped}
use Rattle.cmd_replay.specs.declared.stream.Turned.{Turned}

pub at_start : Reached started
unfolding events leaves
at_start = record { answered = []; state = refl }

pub noted : {r : Run} {t : Tally} → Notes r t → Reached r
noted n = record { answered = n.answered; state = n.state }

-- Records, and what is played of some bytes after them.
pub played_on : (rs : List (List ℕ)) (m left : Module) (bytes : List ℕ) (room : ℕ) → m ≡ leaves (events rs) reset_module →
    left ≡ (play m bytes room).state → left ≡ leaves (events (rs ++ (play m bytes room).records)) reset_module
played_on rs m left bytes room is goes =
    let more : List (List ℕ) = (play m bytes room).records in
    goes ∙ state_left m bytes room ∙ ap (leaves (events more)) is ∙ sym (leaves_append (events rs) (events more) reset_module)
    ∙ ap (λ (es : List Event). leaves es reset_module) (sym (events_append rs more))

pub goes_on : {r : Run} {room : ℕ} {u : Turned} → Reached r → Turns r room u → Reached u.run
goes_on {r = r} {room = room} {u = u} h goes =
    record {
      answered = h.answered ++ (play r.state goes.bytes room).records;
      state = played_on h.answered r.state u.run.state goes.bytes room h.state goes.state;
    }

-- A turn that only reads plays nothing.
pub still : (r : Run) (room : ℕ) (u : Turned) → u.run ≡ r → Turns r room u
still r room u is =
    record {
      bytes = [];
      state = ap (λ (x : Run). x.state) is ∙ sym (ap (λ (o : Outcome). o.state) (play_none reader r.state [] room refl));
    }

-- A turn that plays a piece.
pub turned : (r : Run) (t : List ℕ) (ended : Bool) (room : ℕ) (s : Stepped) (u : Turned) → Steps r t ended room s → u.run ≡ s.run → Turns r room u
turned r t ended room s u steps is = record { bytes = t; state = ap (λ (x : Run). x.state) (is ∙ steps.run) }

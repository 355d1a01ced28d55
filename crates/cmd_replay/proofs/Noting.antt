-- What a turn into room for one answer adds to the tally. Assumes nothing.
use mathlib.Core.Path.{◌≡◌, refl, sym, ap, ◌∙◌}
use mathlib.Core.Bool.{Bool, true, false, cond, not, ◌&&◌}
use mathlib.Core.List.{List, [], ◌∷◌, ◌++◌, append-nil, append_assoc}
use Prim.Native.Nat.{ℕ, ◌*◌, ◌<◌}
use native.Mathlib.Omega.{arith}
use lib.ListN.{length}
use Rattle.std.specs.Prelude.{Some, None}
use Rattle.sci.specs.model.Flags.{RDRF}
use Rattle.sci.specs.model.Status.{has}
use Rattle.qsm.specs.model.State.{reset_module}
use Rattle.qsm.specs.model.Event.{step}
use Rattle.qsm.specs.declared.state.Module.{Module}
use Rattle.qsm.specs.declared.event.Event.{Event}
use Rattle.reception.specs.Arrival.{arrival, figure_of, figures}
use Rattle.reception.specs.Tally.{tally_of, with_arrival}
use Rattle.reception.specs.declared.tally.Tally.{Tally}
use Rattle.reception.proofs.Tallies.{tally_goes_on}
use Rattle.trace.specs.Trace.{parsed, answer_length}
use Rattle.trace.specs.Play.{play}
use Rattle.trace.specs.Records.{event_of, events, leaves}
use Rattle.trace.specs.declared.Parsed.{Parsed}
use Rattle.trace.specs.declared.Parsed.TheVariants.{Record, Unknown, Cut}
use Rattle.trace.proofs.Laws.{written_within}
use Rattle.trace.proofs.Records.{state_left, events_append}
use Rattle.cmd_replay.specs.Piece.{started}
use Rattle.cmd_replay.specs.Reached.{Turns}
use Rattle.cmd_replay.specs.Noted.{Notices, Notes}
use Rattle.cmd_replay.specs.declared.piece.Run.{Run}
use Rattle.cmd_replay.specs.declared.noise.Noted.{Noted}
use Rattle.cmd_replay.specs.declared.stream.Turned.{Turned}
use Rattle.cmd_replay.proofs.Reaching.{played_on}

-- Where nothing happens nothing comes.
still : (m : Module) → [] ≡ figure_of (arrival m m)
still m = go (has m.sci.status RDRF)
  where
    go : (b : Bool) → [] ≡ figure_of (cond (not b && b) (Some m.sci.receiver.noise) None)
    go true = refl
    go false = refl

-- One record at most.
one_brings : (rs : List (List ℕ)) (m : Module) → length rs < 2 → figures (events rs) m ≡ figure_of (arrival m (leaves (events rs) m))
unfolding figures leaves events
one_brings [] m h = still m
one_brings (r ∷ []) m h = go (parsed r)
  where
    go : (p : Parsed) → figures (event_of p ++ []) m ≡ figure_of (arrival m (leaves (event_of p ++ []) m))
    go (Record e n) = append-nil (figure_of (arrival m (step m e).state))
    go Unknown = still m
    go Cut = still m
one_brings (r ∷ (s ∷ rs)) m h = absurd (omega arith)

figures_append : (es fs : List Event) (m : Module) → figures (es ++ fs) m ≡ figures es m ++ figures fs (leaves es m)
unfolding figures leaves
figures_append [] fs m = refl
figures_append (e ∷ es) fs m =
    let left : Module = (step m e).state in
    ap (λ (gs : List ℕ). figure_of (arrival m left) ++ gs) (figures_append es fs left)
    ∙ sym (append_assoc (figure_of (arrival m left)) (figures es left) (figures fs (leaves es left)))

pub at_start : Notes started (tally_of [])
unfolding events leaves figures
at_start = record { answered = []; state = refl; tally = refl }

module _ (r : Run) (t : Tally) (room : ℕ) (u : Turned) (small : room < 2 * answer_length) (n : Notes r t) (goes : Turns r room u) where
  abbrev more : List (List ℕ)
  more = (play r.state goes.bytes room).records

  abbrev before : List ℕ
  before = figures (events n.answered) reset_module

  few : length more < 2
  few = omega (arith, small, written_within r.state goes.bytes room)

  turn_brings : figures (events more) r.state ≡ figure_of (arrival r.state u.run.state)
  turn_brings =
      one_brings more r.state few
      ∙ ap (λ (m : Module). figure_of (arrival r.state m)) (sym (goes.state ∙ state_left r.state goes.bytes room))

  all_figures : figures (events (n.answered ++ more)) reset_module ≡ before ++ figure_of (arrival r.state u.run.state)
  all_figures =
      ap (λ (es : List Event). figures es reset_module) (events_append n.answered more)
      ∙ figures_append (events n.answered) (events more) reset_module
      ∙ ap (λ (m : Module). before ++ figures (events more) m) (sym n.state) ∙ ap (λ (fs : List ℕ). before ++ fs) turn_brings

  pub goes_on : Notes u.run (with_arrival t (arrival r.state u.run.state))
  goes_on =
      record {
        answered = n.answered ++ more;
        state = played_on n.answered r.state u.run.state goes.bytes room n.state goes.state;
        tally =
            ap (λ (s : Tally). with_arrival s (arrival r.state u.run.state)) n.tally
            ∙ tally_goes_on before (arrival r.state u.run.state) ∙ ap tally_of (sym all_figures);
      }

-- A turn, with the word that it brought.
pub notices : (n : Noted) (room : ℕ) (m : Noted) → room < 2 * answer_length → Notes n.turned.run n.tally → Notices n room m
    → Notes m.turned.run m.tally
notices n room m small h goes = rw goes.tally (goes_on n.turned.run n.tally room m.turned small h goes.turn)

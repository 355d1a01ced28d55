-- The events of records answered one after the other, and the module that they leave. Assumes nothing.
use mathlib.Core.Path.{◌≡◌, refl, sym, ap, ◌∙◌}
use mathlib.Core.List.{List, [], ◌∷◌, ◌++◌, append_assoc}
use Prim.Native.Nat.{ℕ}
use Rattle.qsm.specs.model.Event.{step}
use Rattle.qsm.specs.declared.state.Module.{Module}
use Rattle.qsm.specs.declared.event.Event.{Event}
use Rattle.trace.specs.Trace.{parsed, reader}
use Rattle.trace.specs.Records.{event_of, events, leaves, StateLeft}
use Rattle.trace.proofs.Playing.{record_alone, played}

pub state_left : StateLeft
unfolding events leaves
state_left =
    played reader (λ m t room o. o.state ≡ leaves (events o.records) m) (λ m t room why end. refl)
    (λ m t room e n o is pos le fits free h. rw (record_alone t is) h)

pub events_append : (rs ss : List (List ℕ)) → events (rs ++ ss) ≡ events rs ++ events ss
unfolding events
events_append [] ss = refl
events_append (r ∷ rs) ss =
    ap (λ (es : List Event). event_of (parsed r) ++ es) (events_append rs ss) ∙ sym (append_assoc (event_of (parsed r)) (events rs) (events ss))

pub leaves_append : (es fs : List Event) (m : Module) → leaves (es ++ fs) m ≡ leaves fs (leaves es m)
unfolding leaves
leaves_append [] fs m = refl
leaves_append (e ∷ es) fs m = leaves_append es fs (step m e).state

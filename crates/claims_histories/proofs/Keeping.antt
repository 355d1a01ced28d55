-- A host's calls are the fold of the step, by induction over the calls.
use mathlib.Core.List.{List, [], ◌∷◌}
use mathlib.Core.Path.{◌≡◌, refl, ap, ◌∙◌}
use Rattle.qsm.specs.model.Event.{step}
use Rattle.qsm.specs.declared.state.Module.{Module}
use Rattle.qsm.specs.declared.event.Event.{Event}
use Rattle.claims_histories.specs.History.{after, run}
use Rattle.claims_histories.specs.Host.{Call, events, Kept, finally, folded, Hosted}

fold : (m : Module) (cs : List Call) → Kept m cs → cs ≡ folded m (events cs)
fold m [] k = refl
fold m (c ∷ cs) k = λ i.
    record { event = c.event; left = k.0.0 i; answer = k.0.1 i }
    ∷ (fold c.left cs k.1 ∙ ap (λ (s : Module). folded s (events cs)) k.0.0) i

any : (m : Module) (es : List Event) → Kept m (folded m es)
any m [] = tt
any m (e ∷ es) = ((refl, refl), any (step m e).state es)

stepped : (m : Module) (e : Event) → (step m e).state ≡ after e m
unfolding step
stepped m e = refl

history : (m : Module) (cs : List Call) → Kept m cs → finally m cs ≡ run (events cs) m
unfolding run
history m [] k = refl
history m (c ∷ cs) k = history c.left cs k.1 ∙ ap (run (events cs)) (k.0.0 ∙ stepped m c.event)

pub hosted : Hosted
hosted = record { fold = fold; any = any; history = history }

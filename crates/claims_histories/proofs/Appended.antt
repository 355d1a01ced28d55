-- A list of events after another: the module that they leave, RXD's levels and the marks. Assumes nothing.
use mathlib.Core.Path.{◌≡◌, refl, ap, sym, ◌∙◌}
use mathlib.Core.Bool.{Bool}
use mathlib.Core.List.{List, [], ◌∷◌, ◌++◌, append_assoc}
use Rattle.sci.specs.claims.Overrun.{Mark}
use Rattle.qsm.specs.declared.state.Module.{Module}
use Rattle.qsm.specs.declared.event.Event.{Event}
use Rattle.claims_histories.specs.History.{after, run, event_marks, log}
use Rattle.claims_histories.specs.Sentence.{event_rxd, rxd_in}

pub run_after : (es ds : List Event) (m : Module) → run (es ++ ds) m ≡ run ds (run es m)
unfolding run
run_after [] ds m = refl
run_after (e ∷ es) ds m = run_after es ds (after e m)

pub rxd_after : (es ds : List Event) (m : Module) → rxd_in (es ++ ds) m ≡ rxd_in es m ++ rxd_in ds (run es m)
unfolding run rxd_in
rxd_after [] ds m = refl
rxd_after (e ∷ es) ds m =
    ap (λ (l : List Bool). event_rxd e m ++ l) (rxd_after es ds (after e m))
    ∙ sym (append_assoc (event_rxd e m) (rxd_in es (after e m)) (rxd_in ds (run es (after e m))))

pub log_after : (es ds : List Event) (m : Module) → log (es ++ ds) m ≡ log es m ++ log ds (run es m)
unfolding run log
log_after [] ds m = refl
log_after (e ∷ es) ds m =
    ap (λ (l : List Mark). event_marks e m ++ l) (log_after es ds (after e m))
    ∙ sym (append_assoc (event_marks e m) (log es (after e m)) (log ds (run es (after e m))))

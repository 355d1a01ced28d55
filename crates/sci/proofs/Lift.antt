-- Demand 3 for whatever holds a serial half: a state, its events, and the steps that each event takes its serial half.
use mathlib.Core.Path.{◌≡◌, refl, ap, sym, subst, ◌∙◌}
use mathlib.Core.Bool.{Bool, true, false}
use mathlib.Core.List.{List, [], ◌∷◌, ◌++◌}
use Prim.Native.Nat.{◌≤◌}
use Rattle.sci.specs.model.Control.{RE, settings}
use Rattle.sci.specs.claims.Line.{shown, no_flag, Ones, samples_in, resync_samples}
use Rattle.sci.specs.model.Serial.{reset_sci}
use Rattle.sci.specs.claims.History.{Step, reads, step, run, ops, watched, Unbroken}
use Rattle.sci.specs.claims.Overrun.{log, Overrun}
use Rattle.sci.specs.claims.Demand3.{Compared}
use Rattle.sci.specs.declared.serial.Sci.{Sci}
use Rattle.sci.proofs.History.{run_append}
use Rattle.sci.proofs.Follow.{run_sccr1}
use Rattle.sci.proofs.Recovery.{recovered}
use Rattle.sci.proofs.Overrun.{overrun}

-- The first half, from a serial half s that a history leaves: y is the one compared with, after its ones.
abbrev From : List Step → Bool → List Step → List Step → Sci → Sci → Type 0
From quiet scdr later later' y s =
    RE s.sccr1 ≡ true → s.receiver.asleep ≡ false → Unbroken quiet s → Ones (ops quiet s) →
    resync_samples ≤ samples_in (ops quiet s) → shown (run quiet s).status ≡ no_flag → settings s.sccr1 ≡ settings y.sccr1 →
    Unbroken later (step (reads true scdr) (run quiet s)) → Unbroken later' y →
    ops later (step (reads true scdr) (run quiet s)) ≡ ops later' y →
    watched later (step (reads true scdr) (run quiet s)) ≡ watched later' y

from_history : (before quiet : List Step) (scdr : Bool) (early : List Step) (enable : Step) (waited later later' : List Step) →
    Compared early enable waited →
    From quiet scdr later later' (run waited (step enable (run early reset_sci))) (run before reset_sci)
from_history before quiet scdr early enable waited later later' k on awake unbroken ones enough clear same =
    recovered before quiet scdr early enable waited later later'
    (record { on = on; awake = awake; unbroken = unbroken; ones = ones; enough = enough; clear = clear }) k
    (same ∙ ap settings (run_sccr1 waited (step enable (run early reset_sci)) k.unbroken))

module _ {State Event : Type 0} (event : Event → State → State) (steps : Event → State → List Step) where
  abbrev pub played : List Event → State → State
  played [] m = m
  played (e ∷ es) m = played es (event e m)

  abbrev pub steps_of : List Event → State → List Step
  steps_of [] m = []
  steps_of (e ∷ es) m = steps e m ++ steps_of es (event e m)

  module _ (sci : State → Sci) (follows : (e : Event) (m : State) → sci (event e m) ≡ run (steps e m) (sci m)) where
    -- The serial half after events is the one after their steps.
    pub played_run : (es : List Event) (m : State) → sci (played es m) ≡ run (steps_of es m) (sci m)
    unfolding run
    played_run [] m = refl
    played_run (e ∷ es) m =
        played_run es (event e m) ∙ ap (run (steps_of es (event e m))) (follows e m)
        ∙ sym (run_append (steps e m) (steps_of es (event e m)) (sci m))

    module _ (fresh : State) (reset : sci fresh ≡ reset_sci) where
      pub history : (es : List Event) → sci (played es fresh) ≡ run (steps_of es fresh) reset_sci
      history es = played_run es fresh ∙ ap (run (steps_of es fresh)) reset

      pub lifted_overrun : (es : List Event) → Overrun (log (steps_of es fresh) reset_sci)
      lifted_overrun es = overrun (steps_of es fresh)

      -- The serial half compared with: events whose steps are those of its description.
      pub compared_history : (fs : List Event) (early : List Step) (enable : Step) (waited : List Step) →
          steps_of fs fresh ≡ early ++ (enable ∷ waited) →
          sci (played fs fresh) ≡ run waited (step enable (run early reset_sci))
      unfolding run
      compared_history fs early enable waited e =
          history fs ∙ ap (λ (es : List Step). run es reset_sci) e ∙ run_append early (enable ∷ waited) reset_sci

      -- `e` is the read that shows no receive flag.
      pub lifted_recovered : (before quiet later : List Event) (e : Event) (scdr : Bool) (m q z : State) →
          played before fresh ≡ m → played quiet m ≡ q → event e q ≡ z → steps e q ≡ reads true scdr ∷ [] →
          (early : List Step) (enable : Step) (waited later' : List Step) (y : Sci) → Compared early enable waited →
          y ≡ run waited (step enable (run early reset_sci)) →
          RE (sci m).sccr1 ≡ true → (sci m).receiver.asleep ≡ false → Unbroken (steps_of quiet m) (sci m) →
          Ones (ops (steps_of quiet m) (sci m)) → resync_samples ≤ samples_in (ops (steps_of quiet m) (sci m)) →
          shown (sci q).status ≡ no_flag → settings (sci m).sccr1 ≡ settings y.sccr1 →
          Unbroken (steps_of later z) (sci z) → Unbroken later' y → ops (steps_of later z) (sci z) ≡ ops later' y →
          watched (steps_of later z) (sci z) ≡ watched later' y
      unfolding run
      lifted_recovered before quiet later e scdr m q z em eq ez es early enable waited later' y k ey on awake unbroken ones enough clear same ul ul' alike =
          let sm : sci m ≡ run (steps_of before fresh) reset_sci = ap sci (sym em) ∙ history before in
          let sq : sci q ≡ run (steps_of quiet m) (sci m) = ap sci (sym eq) ∙ played_run quiet m in
          let sz : sci z ≡ step (reads true scdr) (run (steps_of quiet m) (sci m)) =
          ap sci (sym ez) ∙ follows e q ∙ ap (λ (fs : List Step). run fs (sci q)) es ∙ ap (step (reads true scdr)) sq in
          let from : From (steps_of quiet m) scdr (steps_of later z) later' y (sci m) =
          subst (λ (s : Sci). From (steps_of quiet m) scdr (steps_of later z) later' y s) (sym sm)
          (subst (λ (t : Sci). From (steps_of quiet m) scdr (steps_of later z) later' t (run (steps_of before fresh) reset_sci)) (sym ey)
          (from_history (steps_of before fresh) (steps_of quiet m) scdr early enable waited (steps_of later z) later' k)) in
          ap (watched (steps_of later z)) sz
          ∙ from on awake unbroken ones enough (ap (λ (s : Sci). shown s.status) (sym sq) ∙ clear) same
          (subst (Unbroken (steps_of later z)) sz ul) ul' (ap (ops (steps_of later z)) (sym sz) ∙ alike)

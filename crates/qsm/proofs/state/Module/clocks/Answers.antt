use mathlib.Core.Path.{◌≡◌, sym, ap, ◌∙◌}
use native.Mathlib.Omega.{arith}
use Rattle.steps.specs.Iterate.{iterate}
use Rattle.steps.proofs.Iterate.{iterate_fixed}
use Rattle.qspi.specs.model.Queue.{clock}
use Rattle.qspi.proofs.Quiet.{clock_off}
use Rattle.qsm.specs.model.State.{with_qspi}
use Rattle.qsm.specs.model.Event.{pins_of, clocks}
use Rattle.qsm.specs.declared.state.Module.{Module}
use Rattle.qsm.proofs.Clocks.{apart}
use Rattle.qsm.proofs.state.Module.clocks.Goals as goal
use Rattle.qsm.proofs.state.Module.clocks.Goals.{then-enabled, else-enabled}

pub overflow_add-self : goal.overflow_add-self
overflow_add-self c =
    let counted : c.if-enabled.self.clock ≡ c.args.self.clock =
    elim c.if-enabled.branch [ then-enabled w ↦ ap (λ (m : Module). m.clock) w.self-is | else-enabled w ↦ ap (λ (m : Module). m.clock) w.self-is ] in
    omega (arith, counted, c.requires)

pub returns : goal.returns
unfolding clocks
returns c =
    let m = c.args.self in
    let n = c.args.n in
    let played : c.if-enabled.self ≡ with_qspi m (iterate n (λ q. clock q (pins_of m)) m.qspi) =
    elim c.if-enabled.branch [
      | then-enabled w ↦ w.self-is ∙ ap (with_qspi m) w.clocks-queue.ensures
      | else-enabled w ↦ w.self-is ∙ ap (with_qspi m)
          (sym (iterate_fixed n (λ q. clock q (pins_of m)) m.qspi (clock_off m.qspi (pins_of m) (sym c.enabled.ensures ∙ w.if-enabled.false))))
    ] in
    rw (c.clocks-serial.ensures, played, apart)

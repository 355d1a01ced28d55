use Prim.Native.Nat.{◌+◌}
use mathlib.Core.Bool.{false}
use mathlib.Core.Path.{◌≡◌, sym, ap, ◌∙◌}
use native.Mathlib.Omega.{arith}
use Rattle.steps.specs.Iterate.{iterate}
use Rattle.sci.specs.model.Serial.{clocked}
use Rattle.sci.specs.quick.Quiet.{with_count}
use Rattle.qspi.specs.model.Queue.{clock}
use Rattle.qsm.specs.model.State.{with_sci, with_qspi}
use Rattle.qsm.specs.model.Event.{done, pins_of, passes, held, holds}
use Rattle.qsm.proofs.Clocks.{counting}
use Rattle.qsm.proofs.Limit.{has_room}
use Rattle.qsm.proofs.Straight.{shown}
use Rattle.qsm.proofs.Brief.{refused_hold, played_hold}
use Rattle.qsm.proofs.event.hold.Goals as goal
use Rattle.qsm.proofs.event.hold.Goals.{then-not-passes+in-Some-serial_held, in-Some, in-None, then-not-passes+in-None-serial_held, else-not-passes}

pub overflow_add-state : goal.overflow_add-state
overflow_add-state c =
    let a = c.args in
    omega (arith, has_room a.m a.clocks (sym c.passes.ensures ∙ c.if-not-passes.true))

pub returns : goal.returns
returns c =
    let a = c.args in
    let base = counting (held a.m a.pins) (a.m.clock + a.clocks) in
    shown (done c.if-not-passes.state c.if-not-passes.refusal 0) (holds a.m a.pins a.rxd a.clocks) _ _ _
    (elim c.if-not-passes.branch [
      | then-not-passes+in-Some-serial_held w ↦
          let room : passes a.m a.clocks ≡ false = sym c.passes.ensures ∙ w.if-not-passes.true in
          let queued : w.match-queue_held.state ≡ with_qspi base (iterate a.clocks (λ q. clock q (pins_of (held a.m a.pins))) a.m.qspi) =
          elim w.match-queue_held.branch [
            | in-Some v ↦ v.state-is ∙ ap (with_qspi base) v.in-Some.ensures
            | in-None v ↦ v.state-is ∙ ap (with_qspi base) v.clocks-after.ensures
          ] in
          let sampled : c.if-not-passes.state ≡ with_sci w.match-queue_held.state (iterate a.clocks (λ s. clocked s a.rxd) a.m.sci) =
          w.state-is
          ∙ ap (λ t. with_sci w.match-queue_held.state (with_count t.sci w.in-Some-serial_held.count)) queued
          ∙ ap (with_sci w.match-queue_held.state) w.in-Some-serial_held.ensures in
          rw w.refusal-is (played_hold a.m a.pins a.rxd a.clocks w.match-queue_held.state c.if-not-passes.state room queued sampled)
      | then-not-passes+in-None-serial_held w ↦
          let room : passes a.m a.clocks ≡ false = sym c.passes.ensures ∙ w.if-not-passes.true in
          let queued : w.match-queue_held.state ≡ with_qspi base (iterate a.clocks (λ q. clock q (pins_of (held a.m a.pins))) a.m.qspi) =
          elim w.match-queue_held.branch [
            | in-Some v ↦ v.state-is ∙ ap (with_qspi base) v.in-Some.ensures
            | in-None v ↦ v.state-is ∙ ap (with_qspi base) v.clocks-after.ensures
          ] in
          let sampled : c.if-not-passes.state ≡ with_sci w.match-queue_held.state (iterate a.clocks (λ s. clocked s a.rxd) a.m.sci) =
          w.state-is ∙ ap (with_sci w.match-queue_held.state) w.clocks-after-in-None-serial_held.ensures in
          rw w.refusal-is (played_hold a.m a.pins a.rxd a.clocks w.match-queue_held.state c.if-not-passes.state room queued sampled)
      | else-not-passes w ↦ rw (w.state-is, w.refusal-is) (refused_hold a.m a.pins a.rxd a.clocks (sym c.passes.ensures ∙ w.if-not-passes.false))
    ])
    c.outputs_of.ensures c.asked_of.ensures c.answer_of-answer.ensures

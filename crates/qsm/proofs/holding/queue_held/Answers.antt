use mathlib.Core.Bool.{true, false, ◌&&◌}
use mathlib.Core.Path.{◌≡◌, sym, ◌∙◌}
use native.Mathlib.Omega.{arith}
use lib.Dec.{eqb}
use borrow.Author.Tests.{eqb-true}
use Rattle.steps.proofs.Iterate.{iterate_fixed}
use Rattle.sci.proofs.Plain.{first, second}
use Rattle.qspi.specs.model.Fields.{spe}
use Rattle.qspi.specs.model.Queue.{clock}
use Rattle.qspi.specs.quick.Quiet.{plays, edge_within}
use Rattle.qspi.proofs.Quiet.{clock_off, quiet_clocks}
use Rattle.qsm.proofs.Brief.{quiet_entry, one_edge}
use Rattle.qsm.proofs.holding.queue_held.Goals as goal

pub returns-then-not-enabled : goal.returns-then-not-enabled
returns-then-not-enabled c =
    let a = c.args in
    let off : spe a.q.registers.spcr1 ≡ false = sym c.enabled.ensures ∙ c.if-not-enabled.true in
    rw c.held_of.ensures (sym (iterate_fixed a.n (λ r. clock r a.pins) a.q (clock_off a.q a.pins off)))

pub returns-then-n-quiet : goal.returns-then-n-quiet
returns-then-n-quiet c =
    let a = c.args in
    rw (c.held_of-then-n-quiet.ensures, c.skipped-t.ensures)
    (quiet_entry a.n a.q
    ∙ sym (quiet_clocks a.n a.q a.pins (omega (arith, c.quiet.ensures, c.if-n-quiet.true))))

pub returns-then-n-plays : goal.returns-then-n-plays
returns-then-n-plays c =
    let a = c.args in
    let one : a.n ≡ 1 = eqb-true a.n 1 (first (eqb a.n 1) _ (first (eqb a.n 1 && c.plays.result) _ c.if-n-plays.true)) in
    let runs : plays a.q a.pins ≡ true =
    sym c.plays.ensures
    ∙ second (eqb a.n 1) c.plays.result (first (eqb a.n 1 && c.plays.result) _ c.if-n-plays.true) in
    let next : edge_within a.q.registers.spcr0 1 a.q.entry ≡ true =
    sym c.edge_within.ensures ∙ second (eqb a.n 1 && c.plays.result) _ c.if-n-plays.true in
    rw (c.held_of-then-n-plays.ensures, c.edge_fallen.ensures, c.miso_of.ensures, one) (one_edge a.q a.pins runs next)

use mathlib.Core.Path.{refl, sym, ap, ◌∙◌}
use Prim.Native.Nat.{◌*◌}
use native.Mathlib.Omega.{arith}
use borrow.Author.Rules.{rules}
use Rattle.steps.specs.Iterate.{iterate}
use Rattle.qspi.specs.quick.Falls.{edges_fallen}
use Rattle.qspi.specs.model.Parts.{with_entry}
use Rattle.qspi.specs.model.Queue.{clock}
use Rattle.qspi.specs.quick.Quiet.{at_least_one, until_edge}
use Rattle.qspi.proofs.Bounds.{bits_small}
use Rattle.qspi.proofs.Quiet.{all_quiet, turned, until_edge_holds, at_end_holds}
use Rattle.qspi.proofs.Fallen.{none_fallen, fallen_until, both_tests, fallen_turn}
use Rattle.qspi.proofs.Qspi.played.Goals as goal
use Rattle.qspi.proofs.Qspi.played.Goals.{then-plays+else-loop-until-test, else-plays}

-- The invariants: the clocks left, from where the queue stands, give what all of them give from the beginning; in the inner loop the entry
-- after its edges up to j stands for the queue's.

pub loop-left-init : goal.loop-left-init
loop-left-init c = (search rules, refl)

pub overflow_mul-last : goal.overflow_mul-last
overflow_mul-last c =
    let q = c.loop-left.q in
    omega (arith, c.bits_of-last.ensures, bits_small q.registers.spcr0 q.entry.command)

pub loop-until-init : goal.loop-until-init
loop-until-init c =
    let spcr0 = c.loop-left.q.registers.spcr0 in
    let none : _ = none_fallen spcr0 c.miso_of-miso.result c.loop-left.q.entry in (
      omega arith,
      omega arith,
      omega arith,
      c.until_edge-until.ensures ∙ ap until_edge (sym none),
      ap (λ e. iterate c.loop-left.left (λ r. clock r c.args.pins) (with_entry c.loop-left.q e)) none,
    )

pub overflow_sub-left : goal.overflow_sub-left
overflow_sub-left c =
    let loop = c.loop-until in
    (both_tests loop.until loop.left loop.j (c.bits_of-last.result * 2)
    c.loop-until-test.true).0

pub loop-until-smaller : goal.loop-until-smaller
loop-until-smaller c =
    let loop = c.loop-until in
    let q = c.loop-left.q in
    let tested : _ = both_tests loop.until loop.left loop.j _ c.loop-until-test.true in
    omega (
      arith,
      tested.0,
      loop.invariant.3,
      until_edge_holds (edges_fallen q.registers.spcr0 loop.j c.miso_of-miso.result q.entry),
    )

pub loop-until-preserved : goal.loop-until-preserved
loop-until-preserved c =
    let loop = c.loop-until in
    let ends = c.bits_of-last in
    let plays = c.plays in
    let runs = c.if-plays in
    let q = c.loop-left.q in
    let spcr0 = q.registers.spcr0 in
    let pins = c.args.pins in
    let tested : _ = both_tests loop.until loop.left loop.j (ends.result * 2) c.loop-until-test.true in
    let few : _ = bits_small spcr0 q.entry.command in (
      omega (arith, loop.invariant.0),
      omega (arith, loop.invariant.1),
      omega (arith, tested.1, ends.ensures, few),
      c.at_least_one-gap.ensures ∙ ap at_least_one c.spbr.ensures
          ∙ fallen_until spcr0 c.miso_of-miso.result q.entry loop.j loop.invariant.1,
      rw c.miso_of-miso.ensures
          (fallen_turn loop.left q pins loop.until loop.j (ends.result * 2) (sym plays.ensures ∙ runs.true)
          loop.invariant.1 loop.invariant.2
          (loop.invariant.3 ∙ ap (λ m. until_edge (edges_fallen spcr0 loop.j m q.entry)) c.miso_of-miso.ensures)
          (ap (λ n. n * 2) ends.ensures) tested.0 tested.1
          ∙ ap (λ m. iterate loop.left (λ r. clock r pins) (with_entry q (edges_fallen spcr0 loop.j m q.entry))) (sym c.miso_of-miso.ensures)
          ∙ loop.invariant.4),
    )

pub returns-then-left-k : goal.returns-then-left-k
returns-then-left-k c =
    let loop = c.loop-left in
    c.skipped.ensures
    ∙ all_quiet _ _ _ _ c.quiet-k.ensures c.if-left-k.true
    ∙ elim c.if-plays.branch [ then-plays+else-loop-until-test w ↦ rw (w.q-is, w.left-is, w.edges_fallen-q.ensures) (w.loop-until.invariant.4 ∙ loop.invariant.1) | else-plays w ↦ rw (w.q-is, w.left-is) loop.invariant.1 ]

pub overflow_add-left : goal.overflow_add-left
overflow_add-left c =
    let loop = c.loop-left in
    let size = c.well_formed.1.0 in
    elim c.if-plays.branch [ then-plays+else-loop-until-test w ↦ omega (arith, size, w.left-is, w.loop-until.invariant.0, loop.invariant.0) | else-plays w ↦ omega (arith, size, w.left-is, loop.invariant.0) ]

pub loop-left-smaller : goal.loop-left-smaller
loop-left-smaller c =
    elim c.if-plays.branch [ then-plays+else-loop-until-test w ↦ omega (arith, w.left-is, w.loop-until.invariant.0) | else-plays w ↦ omega (arith, w.left-is) ]

pub loop-left-preserved : goal.loop-left-preserved
loop-left-preserved c =
    let loop = c.loop-left in (
      elim c.if-plays.branch [ then-plays+else-loop-until-test w ↦ omega (arith, w.left-is, w.loop-until.invariant.0, loop.invariant.0) | else-plays w ↦ omega (arith, w.left-is, loop.invariant.0) ],
      rw (c.clock-q.ensures, c.skipped-in-loop-left.ensures)
          (turned _ _ _ _ c.quiet-k.ensures c.if-left-k.false
          ∙ elim c.if-plays.branch [ then-plays+else-loop-until-test w ↦ rw (w.q-is, w.left-is, w.edges_fallen-q.ensures) (w.loop-until.invariant.4 ∙ loop.invariant.1) | else-plays w ↦ rw (w.q-is, w.left-is) loop.invariant.1 ]),
    )

pub returns : goal.returns
returns c = at_end_holds _ _ _ c.loop-left-test.false ∙ c.loop-left.invariant.1

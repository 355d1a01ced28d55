use Prim.Native.Nat.{◌+◌, ◌-◌, ◌<◌, ◌≤◌}
use mathlib.Core.Path.{◌≡◌, refl, ◌∙◌}
use native.Mathlib.Omega.{arith}
use Rattle.steps.specs.Iterate.{iterate}
use Rattle.sci.specs.model.Serial.{clocked}
use Rattle.sci.specs.quick.Quiet.{quiet}
use Rattle.sci.proofs.Quiet.{skips, turn, restarts}
use Rattle.sci.proofs.Rest.{shortened_less, shortens}
use Rattle.sci.proofs.serial.Sci.clocks.Goals as goal
use Rattle.sci.proofs.serial.Sci.clocks.Goals.{then-first-left, else-first-left}

-- The invariant: what is left of the n clocks brings the state to where all n bring the first one, and k of them are quiet.

pub loop-k-init : goal.loop-k-init
loop-k-init c = (omega arith, (c.quiet-k.ensures, (omega arith, refl)))

pub loop-k-smaller : goal.loop-k-smaller
loop-k-smaller c =
    let x = c.args.x in
    let after = c.loop-k.left - (c.loop-k.k + 1) in
    let less = shortened_less after c.sample-s.result x in
    elim c.if-first-left.branch [ then-first-left w ↦ omega (arith, w.left-is, w.shortened-left.ensures, less) | else-first-left w ↦ omega (arith, w.left-is) ]

pub loop-k-preserved : goal.loop-k-preserved
loop-k-preserved c =
    let s = c.sample-s.result in
    let x = c.args.x in
    let after = c.loop-k.left - (c.loop-k.k + 1) in
    let less = shortened_less after s x in
    let below : quiet c.loop-k.s < c.loop-k.left = omega (arith, c.loop-k.invariant.1.0, c.loop-k-test.true) in
    let start : s.prescaler ≡ 0 = rw (c.sample-s.ensures, restarts) in
    let turned : iterate after (λ s. clocked s x) s ≡ iterate c.args.n (λ s. clocked s x) c.args.self =
    rw (c.sample-s.ensures, c.loop-k.invariant.1.0, turn c.loop-k.left c.loop-k.s x c.loop-k.invariant.1.1.0 (omega arith) below)
    c.loop-k.invariant.1.1.1 in (
      elim c.if-first-left.branch [ then-first-left w ↦ omega (arith, w.left-is, w.shortened-left.ensures, less, c.loop-k.invariant.0) | else-first-left w ↦ omega (arith, w.left-is, c.loop-k.invariant.0) ],
      (
        c.quiet-k-in-loop-k.ensures,
        (
          omega (arith, start),
          elim c.if-first-left.branch [ then-first-left w ↦ rw (w.left-is, w.shortened-left.ensures) (shortens after s x start ∙ turned) | else-first-left w ↦ rw w.left-is turned ],
        ),
      ),
    )

pub returns : goal.returns
returns c =
    let at : _ = c.loop-k in
    let within : at.left ≤ quiet at.s = omega (arith, at.invariant.1.0, c.loop-k-test.false) in
    rw (c.skipped.ensures, ← skips at.left at.s c.args.x at.invariant.1.1.0 within) at.invariant.1.1.1

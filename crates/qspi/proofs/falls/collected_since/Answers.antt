use mathlib.Core.Path.{refl, sym, ap, ◌∙◌}
use Prim.Native.Nat.{◌-◌}
use Rattle.steps.specs.Iterate.{iterate}
use Rattle.qspi.specs.model.Entry.{pushed}
use Rattle.qspi.specs.quick.Falls.{reads_by, collected_since}
use Rattle.steps.proofs.Iterate.{one_first, run_out}
use Rattle.qspi.proofs.falls.collected_since.Goals as goal

-- The invariant: the bits that are left to be read, after those read so far, give what all of them give.

pub loop-init : goal.loop-init
loop-init c = refl

pub loop-preserved : goal.loop-preserved
loop-preserved c =
    let loop = c.loop in
    rw c.pushed-c.ensures
    (one_first c.reads_by-end.result loop.counter (λ b. pushed b c.args.miso) loop.c c.loop-test.true
    ∙ loop.invariant)

pub returns : goal.returns
unfolding collected_since
returns c =
    let loop = c.loop in
    let from = c.reads_by-counter in
    let last = c.reads_by-end in
    let args = c.args in
    sym (run_out last.result loop.counter (λ b. pushed b args.miso) loop.c c.loop-test.false)
    ∙ loop.invariant
    ∙ ap (λ k. iterate (k - from.result) (λ b. pushed b args.miso) args.collected) last.ensures
    ∙ ap (λ k. iterate (reads_by args.cpha args.j - k) (λ b. pushed b args.miso) args.collected) from.ensures

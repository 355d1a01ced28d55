-- A list of holds and reads, cut at a clock. Assumes nothing.
use mathlib.Core.List.{[], ◌∷◌}
use Prim.Native.Nat.{◌-◌, ◌<◌}
use native.Mathlib.Omega.{arith}
use lib.Dec.{leb}
use borrow.Author.Tests.{leb-true, leb-false}
use Rattle.qsm.specs.model.Event.{does}
use Rattle.qsm.specs.declared.event.Access.TheVariants.{Read, Write}
use Rattle.qsm.specs.declared.event.Event.TheVariants.{Reset, Hold}
use Rattle.qsm.specs.declared.event.Event.TheVariants as event
use Rattle.qsm.proofs.Booleans.{on}
use Rattle.qsm.proofs.Limit.{has_room, is_room}
use Rattle.claims_plans.specs.Moments.{CutIsWatched}

pub cut_is_watched : CutIsWatched
cut_is_watched m [] c w less = (tt, omega arith)
cut_is_watched m (Reset ∷ es) c w less = absurd w.0
cut_is_watched m (Hold pins rxd n ∷ es) c w less =
    on (leb n c)
    (λ whole.
    let later = cut_is_watched (does m (Hold pins rxd n)).state es (c - n) w.1 (omega (arith, leb-true n c whole)) in
    rw whole ((w.0, later.0), omega (arith, later.1, leb-true n c whole)))
    (λ part.
    let fewer : c < n = leb-false n c part in
    rw part (((is_room m c (omega (arith, has_room m n w.0.0)), λ some. w.0.1 (omega arith)), tt), omega arith))
cut_is_watched m (event.Access (Read supervisor width offset) ∷ es) c w less =
    let later = cut_is_watched (does m (event.Access (Read supervisor width offset))).state es c w.1 (omega arith) in
    ((tt, later.0), omega (arith, later.1))
cut_is_watched m (event.Access (Write supervisor width offset value) ∷ es) c w less = absurd w.0

-- Two modules whose counts are low: no clock of theirs is refused. Assumes nothing.
use mathlib.Core.List.{List, [], ◌∷◌}
use Prim.Native.Nat.{ℕ, suc, ◌≤◌, ◌<◌}
use native.Mathlib.Omega.{arith}
use Rattle.qsm.specs.model.Event.{clock_limit}
use Rattle.qsm.specs.declared.event.Event.TheVariants.{Hold}
use Rattle.qsm.proofs.Limit.{is_room}
use Rattle.claims_histories.specs.Demand2.{Two, wire_level, Moment, clock, at_sender, at_receiver, next, play, Counts}
use Rattle.claims_histories.proofs.Room.{after_count, access_count}

abbrev pub Low : ℕ → Two → Type 0
Low k q = (q.sender.clock ≤ k) × (q.receiver.clock ≤ k)

pub low_counts : (k : ℕ) (q : Two) → Low k q → k < clock_limit → Counts q
low_counts k q low room = (is_room q.sender 1 (omega arith), is_room q.receiver 1 (omega arith))

-- The same bound after a moment, and after several.
abbrev raised : Moment → ℕ → ℕ
raised (clock t) k = suc k
raised (at_sender a) k = k
raised (at_receiver a) k = k

abbrev raised_by : List Moment → ℕ → ℕ
raised_by [] k = k
raised_by (e ∷ es) k = raised_by es (raised e k)

pub low_next : (e : Moment) (k : ℕ) (q : Two) → Low k q → Low (raised e k) (next e q)
unfolding next
low_next (clock t) k q low = (
  omega (arith, after_count (Hold t.pins t.rxd 1) q.sender),
  omega (arith, after_count (Hold t.pins' (wire_level q.sender t.undriven) 1) q.receiver),
)
low_next (at_sender a) k q low = (omega (arith, access_count a q.sender), low.1)
low_next (at_receiver a) k q low = (low.0, omega (arith, access_count a q.receiver))

pub low_play : (es : List Moment) (k : ℕ) (q : Two) → Low k q → Low (raised_by es k) (play es q)
unfolding play
low_play [] k q low = low
low_play (e ∷ es) k q low = low_play es (raised e k) (next e q) (low_next e k q low)

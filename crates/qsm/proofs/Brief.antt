-- A short hold: what it stores alone is what its clocks leave.
use Prim.Native.Nat.{ℕ, suc, ◌+◌, ◌-◌, ◌%◌, ◌≤◌, min}
use mathlib.Core.Bool.{Bool, true, false, cond, ◌&&◌, ◌||◌}
use mathlib.Core.Path.{◌≡◌, refl, sym, ap, ◌∙◌}
use native.Mathlib.Omega.{arith}
use lib.Dec.{ltb}
use Rattle.steps.specs.Iterate.{iterate}
use Rattle.sci.specs.model.Serial.{active, clocked}
use Rattle.sci.specs.quick.Quiet as serial
use Rattle.sci.proofs.Quiet.{plays}
use Rattle.sci.proofs.Rest.{rest_sampled}
use Rattle.sci.specs.declared.serial.Sci.{Sci}
use Rattle.qspi.specs.model.Fields.{spe}
use Rattle.qspi.specs.model.Entry.{edge_fallen}
use Rattle.qspi.specs.model.Queue.{clock, miso_of}
use Rattle.qspi.specs.model.Parts.{with_entry}
use Rattle.qspi.specs.quick.Quiet as queue
use Rattle.qspi.proofs.Quiet.{edge_turn, edge_fits}
use Rattle.qspi.specs.declared.Qspi.{Qspi}
use Rattle.qspi.specs.declared.Pins.{Pins}
use Rattle.qsm.specs.model.State.{with_sci, with_qspi}
use Rattle.qsm.specs.model.Event.{done, pins_of, passes, clocks, held, holds}
use Rattle.qsm.specs.quick.Holding.{held_of, entry_held}
use Rattle.qsm.specs.declared.state.Module.{Module}
use Rattle.qsm.proofs.Clocks.{counting, apart}

-- Quiet clocks of the queue, and of the serial half.
pub quiet_entry : (k : ℕ) (q : Qspi) →
    with_entry q (entry_held q.entry (held_of (queue.skipped k q).entry)) ≡ queue.skipped k q
unfolding queue.skipped
quiet_entry k q = go ((ltb 0 k && spe q.registers.spcr1) && (q.entry.playing || q.entry.delaying))
  where
    go : (b : Bool) → with_entry q (entry_held q.entry (held_of (queue.skipped_if b k q).entry)) ≡ queue.skipped_if b k q
    go true = refl
    go false = refl

pub quiet_count : (k : ℕ) (s : Sci) → serial.with_count s (serial.skipped k s).prescaler ≡ serial.skipped k s
unfolding serial.skipped
quiet_count k s = go (active s)
  where
    go : (b : Bool) →
        serial.with_count s (cond b (serial.with_count s (min 65535 (s.prescaler + k))) s).prescaler
        ≡ cond b (serial.with_count s (min 65535 (s.prescaler + k))) s
    go true = refl
    go false = refl

-- One clock that brings an edge before edge 2n.
pub one_edge : (q : Qspi) (pins : Pins) → queue.plays q pins ≡ true → queue.edge_within q.registers.spcr0 1 q.entry ≡ true →
    with_entry q (edge_fallen q.registers.spcr0 (q.entry.edges % 32 + 1) (miso_of pins) q.entry) ≡ iterate 1 (λ r. clock r pins) q
unfolding iterate
one_edge q pins runs next =
    let fits : _ = edge_fits 1 q.registers.spcr0 q.entry next in
    let none : 1 - queue.until_edge q.entry ≡ 0 = omega (arith, fits.0, fits.1) in
    let after : Qspi = with_entry q (edge_fallen q.registers.spcr0 (q.entry.edges % 32 + 1) (miso_of pins) q.entry) in
    ap (λ k. iterate k (λ r. clock r pins) after) (sym none) ∙ edge_turn 1 q q.entry pins runs refl next

-- The clock of a sample that changes nothing.
pub one_sample : (n : ℕ) (s : Sci) (x : Bool) → s.prescaler ≤ 65535 → n ≤ 4294967295 → n ≡ suc (serial.quiet s) → serial.rests s x ≡ true →
    serial.with_count s 0 ≡ iterate n (λ s. clocked s x) s
one_sample n s x fits small is rest =
    sym (rest_sampled s x rest)
    ∙ sym (plays s x fits (omega (arith, is)))
    ∙ ap (λ k. iterate k (λ s. clocked s x) s) (sym is)

-- A hold that is refused, and one whose halves are played apart.
pub refused_hold : (m : Module) (pins : ℕ) (rxd : Bool) (n : ℕ) → passes m n ≡ true → done m 10 0 ≡ holds m pins rxd n
unfolding holds
refused_hold m pins rxd n over = rw over

pub played_hold : (m : Module) (pins : ℕ) (rxd : Bool) (n : ℕ) (t u : Module) → passes m n ≡ false →
    t ≡ with_qspi (counting (held m pins) (m.clock + n)) (iterate n (λ q. clock q (pins_of (held m pins))) m.qspi) →
    u ≡ with_sci t (iterate n (λ s. clocked s rxd) m.sci) → done u 0 0 ≡ holds m pins rxd n
unfolding holds clocks
played_hold m pins rxd n t u room queued sampled = rw (room, sampled, queued, apart)

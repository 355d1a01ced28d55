-- After the first of its steady clocks a module shows the same after each. Assumes nothing.
use mathlib.Core.Bool.{Bool, true, false, cond, not, ◌&&◌, ◌||◌}
use mathlib.Core.Path.{◌≡◌, refl, sym, ap, ◌∙◌}
use Prim.Native.Nat.{ℕ, zero, suc, ◌+◌, ◌-◌, ◌*◌, ◌≤◌, min}
use native.Mathlib.Omega.{arith}
use lib.Dec.{eqb, leb}
use borrow.Author.Tests.{eqb-true, lt-ltb}
use Rattle.steps.specs.Iterate.{iterate}
use Rattle.steps.proofs.Iterate.{iterate_add}
use Rattle.sci.specs.model.Control.{SCBR}
use Rattle.sci.specs.model.Serial.{active, due, prescaled, clocked}
use Rattle.sci.specs.quick.Quiet.{quiet, with_count, skipped, rests}
use Rattle.sci.specs.declared.serial.Sci.{Sci}
use Rattle.sci.proofs.Quiet.{skips}
use Rattle.sci.proofs.Rest.{rest_sampled}
use Rattle.qspi.specs.model.Fields.{spe}
use Rattle.qspi.specs.model.Queue.{clock}
use Rattle.qspi.specs.quick.Quiet as queue
use Rattle.qspi.specs.declared.Qspi.{Qspi}
use Rattle.qspi.proofs.Quiet.{quiet_clocks}
use Rattle.qsm.specs.model.State.{with_sci, with_qspi}
use Rattle.qsm.specs.model.Event.{answer_of, clocks, pins_of}
use Rattle.qsm.specs.declared.state.Module.{Module}
use Rattle.qsm.proofs.Clocks.{apart}
use Rattle.until_change.specs.Change.{look}
use Rattle.until_change.specs.Steady.{ahead, serial_steady, serial_still, steady}
use Rattle.until_change.specs.declared.Look.{Look}

-- What m shows with other halves.
abbrev pub shows : Module → Sci → Qspi → Look
shows m s q = look (with_sci (with_qspi m q) s)

-- The same half, but for the prescaler's count.
record Counted (s t : Sci) : Type 0 where
  count : ℕ
  is : t ≡ with_count s count

unseen : (m : Module) (s : Sci) (q : Qspi) (n : ℕ) → shows m (with_count s n) q ≡ shows m s q
unfolding answer_of
unseen m s q n = refl

-- At rest.
rest_stays : (s : Sci) (x : Bool) (n : ℕ) → rests s x ≡ true → rests (with_count s n) x ≡ true
unfolding rests
rest_stays s x n h = h

rest_clock : (s : Sci) (x : Bool) (n : ℕ) → rests s x ≡ true → Counted s (clocked (with_count s n) x)
unfolding clocked
rest_clock s x n h = go (active (with_count s n)) (due (with_count s n))
  where
    go : (a d : Bool) → Counted s (cond a (prescaled d (with_count s n) x) (with_count s n))
    go false d = record { count = n; is = refl }
    go true false = record { count = min 65535 (n + 1); is = refl }
    go true true = record { count = 0; is = rest_sampled (with_count s n) x (rest_stays s x n h) }

-- With no sample to come, the count alone changes, if anything.
no_sample : (s : Sci) (x : Bool) (n : ℕ) → eqb (quiet s) 4294967295 ≡ true → Counted s (clocked (with_count s n) x)
unfolding quiet clocked
no_sample s x n h = go (active s) (eqb (2 * SCBR s.sccr0) 0) h
  where
    go : (a z : Bool) → eqb (cond a (cond z 4294967295 (2 * SCBR s.sccr0 - 1 - s.prescaler)) 4294967295) 4294967295 ≡ true →
        Counted s (cond a (prescaled (not z && leb (2 * SCBR s.sccr0) (n + 1)) (with_count s n) x) (with_count s n))
    go false z h = record { count = n; is = refl }
    go true true h = record { count = min 65535 (n + 1); is = refl }
    go true false h = absurd (omega (arith, eqb-true (2 * SCBR s.sccr0 - 1 - s.prescaler) 4294967295 h))

still_clock : (s : Sci) (x : Bool) (n : ℕ) → serial_still s x ≡ true → Counted s (clocked (with_count s n) x)
still_clock s x n h = go (rests s x) refl h
  where
    go : (b : Bool) → rests s x ≡ b → b || eqb (quiet s) 4294967295 ≡ true → Counted s (clocked (with_count s n) x)
    go true e h = rest_clock s x n e
    go false e h = no_sample s x n h

still_clocks : (j : ℕ) (s : Sci) (x : Bool) → serial_still s x ≡ true → Counted s (iterate j (λ s. clocked s x) s)
unfolding iterate
still_clocks zero s x h = record { count = s.prescaler; is = refl }
still_clocks (suc j) s x h =
    let before : Counted s (iterate j (λ s. clocked s x) s) = still_clocks j s x h in
    let last : Counted s (clocked (with_count s before.count) x) = still_clock s x before.count h in
    record { count = last.count; is = ap (λ (t : Sci). clocked t x) before.is ∙ last.is }

quiet_clocks_count : (j : ℕ) (s : Sci) (x : Bool) → s.prescaler ≤ 65535 → j ≤ quiet s → Counted s (iterate j (λ s. clocked s x) s)
unfolding skipped
quiet_clocks_count j s x f h = go (active s) (skips j s x f h)
  where
    go : (a : Bool) → iterate j (λ s. clocked s x) s ≡ cond a (with_count s (min 65535 (s.prescaler + j))) s →
        Counted s (iterate j (λ s. clocked s x) s)
    go true e = record { count = min 65535 (s.prescaler + j); is = e }
    go false e = record { count = s.prescaler; is = e }

serial_counts : (s : Sci) (x : Bool) (j : ℕ) → s.prescaler ≤ 65535 → j ≤ serial_steady s x →
    Counted s (iterate j (λ s. clocked s x) s)
serial_counts s x j f h = go (rests s x) refl h
  where
    go : (b : Bool) → rests s x ≡ b → j ≤ cond b 4294967295 (quiet s) → Counted s (iterate j (λ s. clocked s x) s)
    go true e l = still_clocks j s x (rw e)
    go false e l = quiet_clocks_count j s x f l

-- Of a still serial half only the queue shows something new.
pub still_look : (j : ℕ) (rxd : Bool) (m : Module) → serial_still m.sci rxd ≡ true →
    look (ahead j rxd m) ≡ shows m m.sci (iterate j (λ q. clock q (pins_of m)) m.qspi)
still_look j rxd m h =
    let t : Counted m.sci (iterate j (λ s. clocked s rxd) m.sci) = still_clocks j m.sci rxd h in
    let q : Qspi = iterate j (λ q. clock q (pins_of m)) m.qspi in
    ap (λ (u : Sci). shows m u q) t.is ∙ unseen m m.sci q t.count

-- The queue: the count is not shown, and PCS change at the first clock if at all.
queue_shows : (m : Module) (s : Sci) (q : Qspi) (j : ℕ) → shows m s (queue.skipped (suc j) q) ≡ shows m s (queue.skipped 1 q)
unfolding queue.skipped answer_of
queue_shows m s q j =
    rw (lt-ltb 0 (suc j) (omega arith)) (go (spe q.registers.spcr1 && (q.entry.playing || q.entry.delaying)))
  where
    go : (b : Bool) → shows m s (queue.skipped_if b (suc j) q) ≡ shows m s (queue.skipped_if b 1 q)
    go true = refl
    go false = refl

settled : (m : Module) (rxd : Bool) (j : ℕ) → m.sci.prescaler ≤ 65535 → suc j ≤ queue.quiet m.qspi (pins_of m) →
    suc j ≤ serial_steady m.sci rxd → look (ahead (suc j) rxd m) ≡ shows m m.sci (queue.skipped 1 m.qspi)
settled m rxd j f q s =
    let t : Counted m.sci (iterate (suc j) (λ s. clocked s rxd) m.sci) = serial_counts m.sci rxd (suc j) f s in
    ap (λ (u : Qspi). shows m (iterate (suc j) (λ s. clocked s rxd) m.sci) u) (quiet_clocks (suc j) m.qspi (pins_of m) q)
    ∙ ap (λ (u : Sci). shows m u (queue.skipped (suc j) m.qspi)) t.is
    ∙ unseen m m.sci (queue.skipped (suc j) m.qspi) t.count
    ∙ queue_shows m m.sci m.qspi j

pub steady_look : (m : Module) (rxd : Bool) (j : ℕ) → m.sci.prescaler ≤ 65535 → suc j ≤ steady m rxd →
    look (ahead (suc j) rxd m) ≡ look (ahead 1 rxd m)
steady_look m rxd zero f h = refl
steady_look m rxd (suc j) f h =
    settled m rxd (suc j) f (omega arith) (omega arith) ∙ sym (settled m rxd 0 f (omega arith) (omega arith))

-- The module's clocks show what those of its halves do, and clocks add up.
pub look_ahead : (n : ℕ) (rxd : Bool) (m : Module) → look (clocks m rxd n) ≡ look (ahead n rxd m)
unfolding clocks answer_of
look_ahead n rxd m = ap look (apart n rxd m)

pub ahead_add : (k n : ℕ) (rxd : Bool) (m : Module) → ahead k rxd (ahead n rxd m) ≡ ahead (k + n) rxd m
ahead_add k n rxd m =
    ap (λ (q : Qspi). with_sci (with_qspi m q) (iterate k (λ s. clocked s rxd) (iterate n (λ s. clocked s rxd) m.sci)))
    (sym (iterate_add k n (λ q. clock q (pins_of m)) m.qspi))
    ∙ ap (λ (s : Sci). with_sci (with_qspi m (iterate (k + n) (λ q. clock q (pins_of m)) m.qspi)) s)
    (sym (iterate_add k n (λ s. clocked s rxd) m.sci))

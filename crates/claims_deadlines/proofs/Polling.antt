-- Polls at stated distances are in time: the rule of polls by the deadline. Assumes nothing.
use mathlib.Core.Path.{◌≡◌, refl, ap, sym, ◌∙◌}
use mathlib.Core.Bool.{Bool, true, false, cond, ◌&&◌, false≢true}
use mathlib.Core.List.{List, [], ◌∷◌, ◌++◌}
use Prim.Native.Nat.{ℕ, zero, suc, ◌+◌, ◌≤◌, ◌<◌}
use native.Mathlib.Omega.{arith}
use lib.Dec.{eqb}
use Rattle.steps.specs.Bits.{merge}
use Rattle.sci.specs.model.Flags.{RAF, transmit_flags}
use Rattle.sci.specs.model.Status.{has, fall, fall_seen}
use Rattle.sci.specs.model.Control.{RE, sccr0_bits}
use Rattle.sci.specs.model.Receiver.{full}
use Rattle.sci.specs.claims.Line.{read_status}
use Rattle.sci.specs.model.Serial.{reset_sci, wrote_sccr0, wrote_sccr1, stopped, with_sccr1, sccr1_word, sccr0_guarded, sccr1_guarded}
use Rattle.sci.specs.claims.History.{Step, reset, clock, reads, writesSccr0, writesSccr1, writesScdr}
use Rattle.sci.specs.claims.History as sci
use Rattle.sci.specs.declared.serial.Sci.{Sci}
use Rattle.sci.proofs.Frames.{by_cond}
use Rattle.sci.proofs.Same.{same_loaded, outside_fall}
use Rattle.sci.proofs.History.{clocks}
use Rattle.qsm.specs.model.State.{reset_module}
use Rattle.qsm.specs.model.Event.{passes, held, clock_module}
use Rattle.qsm.specs.claims.StatusFlags.{SCI, status}
use Rattle.qsm.specs.declared.state.Module.{Module}
use Rattle.qsm.specs.declared.event.Event.{Event}
use Rattle.qsm.specs.declared.event.Event.TheVariants.{Reset, Hold}
use Rattle.qsm.specs.declared.event.Event.TheVariants as event
use Rattle.qsm.specs.declared.event.Access as bus
use Rattle.tool_lines.specs.Poll.{status_read, data_read, calls, poll_events}
use Rattle.claims_histories.specs.History.{after, run, played_clocks}
use Rattle.claims_histories.proofs.Follows.{steps, follows}
use Rattle.claims_histories.proofs.Given.{Accesses, AllAccesses, event_accesses}
use Rattle.claims_polling.specs.Rule.{clocks_in, waiting, polled_after}
use Rattle.claims_polling.proofs.Full.{full_same, read_clear}
use Rattle.claims_polling.proofs.Ruled.{clears}
use Rattle.claims_deadlines.specs.Deadline.{age_after, age_for, InTimeFor, InTime, Served, Polled, PolledKept}
use Rattle.claims_deadlines.proofs.Left.{refuted_full}
use Rattle.claims_deadlines.proofs.Events.{reset_run, deadline, any_line_holds}

-- ---- an access lets no word come

stopped_waits : (b : Bool) (s : Sci) (w : ℕ) → full (stopped b (with_sccr1 s w)).status ≡ full s.status
stopped_waits true s w = refl
stopped_waits false s w = sym (full_same s.status (fall s.status RAF) (outside_fall s.status RAF refl))

step_waits : (e : Step) (s : Sci) → Accesses e → full (sci.step e s).status ≡ true → full s.status ≡ true
unfolding sci.step wrote_sccr0 wrote_sccr1
step_waits reset s a h = absurd a
step_waits (clock x) s a h = absurd a
step_waits (reads scsr scdr) s a h =
    refuted_full (full s.status) (full (read_status scsr scdr s.status)) (read_clear scsr scdr s.status) h
step_waits (writesSccr0 v upper lower) s a h =
    sym (by_cond (λ (t : Sci). full t.status ≡ full s.status) (sccr0_guarded s v upper lower) (λ _. refl)
    (λ _. by_cond (λ (t : Sci). full t.status ≡ full s.status) (eqb (sccr0_bits (merge s.sccr0 v upper lower)) s.sccr0) (λ _. refl) (λ _. refl)))
    ∙ h
step_waits (writesSccr1 v upper lower) s a h =
    let w : ℕ = merge (sccr1_word s) v upper lower in
    sym (by_cond (λ (t : Sci). full t.status ≡ full s.status) (sccr1_guarded s v upper lower) (λ _. refl)
    (λ _. stopped_waits (RE w) s w))
    ∙ h
step_waits (writesScdr v upper true) s a h = full_same s.status (fall_seen s.status transmit_flags) (same_loaded s.status) ∙ h
step_waits (writesScdr v upper false) s a h = h

run_waits : (es : List Step) (s : Sci) → AllAccesses es → full (sci.run es s).status ≡ true → full s.status ≡ true
unfolding sci.run
run_waits [] s a h = h
run_waits (e ∷ es) s a h = step_waits e s a.0 (run_waits es (sci.step e s) a.1 h)

pub access_waits : (a : bus.Access) (m : Module) → waiting (after (event.Access a) m) ≡ true → waiting m ≡ true
access_waits a m h =
    run_waits (steps (event.Access a) m) m.sci (event_accesses a m)
    (ap (λ (s : Sci). full s.status) (sym (follows (event.Access a) m)) ∙ h)

reset_clear : full reset_sci.status ≡ false
unfolding has
reset_clear = refl

pub reset_waits : (m : Module) → waiting (after Reset m) ≡ false
reset_waits m = ap (λ (s : Sci). full s.status) (follows Reset m ∙ reset_run m.sci) ∙ reset_clear

-- ---- a stretch of no more clocks than the limit, from nothing waiting on

-- A clock, with j clocks after it.
age_next : (a b : Bool) (k j limit : ℕ) → (a ≡ true → k + suc j < limit) → suc j ≤ limit → cond (a && b) (suc k) 0 + j < limit
age_next true true k j limit h l = omega (arith, h refl)
age_next true false k j limit h l = omega arith
age_next false b k j limit h l = omega arith

pub hold_in : (limit n rest : ℕ) (x : Bool) (m : Module) (k : ℕ) → (waiting m ≡ true → k + (n + rest) < limit) → n + rest ≤ limit →
    InTimeFor limit n x m k
hold_in limit zero rest x m k h l = tt
hold_in limit (suc n) rest x m k h l =
    let m' : Module = clock_module x m in
    let b : age_after m m' k + (n + rest) < limit = age_next (waiting m) (waiting m') k (n + rest) limit (λ e. omega (arith, h e)) (omega arith) in
    (omega arith, hold_in limit n rest x m' (age_after m m' k) (λ _. b) (omega arith))

pub hold_left : (limit n rest : ℕ) (x : Bool) (m : Module) (k : ℕ) → (waiting m ≡ true → k + (n + rest) < limit) → n + rest ≤ limit →
    full (sci.run (clocks n x) m.sci).status ≡ true → age_for n x m k + rest < limit
unfolding sci.run sci.step clock_module
hold_left limit zero rest x m k h l f = omega (arith, h f)
hold_left limit (suc n) rest x m k h l f =
    let m' : Module = clock_module x m in
    let b : age_after m m' k + (n + rest) < limit = age_next (waiting m) (waiting m') k (n + rest) limit (λ e. omega (arith, h e)) (omega arith) in
    hold_left limit n rest x m' (age_after m m' k) (λ _. b) (omega arith) f

pub played_few : (b : Bool) (n : ℕ) → cond b 0 n ≤ n
played_few true n = omega arith
played_few false n = omega arith

within_in : (limit : ℕ) (es : List Event) (m : Module) (k : ℕ) → (waiting m ≡ true → k + clocks_in es < limit) → clocks_in es ≤ limit →
    InTime limit es m k
unfolding InTime
within_in limit [] m k h l = tt
within_in limit (Reset ∷ es) m k h l =
    within_in limit es (after Reset m) k (λ e. absurd (false≢true (sym (reset_waits m) ∙ e))) l
within_in limit (Hold pins rxd n ∷ es) m k h l =
    let p : ℕ = played_clocks m n in
    let few : p ≤ n = played_few (passes m n) n in
    let q : Module = held m pins in
    let h' : waiting q ≡ true → k + (p + clocks_in es) < limit = λ e. omega (arith, h e, few) in
    let l' : p + clocks_in es ≤ limit = omega (arith, few) in (
      hold_in limit p (clocks_in es) rxd q k h' l',
      within_in limit es (after (Hold pins rxd n) m) (age_for p rxd q k)
          (λ e. hold_left limit p (clocks_in es) rxd q k h' l' (ap (λ (s : Sci). full s.status) (sym (follows (Hold pins rxd n) m)) ∙ e))
          (omega arith),
    )
within_in limit (event.Access a ∷ es) m k h l =
    within_in limit es (after (event.Access a) m) k (λ e. h (access_waits a m e)) l

-- ---- polls

pub in_joined : (limit : ℕ) (es fs : List Event) (m : Module) (k : ℕ) → InTime limit es m k → ((j : ℕ) → InTime limit fs (run es m) j) →
    InTime limit (es ++ fs) m k
unfolding InTime run
in_joined limit [] fs m k h f = f k
in_joined limit (Reset ∷ es) fs m k h f = in_joined limit es fs (after Reset m) k h f
in_joined limit (Hold pins rxd n ∷ es) fs m k h f =
    (h.0, in_joined limit es fs (after (Hold pins rxd n) m) (age_for (played_clocks m n) rxd (held m pins) k) h.1 f)
in_joined limit (event.Access a ∷ es) fs m k h f = in_joined limit es fs (after (event.Access a) m) k h f

pub poll_in : (limit : ℕ) (both : Bool) (m : Module) (k : ℕ) → InTime limit (status_read ∷ cond both (data_read ∷ []) []) m k
unfolding InTime
poll_in limit true m k = tt
poll_in limit false m k = tt

pub polled : Polled
unfolding polled_after InTime
polled limit [] m k h w = tt
polled limit (es ∷ ess) m k h w =
    let a : Module = run es m in
    let b : Module = run (poll_events a) a in
    in_joined limit es (poll_events a ++ polled_after ess b) m k
    (within_in limit es m k (λ e. absurd (false≢true (sym h ∙ e))) w.0)
    (λ i. in_joined limit (poll_events a) (polled_after ess b) a i (poll_in limit (calls (status a SCI)) a i)
    (λ j. polled limit ess b j (clears a) w.1))

pub served : Served
served moves past es on clear keeps u h = deadline _ past es on clear keeps (any_line_holds moves past es u) h

pub polled_kept_holds : PolledKept
polled_kept_holds moves past ess on clear keeps w u =
    let m : Module = run past reset_module in
    served moves past (polled_after ess m) on clear keeps u (polled _ ess m 0 clear w)

-- Between resets and counted writes the serial half's receiver follows the samples and reads that reach it, up to likeness.
use mathlib.Core.Path.{◌≡◌, refl, ap, subst, ◌∙◌}
use mathlib.Core.Bool.{Bool, true, false, cond, not, ◌&&◌, true≢false}
use mathlib.Core.List.{List, [], ◌∷◌, ◌++◌}
use mathlib.Core.Option.{none}
use Prim.Native.Nat.{ℕ}
use Rattle.sci.specs.model.Flags.{transmit_flags}
use Rattle.sci.specs.model.Status.{fall_seen}
use Rattle.sci.specs.model.Control.{RE}
use Rattle.sci.specs.model.Transmitter.{sent}
use Rattle.sci.specs.claims.Line.{Op, sample, act, acts, read_status, delivers, shown, watch}
use Rattle.sci.specs.claims.Alike.{Alike}
use Rattle.sci.specs.model.Serial.{active, due, clocked, data_written, wrote_sccr0, wrote_sccr1, sccr0_guarded, sccr1_guarded}
use Rattle.sci.specs.claims.History.{Step, reset, clock, reads, writesSccr0, writesSccr1, writesScdr, step, run, receiving, sampling, step_ops, ops, seen_if, step_seen, watched, breaks, Unbroken}
use Rattle.sci.specs.declared.status.Status.{Status}
use Rattle.sci.specs.declared.receiver.Received.{Received}
use Rattle.sci.specs.declared.serial.Sci.{Sci}
use Rattle.sci.proofs.Same.{same_sym, same_sent, same_loaded}
use Rattle.sci.proofs.Alike.{alike_refl, alike_trans, alike_status, alike_act, alike_acts, alike_watch}
use Rattle.sci.proofs.Reachable.{turned, clock_turned}

sccr1_turned : (a d on : Bool) (s : Sci) (x : Bool) → (turned a d on s x).sccr1 ≡ s.sccr1
sccr1_turned true true true s x = refl
sccr1_turned true true false s x = refl
sccr1_turned true false on s x = refl
sccr1_turned false d on s x = refl

sccr1_scdr : (lower : Bool) (s : Sci) (v : ℕ) (upper : Bool) → (data_written lower s v upper).sccr1 ≡ s.sccr1
sccr1_scdr true s v upper = refl
sccr1_scdr false s v upper = refl

-- A write that is guarded changes nothing.
refused : (g : Bool) (s t : Sci) → not g ≡ false → cond g s t ≡ s
refused true s t e = refl
refused false s t e = absurd (true≢false e)

pub step_sccr1 : (e : Step) (s : Sci) → breaks e s ≡ false → (step e s).sccr1 ≡ s.sccr1
unfolding step
step_sccr1 reset s h = absurd (true≢false h)
step_sccr1 (clock x) s h =
    ap (λ (t : Sci). t.sccr1) (clock_turned s x) ∙ sccr1_turned (active s) (due s) (RE s.sccr1) s x
step_sccr1 (reads scsr scdr) s h = refl
step_sccr1 (writesSccr0 v upper lower) s h =
    ap (λ (t : Sci). t.sccr1) (refused (sccr0_guarded s v upper lower) s (wrote_sccr0 s v upper lower) h)
step_sccr1 (writesSccr1 v upper lower) s h =
    ap (λ (t : Sci). t.sccr1) (refused (sccr1_guarded s v upper lower) s (wrote_sccr1 s v upper lower) h)
step_sccr1 (writesScdr v upper lower) s h = sccr1_scdr lower s v upper

turned_alike : (a d on : Bool) (s : Sci) (x : Bool) →
    Alike (receiving (turned a d on s x)) (acts s.sccr1 (cond (a && d && on) (sample x ∷ []) []) (receiving s))
unfolding act acts
turned_alike true true true s x =
    let t : Status = (sent s.transmitter s.status s.sccr1).status in
    alike_act s.sccr1 s.sccr1 refl (sample x) (record { receiver = s.receiver; status = t }) (receiving s)
    (alike_status s.receiver t s.status (same_sym s.status t (same_sent s.transmitter s.status s.sccr1)))
turned_alike true true false s x =
    let t : Status = (sent s.transmitter s.status s.sccr1).status in
    alike_status s.receiver t s.status (same_sym s.status t (same_sent s.transmitter s.status s.sccr1))
turned_alike true false on s x = alike_refl (receiving s)
turned_alike false d on s x = alike_refl (receiving s)

scdr_alike : (lower : Bool) (s : Sci) (v : ℕ) (upper : Bool) → Alike (receiving (data_written lower s v upper)) (receiving s)
scdr_alike true s v upper =
    let t : Status = fall_seen s.status transmit_flags in
    alike_status s.receiver t s.status (same_sym s.status t (same_loaded s.status))
scdr_alike false s v upper = alike_refl (receiving s)

equal_alike : (s t : Sci) → s ≡ t → Alike (receiving s) (receiving t)
equal_alike s t e = subst (λ (u : Sci). Alike (receiving s) (receiving u)) e (alike_refl (receiving s))

pub step_alike : (e : Step) (s : Sci) → breaks e s ≡ false →
    Alike (receiving (step e s)) (acts s.sccr1 (step_ops e s) (receiving s))
unfolding step act acts
step_alike reset s h = absurd (true≢false h)
step_alike (clock x) s h = rw (clock_turned s x) (turned_alike (active s) (due s) (RE s.sccr1) s x)
step_alike (reads scsr scdr) s h = alike_refl (record { receiver = s.receiver; status = read_status scsr scdr s.status })
step_alike (writesSccr0 v upper lower) s h =
    equal_alike _ s (refused (sccr0_guarded s v upper lower) s (wrote_sccr0 s v upper lower) h)
step_alike (writesSccr1 v upper lower) s h =
    equal_alike _ s (refused (sccr1_guarded s v upper lower) s (wrote_sccr1 s v upper lower) h)
step_alike (writesScdr v upper lower) s h = scdr_alike lower s v upper

acts_append : (sccr1 : ℕ) (os ps : List Op) (p : Received) → acts sccr1 (os ++ ps) p ≡ acts sccr1 ps (acts sccr1 os p)
unfolding acts
acts_append sccr1 [] ps p = refl
acts_append sccr1 (o ∷ os) ps p = acts_append sccr1 os ps (act sccr1 o p)

pub run_sccr1 : (es : List Step) (s : Sci) → Unbroken es s → (run es s).sccr1 ≡ s.sccr1
unfolding run
run_sccr1 [] s u = refl
run_sccr1 (e ∷ es) s u = run_sccr1 es (step e s) u.1 ∙ step_sccr1 e s u.0

pub run_alike : (es : List Step) (s : Sci) → Unbroken es s →
    Alike (receiving (run es s)) (acts s.sccr1 (ops es s) (receiving s))
unfolding run ops acts
run_alike [] s u = alike_refl (receiving s)
run_alike (e ∷ es) s u =
    let t : Sci = step e s in
    let c : t.sccr1 ≡ s.sccr1 = step_sccr1 e s u.0 in
    let p : Received = acts s.sccr1 (step_ops e s) (receiving s) in
    rw (acts_append s.sccr1 (step_ops e s) (ops es t) (receiving s))
    (alike_trans (receiving (run es t)) (acts s.sccr1 (ops es t) (receiving t)) (acts s.sccr1 (ops es t) p)
    (subst (λ (a : ℕ). Alike (receiving (run es t)) (acts a (ops es t) (receiving t))) c (run_alike es t u.1))
    (alike_acts s.sccr1 s.sccr1 refl (ops es t) (receiving t) p (step_alike e s u.0)))

seen_clock : (b : Bool) (sccr1 : ℕ) (x : Bool) (p : Received) (after : Sci) (os : List Op) →
    Alike (receiving after) (acts sccr1 (cond b (sample x ∷ []) []) p) →
    seen_if b (record { flags = shown after.status; word = none }) (watch sccr1 os (acts sccr1 (cond b (sample x ∷ []) []) p))
    ≡ watch sccr1 (cond b (sample x ∷ []) [] ++ os) p
unfolding watch acts delivers
seen_clock true sccr1 x p after os a =
    λ j. record { flags = a.same.flags j; word = none } ∷ watch sccr1 os (act sccr1 (sample x) p)
seen_clock false sccr1 x p after os a = refl

seen_step : (e : Step) (s : Sci) (os : List Op) → breaks e s ≡ false →
    step_seen e s (step e s) (watch s.sccr1 os (acts s.sccr1 (step_ops e s) (receiving s)))
    ≡ watch s.sccr1 (step_ops e s ++ os) (receiving s)
unfolding watch acts act step
seen_step reset s os h = absurd (true≢false h)
seen_step (clock x) s os h =
    seen_clock (sampling s) s.sccr1 x (receiving s) (clocked s x) os (step_alike (clock x) s refl)
seen_step (reads scsr scdr) s os h = refl
seen_step (writesSccr0 v upper lower) s os h = refl
seen_step (writesSccr1 v upper lower) s os h = refl
seen_step (writesScdr v upper lower) s os h = refl

pub run_watched : (es : List Step) (s : Sci) → Unbroken es s → watched es s ≡ watch s.sccr1 (ops es s) (receiving s)
unfolding watched ops watch
run_watched [] s u = refl
run_watched (e ∷ es) s u =
    let t : Sci = step e s in
    let p : Received = acts s.sccr1 (step_ops e s) (receiving s) in
    ap (step_seen e s t)
    (run_watched es t u.1
    ∙ ap (λ (a : ℕ). watch a (ops es t) (receiving t)) (step_sccr1 e s u.0)
    ∙ alike_watch s.sccr1 s.sccr1 refl (ops es t) (receiving t) p (step_alike e s u.0))
    ∙ seen_step e s (ops es t) u.0

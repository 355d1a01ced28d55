-- Steps of the serial half, one after another: with nothing waiting no frame is lost in fewer clocks than lie between two ends. Assumes nothing.
use mathlib.Core.Path.{◌≡◌, refl, ap, sym, subst, ◌∙◌}
use mathlib.Core.Bool.{Bool, true, false, cond, not, ◌&&◌, true≢false, false≢true}
use mathlib.Core.List.{List, [], ◌∷◌, ◌++◌, append_assoc}
use mathlib.Core.Option.{Option, none, some}
use Prim.Native.Nat.{ℕ, suc, ◌-◌, ◌*◌, ◌%◌, ◌≤◌}
use native.Mathlib.Omega.{arith}
use Rattle.sci.specs.model.Flags.{OR, transmit_flags}
use Rattle.sci.specs.model.Status.{has, fall_seen}
use Rattle.sci.specs.model.Control.{RE, M, bits_of}
use Rattle.sci.specs.model.Framer.{framed}
use Rattle.sci.specs.model.Receiver.{three, full, outcome, received, receiver_after}
use Rattle.sci.specs.model.Transmitter.{sent}
use Rattle.sci.specs.claims.Levels.{Unmoved}
use Rattle.sci.specs.claims.Line.{Op, sample, read, read_status, delivers}
use Rattle.sci.specs.claims.Sound.{Fits}
use Rattle.sci.specs.model.Serial.{active, due, wrote_sccr0, wrote_sccr1, sccr0_guarded, sccr1_guarded}
use Rattle.sci.specs.claims.History.{Step, reset, clock, reads, writesSccr0, writesSccr1, writesScdr, step, run, receiving, step_ops, ops, breaks, Unbroken}
use Rattle.sci.specs.claims.Overrun.{Mark, frame_lost, word_came, sample_marks, look_marks, delivery_marks, step_marks, log}
use Rattle.sci.specs.declared.status.Status.{Status}
use Rattle.sci.specs.declared.receiver.Outcome.{Outcome}
use Rattle.sci.specs.declared.serial.Sci.{Sci}
use Rattle.sci.proofs.Same.{same_loaded}
use Rattle.sci.proofs.Follow.{step_sccr1}
use Rattle.sci.proofs.Reachable.{turned, clock_turned, Reachable, reachable_step}
use Rattle.claims_polling.specs.Spacing.{apart, samples_of, Moving}
use Rattle.claims_polling.specs.Rule.{lost_in}
use Rattle.claims_polling.proofs.Full.{full_same, read_clear}
use Rattle.claims_polling.proofs.Timed.{rate, width, Roomy, kept, roomy_sample, roomy_clock}

-- A step and then so many clocks; and what a step leaves of so many.
abbrev pub spent : Step → ℕ → ℕ
spent reset k = k
spent (clock x) k = suc k
spent (reads scsr scdr) k = k
spent (writesSccr0 v upper lower) k = k
spent (writesSccr1 v upper lower) k = k
spent (writesScdr v upper lower) k = k

abbrev rest : Step → ℕ → ℕ
rest reset room = room
rest (clock x) room = room - 1
rest (reads scsr scdr) room = room
rest (writesSccr0 v upper lower) room = room
rest (writesSccr1 v upper lower) room = room
rest (writesScdr v upper lower) room = room

abbrev pub ticks : List Step → ℕ
ticks [] = 0
ticks (e ∷ es) = spent e (ticks es)

record Spending (e : Step) (k room : ℕ) : Type 0 where
  all : room ≡ spent e (rest e room)
  more : k ≤ rest e room
  less : rest e room ≤ room

spending : (e : Step) (k room : ℕ) → spent e k ≤ room → Spending e k room
spending reset k room h = record { all = refl; more = h; less = omega arith }
spending (clock x) k room h = record { all = omega arith; more = omega arith; less = omega arith }
spending (reads scsr scdr) k room h = record { all = refl; more = h; less = omega arith }
spending (writesSccr0 v upper lower) k room h = record { all = refl; more = h; less = omega arith }
spending (writesSccr1 v upper lower) k room h = record { all = refl; more = h; less = omega arith }
spending (writesScdr v upper lower) k room h = record { all = refl; more = h; less = omega arith }

-- A write that is guarded changes nothing.
unbroken_same : (P : Sci → Type 0) (g : Bool) (s t : Sci) → not g ≡ false → P s → P (cond g s t)
unbroken_same P true s t e p = p
unbroken_same P false s t e p = absurd (true≢false e)

same_turned : (a d on : Bool) (s : Sci) (x : Bool) → (turned a d on s x).sccr0 ≡ s.sccr0
same_turned true true true s x = refl
same_turned true true false s x = refl
same_turned true false on s x = refl
same_turned false d on s x = refl

step_sccr0 : (e : Step) (s : Sci) → breaks e s ≡ false → (step e s).sccr0 ≡ s.sccr0
unfolding step
step_sccr0 reset s h = absurd (true≢false h)
step_sccr0 (clock x) s h =
    ap (λ (u : Sci). u.sccr0) (clock_turned s x) ∙ same_turned (active s) (due s) (RE s.sccr1) s x
step_sccr0 (reads scsr scdr) s h = refl
step_sccr0 (writesSccr0 v upper lower) s h =
    unbroken_same (λ (u : Sci). u.sccr0 ≡ s.sccr0) (sccr0_guarded s v upper lower) s (wrote_sccr0 s v upper lower) h refl
step_sccr0 (writesSccr1 v upper lower) s h =
    unbroken_same (λ (u : Sci). u.sccr0 ≡ s.sccr0) (sccr1_guarded s v upper lower) s (wrote_sccr1 s v upper lower) h refl
step_sccr0 (writesScdr v upper true) s h = refl
step_sccr0 (writesScdr v upper false) s h = refl

-- The samples to come reach the receiver that this step leaves.
moving_turned : (moves : Bool) (n : ℕ) (a d on : Bool) (s : Sci) (x : Bool) (os : List Op) → n ≡ width s →
    Moving moves n (cond (a && d && on) (sample x ∷ []) [] ++ os) s.receiver → Moving moves n os (turned a d on s x).receiver
unfolding received receiver_after Unmoved
moving_turned moves n true true true s x os e u = λ z. subst (λ (k : ℕ). Unmoved n x s.receiver.last1 s.receiver.last2 (framed k s.receiver.framer (three s.receiver) x) (samples_of os)) e (u z).1
moving_turned moves n true true false s x os e u = u
moving_turned moves n true false on s x os e u = u
moving_turned moves n false d on s x os e u = u

step_moving : (moves : Bool) (n : ℕ) (e : Step) (s : Sci) (os : List Op) → n ≡ width s → breaks e s ≡ false →
    Moving moves n (step_ops e s ++ os) s.receiver → Moving moves n os (step e s).receiver
unfolding step
step_moving moves n reset s os z h u = absurd (true≢false h)
step_moving moves n (clock x) s os z h u =
    rw (clock_turned s x) (moving_turned moves n (active s) (due s) (RE s.sccr1) s x os z u)
step_moving moves n (reads scsr scdr) s os z h u = u
step_moving moves n (writesSccr0 v upper lower) s os z h u =
    unbroken_same (λ (t : Sci). Moving moves n os t.receiver) (sccr0_guarded s v upper lower) s (wrote_sccr0 s v upper lower) h u
step_moving moves n (writesSccr1 v upper lower) s os z h u =
    unbroken_same (λ (t : Sci). Moving moves n os t.receiver) (sccr1_guarded s v upper lower) s (wrote_sccr1 s v upper lower) h u
step_moving moves n (writesScdr v upper true) s os z h u = u
step_moving moves n (writesScdr v upper false) s os z h u = u

-- The room left after a step.
roomy_turned : (moves : Bool) (a d on : Bool) (s : Sci) (x : Bool) (os : List Op) (room : ℕ) → due s ≡ d → RE s.sccr1 ≡ on →
    Fits (width s) s.receiver.framer → suc room ≤ apart moves (width s) * rate s →
    Moving moves (width s) (cond (a && d && on) (sample x ∷ []) [] ++ os) s.receiver → Roomy moves (suc room) s →
    Roomy moves room (turned a d on s x)
unfolding Unmoved
roomy_turned moves true true true s x os room e f i b u h = roomy_sample moves s x room e i b (λ z. (u z).0) h
roomy_turned moves true true false s x os room e f i b u h = roomy_clock moves s x true true false room e f refl h
roomy_turned moves true false on s x os room e f i b u h = roomy_clock moves s x true false on room e f refl h
roomy_turned moves false d on s x os room e f i b u h = roomy_clock moves s x false d on room e f refl h

refuted_full : (a b : Bool) → (a ≡ false → b ≡ false) → b ≡ true → a ≡ true
refuted_full true b f e = refl
refuted_full false b f e = absurd (false≢true (sym (f refl) ∙ e))

step_roomy : (moves : Bool) (e : Step) (s : Sci) (os : List Op) (room : ℕ) → breaks e s ≡ false → Reachable s →
    spent e room ≤ apart moves (width s) * rate s → Moving moves (width s) (step_ops e s ++ os) s.receiver →
    Roomy moves (spent e room) s → Roomy moves room (step e s)
unfolding step
step_roomy moves reset s os room h k b u r = absurd (true≢false h)
step_roomy moves (clock x) s os room h k b u r =
    rw (clock_turned s x)
    (roomy_turned moves (active s) (due s) (RE s.sccr1) s x os room refl refl k.sound.fits b u r)
step_roomy moves (reads scsr scdr) s os room h k b u r =
    λ f. r (refuted_full (full s.status) (full (read_status scsr scdr s.status)) (read_clear scsr scdr s.status) f)
step_roomy moves (writesSccr0 v upper lower) s os room h k b u r =
    unbroken_same (Roomy moves room) (sccr0_guarded s v upper lower) s (wrote_sccr0 s v upper lower) h r
step_roomy moves (writesSccr1 v upper lower) s os room h k b u r =
    unbroken_same (Roomy moves room) (sccr1_guarded s v upper lower) s (wrote_sccr1 s v upper lower) h r
step_roomy moves (writesScdr v upper true) s os room h k b u r =
    λ f. r (full_same s.status (fall_seen s.status transmit_flags) (same_loaded s.status) ∙ f)
step_roomy moves (writesScdr v upper false) s os room h k b u r = r

-- Nothing is lost.
unlost : (lost taken raises : Bool) (w : ℕ) (h : List Mark) → lost ≡ false →
    lost_in (cond lost (frame_lost raises ∷ []) (cond taken (word_came w ∷ []) []) ++ h) ≡ lost_in h
unlost true taken raises w h e = absurd (true≢false e)
unlost false true raises w h e = refl
unlost false false raises w h e = refl

lost_turned : (moves : Bool) (a d on : Bool) (s : Sci) (x : Bool) (h : List Mark) (room : ℕ) → due s ≡ d → Roomy moves (suc room) s →
    lost_in (cond (a && d && on) (sample_marks s (sent s.transmitter s.status s.sccr1).status x) [] ++ h) ≡ lost_in h
lost_turned moves true true true s x h room e r =
    let t : Status = (sent s.transmitter s.status s.sccr1).status in
    let o : Outcome = outcome s.receiver t s.sccr1 x in
    unlost o.lost o.taken (not (has t OR)) (s.receiver.framer.shift % 512) h (kept moves s x room e r)
lost_turned moves true true false s x h room e r = refl
lost_turned moves true false on s x h room e r = refl
lost_turned moves false d on s x h room e r = refl

lost_read : (scsr : Bool) (w : Option ℕ) (h : List Mark) → lost_in ((look_marks scsr ++ delivery_marks w) ++ h) ≡ lost_in h
lost_read true (some w) h = refl
lost_read true none h = refl
lost_read false (some w) h = refl
lost_read false none h = refl

step_lost : (moves : Bool) (e : Step) (s : Sci) (h : List Mark) (room : ℕ) → Roomy moves (spent e room) s →
    lost_in (step_marks e s ++ h) ≡ lost_in h
step_lost moves reset s h room r = refl
step_lost moves (clock x) s h room r =
    lost_turned moves (active s) (due s) (RE s.sccr1) s x h room refl r
step_lost moves (reads scsr scdr) s h room r = lost_read scsr (delivers (read scsr scdr) (receiving s)) h
step_lost moves (writesSccr0 v upper lower) s h room r = refl
step_lost moves (writesSccr1 v upper lower) s h room r = refl
step_lost moves (writesScdr v upper lower) s h room r = refl

-- Steps of so many clocks, from a state with so much room.
pub none_lost : (moves : Bool) (es : List Step) (s : Sci) (room : ℕ) → Reachable s → Unbroken es s → ticks es ≤ room →
    room ≤ apart moves (width s) * rate s → Moving moves (width s) (ops es s) s.receiver → Roomy moves room s → lost_in (log es s) ≡ 0
unfolding ops log
none_lost moves [] s room k u l b m r = refl
none_lost moves (e ∷ es) s room k u l b m r =
    let i : ℕ = rest e room in
    let z : Spending e (ticks es) room = spending e (ticks es) room l in
    let r' : Roomy moves (spent e i) s = subst (λ (j : ℕ). Roomy moves j s) z.all r in
    let c₁ : (step e s).sccr1 ≡ s.sccr1 = step_sccr1 e s u.0 in
    let c₀ : (step e s).sccr0 ≡ s.sccr0 = step_sccr0 e s u.0 in
    step_lost moves e s (log es (step e s)) i r'
    ∙ none_lost moves es (step e s) i (reachable_step e s k) u.1 z.more (rw (c₀, c₁) (omega (arith, z.less)))
    (subst (λ (c : ℕ). Moving moves (bits_of (M c)) (ops es (step e s)) (step e s).receiver) (sym c₁)
    (step_moving moves (width s) e s (ops es (step e s)) refl u.0 m))
    (step_roomy moves e s (ops es (step e s)) i u.0 k (omega (arith, z.all)) m r')

pub moving_run : (moves : Bool) (n : ℕ) (es : List Step) (s : Sci) (os : List Op) → n ≡ width s → Unbroken es s →
    Moving moves n (ops es s ++ os) s.receiver → Moving moves n os (run es s).receiver
unfolding run ops
moving_run moves n [] s os e u m = m
moving_run moves n (d ∷ es) s os e u m =
    moving_run moves n es (step d s) os (e ∙ ap (λ (c : ℕ). bits_of (M c)) (sym (step_sccr1 d s u.0))) u.1
    (step_moving moves n d s (ops es (step d s) ++ os) e u.0 (rw (append_assoc (step_ops d s) (ops es (step d s)) os) at m))

pub run_sccr0 : (es : List Step) (s : Sci) → Unbroken es s → (run es s).sccr0 ≡ s.sccr0
unfolding run
run_sccr0 [] s u = refl
run_sccr0 (e ∷ es) s u = run_sccr0 es (step e s) u.1 ∙ step_sccr0 e s u.0

-- Demand 3, first half, of the serial half: each history comes down to its receiver's samples and reads.
use mathlib.Core.Path.{◌≡◌, refl, ap, sym, subst, ◌∙◌}
use mathlib.Core.Bool.{Bool, true, false, true≢false, false≢true}
use mathlib.Core.List.{List, [], ◌∷◌}
use Prim.Native.Nat.{ℕ}
use lib.Dec.{eqb}
use Rattle.steps.specs.Bits.{merge}
use Rattle.sci.specs.model.Flags.{RAF}
use Rattle.sci.specs.model.Control.{RE, RWU, sccr0_bits}
use Rattle.sci.specs.model.Receiver.{start_state}
use Rattle.sci.specs.claims.Line.{Op, read, act, acts, watch}
use Rattle.sci.specs.claims.Alike.{Alike}
use Rattle.sci.specs.claims.Resync.{Started}
use Rattle.sci.specs.model.Parts.{with_sleep}
use Rattle.sci.specs.model.Serial.{reset_sci, active, due, sccr1_word, data_written, wrote_sccr0, wrote_sccr1, sccr0_guarded, sccr1_guarded, stopped, with_sccr1}
use Rattle.sci.specs.claims.History.{Step, reset, clock, reads, writesSccr0, writesSccr1, writesScdr, step, run, receiving, ops}
use Rattle.sci.specs.claims.Demand3.{Off, Compared, Recovered}
use Rattle.sci.specs.declared.receiver.Receiver.{Receiver}
use Rattle.sci.specs.declared.receiver.Received.{Received}
use Rattle.sci.specs.declared.serial.Sci.{Sci}
use Rattle.sci.proofs.Frames.{by_cond}
use Rattle.sci.proofs.Same.{same_sent, same_loaded, outside_fall}
use Rattle.sci.proofs.Alike.{alike_sym, alike_trans, alike_act, alike_watch}
use Rattle.sci.proofs.Resync.{Clear, same_clear, clear_read, resync_alike}
use Rattle.sci.proofs.Reachable.{turned, clock_turned, Reachable, reachable_history, re_put}
use Rattle.sci.proofs.Follow.{step_sccr1, run_sccr1, run_alike, run_watched}

-- While RE is clear no receive flag rises.
clear_turned : (a d : Bool) (s : Sci) (x : Bool) → Clear s.status → Clear (turned a d false s x).status
clear_turned true true s x c =
    same_clear s.status _ (same_sent s.transmitter s.status s.sccr1) c
clear_turned true false s x c = c
clear_turned false d s x c = c

clear_sccr0 : (s : Sci) (v : ℕ) (upper lower : Bool) → Clear s.status → Clear (wrote_sccr0 s v upper lower).status
unfolding wrote_sccr0
clear_sccr0 s v upper lower c =
    by_cond (λ (t : Sci). Clear t.status) (eqb (sccr0_bits (merge s.sccr0 v upper lower)) s.sccr0) (λ e. c) (λ e. c)

clear_stopped : (on : Bool) (s : Sci) → Clear s.status → Clear (stopped on s).status
clear_stopped true s c = c
clear_stopped false s c = same_clear s.status _ (outside_fall s.status RAF refl) c

clear_sccr1 : (s : Sci) (v : ℕ) (upper lower : Bool) → Clear s.status → Clear (wrote_sccr1 s v upper lower).status
unfolding wrote_sccr1
clear_sccr1 s v upper lower c =
    let w : ℕ = merge (sccr1_word s) v upper lower in
    clear_stopped (RE w) (with_sccr1 s w) c

clear_scdr : (lower : Bool) (s : Sci) (v : ℕ) (upper : Bool) → Clear s.status → Clear (data_written lower s v upper).status
clear_scdr true s v upper c = same_clear s.status _ (same_loaded s.status) c
clear_scdr false s v upper c = c

clear_reset : Clear reset_sci.status
clear_reset = record { unset = refl; unseen = refl }

clear_step : (e : Step) (s : Sci) → RE s.sccr1 ≡ false → Clear s.status → Clear (step e s).status
unfolding step
clear_step reset s h c = clear_reset
clear_step (clock x) s h c =
    rw (clock_turned s x)
    (subst (λ (on : Bool). Clear (turned (active s) (due s) on s x).status) (sym h) (clear_turned (active s) (due s) s x c))
clear_step (reads scsr scdr) s h c = clear_read scsr scdr s.status c
clear_step (writesSccr0 v upper lower) s h c =
    by_cond (λ (t : Sci). Clear t.status) (sccr0_guarded s v upper lower) (λ e. c) (λ e. clear_sccr0 s v upper lower c)
clear_step (writesSccr1 v upper lower) s h c =
    by_cond (λ (t : Sci). Clear t.status) (sccr1_guarded s v upper lower) (λ e. c) (λ e. clear_sccr1 s v upper lower c)
clear_step (writesScdr v upper lower) s h c = clear_scdr lower s v upper c

off_run : (es : List Step) (s : Sci) → Off es s → RE s.sccr1 ≡ false → Clear s.status →
    (RE (run es s).sccr1 ≡ false) × Clear (run es s).status
unfolding run
off_run [] s o h c = (h, c)
off_run (e ∷ es) s o h c = off_run es (step e s) o.1 o.0 (clear_step e s h c)

-- Only a write of SCCR1 makes RE rise; it leaves the receiver in its start state.
start_sleep : (r : Receiver) (asleep : Bool) → r ≡ start_state r → with_sleep r asleep ≡ start_state (with_sleep r asleep)
start_sleep r asleep e = ap (λ (q : Receiver). with_sleep q asleep) e

Rises : Sci → Sci → Type 0
Rises s t =
    RE t.sccr1 ≡ true → t.receiver.asleep ≡ false → Started (receiving t)

rises_no : (s t : Sci) → RE s.sccr1 ≡ false → t.sccr1 ≡ s.sccr1 → Rises s t
unfolding Rises
rises_no s t h e = λ g a. absurd (true≢false (sym g ∙ ap RE e ∙ h))

rises_stopped : (s : Sci) (w : ℕ) (on : Bool) → RE w ≡ on → s.receiver ≡ start_state s.receiver → Clear s.status →
    Rises s (stopped on (with_sccr1 s w))
unfolding Rises
rises_stopped s w true e r c =
    λ g a.
    record { start = start_sleep s.receiver (RWU w) r; awake = a; unset = c.unset; unseen = c.unseen }
rises_stopped s w false e r c = λ g a. absurd (true≢false (sym g ∙ re_put w ∙ e))

rises_sccr1 : (s : Sci) (v : ℕ) (upper lower : Bool) → s.receiver ≡ start_state s.receiver → Clear s.status →
    Rises s (wrote_sccr1 s v upper lower)
unfolding wrote_sccr1
rises_sccr1 s v upper lower r c =
    let w : ℕ = merge (sccr1_word s) v upper lower in
    rises_stopped s w (RE w) refl r c

sccr1_kept : (s : Sci) (v : ℕ) (upper lower : Bool) → (wrote_sccr0 s v upper lower).sccr1 ≡ s.sccr1
unfolding wrote_sccr0
sccr1_kept s v upper lower =
    by_cond (λ (t : Sci). t.sccr1 ≡ s.sccr1) (eqb (sccr0_bits (merge s.sccr0 v upper lower)) s.sccr0) (λ e. refl)
    (λ e. refl)

rises : (e : Step) (s : Sci) → Reachable s → RE s.sccr1 ≡ false → Clear s.status → Rises s (step e s)
unfolding step Rises
rises reset s k h c = λ g a. absurd (false≢true g)
rises (clock x) s k h c = rises_no s (step (clock x) s) h (step_sccr1 (clock x) s refl)
rises (reads scsr scdr) s k h c = rises_no s (step (reads scsr scdr) s) h refl
rises (writesSccr0 v upper lower) s k h c =
    by_cond (Rises s) (sccr0_guarded s v upper lower) (λ e. rises_no s s h refl)
    (λ e. rises_no s (wrote_sccr0 s v upper lower) h (sccr1_kept s v upper lower))
rises (writesSccr1 v upper lower) s k h c =
    by_cond (Rises s) (sccr1_guarded s v upper lower) (λ e. rises_no s s h refl)
    (λ e. rises_sccr1 s v upper lower (k.off h) c)
rises (writesScdr v upper lower) s k h c =
    rises_no s (step (writesScdr v upper lower) s) h (step_sccr1 (writesScdr v upper lower) s refl)

compared_started : (early : List Step) (enable : Step) (waited : List Step) → Compared early enable waited →
    Started (receiving (step enable (run early reset_sci)))
unfolding Rises
compared_started early enable waited k =
    let o = off_run early reset_sci k.off refl clear_reset in
    rises enable (run early reset_sci) (reachable_history early) o.0 o.1 k.rises k.awake

read_alike : (sccr1 : ℕ) (scdr : Bool) (s : Sci) (p : Received) → Alike (receiving s) p →
    Alike (receiving (step (reads true scdr) s)) (act sccr1 (read true scdr) p)
unfolding step act
read_alike sccr1 scdr s p a = alike_act sccr1 sccr1 refl (read true scdr) (receiving s) p a

pub recovered : Recovered
recovered before quiet scdr early enable waited later later' h k =
    let m : Sci = run before reset_sci in
    let c : Sci = step enable (run early reset_sci) in
    let z : Sci = step (reads true scdr) (run quiet m) in
    let y : Sci = run waited c in
    let a : ℕ = m.sccr1 in
    let b : ℕ = c.sccr1 in
    let p : Received = acts a (ops quiet m) (receiving m) in
    let q : Received = acts b (ops waited c) (receiving c) in
    let pq : Alike (receiving (run quiet m)) p = run_alike quiet m h.unbroken in
    λ e ul ul' same.
    let alike : Alike (receiving z) (receiving y) =
    alike_trans (receiving z) (act a (read true scdr) p) (receiving y) (read_alike a scdr (run quiet m) p pq)
    (alike_trans (act a (read true scdr) p) q (receiving y)
    (resync_alike a b e (receiving m) (receiving c) (ops quiet m) (ops waited c)
    (record {
      sound = (reachable_history before).sound;
      awake = h.awake;
      ones = h.ones;
      enough = h.enough;
      clear = sym pq.same.flags ∙ h.clear;
    })
    (record { started = compared_started early enable waited k; ones = k.ones; enough = k.enough })
    scdr)
    (alike_sym (receiving y) q (run_alike waited c k.unbroken))) in
    let za : z.sccr1 ≡ a = step_sccr1 (reads true scdr) (run quiet m) refl ∙ run_sccr1 quiet m h.unbroken in
    let yb : y.sccr1 ≡ b = run_sccr1 waited c k.unbroken in
    run_watched later z ul
    ∙ ap (λ (n : ℕ). watch n (ops later z) (receiving z)) za
    ∙ alike_watch a b e (ops later z) (receiving z) (receiving y) alike
    ∙ ap (λ (os : List Op). watch b os (receiving y)) same
    ∙ ap (λ (n : ℕ). watch n (ops later' y) (receiving y)) (sym yb)
    ∙ sym (run_watched later' y ul')

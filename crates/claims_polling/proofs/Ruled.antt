-- The rule of the module's polls, by the steps of its serial half. Assumes nothing.
use mathlib.Core.Path.{◌≡◌, refl, ap, sym, subst, ◌∙◌}
use mathlib.Core.Bool.{Bool, true, false, cond, false≢true}
use mathlib.Core.List.{List, [], ◌∷◌, ◌++◌}
use mathlib.Core.Option.{Option, none, some}
use Prim.Native.Nat.{ℕ, zero, suc, ◌+◌, ◌*◌, ◌/◌, ◌%◌, ◌≤◌}
use native.Mathlib.Omega.{arith}
use lib.Dec.{eqb}
use Rattle.sci.specs.model.Control.{M, bits_of}
use Rattle.sci.specs.model.Receiver.{full}
use Rattle.sci.specs.claims.Levels.{Unmoved}
use Rattle.sci.specs.claims.Line.{Op, read, delivers}
use Rattle.sci.specs.claims.History.{Step, reset, clock, reads, writesSccr0, writesSccr1, writesScdr, receiving}
use Rattle.sci.specs.claims.History as sci
use Rattle.sci.specs.claims.Overrun.{status_read, delivery_marks}
use Rattle.sci.specs.claims.Overrun as marks
use Rattle.sci.specs.declared.receiver.Receiver.{Receiver}
use Rattle.sci.specs.declared.serial.Sci.{Sci}
use Rattle.sci.proofs.History.{clocks}
use Rattle.sci.proofs.Follow.{run_sccr1}
use Rattle.sci.proofs.Reachable.{Reachable, reachable_run, reachable_history}
use Rattle.qsm.specs.model.State.{reset_module}
use Rattle.qsm.specs.model.Map.{decode}
use Rattle.qsm.specs.model.Lanes.{upper_lane, lower_lane, lined, touches, in_map}
use Rattle.qsm.specs.model.Access.{next}
use Rattle.qsm.specs.model.Decision.{permits, admitted, decide_read, decide_write}
use Rattle.qsm.specs.declared.map.SerialWord.TheVariants.{Sccr0, Sccr1, Scsr, Scdr}
use Rattle.qsm.specs.declared.map.Place.{Place}
use Rattle.qsm.specs.declared.map.Place.TheVariants.{Own, Serial, Queue, Hole}
use Rattle.qsm.specs.declared.state.Module.{Module}
use Rattle.qsm.specs.declared.event.Access.TheVariants.{Read, Write}
use Rattle.qsm.specs.declared.event.Event.{Event}
use Rattle.qsm.specs.declared.event.Event.TheVariants.{Reset, Hold}
use Rattle.qsm.specs.declared.event.Event.TheVariants as event
use Rattle.qsm.specs.model.Event.{passes}
use Rattle.qsm.specs.claims.StatusFlags.{SCI, status}
use Rattle.qsm.proofs.StatusFlags.{scsr_flag}
use Rattle.tool_lines.specs.Poll.{data_read, calls, poll_events}
use Rattle.tool_lines.specs.Poll as poll
use Rattle.claims_histories.specs.History.{after, run, played_clocks, receiver_read, Unbroken, ops, log}
use Rattle.claims_histories.proofs.Words.{word_steps, store_steps}
use Rattle.claims_histories.proofs.Follows.{write_steps, steps}
use Rattle.claims_histories.proofs.Lifted.{all, all_run, all_ops, all_log, all_unbroken, from_reset}
use Rattle.claims_polling.specs.Spacing.{samples_of, Moving}
use Rattle.claims_polling.specs.Rule.{clocks_in, lost_in, waiting, longest, MovingIn, Stretch, Clears, polled_after, Within, Kept}
use Rattle.claims_polling.proofs.Full.{read_clear, polled_clear}
use Rattle.claims_polling.proofs.Paced.{ticks, none_lost, moving_run, run_sccr0}
use Rattle.claims_polling.proofs.Joined.{ops_joined, log_joined, unbroken_first, unbroken_last, lost_joined, samples_joined, unmoved_first}

-- ---- the clocks of events are those of their steps

ticks_append : (es fs : List Step) → ticks (es ++ fs) ≡ ticks es + ticks fs
ticks_append [] fs = omega arith
ticks_append (reset ∷ es) fs = ticks_append es fs
ticks_append (clock x ∷ es) fs = omega (arith, ticks_append es fs)
ticks_append (reads scsr scdr ∷ es) fs = ticks_append es fs
ticks_append (writesSccr0 v upper lower ∷ es) fs = ticks_append es fs
ticks_append (writesSccr1 v upper lower ∷ es) fs = ticks_append es fs
ticks_append (writesScdr v upper lower ∷ es) fs = ticks_append es fs

hold_ticks : (n : ℕ) (x : Bool) → ticks (clocks n x) ≡ n
hold_ticks zero x = refl
hold_ticks (suc n) x = ap suc (hold_ticks n x)

read_ticks : (b scsr scdr : Bool) → ticks (cond b (reads scsr scdr ∷ []) []) ≡ 0
read_ticks true scsr scdr = refl
read_ticks false scsr scdr = refl

word_ticks : (p : Place) (v : ℕ) (upper lower : Bool) → ticks (word_steps p v upper lower) ≡ 0
word_ticks (Own w) v upper lower = refl
word_ticks (Serial Sccr0) v upper lower = refl
word_ticks (Serial Sccr1) v upper lower = refl
word_ticks (Serial Scsr) v upper lower = refl
word_ticks (Serial Scdr) v upper lower = refl
word_ticks (Queue w) v upper lower = refl
word_ticks Hole v upper lower = refl

store_ticks : (long : Bool) (at words : ℕ) (upper lower : Bool) → ticks (store_steps long at words upper lower) ≡ 0
store_ticks false at words upper lower = word_ticks (decode at) (words / 65536) upper lower
store_ticks true at words upper lower =
    ticks_append (word_steps (decode at) (words / 65536) upper lower) (word_steps (decode (next at)) (words % 65536 * 65536 / 65536) upper lower)
    ∙ rw (word_ticks (decode at) (words / 65536) upper lower, word_ticks (decode (next at)) (words % 65536 * 65536 / 65536) upper lower)

cond_ticks : (b : Bool) (es : List Step) → ticks es ≡ 0 → ticks (cond b es []) ≡ 0
cond_ticks true es e = e
cond_ticks false es e = refl

played_few : (b : Bool) (n : ℕ) → cond b 0 n ≤ n
played_few true n = omega arith
played_few false n = omega arith

event_ticks : (e : Event) (m : Module) (k : ℕ) → ticks (steps e m) + k ≤ clocks_in (e ∷ []) + k
event_ticks Reset m k = omega arith
event_ticks (Hold pins rxd n) m k = omega (arith, hold_ticks (played_clocks m n) rxd, played_few (passes m n) n)
event_ticks (event.Access (Read supervisor width offset)) m k =
    omega (arith, read_ticks (receiver_read m supervisor width offset) (touches 0x0C 2 width offset) (touches 0x0F 1 width offset))
event_ticks (event.Access (Write supervisor width offset value)) m k =
    omega (
      arith,
      cond_ticks (permits (decide_write m supervisor width offset value)) (write_steps width offset value)
          (store_ticks (eqb width 4) offset (lined width value) (upper_lane width offset) (lower_lane width offset)),
    )

pub clocks_one : (e : Event) (es : List Event) → clocks_in (e ∷ es) ≡ clocks_in (e ∷ []) + clocks_in es
clocks_one Reset es = omega arith
clocks_one (Hold pins rxd n) es = omega arith
clocks_one (event.Access a) es = omega arith

all_ticks : (es : List Event) (m : Module) → ticks (all es m) ≤ clocks_in es
all_ticks [] m = omega arith
all_ticks (e ∷ es) m =
    omega (
      arith,
      ticks_append (steps e m) (all es (after e m)),
      event_ticks e m (ticks (all es (after e m))),
      all_ticks es (after e m),
      clocks_one e es,
    )

-- ---- a stretch

pub reached : (past : List Event) → Reachable (run past reset_module).sci
reached past = subst Reachable (sym (from_reset past)) (reachable_history (all past reset_module))

pub from : (moves : Bool) (es : List Event) (m : Module) → Reachable m.sci → waiting m ≡ false → Unbroken es m →
    clocks_in es ≤ longest moves m → MovingIn moves es m → lost_in (log es m) ≡ 0
from moves es m k h u l v =
    ap lost_in (all_log es m)
    ∙ none_lost moves (all es m) m.sci (longest moves m) k (all_unbroken es m u) (omega (arith, all_ticks es m)) (omega arith)
    (subst (λ (os : List Op). Moving moves (bits_of (M m.sci.sccr1)) os m.sci.receiver) (all_ops es m) v)
    (λ f. absurd (false≢true (sym h ∙ f)))

pub stretch : Stretch
stretch moves past es h u l v = from moves es (run past reset_module) (reached past) h u l v

-- ---- polls

-- Data is read where something waits.
calls_waiting : (m : Module) → calls (status m SCI) ≡ waiting m
calls_waiting m = rw (scsr_flag 6 m refl, scsr_flag 3 m refl)

abbrev poll_steps : Bool → List Step
poll_steps both = reads true false ∷ cond both (reads false true ∷ []) []

abbrev status_then : Bool → List Event
status_then both = poll.status_read ∷ cond both (data_read ∷ []) []

poll_steps_holds : (m : Module) (both : Bool) → all (status_then both) m ≡ poll_steps both
unfolding decide_read admitted in_map decode
poll_steps_holds m true = refl
poll_steps_holds m false = refl

poll_left : (m : Module) (both : Bool) → waiting m ≡ both → full (sci.run (poll_steps both) m.sci).status ≡ false
unfolding sci.run sci.step
poll_left m true e = polled_clear m.sci.status
poll_left m false e = read_clear true false m.sci.status e

poll_is : (m : Module) → poll_events m ≡ status_then (waiting m)
poll_is m = ap status_then (calls_waiting m)

pub clears : Clears
clears m =
    ap (λ (s : Sci). full s.status)
    (all_run (poll_events m) m
    ∙ ap (λ (es : List Step). sci.run es m.sci) (ap (λ (es : List Event). all es m) (poll_is m) ∙ poll_steps_holds m (waiting m)))
    ∙ poll_left m (waiting m) refl

steps_lose : (both : Bool) (s : Sci) → lost_in (marks.log (poll_steps both) s) ≡ 0
unfolding marks.log
steps_lose true s = go (delivers (read true false) (receiving s)) (delivers (read false true) (receiving (sci.step (reads true false) s)))
  where
    go : (v w : Option ℕ) → lost_in ((status_read ∷ delivery_marks v) ++ (delivery_marks w ++ [])) ≡ 0
    go (some v) (some w) = refl
    go (some v) none = refl
    go none (some w) = refl
    go none none = refl
steps_lose false s = go (delivers (read true false) (receiving s))
  where
    go : (v : Option ℕ) → lost_in ((status_read ∷ delivery_marks v) ++ []) ≡ 0
    go (some v) = refl
    go none = refl

pub poll_loses : (m : Module) → lost_in (log (poll_events m) m) ≡ 0
poll_loses m =
    ap lost_in
    (all_log (poll_events m) m
    ∙ ap (λ (es : List Step). marks.log es m.sci) (ap (λ (es : List Event). all es m) (poll_is m) ∙ poll_steps_holds m (waiting m)))
    ∙ steps_lose (waiting m) m.sci

pub reached_on : (es : List Event) (m : Module) → Reachable m.sci → Reachable (run es m).sci
reached_on es m k = subst Reachable (sym (all_run es m)) (reachable_run (all es m) m.sci k)

-- SCCR0 and SCCR1 stay.
pub stays : (es : List Event) (m : Module) → Unbroken es m → ((run es m).sci.sccr0 ≡ m.sci.sccr0) × ((run es m).sci.sccr1 ≡ m.sci.sccr1)
stays es m u = (
  ap (λ (s : Sci). s.sccr0) (all_run es m) ∙ run_sccr0 (all es m) m.sci (all_unbroken es m u),
  ap (λ (s : Sci). s.sccr1) (all_run es m) ∙ run_sccr1 (all es m) m.sci (all_unbroken es m u),
)

module _ (moves : Bool) where
  pub moving_first : (es fs : List Event) (m : Module) → MovingIn moves (es ++ fs) m → MovingIn moves es m
  moving_first es fs m v = λ e.
      let r : Receiver = m.sci.receiver in
      let n : ℕ = bits_of (M m.sci.sccr1) in
      unmoved_first n r.last1 r.last2 r.last3 r.framer (samples_of (ops es m)) (samples_of (ops fs (run es m)))
      (subst (Unmoved n r.last1 r.last2 r.last3 r.framer) (ap samples_of (ops_joined es fs m) ∙ samples_joined (ops es m) (ops fs (run es m))) (v e))

  pub moving_last : (es fs : List Event) (m : Module) → Unbroken es m → MovingIn moves (es ++ fs) m → MovingIn moves fs (run es m)
  moving_last es fs m u v =
      let n : ℕ = bits_of (M m.sci.sccr1) in
      let os : List Op = ops fs (run es m) in
      subst (λ (c : ℕ). Moving moves (bits_of (M c)) os (run es m).sci.receiver) (sym (stays es m u).1)
      (subst (λ (s : Sci). Moving moves n os s.receiver) (sym (all_run es m))
      (moving_run moves n (all es m) m.sci os refl (all_unbroken es m u)
      (subst (λ (ps : List Op). Moving moves n (ps ++ os) m.sci.receiver) (all_ops es m)
      (subst (λ (ps : List Op). Moving moves n ps m.sci.receiver) (ops_joined es fs m) v))))

  -- A poll itself loses nothing, and the rest begins with nothing waiting.
  all_kept : (ess : List (List Event)) (m : Module) → Reachable m.sci → waiting m ≡ false → Unbroken (polled_after ess m) m →
      Within (longest moves m) ess → MovingIn moves (polled_after ess m) m → lost_in (log (polled_after ess m) m) ≡ 0
  unfolding polled_after log
  all_kept [] m k h u w v = refl
  all_kept (es ∷ ess) m k h u w v =
      let a : Module = run es m in
      let p : List Event = poll_events a in
      let b : Module = run p a in
      let fs : List Event = polled_after ess b in
      let u₁ : Unbroken es m = unbroken_first es (p ++ fs) m u in
      let u₂ : Unbroken (p ++ fs) a = unbroken_last es (p ++ fs) m u in
      let c = stays es m u₁ in
      let d = stays p a (unbroken_first p fs a u₂) in
      let same : longest moves b ≡ longest moves m = rw (d.0, d.1, c.0, c.1) in
      let v₂ : MovingIn moves (p ++ fs) a = moving_last es (p ++ fs) m u₁ v in
      let lost : lost_in (log (p ++ fs) a) ≡ lost_in (log p a) + lost_in (log fs b) = ap lost_in (log_joined p fs a) ∙ lost_joined (log p a) (log fs b) in
      ap lost_in (log_joined es (p ++ fs) m) ∙ lost_joined (log es m) (log (p ++ fs) a)
      ∙ omega (
        arith,
        from moves es m k h u₁ w.0 (moving_first es (p ++ fs) m v),
        lost,
        poll_loses a,
        all_kept ess b (reached_on p a (reached_on es m k)) (clears a) (unbroken_last p fs a u₂)
            (subst (λ (i : ℕ). Within i ess) (sym same) w.1) (moving_last p fs a (unbroken_first p fs a u₂) v₂),
      )

pub kept : Kept
kept moves past ess h u w v = all_kept moves ess (run past reset_module) (reached past) h u w v

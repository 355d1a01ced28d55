-- Holds and polls in which no frame is lost and no flag rises but RDRF: each word that comes is clean, and is delivered or still waits at the
-- end. Assumes nothing.
use mathlib.Core.Path.{◌≡◌, refl, sym, subst, ◌∙◌}
use mathlib.Core.Bool.{Bool, true, false}
use mathlib.Core.List.{List, [], ◌∷◌, ◌++◌}
use Prim.Native.Nat.{ℕ, zero, suc}
use native.Mathlib.Omega.{arith}
use Rattle.sci.specs.claims.History as sci
use Rattle.sci.specs.declared.serial.Sci.{Sci}
use Rattle.sci.specs.model.Serial.{clocked}
use Rattle.sci.proofs.History.{clocks}
use Rattle.sci.proofs.Flagged.{has_flag}
use Rattle.qsm.specs.model.Event.{held}
use Rattle.qsm.specs.declared.state.Module.{Module}
use Rattle.qsm.specs.declared.event.Event.{Event}
use Rattle.qsm.specs.declared.event.Event.TheVariants.{Reset, Hold}
use Rattle.qsm.specs.declared.event.Event.TheVariants as event
use Rattle.tool_lines.specs.Poll.{poll_events, polled}
use Rattle.tool_lines.specs.Poll as poll
use Rattle.tool_lines.specs.Schedule.{Act, plays, polls}
use Rattle.tool_lines.specs.Replay.{events_of}
use Rattle.claims_histories.specs.History.{after, run, played_clocks}
use Rattle.claims_polling.proofs.Joined.{run_joined}
use Rattle.claims_polling.proofs.Replaying.{poll_run}
use Rattle.claims_lines.specs.Happened.{Damage, Happening, status_read, word_delivered, clock_happens, event_happens, happened}
use Rattle.claims_lines.specs.Segment.{damaged}
use Rattle.claims_lines.proofs.Slots.{Slot, slot_of, empty, holding, from_empty, from_holding}
use Rattle.claims_lines.proofs.Stands.{serial_happens, hold_happens}
use Rattle.claims_lines.proofs.Polls.{quiet_events, quiet_happened, quiet_slot, word_events, word_happened, word_slot}
use Rattle.claims_lines.proofs.Simulated.{happened_joined, hold_slot}
use Rattle.claims_senders.specs.Undamaged.{Undamaged}
use Rattle.claims_through.specs.Through.{StaysUndamaged}
use Rattle.claims_through.proofs.Polls.{Quiet}
use Rattle.claims_text.proofs.Served.{Sound, clear, waits, lost, Serves, serves_came, serves_status, serves_delivered, serves_none, serves_joined, first_none, last_none}

-- ---- a hold

-- A word that waits keeps its flags.
stays_held : (n : ℕ) (x : Bool) (s : Sci) (w : ℕ) (d : Damage) (over : Bool) → slot_of s ≡ holding w d over →
    (over' : Bool) × (slot_of (sci.run (clocks n x) s) ≡ holding w d over')
unfolding sci.run sci.step
stays_held zero x s w d over e = (over, e)
stays_held (suc n) x s w d over e =
    let r : (o : Bool) × (slot_of (clocked s x) ≡ holding w d o) =
    from_holding (λ (h : List Happening) (v : Slot). (o : Bool) × (v ≡ holding w d o)) s x w d over e (over, refl) (λ raises. (true, refl)) in
    stays_held n x (clocked s x) w d r.0 r.1

abbrev Whole : Slot → Type 0
Whole v = damaged v.damage ≡ 0

module _ (n : ℕ) (x : Bool) (s : Sci) (whole : Whole (slot_of (sci.run (clocks n x) (clocked s x))))
    (ih : Sound (slot_of (clocked s x)) → lost (serial_happens n x (clocked s x)) ≡ 0 →
    Serves (slot_of (clocked s x)) (serial_happens n x (clocked s x)) (slot_of (sci.run (clocks n x) (clocked s x)))) where
  abbrev later : List Happening
  later = serial_happens n x (clocked s x)

  abbrev end : Slot
  end = slot_of (sci.run (clocks n x) (clocked s x))

  abbrev Goal : Slot → List Happening → Slot → Type 0
  Goal v e u = slot_of (clocked s x) ≡ u → lost (e ++ later) ≡ 0 → Serves v (e ++ later) end

  next_from : (u : Slot) → slot_of (clocked s x) ≡ u → Sound u → lost later ≡ 0 → Serves u later end
  next_from u e k l =
      subst (λ (z : Slot). Serves z later end) e (ih (subst Sound (sym e) k) l)

  came_whole : (w : ℕ) (d : Damage) → slot_of (clocked s x) ≡ holding w d false → damaged d ≡ 0
  came_whole w d e =
      let r : (o : Bool) × (slot_of (sci.run (clocks n x) (clocked s x)) ≡ holding w d o) = stays_held n x (clocked s x) w d false e in
      subst (λ (v : Slot). Whole v) r.1 whole

  clock_serves : (v : Slot) → slot_of s ≡ v → Sound v → lost (clock_happens s x ++ later) ≡ 0 → Serves v (clock_happens s x ++ later) end
  clock_serves v e (clear u) l =
      from_empty (Goal (empty u)) s x u e (λ z k. next_from (empty u) z (clear u) k)
      (λ w d z k. serves_came u w d later end (came_whole w d z) (next_from (holding w d false) z (waits w d false) k)) refl l
  clock_serves v e (waits w d over) l =
      from_holding (Goal (holding w d over)) s x w d over e (λ z k. next_from (holding w d over) z (waits w d over) k)
      (λ raises z k. absurd (omega (arith, k))) refl l

hold_serves : (n : ℕ) (x : Bool) (s : Sci) → Sound (slot_of s) → lost (serial_happens n x s) ≡ 0 → Whole (slot_of (sci.run (clocks n x) s)) →
    Serves (slot_of s) (serial_happens n x s) (slot_of (sci.run (clocks n x) s))
unfolding sci.run sci.step
hold_serves zero x s k l whole = serves_none (slot_of s) k
hold_serves (suc n) x s k l whole =
    clock_serves n x s whole (λ k l. hold_serves n x (clocked s x) k l whole) (slot_of s) refl k l

-- ---- flags

pub undamaged_first : (es fs : List Event) (m : Module) → StaysUndamaged (es ++ fs) m → StaysUndamaged es m
undamaged_first [] fs m u = tt
undamaged_first (e ∷ es) fs m u = (u.0, undamaged_first es fs (after e m) u.1)

pub undamaged_last : (es fs : List Event) (m : Module) → StaysUndamaged (es ++ fs) m → StaysUndamaged fs (run es m)
unfolding run
undamaged_last [] fs m u = u
undamaged_last (e ∷ es) fs m u = undamaged_last es fs (after e m) u.1

-- ---- a poll

none_flagged : (s : Sci) → Undamaged s → Whole (slot_of s)
none_flagged s u =
    rw (sym (has_flag 1 s.status) ∙ u.fe, sym (has_flag 0 s.status) ∙ u.pf, sym (has_flag 2 s.status) ∙ u.nf)

-- From what its reads are, what happens and what they leave.
poll_as : (m : Module) (v u : Slot) (es : List Event) (h : List Happening) → poll_events m ≡ es → happened es m ≡ h → slot_of (run es m).sci ≡ u →
    Serves v h u → Serves v (happened (poll_events m) m) (slot_of (run (poll_events m) m).sci)
poll_as m v u es h e f g k =
    subst (λ (l : List Event). Serves v (happened l m) (slot_of (run l m).sci)) (sym e)
    (subst (λ (z : List Happening). Serves v z (slot_of (run es m).sci)) (sym f) (subst (Serves v h) (sym g) k))

poll_serves : (m : Module) (v : Slot) → slot_of m.sci ≡ v → Sound v →
    Serves v (happened (poll_events m) m) (slot_of (run (poll_events m) m).sci)
unfolding run
poll_serves m v e (clear u) =
    poll_as m (empty u) (empty u) (poll.status_read ∷ []) (status_read ∷ []) (quiet_events m u e) (quiet_happened m u e) (quiet_slot m u e)
    (serves_status (empty u) [] (empty u) (serves_none (empty u) (clear u)))
poll_serves m v e (waits w d over) =
    poll_as m (holding w d over) (empty w) (poll.status_read ∷ (poll.data_read ∷ [])) (status_read ∷ (word_delivered w ∷ [])) (word_events m w d over e)
    (word_happened m w d over e) (word_slot m w d over e)
    (serves_status (holding w d over) (word_delivered w ∷ []) (empty w)
    (serves_delivered w d over [] (empty w) (serves_none (empty w) (clear w))))

-- After it nothing waits.
poll_clears : (m : Module) (v : Slot) → slot_of m.sci ≡ v → Sound v → (u : ℕ) × (slot_of (run (poll_events m) m).sci ≡ empty u)
unfolding run
poll_clears m v e (clear u) =
    (u, subst (λ (l : List Event). slot_of (run l m).sci ≡ empty u) (sym (quiet_events m u e)) (quiet_slot m u e))
poll_clears m v e (waits w d over) =
    (w, subst (λ (l : List Event). slot_of (run l m).sci ≡ empty w) (sym (word_events m w d over e)) (word_slot m w d over e))

pub poll_empties : (m : Module) → Sound (slot_of m.sci) → (u : ℕ) × (slot_of (run (poll_events m) m).sci ≡ empty u)
poll_empties m k = poll_clears m (slot_of m.sci) refl k

-- ---- holds and polls

pub serves : (xs : List Act) (m : Module) → Quiet xs → Sound (slot_of m.sci) → StaysUndamaged (events_of xs m) m →
    lost (happened (events_of xs m) m) ≡ 0 → Serves (slot_of m.sci) (happened (events_of xs m) m) (slot_of (run (events_of xs m) m).sci)
unfolding events_of happened run Quiet
serves [] m q k u l = serves_none (slot_of m.sci) k
serves (plays Reset ∷ xs) m q k u l = absurd q
serves (plays (Hold pins rxd n) ∷ xs) m q k u l =
    let o : Module = after (Hold pins rxd n) m in
    let h : List Happening = event_happens (Hold pins rxd n) m in
    let r : List Happening = happened (events_of xs o) o in
    let is : h ≡ serial_happens (played_clocks m n) rxd m.sci = hold_happens (played_clocks m n) rxd (held m pins) in
    let at : slot_of o.sci ≡ slot_of (sci.run (clocks (played_clocks m n) rxd) m.sci) = hold_slot pins rxd n m in
    let a : Serves (slot_of m.sci) h (slot_of o.sci) =
    subst (λ (z : List Happening). Serves (slot_of m.sci) z (slot_of o.sci)) (sym is)
    (subst (Serves (slot_of m.sci) (serial_happens (played_clocks m n) rxd m.sci)) (sym at)
    (hold_serves (played_clocks m n) rxd m.sci k (subst (λ (z : List Happening). lost z ≡ 0) is (first_none h r l))
    (subst (λ (z : Slot). Whole z) at (none_flagged o.sci u.0)))) in
    serves_joined (slot_of m.sci) (slot_of o.sci) (slot_of (run (events_of xs o) o).sci) h r a
    (serves xs o q a.sound u.1 (last_none h r l))
serves (plays (event.Access a) ∷ xs) m q k u l = absurd q
serves (polls ∷ xs) m q k u l =
    let ps : List Event = poll_events m in
    let o : Module = run ps m in
    let p : Module = (polled m).state in
    let is : p ≡ o = poll_run m in
    let es : List Event = events_of xs p in
    let h : List Happening = happened ps m in
    let both : happened (ps ++ es) m ≡ h ++ happened es o = happened_joined ps es m in
    let l' : lost (h ++ happened es o) ≡ 0 = subst (λ (z : List Happening). lost z ≡ 0) both l in
    let a : Serves (slot_of m.sci) h (slot_of o.sci) = poll_serves m (slot_of m.sci) refl k in
    let b : Serves (slot_of o.sci) (happened es o) (slot_of (run es o).sci) =
    subst (λ (z : Module). Serves (slot_of z.sci) (happened es z) (slot_of (run es z).sci)) is
    (serves xs p q (subst (λ (z : Module). Sound (slot_of z.sci)) (sym is) a.sound)
    (subst (StaysUndamaged es) (sym is) (undamaged_last ps es m u))
    (subst (λ (z : Module). lost (happened es z) ≡ 0) (sym is) (last_none h (happened es o) l'))) in
    subst (λ (z : List Happening). Serves (slot_of m.sci) z (slot_of (run (ps ++ es) m).sci)) (sym both)
    (subst (λ (z : Module). Serves (slot_of m.sci) (h ++ happened es o) (slot_of z.sci)) (sym (run_joined ps es m))
    (serves_joined (slot_of m.sci) (slot_of o.sci) (slot_of (run es o).sci) h (happened es o) a b))

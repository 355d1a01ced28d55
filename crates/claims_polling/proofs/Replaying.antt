-- In a replay no more clocks than the period lie between two polls, so the rule holds of it. Assumes nothing.
use mathlib.Core.Path.{◌≡◌, refl, sym, ap, subst, ◌∙◌}
use mathlib.Core.Bool.{Bool, true, false, cond, true≢false}
use mathlib.Core.List.{List, [], ◌∷◌, ◌++◌, append_assoc, append-nil}
use Prim.Native.Nat.{ℕ, zero, suc, ◌+◌, ◌-◌, ◌%◌, ◌<◌, ◌≤◌}
use native.Mathlib.Omega.{arith}
use native.Mathlib.Nat.{mod-lt, mod-eq_of_lt, add-mod_left}
use lib.Dec.{eqb, ltb}
use lib.ListN.{length, drop}
use borrow.Author.Tests.{eqb-true, ltb-true, ltb-false}
use Rattle.sci.proofs.Frames.{by_cond}
use Rattle.sci.proofs.Reachable.{Reachable}
use Rattle.qsm.specs.claims.StatusFlags.{SCI, status}
use Rattle.qsm.specs.model.State.{reset_module}
use Rattle.qsm.specs.declared.state.Module.{Module}
use Rattle.qsm.specs.declared.event.Event.{Event}
use Rattle.qsm.specs.declared.event.Event.TheVariants.{Reset, Hold}
use Rattle.trace.specs.Trace.{parsed}
use Rattle.trace.specs.declared.Parsed.{Parsed}
use Rattle.trace.specs.declared.Parsed.TheVariants.{Record, Unknown, Cut}
use Rattle.claims_histories.specs.History.{after, run, Unbroken, log}
use Rattle.tool_lines.specs.Poll.{calls, looked, taking, polled, poll_events}
use Rattle.tool_lines.specs.Schedule.{Act, plays, polls, acts, stops, Scheduled, next, scheduled_for, scheduled, cut}
use Rattle.tool_lines.specs.Replay.{events_of}
use Rattle.tool_lines.proofs.Schedules.{cut_quiet, cut_poll}
use Rattle.claims_polling.specs.Rule.{clocks_in, lost_in, waiting, longest, MovingIn, started}
use Rattle.claims_polling.specs.Replays.{ReplayKept, replayed, quiet, Met}
use Rattle.claims_polling.proofs.Joined.{run_joined, log_joined, unbroken_first, unbroken_last, lost_joined}
use Rattle.claims_polling.proofs.Ruled.{clocks_one, reached, reached_on, from, clears, poll_loses, stays, moving_first, moving_last}
use Rattle.steps.specs.Iterate.{iterate}
use Rattle.sci.specs.model.Status.{has, raise, raise_if, fall, fall_if, mark_seen, fall_seen}
use Rattle.sci.specs.model.Framer.{start_bit, data_bit, stop_bit, fixed, framed}
use Rattle.sci.specs.model.Receiver.{outcome, raised, entered, status_after, receiver_after, received}
use Rattle.sci.specs.model.Transmitter.{sent}
use Rattle.sci.specs.model.Serial.{sampled, clocked, wrote_sccr0, wrote_sccr1, sccr0_guarded, sccr1_guarded}
use Rattle.qsm.specs.model.Map.{decode}
use Rattle.qsm.specs.model.Lanes.{in_map, is_restricted}
use Rattle.qsm.specs.model.Serial.{peek_serial, serial_read, put_serial, serial_unmodelled, serial_guarded}
use Rattle.qsm.specs.model.Word.{peek, put, unmodelled, guarded}
use Rattle.qsm.specs.model.Access.{fetch, fetched, store, stored}
use Rattle.qsm.specs.model.Decision.{admitted, decide_read, stored_by, decide_stored, decide_write}
use Rattle.qsm.specs.model.Event.{clock_module, clocks, after_read, read_value, refused, holds, reads, writes, does}
use Rattle.claims_polling.proofs.Losing.{harmless, harmless_unbroken}
use Rattle.qsm.specs.declared.event.Event.TheVariants as event
use Rattle.tool_lines.specs.Poll as poll

-- ---- how many clocks lie between polls

abbrev clocks_of : Event → ℕ
clocks_of e = clocks_in (e ∷ [])

module _ (period : ℕ) where
  -- So many clocks since the last poll, each poll comes within the period. (After a reset nothing is said.)
  abbrev Paced : ℕ → List Act → Type 0
  Paced c [] = Unit {0}
  Paced c (plays Reset ∷ rest) = Unit {0}
  Paced c (plays (Hold pins rxd n) ∷ rest) = (c + n ≤ period) × Paced (c + n) rest
  Paced c (plays (event.Access a) ∷ rest) = Paced c rest
  Paced c (polls ∷ rest) = Paced 0 rest

  module _ (pos : 0 < period) (pins : ℕ) (rxd : Bool) (rest : List Act) where
    left_paced : (n left : ℕ) → (h : Paced (left % period) rest) → (Paced (left % period) rest → Paced 0 (acts period 0 (Hold pins rxd left) ++ rest)) →
        (over : Bool) → eqb left 0 ≡ over → Paced 0 (cond over [] (acts period 0 (Hold pins rxd left)) ++ rest)
    left_paced n left h on true is =
        let none : left % period ≡ 0 = ap (λ (k : ℕ). k % period) (eqb-true left 0 is) ∙ mod-eq_of_lt pos in
        subst (λ (k : ℕ). Paced k rest) none h
    left_paced n left h on false is = on h

    hold_paced : (k since n : ℕ) → n < k → since < period → Paced ((since + n) % period) rest → Paced since (acts period since (Hold pins rxd n) ++ rest)
    hold_paced zero since n few lt h = absurd (omega arith)
    hold_paced (suc k) since n few lt h = go (ltb n (period - since)) refl (λ more. hold_paced k 0 (n - (period - since)) (omega (arith, more)) pos)
      where
        go : (early : Bool) → ltb n (period - since) ≡ early →
            (period - since ≤ n → Paced ((0 + (n - (period - since))) % period) rest → Paced 0 (acts period 0 (Hold pins rxd (n - (period - since))) ++ rest)) →
            Paced since (acts period since (Hold pins rxd n) ++ rest)
        go true is on =
            let short : since + n < period = omega (arith, ltb-true n (period - since) is) in
            subst (λ (xs : List Act). Paced since (xs ++ rest)) (sym (cut_quiet period since pins rxd n short))
            (omega (arith, short), subst (λ (k : ℕ). Paced k rest) (mod-eq_of_lt short) h)
        go false is on =
            let reaches : period - since ≤ n = ltb-false n (period - since) is in
            let left : ℕ = n - (period - since) in
            let sum : since + n ≡ period + left = omega (arith, reaches) in
            let none : left ≡ 0 + left = omega arith in
            let same : (since + n) % period ≡ left % period = ap (λ (x : ℕ). x % period) sum ∙ add-mod_left period left in
            subst (λ (xs : List Act). Paced since (xs ++ rest)) (sym (cut_poll period since pins rxd n pos lt reaches)) (
              omega arith,
              left_paced n left (subst (λ (k : ℕ). Paced k rest) same h)
                  (λ q. on reaches (subst (λ (k : ℕ). Paced (k % period) rest) none q)) (eqb left 0) refl,
            )

  module _ (pos : 0 < period) where
    next_paced : (on : ℕ → ℕ → List ℕ → Scheduled) → ((i j : ℕ) (u : List ℕ) → i < period → Paced i (on i j u).acts) → (since clock : ℕ) (t : List ℕ) (p : Parsed) →
        since < period → Paced since (next on period since clock t p).acts
    next_paced on k since clock t (Record Reset n) lt = tt
    next_paced on k since clock t (Record (Hold pins rxd n) m) lt =
        by_cond (λ (s : Scheduled). Paced since s.acts) (eqb (stops clock (Hold pins rxd n)) 0)
        (λ _. hold_paced pos pins rxd (on ((since + n) % period) (clock + n) (drop m t)).acts (suc n) since n (omega arith) lt
        (k ((since + n) % period) (clock + n) (drop m t) (mod-lt (since + n) pos)))
        (λ _. tt)
    next_paced on k since clock t (Record (event.Access a) n) lt =
        by_cond (λ (s : Scheduled). Paced since s.acts) (eqb (stops clock (event.Access a)) 0) (λ _. k since clock (drop n t) lt) (λ _. tt)
    next_paced on k since clock t Unknown lt = tt
    next_paced on k since clock t Cut lt = tt

    for_paced : (k since clock : ℕ) (t : List ℕ) → since < period → Paced since (scheduled_for k period since clock t).acts
    unfolding scheduled_for
    for_paced zero since clock t lt = tt
    for_paced (suc k) since clock t lt =
        by_cond (λ (s : Scheduled). Paced since s.acts) (eqb (length t) 0) (λ _. tt)
        (λ _. next_paced (scheduled_for k period) (λ i j u h. for_paced k i j u h) since clock t (parsed t) lt)

-- ---- the rule

poll_run_by : (m : Module) (read : ℕ) (b : Bool) → (taking (looked m) read b).state ≡ run (poll.status_read ∷ cond b (poll.data_read ∷ []) []) m
unfolding run
poll_run_by m read true = refl
poll_run_by m read false = refl

pub poll_run : (m : Module) → (polled m).state ≡ run (poll_events m) m
unfolding polled
poll_run m = poll_run_by m (status m SCI) (calls (status m SCI))

one_run_holds : (cur : List Event) (e : Event) (m : Module) → run (cur ++ (e ∷ [])) m ≡ after e (run cur m)
unfolding run
one_run_holds cur e m = run_joined cur (e ∷ []) m

clocks_last : (cur : List Event) (e : Event) → clocks_in (cur ++ (e ∷ [])) ≡ clocks_in cur + clocks_of e
clocks_last [] e = omega arith
clocks_last (f ∷ cur) e = omega (arith, clocks_one f (cur ++ (e ∷ [])), clocks_one f cur, clocks_last cur e)

module _ (moves : Bool) (period : ℕ) where
  -- What has been played since the last poll, and what is to be played.
  abbrev all : List Event → List Act → Module → List Event
  all cur xs m = cur ++ events_of xs (run cur m)

  record Holds (cur : List Event) (xs : List Act) (m : Module) (c : ℕ) : Type 0 where
    reach : Reachable m.sci
    clear : waiting m ≡ false
    few : clocks_in cur ≤ c
    within : c ≤ longest moves m
    close : period ≤ longest moves m
    unbroken : Unbroken (all cur xs m) m
    moving : MovingIn moves (all cur xs m) m

  -- One event more since the last poll.
  more : (cur : List Event) (e : Event) (xs : List Act) (m : Module) → all (cur ++ (e ∷ [])) xs m ≡ all cur (plays e ∷ xs) m
  unfolding events_of
  more cur e xs m =
      ap (λ (n : Module). (cur ++ (e ∷ [])) ++ events_of xs n) (one_run_holds cur e m) ∙ append_assoc cur (e ∷ []) (events_of xs (after e (run cur m)))

  stepped : (cur : List Event) (e : Event) (xs : List Act) (m : Module) (c k : ℕ) → Holds cur (plays e ∷ xs) m c → clocks_of e ≤ k → c + k ≤ longest moves m →
      Holds (cur ++ (e ∷ [])) xs m (c + k)
  stepped cur e xs m c k h few within =
      record {
        reach = h.reach;
        clear = h.clear;
        few = omega (arith, clocks_last cur e, h.few);
        within = within;
        close = h.close;
        unbroken = subst (λ (es : List Event). Unbroken es m) (sym (more cur e xs m)) h.unbroken;
        moving = subst (λ (es : List Event). MovingIn moves es m) (sym (more cur e xs m)) h.moving;
      }

  abbrev Lost : List Event → List Act → Module → Type 0
  Lost cur xs m = lost_in (log (all cur xs m) m) ≡ 0

  on_with : (cur : List Event) (e : Event) (xs : List Act) (m : Module) → Lost (cur ++ (e ∷ [])) xs m → Lost cur (plays e ∷ xs) m
  on_with cur e xs m h = subst (λ (es : List Event). lost_in (log es m) ≡ 0) (more cur e xs m) h

  kept_from : (xs : List Act) (cur : List Event) (m : Module) (c : ℕ) → Paced period c xs → Holds cur xs m c → Lost cur xs m
  unfolding events_of run
  kept_from [] cur m c p h =
      let none = append-nil cur in
      from moves (cur ++ []) m h.reach h.clear h.unbroken
      (omega (arith, ap clocks_in none, h.few, h.within)) h.moving
  kept_from (plays Reset ∷ xs) cur m c p h =
      absurd (true≢false (unbroken_last cur (Reset ∷ events_of xs (after Reset (run cur m))) m h.unbroken).0)
  kept_from (plays (Hold pins rxd n) ∷ xs) cur m c p h =
      on_with cur (Hold pins rxd n) xs m
      (kept_from xs (cur ++ (Hold pins rxd n ∷ [])) m (c + n) p.1
      (stepped cur (Hold pins rxd n) xs m c n h (omega arith) (omega (arith, p.0, h.close))))
  kept_from (plays (event.Access a) ∷ xs) cur m c p h =
      let same : c ≡ c + 0 = omega arith in
      on_with cur (event.Access a) xs m
      (kept_from xs (cur ++ (event.Access a ∷ [])) m (c + 0) (subst (λ (k : ℕ). Paced period k xs) same p)
      (stepped cur (event.Access a) xs m c 0 h (omega arith) (omega (arith, h.within))))
  kept_from (polls ∷ xs) cur m c p h =
      let a : Module = run cur m in
      let ps : List Event = poll_events a in
      let b : Module = run ps a in
      let fs : List Event = events_of xs b in
      let is : all cur (polls ∷ xs) m ≡ cur ++ (ps ++ fs) = ap (λ (n : Module). cur ++ (ps ++ events_of xs n)) (poll_run a) in
      let u : Unbroken (cur ++ (ps ++ fs)) m = subst (λ (es : List Event). Unbroken es m) is h.unbroken in
      let v : MovingIn moves (cur ++ (ps ++ fs)) m = subst (λ (es : List Event). MovingIn moves es m) is h.moving in
      let u₁ : Unbroken cur m = unbroken_first cur (ps ++ fs) m u in
      let u₂ : Unbroken (ps ++ fs) a = unbroken_last cur (ps ++ fs) m u in
      let u₃ : Unbroken ps a = unbroken_first ps fs a u₂ in
      let v₂ : MovingIn moves (ps ++ fs) a = moving_last moves cur (ps ++ fs) m u₁ v in
      let d = stays cur m u₁ in
      let e = stays ps a u₃ in
      let same : longest moves b ≡ longest moves m = rw (e.0, e.1, d.0, d.1) in
      let lost : lost_in (log (ps ++ fs) a) ≡ lost_in (log ps a) + lost_in (log fs b) = ap lost_in (log_joined ps fs a) ∙ lost_joined (log ps a) (log fs b) in
      let later : lost_in (log fs b) ≡ 0 =
      kept_from xs [] b 0 p
      (record {
        reach = reached_on ps a (reached_on cur m h.reach);
        clear = clears a;
        few = omega arith;
        within = omega arith;
        close = omega (arith, same, h.close);
        unbroken = unbroken_last ps fs a u₂;
        moving = moving_last moves ps fs a u₃ v₂;
      }) in
      ap (λ (es : List Event). lost_in (log es m)) is
      ∙ ap lost_in (log_joined cur (ps ++ fs) m) ∙ lost_joined (log cur m) (log (ps ++ fs) a)
      ∙ omega (
        arith,
        from moves cur m h.reach h.clear u₁ (omega (arith, h.few, h.within)) (moving_first moves cur (ps ++ fs) m v),
        lost,
        poll_loses a,
        later,
      )

pub replay_kept : ReplayKept
unfolding run
replay_kept moves past period since clock t clear lt close u v =
    kept_from moves period (scheduled period since clock t).acts [] (run past reset_module) since (for_paced period (omega arith) (length t) since clock t lt)
    (record { reach = reached past; clear = clear; few = omega arith; within = omega arith; close = close; unbroken = u; moving = v })

-- ---- a replay that the rule is about

harmless_quiet : harmless (replayed 3 0 0 quiet (started false)) ≡ true
unfolding iterate has raise raise_if fall fall_if mark_seen fall_seen start_bit data_bit stop_bit fixed framed outcome raised entered status_after receiver_after received sent sampled clocked wrote_sccr0 wrote_sccr1 sccr0_guarded sccr1_guarded reset_module decode in_map is_restricted peek_serial serial_read put_serial serial_unmodelled serial_guarded peek put unmodelled guarded fetch fetched store stored admitted decide_read stored_by decide_stored decide_write clock_module clocks after_read read_value refused holds reads writes does run polled cut scheduled_for events_of
harmless_quiet = refl

pub met : Met
unfolding iterate has raise raise_if fall fall_if mark_seen fall_seen start_bit data_bit stop_bit fixed framed outcome raised entered status_after receiver_after received sent sampled clocked wrote_sccr0 wrote_sccr1 sccr0_guarded sccr1_guarded reset_module decode in_map is_restricted peek_serial serial_read put_serial serial_unmodelled serial_guarded peek put unmodelled guarded fetch fetched store stored admitted decide_read stored_by decide_stored decide_write clock_module clocks after_read read_value refused holds reads writes does run polled cut scheduled_for events_of
met =
    record {
      clear = refl;
      within = omega arith;
      unbroken = harmless_unbroken (replayed 3 0 0 quiet (started false)) (started false) harmless_quiet;
      moving = λ e. absurd (true≢false e);
    }

-- In a replay no more clocks than the period lie between two polls, so each word is in time. Assumes nothing.
use mathlib.Core.Path.{◌≡◌, refl, sym, ap, subst, ◌∙◌}
use mathlib.Core.Bool.{Bool, true, false, cond, false≢true}
use mathlib.Core.List.{List, [], ◌∷◌, ◌++◌}
use Prim.Native.Nat.{ℕ, zero, suc, ◌+◌, ◌-◌, ◌%◌, ◌<◌, ◌≤◌}
use native.Mathlib.Omega.{arith}
use native.Mathlib.Nat.{mod-lt, mod-eq_of_lt, add-mod_left}
use lib.Dec.{eqb, ltb}
use lib.ListN.{length, drop}
use borrow.Author.Tests.{eqb-true, ltb-true, ltb-false}
use Rattle.sci.specs.model.Receiver.{full}
use Rattle.sci.specs.declared.serial.Sci.{Sci}
use Rattle.sci.proofs.Frames.{by_cond}
use Rattle.qsm.specs.model.State.{reset_module}
use Rattle.qsm.specs.model.Event.{passes, held}
use Rattle.qsm.specs.claims.StatusFlags.{SCI, status}
use Rattle.qsm.specs.declared.state.Module.{Module}
use Rattle.qsm.specs.declared.event.Event.TheVariants.{Reset, Hold}
use Rattle.qsm.specs.declared.event.Event.TheVariants as event
use Rattle.trace.specs.Trace.{parsed}
use Rattle.trace.specs.declared.Parsed.{Parsed}
use Rattle.trace.specs.declared.Parsed.TheVariants.{Record, Unknown, Cut}
use Rattle.tool_lines.specs.Poll.{calls, polled, poll_events}
use Rattle.tool_lines.specs.Schedule.{Act, plays, polls, acts, stops, Scheduled, next, scheduled_for, scheduled}
use Rattle.tool_lines.specs.Replay.{events_of}
use Rattle.tool_lines.proofs.Schedules.{cut_quiet, cut_poll}
use Rattle.claims_histories.specs.History.{after, run, played_clocks}
use Rattle.claims_histories.proofs.Follows.{follows}
use Rattle.claims_polling.specs.Rule.{waiting, longest}
use Rattle.claims_polling.specs.Replays.{replayed}
use Rattle.claims_polling.proofs.Ruled.{clears}
use Rattle.claims_polling.proofs.Replaying.{poll_run}
use Rattle.claims_deadlines.specs.Deadline.{age_for, InTime, ReplayInTime, ReplayServed}
use Rattle.claims_deadlines.proofs.Polling.{access_waits, reset_waits, hold_in, hold_left, played_few, in_joined, poll_in, served}

module _ (period : ℕ) (pos : 0 < period) where
  -- So many clocks since the last poll or reset, each poll comes within the period.
  abbrev Paced : ℕ → List Act → Type 0
  Paced c [] = Unit {0}
  Paced c (plays Reset ∷ rest) = Paced 0 rest
  Paced c (plays (Hold pins rxd n) ∷ rest) = (c + n ≤ period) × Paced (c + n) rest
  Paced c (plays (event.Access a) ∷ rest) = Paced c rest
  Paced c (polls ∷ rest) = Paced 0 rest

  module _ (pins : ℕ) (rxd : Bool) (rest : List Act) where
    left_paced : (left : ℕ) → Paced (left % period) rest → (Paced (left % period) rest → Paced 0 (acts period 0 (Hold pins rxd left) ++ rest)) →
        (over : Bool) → eqb left 0 ≡ over → Paced 0 (cond over [] (acts period 0 (Hold pins rxd left)) ++ rest)
    left_paced left h on true is =
        let none : left % period ≡ 0 = ap (λ (k : ℕ). k % period) (eqb-true left 0 is) ∙ mod-eq_of_lt pos in
        subst (λ (k : ℕ). Paced k rest) none h
    left_paced left h on false is = on h

    hold_paced : (k since n : ℕ) → n < k → since < period → Paced ((since + n) % period) rest → Paced since (acts period since (Hold pins rxd n) ++ rest)
    hold_paced zero since n few lt h = absurd (omega arith)
    hold_paced (suc k) since n few lt h = go (ltb n (period - since)) refl (λ more. hold_paced k 0 (n - (period - since)) (omega (arith, more)) pos)
      where
        go : (early : Bool) → ltb n (period - since) ≡ early →
            (period - since ≤ n → Paced ((0 + (n - (period - since))) % period) rest → Paced 0 (acts period 0 (Hold pins rxd (n - (period - since))) ++ rest)) →
            Paced since (acts period since (Hold pins rxd n) ++ rest)
        go true is on =
            let short : since + n < period = omega (arith, ltb-true n (period - since) is) in
            subst (λ (xs : List Act). Paced since (xs ++ rest)) (sym (cut_quiet period since pins rxd n short))
            (omega (arith, short), subst (λ (k : ℕ). Paced k rest) (mod-eq_of_lt short) h)
        go false is on =
            let reaches : period - since ≤ n = ltb-false n (period - since) is in
            let left : ℕ = n - (period - since) in
            let sum : since + n ≡ period + left = omega (arith, reaches) in
            let none : left ≡ 0 + left = omega arith in
            let same : (since + n) % period ≡ left % period = ap (λ (x : ℕ). x % period) sum ∙ add-mod_left period left in
            subst (λ (xs : List Act). Paced since (xs ++ rest)) (sym (cut_poll period since pins rxd n pos lt reaches)) (
              omega arith,
              left_paced left (subst (λ (k : ℕ). Paced k rest) same h)
                  (λ q. on reaches (subst (λ (k : ℕ). Paced (k % period) rest) none q)) (eqb left 0) refl,
            )

  next_paced : (on : ℕ → ℕ → List ℕ → Scheduled) → ((i j : ℕ) (u : List ℕ) → i < period → Paced i (on i j u).acts) → (since clock : ℕ) (t : List ℕ) (p : Parsed) →
      since < period → Paced since (next on period since clock t p).acts
  next_paced on k since clock t (Record Reset n) lt = k 0 0 (drop n t) pos
  next_paced on k since clock t (Record (Hold pins rxd n) m) lt =
      by_cond (λ (s : Scheduled). Paced since s.acts) (eqb (stops clock (Hold pins rxd n)) 0)
      (λ _. hold_paced pins rxd (on ((since + n) % period) (clock + n) (drop m t)).acts (suc n) since n (omega arith) lt
      (k ((since + n) % period) (clock + n) (drop m t) (mod-lt (since + n) pos)))
      (λ _. tt)
  next_paced on k since clock t (Record (event.Access a) n) lt =
      by_cond (λ (s : Scheduled). Paced since s.acts) (eqb (stops clock (event.Access a)) 0) (λ _. k since clock (drop n t) lt) (λ _. tt)
  next_paced on k since clock t Unknown lt = tt
  next_paced on k since clock t Cut lt = tt

  for_paced : (k since clock : ℕ) (t : List ℕ) → since < period → Paced since (scheduled_for k period since clock t).acts
  unfolding scheduled_for
  for_paced zero since clock t lt = tt
  for_paced (suc k) since clock t lt =
      by_cond (λ (s : Scheduled). Paced since s.acts) (eqb (length t) 0) (λ _. tt)
      (λ _. next_paced (scheduled_for k period) (λ i j u h. for_paced k i j u h) since clock t (parsed t) lt)

  -- A word that waits came since the last poll.
  paced_in : (limit : ℕ) → period ≤ limit → (xs : List Act) (c : ℕ) (m : Module) (k : ℕ) → Paced c xs → (waiting m ≡ true → k < c) → c ≤ period →
      InTime limit (events_of xs m) m k
  unfolding InTime events_of
  paced_in limit b [] c m k p h l = tt
  paced_in limit b (plays Reset ∷ xs) c m k p h l =
      paced_in limit b xs 0 (after Reset m) k p (λ e. absurd (false≢true (sym (reset_waits m) ∙ e))) (omega arith)
  paced_in limit b (plays (Hold pins rxd n) ∷ xs) c m k p h l =
      let i : ℕ = played_clocks m n in
      let few : i ≤ n = played_few (passes m n) n in
      let q : Module = held m pins in
      let rest : ℕ = limit - (c + n) in
      let within : c + n ≤ period = p.0 in
      let h' : waiting q ≡ true → k + (i + rest) < limit = λ e. omega (arith, h e, few, within, b) in
      let l' : i + rest ≤ limit = omega (arith, few, within, b) in (
        hold_in limit i rest rxd q k h' l',
        paced_in limit b xs (c + n) (after (Hold pins rxd n) m) (age_for i rxd q k) p.1
            (λ e. let old : age_for i rxd q k + rest < limit =
            hold_left limit i rest rxd q k h' l' (ap (λ (s : Sci). full s.status) (sym (follows (Hold pins rxd n) m)) ∙ e) in
            omega (arith, old, within, b))
            within,
      )
  paced_in limit b (plays (event.Access a) ∷ xs) c m k p h l =
      paced_in limit b xs c (after (event.Access a) m) k p (λ e. h (access_waits a m e)) l
  paced_in limit b (polls ∷ xs) c m k p h l =
      in_joined limit (poll_events m) (events_of xs (polled m).state) m k (poll_in limit (calls (status m SCI)) m k)
      (λ j. subst (λ (n : Module). InTime limit (events_of xs (polled m).state) n j) (poll_run m)
      (paced_in limit b xs 0 (polled m).state j p
      (λ e. absurd (false≢true (sym (ap waiting (poll_run m) ∙ clears m) ∙ e))) (omega arith)))

pub in_time_holds : ReplayInTime
in_time_holds limit period since clock t m k clear lt b =
    let pos : 0 < period = omega arith in
    paced_in period pos limit b (scheduled period since clock t).acts since m k (for_paced period pos (length t) since clock t lt)
    (λ e. absurd (false≢true (sym clear ∙ e))) (omega arith)

pub replay_served_holds : ReplayServed
replay_served_holds moves past period since clock t on clear lt b keeps u =
    let m : Module = run past reset_module in
    served moves past (replayed period since clock t m) on clear keeps u (in_time_holds (longest moves m) period since clock t m 0 clear lt b)

-- Polls fall where they are due, hold by hold. Assumes nothing.
use mathlib.Core.Path.{◌≡◌, refl, ap, subst, ◌∙◌}
use mathlib.Core.Bool.{Bool, true, false, cond}
use mathlib.Core.List.{List, [], ◌++◌}
use Prim.Native.Nat.{ℕ, zero, suc, ◌+◌, ◌-◌, ◌*◌, ◌%◌, ◌<◌, ◌≤◌}
use native.Mathlib.Omega.{arith}
use native.Mathlib.Nat.{mod-eq_of_lt, add-mod_left, mod-lt}
use lib.Dec.{eqb, ltb}
use lib.ListN.{length, drop}
use borrow.Author.Tests.{eqb-true, ltb-true, ltb-false}
use Rattle.qsm.specs.declared.event.Event.{Event}
use Rattle.qsm.specs.declared.event.Event.TheVariants.{Reset, Hold}
use Rattle.qsm.specs.declared.event.Event.TheVariants as event
use Rattle.trace.specs.Trace.{parsed}
use Rattle.trace.specs.declared.Parsed.{Parsed}
use Rattle.trace.specs.declared.Parsed.TheVariants.{Record, Unknown, Cut}
use Rattle.tool_lines.specs.Schedule.{Act, acts, since_after, clock_after, stops, Scheduled, stopped, followed, next, scheduled_for}
use Rattle.tool_lines.proofs.Schedules.{cut_quiet, cut_poll}
use Rattle.claims_schedule.specs.Polls.{OnTime, PollsOnTime}

module _ (period : ℕ) (some : 0 < period) where
  -- With so many clocks since the last poll, whichever that was.
  abbrev Due : ℕ → List Act → Type 0
  Due since played = (n : ℕ) → OnTime period (period * n + since) n played

  early : (n since : ℕ) → since < period → period * n + since < period * (n + 1)
  early n since h = omega arith

  -- ---- a hold

  module _ (pins : ℕ) (rxd : Bool) (rest : List Act) where
    quiet : (since more : ℕ) → since + more < period → Due ((since + more) % period) rest → Due since (acts period since (Hold pins rxd more) ++ rest)
    quiet since more lt due n =
        rw (cut_quiet period since pins rxd more lt) (
          omega arith,
          omega arith,
          subst (λ (c : ℕ). OnTime period c n rest) (let same : (since + more) % period ≡ since + more = mod-eq_of_lt lt in omega (arith, same)) (due n),
        )

    -- A hold that reaches its next poll, and what is left of it then.
    module _ (since more : ℕ) (lt : since < period) (reaches : period - since ≤ more) (due : Due ((since + more) % period) rest) where
      left : ℕ
      left = more - (period - since)

      as_left : (since + more) % period ≡ left % period
      unfolding left
      as_left =
          let sum : since + more ≡ period + (more - (period - since)) = omega arith in
          ap (λ (x : ℕ). x % period) sum ∙ add-mod_left period (more - (period - since))

      behind : (t : Bool) → eqb left 0 ≡ t → Due 0 (acts period 0 (Hold pins rxd left) ++ rest) → Due 0 (cond t [] (acts period 0 (Hold pins rxd left)) ++ rest)
      behind true is on n =
          let none : (since + more) % period ≡ 0 = as_left ∙ ap (λ (x : ℕ). x % period) (eqb-true left 0 is) ∙ mod-eq_of_lt some in
          rw none at (due n)
      behind false is on n = on n

      poll : Due 0 (acts period 0 (Hold pins rxd left) ++ rest) → Due since (acts period since (Hold pins rxd more) ++ rest)
      unfolding left
      poll on n =
          rw (cut_poll period since pins rxd more some lt reaches) (
            early n since lt,
            omega arith,
            (
              omega arith,
              subst (λ (c : ℕ). OnTime period c (n + 1) (cond (eqb left 0) [] (acts period 0 (Hold pins rxd left)) ++ rest))
                  (let at : period * (n + 1) + 0 ≡ period * n + since + (period - since) = omega arith in at)
                  (behind (eqb left 0) refl on (n + 1)),
            ),
          )

    hold_by : (fuel : ℕ) → ((since more : ℕ) → more ≤ fuel → since < period → Due ((since + more) % period) rest → Due since (acts period since (Hold pins rxd more) ++ rest))
        → (since more : ℕ) → more ≤ suc fuel → since < period → Due ((since + more) % period) rest → (t : Bool) → ltb (since + more) period ≡ t
        → Due since (acts period since (Hold pins rxd more) ++ rest)
    unfolding left
    hold_by fuel on since more enough lt due true is = quiet since more (ltb-true (since + more) period is) due
    hold_by fuel on since more enough lt due false is =
        let past = ltb-false (since + more) period is in
        let reaches : period - since ≤ more = omega (arith, past) in
        let l = left since more lt reaches due in
        let none : 0 + l ≡ l = omega arith in
        poll since more lt reaches due
        (on 0 l (omega arith) some (rw (ap (λ (x : ℕ). x % period) none, ← (as_left since more lt reaches due)) due))

    hold : (fuel since more : ℕ) → more ≤ fuel → since < period → Due ((since + more) % period) rest → Due since (acts period since (Hold pins rxd more) ++ rest)
    hold zero since more enough lt due = quiet since more (omega arith) due
    hold (suc fuel) since more enough lt due = hold_by fuel (hold fuel) since more enough lt due (ltb (since + more) period) refl

  -- ---- a trace

  event_on_time : (since clock : ℕ) (e : Event) (rest : List Act) → since < period → Due (since_after period since e) rest → Due since (acts period since e ++ rest)
  event_on_time since clock Reset rest lt due n =
      let none : period * 0 + 0 ≡ 0 = omega arith in
      (early n since lt, subst (λ (c : ℕ). OnTime period c 0 rest) none (due 0))
  event_on_time since clock (Hold pins rxd more) rest lt due n = hold pins rxd rest more since more (omega arith) lt due n
  event_on_time since clock (event.Access a) rest lt due n = (early n since lt, due n)

  after : (since : ℕ) (e : Event) → since < period → since_after period since e < period
  after since Reset lt = some
  after since (Hold pins rxd more) lt = mod-lt (since + more) some
  after since (event.Access a) lt = lt

  by_stop : (since clock : ℕ) (e : Event) (o : Scheduled) → since < period → Due (since_after period since e) o.acts → (t : Bool)
      → Due since (cond t (followed (acts period since e) o) (stopped (stops clock e))).acts
  by_stop since clock e o lt due true n = event_on_time since clock e o.acts lt due n
  by_stop since clock e o lt due false n = early n since lt

  by_record : (on : ℕ → ℕ → List ℕ → Scheduled) (since clock : ℕ) (t : List ℕ) (p : Parsed) → since < period
      → ((passed now : ℕ) (u : List ℕ) → passed < period → Due passed (on passed now u).acts) → Due since (next on period since clock t p).acts
  by_record on since clock t (Record e size) lt due n =
      by_stop since clock e (on (since_after period since e) (clock_after clock e) (drop size t)) lt
      (due (since_after period since e) (clock_after clock e) (drop size t) (after since e lt)) (eqb (stops clock e) 0) n
  by_record on since clock t Unknown lt due n = early n since lt
  by_record on since clock t Cut lt due n = early n since lt

  by_end : (since : ℕ) (o : Scheduled) → since < period → Due since o.acts → (t : Bool) → Due since (cond t (stopped 0) o).acts
  by_end since o lt due true n = early n since lt
  by_end since o lt due false n = due n

  on_time : (k since clock : ℕ) (t : List ℕ) → since < period → Due since (scheduled_for k period since clock t).acts
  unfolding scheduled_for
  on_time zero since clock t lt n = early n since lt
  on_time (suc k) since clock t lt n =
      by_end since (next (scheduled_for k period) period since clock t (parsed t)) lt
      (by_record (scheduled_for k period) since clock t (parsed t) lt (λ passed now u h. on_time k passed now u h)) (eqb (length t) 0) n

pub polls_on_time : PollsOnTime
polls_on_time period t some =
    let none : period * 0 + 0 ≡ 0 = omega arith in
    subst (λ (c : ℕ). OnTime period c 0 (scheduled_for (length t) period 0 0 t).acts) none (on_time period some (length t) 0 0 t some 0)

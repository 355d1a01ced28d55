-- A hold that is cut for polls leaves RXD's levels as they were, clock by clock. Assumes nothing.
use mathlib.Core.Path.{◌≡◌, refl, ap, sym, subst, ◌∙◌}
use mathlib.Core.Bool.{Bool, true, false, cond}
use mathlib.Core.List.{List, [], ◌∷◌, ◌++◌}
use Prim.Native.Nat.{ℕ, zero, suc, ◌+◌, ◌-◌, ◌%◌, ◌<◌, ◌≤◌}
use native.Mathlib.Omega.{arith}
use native.Mathlib.Nat.{mod-lt}
use lib.Dec.{eqb, ltb}
use lib.ListN.{length, drop, replicate}
use borrow.Author.Tests.{eqb-true, ltb-true, ltb-false}
use Rattle.qsm.specs.model.Event.{clock_limit}
use Rattle.qsm.specs.claims.StatusFlags.{SCI, status}
use Rattle.qsm.specs.declared.state.Module.{Module}
use Rattle.qsm.specs.declared.event.Access.TheVariants.{Read}
use Rattle.qsm.specs.declared.event.Event.{Event}
use Rattle.qsm.specs.declared.event.Event.TheVariants.{Reset, Hold}
use Rattle.qsm.specs.declared.event.Event.TheVariants as event
use Rattle.trace.specs.Trace.{parsed}
use Rattle.trace.specs.declared.Parsed.{Parsed}
use Rattle.trace.specs.declared.Parsed.TheVariants.{Record, Unknown, Cut}
use Rattle.tool_lines.specs.Poll.{calls, polled}
use Rattle.tool_lines.specs.Poll as poll
use Rattle.tool_lines.specs.Schedule.{Act, plays, polls, acts, reaches, stopped, followed, Scheduled, next, scheduled_for, scheduled}
use Rattle.tool_lines.specs.Replay.{events_of}
use Rattle.tool_lines.proofs.Schedules.{cut_quiet, cut_poll}
use Rattle.claims_histories.specs.History.{after, run, played_clocks}
use Rattle.claims_histories.specs.Sentence.{rxd_in}
use Rattle.claims_histories.proofs.Room.{access_count, hold_count, reset_count, all_played}
use Rattle.claims_polling.proofs.Replaying.{poll_run}
use Rattle.claims_through.specs.Replayed.{event_levels, held_levels, AllHeld, held_next, held_for, held_in, TraceLevels}

pub all_held : AllHeld
unfolding rxd_in held_levels
all_held [] m h = refl
all_held (Reset ∷ es) m h = all_held es (after Reset m) (omega (arith, h, reset_count m))
all_held (Hold pins rxd n ∷ es) m h =
    let p : played_clocks m n ≡ n = all_played m n (omega (arith, h)) in
    let c : (after (Hold pins rxd n) m).clock ≡ m.clock + n = hold_count pins rxd n m ∙ ap (λ (k : ℕ). m.clock + k) p in
    ap (λ (k : ℕ). replicate k rxd ++ rxd_in es (after (Hold pins rxd n) m)) p
    ∙ ap (λ (l : List Bool). replicate n rxd ++ l) (all_held es (after (Hold pins rxd n) m) (omega (arith, h, c)))
all_held (event.Access a ∷ es) m h = all_held es (after (event.Access a) m) (omega (arith, h, access_count a m))

-- ---- acts

unfoldable pub act_levels : List Act → List Bool
act_levels [] = []
act_levels (plays e ∷ xs) = event_levels e ++ act_levels xs
act_levels (polls ∷ xs) = act_levels xs

-- No hold of them is refused.
unfoldable pub Fits : ℕ → List Act → Type 0
Fits c [] = Unit {0}
Fits c (plays Reset ∷ xs) = Fits 0 xs
Fits c (plays (Hold pins rxd n) ∷ xs) = (c + n ≤ clock_limit) × Fits (c + n) xs
Fits c (plays (event.Access a) ∷ xs) = Fits c xs
Fits c (polls ∷ xs) = Fits c xs

pub record Good (c : ℕ) (xs : List Act) (ls : List Bool) : Type 0 where
  pub fits : Fits c xs
  pub same : act_levels xs ≡ ls

rep_add : (d l n : ℕ) (x : Bool) (ls : List Bool) → d + l ≡ n → replicate d x ++ (replicate l x ++ ls) ≡ replicate n x ++ ls
rep_add zero l n x ls e = let z : l ≡ n = omega (arith, e) in ap (λ (k : ℕ). replicate k x ++ ls) z
rep_add (suc d) l zero x ls e = absurd (omega (arith, e))
rep_add (suc d) l (suc n) x ls e = ap (λ (r : List Bool). x ∷ r) (rep_add d l n x ls (omega (arith, e)))

module _ (period : ℕ) (pos : 0 < period) where
  module _ (pins : ℕ) (rxd : Bool) (rest : List Act) (ls : List Bool) where
    left_good : (c left : ℕ) → Good (c + left) rest ls → (Good (c + left) rest ls → Good c (acts period 0 (Hold pins rxd left) ++ rest) (replicate left rxd ++ ls)) →
        (over : Bool) → eqb left 0 ≡ over → Good c (cond over [] (acts period 0 (Hold pins rxd left)) ++ rest) (replicate left rxd ++ ls)
    left_good c left h on true is =
        let none : left ≡ 0 = eqb-true left 0 is in
        let e : c + left ≡ c = omega (arith, none) in
        subst (λ (k : ℕ). Good c rest (replicate k rxd ++ ls)) (sym none) (subst (λ (k : ℕ). Good k rest ls) e h)
    left_good c left h on false is = on h

    pub hold_good : (k since c n : ℕ) → n < k → since < period → c + n ≤ clock_limit → Good (c + n) rest ls →
        Good c (acts period since (Hold pins rxd n) ++ rest) (replicate n rxd ++ ls)
    unfolding Fits act_levels
    hold_good zero since c n few lt room h = absurd (omega arith)
    hold_good (suc k) since c n few lt room h =
        go (ltb n (period - since)) refl
        (λ more. hold_good k 0 (c + (period - since)) (n - (period - since)) (omega (arith, more)) pos (omega (arith, more, room)))
      where
        go : (early : Bool) → ltb n (period - since) ≡ early →
            (period - since ≤ n → Good (c + (period - since) + (n - (period - since))) rest ls →
            Good (c + (period - since)) (acts period 0 (Hold pins rxd (n - (period - since))) ++ rest) (replicate (n - (period - since)) rxd ++ ls)) →
            Good c (acts period since (Hold pins rxd n) ++ rest) (replicate n rxd ++ ls)
        go true is on =
            let short : since + n < period = omega (arith, ltb-true n (period - since) is) in
            subst (λ (xs : List Act). Good c (xs ++ rest) (replicate n rxd ++ ls)) (sym (cut_quiet period since pins rxd n short))
            (record { fits = (room, h.fits); same = ap (λ (l : List Bool). replicate n rxd ++ l) h.same })
        go false is on =
            let more : period - since ≤ n = ltb-false n (period - since) is in
            let d : ℕ = period - since in
            let left : ℕ = n - d in
            let sum : d + left ≡ n = omega (arith, more) in
            let at : c + n ≡ c + d + left = omega (arith, sum) in
            let inner : Good (c + d) (cond (eqb left 0) [] (acts period 0 (Hold pins rxd left)) ++ rest) (replicate left rxd ++ ls) =
            left_good (c + d) left (subst (λ (k : ℕ). Good k rest ls) at h) (on more) (eqb left 0) refl in
            subst (λ (xs : List Act). Good c (xs ++ rest) (replicate n rxd ++ ls)) (sym (cut_poll period since pins rxd n pos lt more))
            (record {
              fits = (omega (arith, more, room), inner.fits);
              same =
                  ap (λ (l : List Bool). replicate d rxd ++ l) inner.same ∙ rep_add d left n rxd ls sum;
            })

  next_good : (on : ℕ → ℕ → List ℕ → Scheduled) (held : ℕ → List ℕ → List Bool) →
      ((i j : ℕ) (u : List ℕ) → i < period → Good j (on i j u).acts (held j u)) → (since clock : ℕ) (t : List ℕ) (p : Parsed) → since < period →
      Good clock (next on period since clock t p).acts (held_next held clock t p)
  unfolding Fits act_levels
  next_good on held k since clock t (Record Reset n) lt =
      let g : Good 0 (on 0 0 (drop n t)).acts (held 0 (drop n t)) = k 0 0 (drop n t) pos in
      record { fits = g.fits; same = g.same }
  next_good on held k since clock t (Record (Hold pins rxd n) b) lt = go (ltb clock_limit (clock + n)) refl
    where
      go : (o : Bool) → ltb clock_limit (clock + n) ≡ o →
          Good clock (cond (eqb (cond o 10 0) 0) (followed (acts period since (Hold pins rxd n)) (on ((since + n) % period) (clock + n) (drop b t))) (stopped (cond o 10 0))).acts
          (cond (eqb (cond o 10 0) 0) (replicate n rxd ++ held (clock + n) (drop b t)) [])
      go true e = record { fits = tt; same = refl }
      go false e =
          hold_good pins rxd (on ((since + n) % period) (clock + n) (drop b t)).acts (held (clock + n) (drop b t)) (suc n) since clock n (omega arith) lt
          (ltb-false clock_limit (clock + n) e)
          (k ((since + n) % period) (clock + n) (drop b t) (mod-lt (since + n) pos))
  next_good on held k since clock t (Record (event.Access a) n) lt = go (reaches a)
    where
      go : (o : Bool) →
          Good clock (cond (eqb (cond o 3 0) 0) (followed (plays (event.Access a) ∷ []) (on since clock (drop n t))) (stopped (cond o 3 0))).acts
          (cond (eqb (cond o 3 0) 0) (held clock (drop n t)) [])
      go true = record { fits = tt; same = refl }
      go false =
          let g : Good clock (on since clock (drop n t)).acts (held clock (drop n t)) = k since clock (drop n t) lt in
          record { fits = g.fits; same = g.same }
  next_good on held k since clock t Unknown lt = record { fits = tt; same = refl }
  next_good on held k since clock t Cut lt = record { fits = tt; same = refl }

  for_good : (k since clock : ℕ) (t : List ℕ) → since < period → Good clock (scheduled_for k period since clock t).acts (held_for k clock t)
  unfolding scheduled_for held_for Fits act_levels
  for_good zero since clock t lt = record { fits = tt; same = refl }
  for_good (suc k) since clock t lt =
      go (next_good (scheduled_for k period) (held_for k) (λ i j u h. for_good k i j u h) since clock t (parsed t) lt) (eqb (length t) 0)
    where
      go : Good clock (next (scheduled_for k period) period since clock t (parsed t)).acts (held_next (held_for k) clock t (parsed t)) →
          (b : Bool) → Good clock (cond b (stopped 0) (next (scheduled_for k period) period since clock t (parsed t))).acts
          (cond b [] (held_next (held_for k) clock t (parsed t)))
      go h true = record { fits = tt; same = refl }
      go h false = h

-- ---- polls

poll_levels : (b : Bool) (es : List Event) (m : Module) →
    rxd_in ((poll.status_read ∷ cond b (poll.data_read ∷ []) []) ++ es) m ≡ rxd_in es (run (poll.status_read ∷ cond b (poll.data_read ∷ []) []) m)
unfolding rxd_in run
poll_levels true es m = refl
poll_levels false es m = refl

poll_clock : (b : Bool) (m : Module) → (run (poll.status_read ∷ cond b (poll.data_read ∷ []) []) m).clock ≡ m.clock
unfolding run
poll_clock true m = access_count (Read true 2 0x0E) (after poll.status_read m) ∙ access_count (Read true 2 0x0C) m
poll_clock false m = access_count (Read true 2 0x0C) m

pub act_levels_holds : (xs : List Act) (m : Module) → Fits m.clock xs → rxd_in (events_of xs m) m ≡ act_levels xs
unfolding rxd_in events_of act_levels Fits
act_levels_holds [] m f = refl
act_levels_holds (plays Reset ∷ xs) m f = act_levels_holds xs (after Reset m) (subst (λ (c : ℕ). Fits c xs) (sym (reset_count m)) f)
act_levels_holds (plays (Hold pins rxd n) ∷ xs) m f =
    let p : played_clocks m n ≡ n = all_played m n f.0 in
    let c : (after (Hold pins rxd n) m).clock ≡ m.clock + n = hold_count pins rxd n m ∙ ap (λ (k : ℕ). m.clock + k) p in
    ap (λ (k : ℕ). replicate k rxd ++ rxd_in (events_of xs (after (Hold pins rxd n) m)) (after (Hold pins rxd n) m)) p
    ∙ ap (λ (l : List Bool). replicate n rxd ++ l) (act_levels_holds xs (after (Hold pins rxd n) m) (subst (λ (c : ℕ). Fits c xs) (sym c) f.1))
act_levels_holds (plays (event.Access a) ∷ xs) m f =
    act_levels_holds xs (after (event.Access a) m) (subst (λ (c : ℕ). Fits c xs) (sym (access_count a m)) f)
act_levels_holds (polls ∷ xs) m f =
    let b : Bool = calls (status m SCI) in
    poll_levels b (events_of xs (polled m).state) m
    ∙ ap (rxd_in (events_of xs (polled m).state)) (sym (poll_run m))
    ∙ act_levels_holds xs (polled m).state
    (subst (λ (c : ℕ). Fits c xs) (sym (ap (λ (n : Module). n.clock) (poll_run m) ∙ poll_clock b m)) f)

pub trace_levels_holds : TraceLevels
trace_levels_holds period since t m lt =
    let pos : 0 < period = omega arith in
    let g : Good m.clock (scheduled period since m.clock t).acts (held_in m.clock t) = for_good period pos (length t) since m.clock t lt in
    act_levels_holds (scheduled period since m.clock t).acts m g.fits ∙ g.same

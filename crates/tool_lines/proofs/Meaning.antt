-- What a state means before a part of a hold or an event, and after it. Assumes nothing.
use mathlib.Core.Path.{◌≡◌, refl, sym, ap, ◌∙◌}
use mathlib.Core.Bool.{Bool, true, false, cond}
use mathlib.Core.List.{List, [], ◌++◌}
use Prim.Native.Nat.{ℕ, ◌+◌, ◌-◌, ◌%◌, ◌<◌, ◌≤◌}
use native.Mathlib.Omega.{arith}
use native.Mathlib.Nat.{mod-lt, zero-mod, mod_self, add-mod_left}
use lib.Dec.{eqb, ltb}
use lib.ListN.{drop}
use borrow.Author.Tests.{eqb-true, ltb-true, ltb-false, le-ltb}
use Rattle.steps.specs.Bits.{bit}
use Rattle.qsm.specs.claims.StatusFlags.{RDRF, SCI, place, status}
use Rattle.qsm.specs.model.State.{reset_module}
use Rattle.qsm.specs.model.Event.{clock_limit, resets, does, step}
use Rattle.qsm.specs.declared.state.Module.{Module}
use Rattle.qsm.specs.declared.event.Access.{Access}
use Rattle.qsm.specs.declared.event.Access.TheVariants.{Read}
use Rattle.qsm.specs.declared.event.Done.{Done}
use Rattle.qsm.specs.declared.event.Event.{Event}
use Rattle.qsm.specs.declared.event.Event.TheVariants.{Reset, Hold}
use Rattle.qsm.specs.declared.event.Event.TheVariants as event
use Rattle.qsm.proofs.Limit.{hold_played}
use Rattle.qsm.proofs.Splitting.{hold_counts}
use Rattle.qsm.proofs.Counting.{counting}
use Rattle.tool_lines.specs.Poll.{calls, looked, taking, polled}
use Rattle.tool_lines.specs.Schedule.{Act, acts, stops, since_after, clock_after, Scheduled, stopped, followed, going, scheduled}
use Rattle.tool_lines.specs.Gather.{newline, caused, damage, typed, ended, put, goes_on, forgotten, shown, reported, gather}
use Rattle.tool_lines.specs.Replay.{notices}
use Rattle.tool_lines.specs.Noise.{silent, figure_of, hears, noises, heard}
use Rattle.tool_lines.specs.Call.{turned, held_for, poll_now, since_of, hold_on, event_on}
use Rattle.tool_lines.specs.Laws.{Replayed, replayed, meant, telling}
use Rattle.tool_lines.specs.declared.line.Line.{Line}
use Rattle.tool_lines.specs.declared.line.Gathered.{Gathered}
use Rattle.tool_lines.specs.declared.line.Outcome.{Outcome}
use Rattle.tool_lines.specs.declared.line.Outcome.TheVariants.{Nothing, Handed, Dropped, Stopped, Ended, Refused}
use Rattle.tool_lines.specs.declared.noise.Noise.{Noise}
use Rattle.tool_lines.specs.declared.noise.Noises.{Noises}
use Rattle.tool_lines.specs.declared.Lines.{Lines}
use Rattle.tool_lines.specs.declared.Turned.{Turned}
use Rattle.tool_lines.proofs.Schedules.{cut_quiet, cut_poll}
use Rattle.tool_lines.proofs.Noises.{beside, heard_told}

-- ---- the count of clocks

hold_clock : (m : Module) (pins : ℕ) (rxd : Bool) (n : ℕ) → m.clock + n ≤ clock_limit → (does m (Hold pins rxd n)).state.clock ≡ m.clock + n
hold_clock m pins rxd n room =
    ap (λ (d : Done). d.state.clock) (hold_played m pins rxd n (le-ltb clock_limit (m.clock + n) room)) ∙ hold_counts m pins rxd n

access_clock : (m : Module) (a : Access) → (does m (event.Access a)).state.clock ≡ m.clock
unfolding step
access_clock m a = counting.counts m (event.Access a)

taking_clock : (m : Module) (read : ℕ) (reading : Bool) → (taking m read reading).state.clock ≡ m.clock
taking_clock m read true = access_clock m (Read true 2 0x0E)
taking_clock m read false = refl

poll_clock : (m : Module) → (polled m).state.clock ≡ m.clock
unfolding polled
poll_clock m = taking_clock (looked m) (status m SCI) (calls (status m SCI)) ∙ access_clock m (Read true 2 0x0C)

reset_state : (m : Module) → (does m Reset).state ≡ reset_module
unfolding does resets
reset_state m = refl

pub reset_clock : reset_module.clock ≡ 0
unfolding reset_module
reset_clock = refl

-- ---- a poll's outcome is none that ends a replay

abbrev pub Tells : Outcome → Type 0
Tells Nothing = Unit {0}
Tells (Handed number n) = Unit {0}
Tells (Dropped number cause) = Unit {0}
Tells (Stopped why) = ⊥
Tells Ended = ⊥
Tells (Refused why) = ⊥

one_of : (b : Bool) (x y : Outcome) → Tells x → Tells y → Tells (cond b x y)
one_of true x y f g = f
one_of false x y f g = g

either : (b : Bool) (x y : Gathered) → Tells x.outcome → Tells y.outcome → Tells (cond b x y).outcome
either true x y f g = f
either false x y f g = g

pub shown_tells : (l : Line) (read word : ℕ) → Tells (shown l read word).outcome
unfolding shown
shown_tells l read word =
    either (bit (place RDRF) read) (put l read (word % 128)) (goes_on l)
    (either (eqb (word % 128) newline) (ended (caused l (damage read))) (goes_on (typed (caused l (damage read)) (word % 128)))
    (one_of (eqb (caused l (damage read)).cause 0) _ _ tt tt) tt)
    tt

reports : (s : Lines) (o : Outcome) (rest : Replayed) → Tells o →
    telling s o rest ≡ record { reports = reported s.line o ++ rest.reports; noises = beside o s.noise.last rest.noises; stop = rest.stop }
reports s Nothing rest h = refl
reports s (Handed number n) rest h = refl
reports s (Dropped number cause) rest h = refl
reports s (Stopped why) rest h = absurd h
reports s Ended rest h = absurd h
reports s (Refused why) rest h = absurd h

pub stop_means : (l : Line) (n : Noise) (m : Module) (why : ℕ) → replayed l n m (stopped why) ≡ record { reports = []; noises = []; stop = why }
unfolding notices gather hears noises
stop_means l n m why = refl

fitting : (limited : Bool) → ◌≡◌ {A = ℕ} (cond limited 10 0) 0 → limited ≡ false
fitting true h = absurd (omega arith)
fitting false h = refl

module _ (period : ℕ) (t : List ℕ) (pos : 0 < period) where
  abbrev pub told : Turned → Replayed
  told r = telling r.state r.outcome (meant period t r.state)

  module _ (s : Lines) (pins : ℕ) (rxd : Bool) (n : ℕ) (room : s.device.clock + n ≤ clock_limit) where
    abbrev since : ℕ
    since = since_of period s

    abbrev due : ℕ
    due = period - since

    abbrev left : ℕ
    left = n - due

    abbrev rest : List ℕ
    rest = drop s.at t

    abbrev later : Scheduled
    later = scheduled period ((since + n) % period) (s.device.clock + n) rest

    abbrev before : Replayed
    before = replayed s.line s.noise.line s.device (followed (acts period since (Hold pins rxd n)) later)

    within : since < period
    within = mod-lt s.since pos

    -- The hold ends before the next poll.
    quiet : n < due → before ≡ told (turned (held_for s pins rxd n 0 (since + n)) Nothing)
    unfolding notices hears
    quiet lt =
        ap (λ (xs : List Act). replayed s.line s.noise.line s.device (followed xs later)) (cut_quiet period since pins rxd n (omega (arith, within)))
        ∙ ap (λ (c : ℕ). replayed s.line s.noise.line (does s.device (Hold pins rxd n)).state (scheduled period ((since + n) % period) c rest))
        (sym (hold_clock s.device pins rxd n room))

    -- It reaches the poll.
    abbrev held : Module
    held = (does s.device (Hold pins rxd due)).state

    abbrev g : Gathered
    g = shown s.line (polled held).status (polled held).word

    abbrev h : Noises
    h = heard s.noise (polled held).status (polled held).word (figure_of held)

    abbrev next : Module
    next = (polled held).state

    next_clock : due ≤ n → next.clock ≡ s.device.clock + due
    next_clock reaches = poll_clock held ∙ hold_clock s.device pins rxd due (omega (arith, room))

    abbrev following : Bool → ℕ → ℕ → Scheduled
    following over z c =
        cond over (scheduled period z c rest)
        (going (λ passed now. scheduled period passed now rest) period z c (Hold pins rxd left))

    later_is : (k c : ℕ) → (since + n) % period ≡ k → s.device.clock + n ≡ c → later ≡ scheduled period k c rest
    later_is k c e f =
        ap (λ (x : ℕ). scheduled period x (s.device.clock + n) rest) e ∙ ap (λ (x : ℕ). scheduled period k x rest) f

    rest_means : due ≤ n → (over : Bool) → eqb left 0 ≡ over →
        replayed g.line h.line next (followed (cond over [] (acts period 0 (Hold pins rxd left))) later)
        ≡ replayed g.line h.line next (following over 0 (s.device.clock + due))
    rest_means reaches true is =
        let none : left ≡ 0 = eqb-true left 0 is in
        let whole : since + n ≡ period = omega (arith, within) in
        ap (replayed g.line h.line next)
        (later_is 0 (s.device.clock + due) (ap (λ (x : ℕ). x % period) whole ∙ mod_self period) (omega (arith, within)))
    rest_means reaches false is =
        let sum : since + n ≡ period + left = omega (arith, within) in
        let none : left ≡ 0 + left = omega arith in
        let fits : s.device.clock + due + left ≤ clock_limit = omega (arith, room, within) in
        rw (le-ltb clock_limit (s.device.clock + due + left) fits)
        (ap (λ (sch : Scheduled). replayed g.line h.line next (followed (acts period 0 (Hold pins rxd left)) sch))
        (later_is ((0 + left) % period) (s.device.clock + due + left)
        (ap (λ (x : ℕ). x % period) sum ∙ add-mod_left period left ∙ ap (λ (x : ℕ). x % period) none) (omega (arith, within))))

    reach : due ≤ n → before ≡ told (poll_now (held_for s pins rxd due left 0))
    unfolding notices gather hears
    reach reaches =
        ap (λ (xs : List Act). replayed s.line s.noise.line s.device (followed xs later)) (cut_poll period since pins rxd n pos within reaches)
        ∙ rw (heard_told s.line s.noise (polled held).status (polled held).word (figure_of held))
        (ap (λ (r : Replayed).
        record { reports = reported g.line g.outcome ++ r.reports; noises = beside g.outcome h.last r.noises; stop = r.stop })
        (rest_means reaches (eqb left 0) refl
        ∙ ap (λ (z : ℕ). replayed g.line h.line next (following (eqb left 0) z (s.device.clock + due))) (sym (zero-mod period))
        ∙ ap (λ (c : ℕ). replayed g.line h.line next (following (eqb left 0) (0 % period) c)) (sym (next_clock reaches)))
        ∙ sym (reports (poll_now (held_for s pins rxd due left 0)).state g.outcome (meant period t (poll_now (held_for s pins rxd due left 0)).state)
        (shown_tells s.line (polled held).status (polled held).word)))

    by : (early : Bool) → ltb n due ≡ early →
        before ≡ told (cond early (turned (held_for s pins rxd n 0 (since + n)) Nothing) (poll_now (held_for s pins rxd due left 0)))
    by true is = quiet (ltb-true n due is)
    by false is = reach (ltb-false n due is)

    pub hold_means : before ≡ told (hold_on period s pins rxd n)
    unfolding hold_on
    hold_means = by (ltb n due) refl

  -- An event that doesn't stop the replay, where no hold is under way.
  abbrev pub played : Lines → Event → Replayed
  played s e =
      replayed s.line s.noise.line s.device
      (followed (acts period (since_of period s) e)
      (scheduled period (since_after period (since_of period s) e) (clock_after s.device.clock e) (drop s.at t)))

  pub hold_played_means : (s : Lines) (pins : ℕ) (rxd : Bool) (n : ℕ) → stops s.device.clock (Hold pins rxd n) ≡ 0 →
      played s (Hold pins rxd n) ≡ told (event_on period s (Hold pins rxd n))
  unfolding event_on
  hold_played_means s pins rxd n goes =
      hold_means s pins rxd n (ltb-false clock_limit (s.device.clock + n) (fitting (ltb clock_limit (s.device.clock + n)) goes))

  pub event_means : (s : Lines) (e : Event) → eqb s.left 0 ≡ true → stops s.device.clock e ≡ 0 → played s e ≡ told (event_on period s e)
  unfolding event_on notices gather hears noises
  event_means s Reset idle goes =
      rw idle
      (ap (λ (k : Module). replayed (forgotten s.line) silent k (scheduled period 0 0 (drop s.at t))) (reset_state s.device)
      ∙ ap (λ (z : ℕ). replayed (forgotten s.line) silent reset_module (scheduled period z 0 (drop s.at t))) (sym (zero-mod period))
      ∙ ap (λ (c : ℕ). replayed (forgotten s.line) silent reset_module (scheduled period (0 % period) c (drop s.at t))) (sym reset_clock))
  event_means s (Hold pins rxd n) idle goes = hold_played_means s pins rxd n goes
  event_means s (event.Access a) idle goes =
      rw idle
      (ap (λ (c : ℕ). replayed s.line s.noise.line (does s.device (event.Access a)).state (scheduled period (since_of period s) c (drop s.at t)))
      (sym (access_clock s.device a)))

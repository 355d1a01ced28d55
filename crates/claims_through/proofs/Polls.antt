-- In a replay of holds the receiver stays on and awake. Assumes nothing.
use mathlib.Core.Path.{◌≡◌, sym, subst}
use mathlib.Core.Bool.{Bool, true, false, cond, false≢true}
use mathlib.Core.List.{List, [], ◌∷◌, ◌++◌}
use Prim.Native.Nat.{ℕ, zero, suc, ◌+◌, ◌-◌, ◌/◌, ◌%◌}
use lib.Dec.{eqb}
use lib.ListN.{length, drop}
use Rattle.sci.specs.model.Control.{RE}
use Rattle.sci.specs.claims.History.{Step, reads}
use Rattle.sci.specs.claims.History as sci
use Rattle.sci.specs.declared.serial.Sci.{Sci}
use Rattle.qsm.specs.model.Lanes.{touches}
use Rattle.qsm.specs.claims.StatusFlags.{SCI, status}
use Rattle.qsm.specs.declared.state.Module.{Module}
use Rattle.qsm.specs.declared.event.Access.TheVariants.{Read}
use Rattle.qsm.specs.declared.event.Event.{Event}
use Rattle.qsm.specs.declared.event.Event.TheVariants.{Reset, Hold}
use Rattle.qsm.specs.declared.event.Event.TheVariants as event
use Rattle.trace.specs.Trace.{parsed}
use Rattle.trace.specs.declared.Parsed.{Parsed}
use Rattle.trace.specs.declared.Parsed.TheVariants.{Record, Unknown, Cut}
use Rattle.tool_lines.specs.Poll.{calls, polled}
use Rattle.tool_lines.specs.Poll as poll
use Rattle.tool_lines.specs.Schedule.{Act, plays, polls, cut, acts, stops, stopped, followed, Scheduled, next, scheduled_for}
use Rattle.tool_lines.specs.Replay.{events_of}
use Rattle.claims_histories.specs.History.{after, run, played_clocks, receiver_read}
use Rattle.claims_histories.proofs.Follows.{steps, follows}
use Rattle.claims_polling.proofs.Replaying.{poll_run}
use Rattle.claims_senders.proofs.Receiving as serial
use Rattle.claims_through.specs.Through.{StaysAwake}
use Rattle.claims_through.specs.Replayed.{holds_next, holds_for}
use Rattle.claims_through.proofs.Steps.{hold_stays}

pub record Kept (s : Sci) : Type 0 where
  pub on : RE s.sccr1 ≡ true
  pub awake : s.receiver.asleep ≡ false

stays_end : (es : List Step) (s : Sci) → Kept s → serial.StaysAwake es s → Kept (sci.run es s)
unfolding serial.StaysAwake sci.run
stays_end [] s k h = k
stays_end (e ∷ es) s k h = stays_end es (sci.step e s) (record { on = h.1; awake = h.2 }) h.3

hold_kept : (pins : ℕ) (rxd : Bool) (n : ℕ) (m : Module) → Kept m.sci → Kept (after (Hold pins rxd n) m).sci
hold_kept pins rxd n m k =
    subst Kept (sym (follows (Hold pins rxd n) m))
    (stays_end (steps (Hold pins rxd n) m) m.sci k (hold_stays (played_clocks m n) rxd m.sci k.on k.awake))

one_read : (b scsr scdr : Bool) (s : Sci) → Kept s → Kept (sci.run (cond b (reads scsr scdr ∷ []) []) s)
unfolding sci.run sci.step
one_read true scsr scdr s k = record { on = k.on; awake = k.awake }
one_read false scsr scdr s k = k

read_kept : (supervisor : Bool) (width offset : ℕ) (m : Module) → Kept m.sci → Kept (after (event.Access (Read supervisor width offset)) m).sci
read_kept supervisor width offset m k =
    subst Kept (sym (follows (event.Access (Read supervisor width offset)) m))
    (one_read (receiver_read m supervisor width offset) (touches 0x0C 2 width offset) (touches 0x0F 1 width offset) m.sci k)

poll_kept : (b : Bool) (m : Module) → Kept m.sci → Kept (run (poll.status_read ∷ cond b (poll.data_read ∷ []) []) m).sci
unfolding run
poll_kept true m k = read_kept true 2 0x0E (after poll.status_read m) (read_kept true 2 0x0C m k)
poll_kept false m k = read_kept true 2 0x0C m k

poll_stays : (b : Bool) (es : List Event) (m : Module) → Kept m.sci → StaysAwake es (run (poll.status_read ∷ cond b (poll.data_read ∷ []) []) m) →
    StaysAwake ((poll.status_read ∷ cond b (poll.data_read ∷ []) []) ++ es) m
unfolding run
poll_stays true es m k h =
    let p : Kept (after poll.status_read m).sci = read_kept true 2 0x0C m k in
    let q : Kept (after poll.data_read (after poll.status_read m)).sci = read_kept true 2 0x0E (after poll.status_read m) p in
    (p.on, p.awake, (q.on, q.awake, h))
poll_stays false es m k h = let p : Kept (after poll.status_read m).sci = read_kept true 2 0x0C m k in (p.on, p.awake, h)

-- Holds and polls.
unfoldable pub Quiet : List Act → Type 0
Quiet [] = Unit {0}
Quiet (plays Reset ∷ xs) = ⊥
Quiet (plays (Hold pins rxd n) ∷ xs) = Quiet xs
Quiet (plays (event.Access a) ∷ xs) = ⊥
Quiet (polls ∷ xs) = Quiet xs

pub quiet_stays : (xs : List Act) (m : Module) → Kept m.sci → Quiet xs → StaysAwake (events_of xs m) m
unfolding events_of Quiet
quiet_stays [] m k q = tt
quiet_stays (plays Reset ∷ xs) m k q = absurd q
quiet_stays (plays (Hold pins rxd n) ∷ xs) m k q =
    let p : Kept (after (Hold pins rxd n) m).sci = hold_kept pins rxd n m k in
    (p.on, p.awake, quiet_stays xs (after (Hold pins rxd n) m) p q)
quiet_stays (plays (event.Access a) ∷ xs) m k q = absurd q
quiet_stays (polls ∷ xs) m k q =
    let b : Bool = calls (status m SCI) in
    poll_stays b (events_of xs (polled m).state) m k
    (subst (StaysAwake (events_of xs (polled m).state)) (poll_run m)
    (quiet_stays xs (polled m).state (subst (λ (n : Module). Kept n.sci) (sym (poll_run m)) (poll_kept b m k)) q))

pub cut_rests : (k period since pins : ℕ) (rxd : Bool) (n : ℕ) (rest : List Act) → Quiet rest → Quiet (cut k period since pins rxd n ++ rest)
unfolding cut Quiet
cut_rests zero period since pins rxd n rest q = q
cut_rests (suc k) period since pins rxd n rest q = go (cut_rests k period 0 pins rxd (n - (period - since)) rest q) (eqb (n - (period - since)) 0)
  where
    go : Quiet (cut k period 0 pins rxd (n - (period - since)) ++ rest) → (b : Bool) →
        Quiet (cond b [] (cut k period 0 pins rxd (n - (period - since))) ++ rest)
    go h true = q
    go h false = h

next_rests : (on : ℕ → ℕ → List ℕ → Scheduled) (only : List ℕ → Bool) → ((i j : ℕ) (u : List ℕ) → only u ≡ true → Quiet (on i j u).acts) →
    (period since clock : ℕ) (t : List ℕ) (p : Parsed) → holds_next only t p ≡ true → Quiet (next on period since clock t p).acts
unfolding Quiet
next_rests on only k period since clock t (Record Reset n) e = absurd (false≢true e)
next_rests on only k period since clock t (Record (Hold pins rxd n) b) e = go (eqb (stops clock (Hold pins rxd n)) 0)
  where
    go : (o : Bool) →
        Quiet (cond o (followed (acts period since (Hold pins rxd n)) (on ((since + n) % period) (clock + n) (drop b t))) (stopped (stops clock (Hold pins rxd n)))).acts
    go true =
        cut_rests ((since + n) / period) period since pins rxd n (on ((since + n) % period) (clock + n) (drop b t)).acts
        (k ((since + n) % period) (clock + n) (drop b t) e)
    go false = tt
next_rests on only k period since clock t (Record (event.Access a) n) e = absurd (false≢true e)
next_rests on only k period since clock t Unknown e = tt
next_rests on only k period since clock t Cut e = tt

pub for_rests : (k period since clock : ℕ) (t : List ℕ) → holds_for k t ≡ true → Quiet (scheduled_for k period since clock t).acts
unfolding scheduled_for holds_for Quiet
for_rests zero period since clock t e = tt
for_rests (suc k) period since clock t e =
    go (λ h. next_rests (scheduled_for k period) (holds_for k) (λ i j u h. for_rests k period i j u h) period since clock t (parsed t) h) (eqb (length t) 0) e
  where
    go : (holds_next (holds_for k) t (parsed t) ≡ true → Quiet (next (scheduled_for k period) period since clock t (parsed t)).acts) → (b : Bool) →
        cond b true (holds_next (holds_for k) t (parsed t)) ≡ true →
        Quiet (cond b (stopped 0) (next (scheduled_for k period) period since clock t (parsed t))).acts
    go h true e = tt
    go h false e = h e

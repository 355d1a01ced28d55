-- What is played of a trace has no access that touches SCSR or SCDR. Assumes nothing.
use mathlib.Core.Path.{◌≡◌, refl}
use mathlib.Core.Bool.{Bool, true, false, cond}
use mathlib.Core.List.{List, [], ◌∷◌, ◌++◌}
use Prim.Native.Nat.{ℕ, zero, suc, ◌+◌, ◌-◌, ◌/◌}
use native.Mathlib.Omega.{arith}
use lib.Dec.{eqb}
use lib.ListN.{length, drop}
use borrow.Author.Tests.{eqb-true}
use Rattle.qsm.specs.declared.event.Event.{Event}
use Rattle.qsm.specs.declared.event.Event.TheVariants.{Reset, Hold}
use Rattle.qsm.specs.declared.event.Event.TheVariants as event
use Rattle.trace.specs.Trace.{parsed}
use Rattle.trace.specs.declared.Parsed.{Parsed}
use Rattle.trace.specs.declared.Parsed.TheVariants.{Record, Unknown, Cut}
use Rattle.sci.proofs.Frames.{by_cond}
use Rattle.tool_lines.specs.Schedule.{Act, plays, polls, reaches, cut, acts, since_after, clock_after, stops, Scheduled, next, scheduled_for, scheduled}
use Rattle.claims_lines.proofs.Simulated.{Plays}

plays_joined : (u v : List Act) → Plays u → Plays v → Plays (u ++ v)
plays_joined [] v p q = q
plays_joined (plays e ∷ u) v p q = (p.0, plays_joined u v p.1 q)
plays_joined (polls ∷ u) v p q = plays_joined u v p q

cut_plays : (k period since pins : ℕ) (rxd : Bool) (n : ℕ) → Plays (cut k period since pins rxd n)
unfolding cut
cut_plays zero period since pins rxd n = (tt, tt)
cut_plays (suc k) period since pins rxd n =
    (tt, by_cond Plays (eqb (n - (period - since)) 0) (λ _. tt) (λ _. cut_plays k period 0 pins rxd (n - (period - since))))

not_reaching : (b : Bool) → ◌≡◌ {A = ℕ} (cond b 3 0) 0 → b ≡ false
not_reaching true e = absurd (omega (arith, e))
not_reaching false e = refl

acts_play : (period since clock : ℕ) (e : Event) → stops clock e ≡ 0 → Plays (acts period since e)
acts_play period since clock Reset h = (tt, tt)
acts_play period since clock (Hold pins rxd n) h = cut_plays ((since + n) / period) period since pins rxd n
acts_play period since clock (event.Access a) h = (not_reaching (reaches a) h, tt)

next_plays : (on : ℕ → ℕ → List ℕ → Scheduled) (period since clock : ℕ) (t : List ℕ) (p : Parsed) →
    ((i j : ℕ) (u : List ℕ) → Plays (on i j u).acts) → Plays (next on period since clock t p).acts
next_plays on period since clock t (Record e n) k =
    by_cond (λ (s : Scheduled). Plays s.acts) (eqb (stops clock e) 0)
    (λ h. plays_joined (acts period since e) (on (since_after period since e) (clock_after clock e) (drop n t)).acts
    (acts_play period since clock e (eqb-true (stops clock e) 0 h)) (k (since_after period since e) (clock_after clock e) (drop n t)))
    (λ _. tt)
next_plays on period since clock t Unknown k = tt
next_plays on period since clock t Cut k = tt

for_plays : (k period since clock : ℕ) (t : List ℕ) → Plays (scheduled_for k period since clock t).acts
unfolding scheduled_for
for_plays zero period since clock t = tt
for_plays (suc k) period since clock t =
    by_cond (λ (s : Scheduled). Plays s.acts) (eqb (length t) 0) (λ _. tt)
    (λ _. next_plays (scheduled_for k period) period since clock t (parsed t) (for_plays k period))

pub scheduled_plays : (period since clock : ℕ) (t : List ℕ) → Plays (scheduled period since clock t).acts
scheduled_plays period since clock t = for_plays (length t) period since clock t

-- A list of samples and reads, as events: each sample a hold of its clocks, each read an access that touches the same.
use mathlib.Core.Path.{◌≡◌, refl, ap, sym, subst, ◌∙◌}
use mathlib.Core.Bool.{Bool, true, false}
use mathlib.Core.List.{List, [], ◌∷◌, ◌++◌}
use Prim.Native.Nat.{ℕ, suc, ◌+◌, ◌*◌, ◌≤◌}
use native.Mathlib.Nat.{suc-mul}
use native.Mathlib.Omega.{arith}
use Rattle.sci.specs.claims.Line.{Op, sample, read, samples_in}
use Rattle.sci.specs.claims.History.{Step, reads}
use Rattle.sci.specs.claims.History as sci
use Rattle.sci.proofs.History.{clocks}
use Rattle.qsm.specs.model.Event.{clock_limit}
use Rattle.qsm.specs.model.Map.{decode}
use Rattle.qsm.specs.model.Lanes.{in_map}
use Rattle.qsm.specs.model.Decision.{admitted, decide_read}
use Rattle.qsm.specs.declared.state.Module.{Module}
use Rattle.qsm.specs.declared.event.Access.{Access}
use Rattle.qsm.specs.declared.event.Access.TheVariants.{Read}
use Rattle.qsm.specs.declared.event.Event.{Event}
use Rattle.qsm.specs.declared.event.Event.TheVariants.{Hold}
use Rattle.qsm.specs.declared.event.Event.TheVariants as event
use Rattle.claims_histories.specs.History.{after, run, Unbroken, played_clocks, event_ops, ops}
use Rattle.claims_histories.proofs.Follows.{steps, follows}
use Rattle.claims_histories.proofs.Room.{access_count, hold_count, all_played}
use Rattle.claims_histories.proofs.Told.{event_ops_holds}
use Rattle.claims_histories.proofs.Period.{Timed, Sample, one_sample}

abbrev event_for : ℕ → Op → Event
event_for b (sample x) = Hold 0 x (2 * b)
event_for b (read true true) = event.Access (Read true 4 0x0C)
event_for b (read true false) = event.Access (Read true 2 0x0C)
event_for b (read false true) = event.Access (Read true 2 0x0E)
event_for b (read false false) = event.Access (Read true 1 0x0E)

abbrev pub events_for : ℕ → List Op → List Event
events_for b [] = []
events_for b (o ∷ os) = event_for b o ∷ events_for b os

-- The clocks of a sample, and of a read.
abbrev clocks_for : ℕ → Op → ℕ
clocks_for b (sample x) = 2 * b
clocks_for b (read scsr scdr) = 0

pub record Gives (b : ℕ) (os : List Op) (es : List Event) (m : Module) : Type 0 where
  pub gives : ops es m ≡ os
  pub unbroken : Unbroken es m
  pub timed : Timed (2 * b) 0 (run es m).sci
  pub count : (run es m).clock ≡ m.clock + samples_in os * (2 * b)

record Does (b : ℕ) (o : Op) (e : Event) (m : Module) : Type 0 where
  does : event_ops e m ≡ o ∷ []
  timed : Timed (2 * b) 0 (after e m).sci
  count : (after e m).clock ≡ m.clock + clocks_for b o

read_timed : (P : ℕ) (scsr scdr : Bool) (e : Event) (m : Module) → steps e m ≡ reads scsr scdr ∷ [] → Timed P 0 m.sci → Timed P 0 (after e m).sci
unfolding sci.run sci.step
read_timed P scsr scdr e m k h =
    subst (Timed P 0) (sym (follows e m ∙ ap (λ (es : List Step). sci.run es m.sci) k))
    (record { on = h.on; rate = h.rate; count = h.count })

hold_does : (n : ℕ) (x : Bool) (m : Module) → m.clock + 2 * suc n ≤ clock_limit → Timed (2 * suc n) 0 m.sci →
    Does (suc n) (sample x) (Hold 0 x (2 * suc n)) m
hold_does n x m room h =
    let all : played_clocks m (2 * suc n) ≡ 2 * suc n = all_played m (2 * suc n) room in
    let is : steps (Hold 0 x (2 * suc n)) m ≡ clocks (2 * suc n) x = ap (λ (k : ℕ). clocks k x) all in
    let z : suc (2 * n + 1) ≡ 2 * suc n = omega arith in
    let t : Sample (2 * suc n) (2 * suc n) x m.sci =
    subst (λ (k : ℕ). Sample (2 * suc n) k x m.sci) z
    (one_sample (2 * n + 1) (2 * suc n) 0 m.sci x h (omega arith)) in
    record {
      does = event_ops_holds (Hold 0 x (2 * suc n)) m ∙ ap (λ (es : List Step). sci.ops es m.sci) is ∙ t.one;
      timed =
          subst (Timed (2 * suc n) 0) (sym (follows (Hold 0 x (2 * suc n)) m ∙ ap (λ (es : List Step). sci.run es m.sci) is))
          t.again;
      count = hold_count 0 x (2 * suc n) m ∙ ap (λ (k : ℕ). m.clock + k) all;
    }

-- A read leaves the count.
read_count : (a : Access) (m : Module) → (after (event.Access a) m).clock ≡ m.clock + 0
read_count a m = omega (arith, access_count a m)

op_does : (n : ℕ) (o : Op) (m : Module) → m.clock + clocks_for (suc n) o ≤ clock_limit → Timed (2 * suc n) 0 m.sci →
    Does (suc n) o (event_for (suc n) o) m
unfolding decide_read admitted in_map decode
op_does n (sample x) m room h = hold_does n x m room h
op_does n (read true true) m room h =
    record { does = refl; timed = read_timed (2 * suc n) true true _ m refl h; count = read_count _ m }
op_does n (read true false) m room h =
    record { does = refl; timed = read_timed (2 * suc n) true false _ m refl h; count = read_count _ m }
op_does n (read false true) m room h =
    record { does = refl; timed = read_timed (2 * suc n) false true _ m refl h; count = read_count _ m }
op_does n (read false false) m room h =
    record { does = refl; timed = read_timed (2 * suc n) false false _ m refl h; count = read_count _ m }

unbroken_one : (b : ℕ) (o : Op) (es : List Event) (m : Module) → Unbroken es (after (event_for b o) m) → Unbroken (event_for b o ∷ es) m
unbroken_one b (sample x) es m u = (refl, u)
unbroken_one b (read true true) es m u = (refl, u)
unbroken_one b (read true false) es m u = (refl, u)
unbroken_one b (read false true) es m u = (refl, u)
unbroken_one b (read false false) es m u = (refl, u)

-- The clocks of a list of them.
first_clocks : (n : ℕ) (o : Op) (os : List Op) → clocks_for (suc n) o + samples_in os * (2 * suc n) ≡ samples_in (o ∷ os) * (2 * suc n)
first_clocks n (sample x) os = omega (arith, suc-mul (samples_in os) (2 * suc n))
first_clocks n (read scsr scdr) os = omega arith

pub gives : (n : ℕ) (os : List Op) (m : Module) → m.clock + samples_in os * (2 * suc n) ≤ clock_limit → Timed (2 * suc n) 0 m.sci →
    Gives (suc n) os (events_for (suc n) os) m
unfolding ops run
gives n [] m room h = record { gives = refl; unbroken = tt; timed = h; count = omega arith }
gives n (o ∷ os) m room h =
    let sum = first_clocks n o os in
    let d : Does (suc n) o (event_for (suc n) o) m = op_does n o m (omega (arith, sum, room)) h in
    let g : Gives (suc n) os (events_for (suc n) os) (after (event_for (suc n) o) m) =
    gives n os _ (omega (arith, sum, room, d.count)) d.timed in
    record {
      gives = ap (λ (ps : List Op). ps ++ ops (events_for (suc n) os) (after (event_for (suc n) o) m)) d.does ∙ ap (λ (ps : List Op). o ∷ ps) g.gives;
      unbroken = unbroken_one (suc n) o (events_for (suc n) os) m g.unbroken;
      timed = g.timed;
      count = omega (arith, sum, g.count, d.count);
    }

-- What is not refused 9, resets and claims; and all laws together. Assumes nothing.
use mathlib.Core.Path.{◌≡◌, refl, sym, ap, ◌∙◌}
use mathlib.Core.Bool.{Bool, true, false, cond}
use Prim.Native.Nat.{ℕ}
use lib.Dec.{eqb}
use borrow.Author.Tests.{eqb-true}
use Rattle.qsm.specs.model.State.{reset_module}
use Rattle.qsm.specs.model.Event as model
use Rattle.qsm.specs.declared.state.Module.{Module}
use Rattle.qsm.specs.declared.event.Access as access
use Rattle.qsm.specs.declared.event.Event as below
use Rattle.qsm.specs.declared.event.Event.TheVariants as event
use Rattle.drivers.specs.State.{other, number_of, holds, proper, begun}
use Rattle.drivers.specs.Event.{told, played, with_split, with_holder, fixed, restarted, does, step}
use Rattle.drivers.specs.Claims.{nine, OwnStep, Kept, Demand2, Claims}
use Rattle.drivers.specs.declared.state.Driver.{Driver}
use Rattle.drivers.specs.declared.state.Driver.TheVariants.{Axis, Spindle}
use Rattle.drivers.specs.declared.state.Shared.{Shared}
use Rattle.drivers.specs.declared.event.Event.{Event}
use Rattle.drivers.specs.declared.event.Event.TheVariants.{Reset, Hold, Access, Drive, Claim, Release}
use Rattle.drivers.specs.declared.event.Stepped.{Stepped}
use Rattle.drivers.proofs.Below.{after_reset}
use Rattle.drivers.proofs.Refusing.{exactly, done, unchanged}

abbrev state_of : Stepped → Shared
state_of s = s.state

-- A reset is the module's, whatever it does to s.
fixed_qsm : (t : Bool) (d : Shared) (s : ℕ) → (cond t d (with_split d s)).qsm ≡ d.qsm
fixed_qsm true d s = refl
fixed_qsm false d s = refl

restarts : (d : Shared) (s : ℕ) →
    ((restarted d s).state.qsm ≡ (model.step d.qsm event.Reset).state)
    × ((restarted d s).answer ≡ (model.step d.qsm event.Reset).answer)
unfolding restarted played
restarts d s = (
  ap (λ (m : Module). (model.step m event.Reset).state) (fixed_qsm (begun d) d s),
  ap (λ (m : Module). (model.step m event.Reset).answer) (fixed_qsm (begun d) d s),
)

of_reset : (d : Shared) (s : ℕ) → nine d (Reset s) ≡ false → OwnStep d (Reset s) event.Reset
unfolding does
of_reset d s h = (
  ap (λ (x : Stepped). x.state.qsm) (done d (Reset s) h) ∙ (restarts d s).0,
  ap (λ (x : Stepped). x.answer) (done d (Reset s) h) ∙ (restarts d s).1,
)

-- Where the step is `played`.
plays : (d : Shared) (e : Event) (own : below.Event) → step d e ≡ played d own → OwnStep d e own × Kept d e
unfolding played
plays d e own h = (
  (ap (λ (x : Stepped). x.state.qsm) h, ap (λ (x : Stepped). x.answer) h),
  (ap (λ (x : Stepped). x.state.split) h, ap (λ (x : Stepped). x.state.holder) h),
)

of_hold : (d : Shared) (pins : ℕ) (rxd : Bool) (n : ℕ) →
    OwnStep d (Hold pins rxd n) (event.Hold pins rxd n) × Kept d (Hold pins rxd n)
unfolding does
of_hold d pins rxd n = plays d (Hold pins rxd n) (event.Hold pins rxd n) (done d (Hold pins rxd n) refl)

of_host : (d : Shared) (a : access.Access) → OwnStep d (Access a) (event.Access a) × Kept d (Access a)
unfolding does
of_host d a = plays d (Access a) (event.Access a) (done d (Access a) refl)

of_driver : (d : Shared) (who : Driver) (a : access.Access) → nine d (Drive who a) ≡ false →
    OwnStep d (Drive who a) (event.Access a) × Kept d (Drive who a)
unfolding does
of_driver d who a h = plays d (Drive who a) (event.Access a) (done d (Drive who a) h)

-- Claims and releases change the holder alone.
claimed : (d : Shared) (who : Driver) → nine d (Claim who) ≡ false → (step d (Claim who)).state ≡ with_holder d (number_of who)
unfolding does told
claimed d who h = ap state_of (done d (Claim who) h)

released : (d : Shared) (who : Driver) → nine d (Release who) ≡ false → (step d (Release who)).state ≡ with_holder d 0
unfolding does told
released d who h = ap state_of (done d (Release who) h)

abbrev module_of : Shared → Module
module_of d = d.qsm

demand2 : Demand2
demand2 =
    record {
      reset = of_reset;
      hold = of_hold;
      host = of_host;
      driver = of_driver;
      claim = λ d who h. ap module_of (claimed d who h);
      release = λ d who h. ap module_of (released d who h);
    }

-- The first reset and later ones.
restarted_as : (d : Shared) (s t : ℕ) → fixed d s ≡ with_split d t →
    (restarted d s).state ≡ record { qsm = reset_module; split = t; holder = 0 }
unfolding restarted played
restarted_as d s t h =
    rw (h, after_reset d.qsm)

first : (d : Shared) (s : ℕ) → begun d ≡ false → proper s ≡ true →
    (step d (Reset s)).state ≡ record { qsm = reset_module; split = s; holder = 0 }
unfolding does
first d s h k = ap state_of (done d (Reset s) (rw (h, k))) ∙ restarted_as d s s (rw h)

later : (d : Shared) (s : ℕ) → begun d ≡ true →
    (step d (Reset s)).state ≡ record { qsm = reset_module; split = d.split; holder = 0 }
unfolding does
later d s h = ap state_of (done d (Reset s) (rw h)) ∙ restarted_as d s d.split (rw h)

-- The numbers of the drivers differ, and none is 0.
same_number : (who : Driver) → eqb (number_of who) (number_of who) ≡ true
same_number Axis = refl
same_number Spindle = refl

other_number : (who : Driver) → eqb (number_of who) (number_of (other who)) ≡ false
other_number Axis = refl
other_number Spindle = refl

nobody : (who : Driver) → eqb 0 (number_of who) ≡ false
nobody Axis = refl
nobody Spindle = refl

abbrev held_by : Driver → Shared → Bool
held_by who d = holds d who

twice : (d : Shared) (who : Driver) → holds d who ≡ true → begun d ≡ true → (step d (Claim who)).state ≡ d
twice d who h k =
    let is : d.holder ≡ number_of who = eqb-true d.holder (number_of who) h in
    let let_through : nine d (Claim who) ≡ false = rw (k, is) (other_number who) in
    claimed d who let_through ∙ ap (λ (n : ℕ). with_holder d n) (sym is)

pub laws : Claims
laws =
    record {
      fitting = λ s who w. refl;
      exactly = exactly;
      unchanged = unchanged;
      demand2 = demand2;
      resets = record { first = first; later = later };
      claiming =
          record {
            held = λ d who h. ap (held_by who) (claimed d who h) ∙ same_number who;
            alone = λ d who h. ap (held_by (other who)) (claimed d who h) ∙ other_number who;
            twice = twice;
            given_up = λ d who one h. ap (held_by one) (released d who h) ∙ nobody one;
          };
    }

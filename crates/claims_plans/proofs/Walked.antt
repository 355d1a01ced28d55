-- Holds and reads in a row are a run of the queue without mode fault, but for the flags seen. Assumes nothing.
use mathlib.Core.Path.{◌≡◌, refl, sym, ap, ◌∙◌}
use mathlib.Core.Bool.{Bool, true, false, cond}
use mathlib.Core.List.{List, [], ◌∷◌}
use Prim.Native.Nat.{ℕ, zero, suc, ◌+◌, ◌-◌, ◌≤◌, ◌<◌}
use native.Mathlib.Omega.{arith}
use lib.Dec.{leb}
use borrow.Author.Tests.{le-leb, lt-leb, leb-true, leb-false}
use Rattle.steps.specs.Iterate.{iterate}
use Rattle.sci.specs.model.Serial.{clocked}
use Rattle.qspi.specs.model.Fields.{mstr, spe}
use Rattle.qspi.specs.model.Queue.{followed, selected, fault_now, clock}
use Rattle.qspi.specs.claims.Run.{run}
use Rattle.qspi.specs.claims.Laws.{Calm}
use Rattle.qspi.specs.declared.Qspi.{Qspi}
use Rattle.qspi.specs.declared.Pins.{Pins}
use Rattle.qspi.specs.declared.spsr.Flags.{Flags}
use Rattle.qspi.proofs.Edges.{hold_runs}
use Rattle.qspi.proofs.Delay.{run_add}
use Rattle.qspi.proofs.Quiet.{clock_off}
use Rattle.qspi.proofs.Cases.{clock_by}
use Rattle.qsm.specs.model.Lanes.{touches}
use Rattle.qsm.specs.model.Queue.{queue_read}
use Rattle.qsm.specs.model.State.{with_sci, with_qspi}
use Rattle.qsm.specs.model.Decision.{permits, decide_read}
use Rattle.qsm.specs.model.Event.{passes, pins_of, held, clocks, after_read, read_value, refused, reads, does}
use Rattle.qsm.specs.declared.state.Module.{Module}
use Rattle.qsm.specs.declared.event.Access.TheVariants.{Read, Write}
use Rattle.qsm.specs.declared.event.Event.{Event}
use Rattle.qsm.specs.declared.event.Event.TheVariants.{Reset, Hold}
use Rattle.qsm.specs.declared.event.Event.TheVariants as event
use Rattle.qsm.specs.declared.event.Done.{Done}
use Rattle.qsm.proofs.Booleans.{on, clash}
use Rattle.qsm.proofs.Clocks.{counting, apart}
use Rattle.qsm.proofs.Limit.{hold_played}
use Rattle.qsm.proofs.Stored.{state_if}
use Rattle.tool_plan.specs.Running.{played}
use Rattle.claims_plans.specs.Watching.{clocks_of, clocks_in, Watches, Watched}
use Rattle.claims_plans.proofs.SeenFlags.{with_seen, run_seen}

-- A run of n clocks from one module to another, under some pins without mode fault.
pub record Walked (m : Module) (n : ℕ) (x : Module) : Type 0 where
  pub levels : ℕ → Pins
  pub quiet : Calm levels
  pub seen : Flags
  pub queue : x.qspi ≡ with_seen seen (run levels n m.qspi)
  pub pqspar : x.pqspar ≡ m.pqspar
  pub ddrqs : x.ddrqs ≡ m.ddrqs
  pub portqs : x.portqs ≡ m.portqs

-- ---- runs one after the other

-- A run minds only the pins of its own clocks.
run_same : (f g : ℕ → Pins) (n : ℕ) (q : Qspi) → ((c : ℕ) → 0 < c → c ≤ n → f c ≡ g c) → run f n q ≡ run g n q
unfolding run
run_same f g zero q same = refl
run_same f g (suc n) q same =
    ap (λ (r : Qspi). clock r (f (suc n))) (run_same f g n q (λ c some less. same c some (omega arith)))
    ∙ ap (clock (run g n q)) (same (suc n) (omega arith) (omega arith))

run_off : (pins : ℕ → Pins) (n : ℕ) (q : Qspi) → spe q.registers.spcr1 ≡ false → run pins n q ≡ q
unfolding run
run_off pins zero q off = refl
run_off pins (suc n) q off = ap (λ (r : Qspi). clock r (pins (suc n))) (run_off pins n q off) ∙ clock_off q (pins (suc n)) off

module _ (f g : ℕ → Pins) (n : ℕ) where
  abbrev joined : ℕ → Pins
  joined c = cond (leb c n) (f c) (g (c - n))

  joined_quiet : Calm f → Calm g → Calm joined
  joined_quiet x y c = on (leb c n) (λ e. rw e (x c)) (λ e. rw e (y (c - n)))

  joined_runs : (k : ℕ) (q : Qspi) → run g k (run f n q) ≡ run joined (n + k) q
  joined_runs k q =
      ap (run g k) (run_same f joined n q (λ c some less. rw (le-leb c n less)))
      ∙ run_same g (λ c. joined (n + c)) k (run joined n q)
      (λ c some less. let back : n + c - n ≡ c = omega arith in rw (lt-leb (n + c) n (omega arith), back))
      ∙ sym (run_add joined n k q)

then : (m k x : Module) (a b : ℕ) → Walked m a k → Walked k b x → Walked m (a + b) x
then m k x a b v w =
    record {
      levels = joined v.levels w.levels a;
      quiet = joined_quiet v.levels w.levels a v.quiet w.quiet;
      seen = w.seen;
      queue =
          w.queue
          ∙ ap (λ (q : Qspi). with_seen w.seen (run w.levels b q)) v.queue
          ∙ ap (with_seen w.seen) (run_seen v.seen w.levels b (run v.levels a m.qspi))
          ∙ ap (with_seen w.seen) (joined_runs v.levels w.levels a b m.qspi);
      pqspar = w.pqspar ∙ v.pqspar;
      ddrqs = w.ddrqs ∙ v.ddrqs;
      portqs = w.portqs ∙ v.portqs;
    }

-- ---- one event

-- Pins that no mode fault comes of.
abbrev high : Pins
high = record { levels = 255; pqspar = 0; ddrqs = 0 }

-- A hold.
module _ (m : Module) (pins : ℕ) (rxd : Bool) (n : ℕ) (room : passes m n ≡ false) where
  abbrev after : Module
  after = (does m (Hold pins rxd n)).state

  pub is : after
      ≡ counting (with_sci (with_qspi (held m pins) (iterate n (λ q. clock q (pins_of (held m pins))) m.qspi))
      (iterate n (λ s. clocked s rxd) m.sci)) (m.clock + n)
  unfolding clocks
  is = ap (λ (d : Done). d.state) (hold_played m pins rxd n room) ∙ apart n rxd (held m pins)

  held_queue : after.qspi ≡ run (λ c. pins_of (held m pins)) n m.qspi
  held_queue = ap (λ (x : Module). x.qspi) is ∙ hold_runs (pins_of (held m pins)) n m.qspi

  under : (f : ℕ → Pins) → Calm f → run (λ c. pins_of (held m pins)) n m.qspi ≡ run f n m.qspi → Walked m n after
  under f quiet same =
      record {
        levels = f;
        quiet = quiet;
        seen = (run f n m.qspi).spsr.seen;
        queue = held_queue ∙ same;
        pqspar = ap (λ (x : Module). x.pqspar) is;
        ddrqs = ap (λ (x : Module). x.ddrqs) is;
        portqs = ap (λ (x : Module). x.portqs) is;
      }

  -- With SPE set and PQS3 low there is no clock; with SPE clear any pins do.
  low_still : mstr m.qspi.registers.spcr0 ≡ true → spe m.qspi.registers.spcr1 ≡ true → selected (pins_of (held m pins)) ≡ true →
      (0 < n → fault_now m.qspi (pins_of (held m pins)) ≡ false) → n ≡ 0
  low_still master enabled low calm =
      on (leb n 0) (λ e. omega (arith, leb-true n 0 e))
      (λ e. clash (fault_now m.qspi (pins_of (held m pins))) (calm (leb-false n 0 e)) (rw (enabled, master) low))

  pub held_walked : mstr m.qspi.registers.spcr0 ≡ true → (0 < n → fault_now m.qspi (pins_of (held m pins)) ≡ false) → Walked m n after
  unfolding run
  held_walked master calm =
      on (selected (pins_of (held m pins)))
      (λ low.
      under (λ c. high) (λ c. refl)
      (on (spe m.qspi.registers.spcr1)
      (λ enabled.
      let none : n ≡ 0 = low_still master enabled low calm in
      ap (λ (k : ℕ). run (λ c. pins_of (held m pins)) k m.qspi) none ∙ sym (ap (λ (k : ℕ). run (λ c. high) k m.qspi) none))
      (λ off. run_off (λ c. pins_of (held m pins)) n m.qspi off ∙ sym (run_off (λ c. high) n m.qspi off))))
      (λ fine. under (λ c. pins_of (held m pins)) (λ c. fine) refl)

-- A read: nothing but which flags are seen, of the queue.
read_seen : (status : Bool) (q : Qspi) → queue_read status q ≡ with_seen (queue_read status q).spsr.seen q
unfolding queue_read
read_seen true q = refl
read_seen false q = refl

read_walked : (m : Module) (supervisor : Bool) (width offset : ℕ) → Walked m 0 (does m (event.Access (Read supervisor width offset))).state
unfolding does reads refused after_read run
read_walked m supervisor width offset =
    state_if (Walked m 0) (permits (decide_read m supervisor width offset)) m (after_read m width offset) 0 (read_value m width offset) _
    (λ h.
    record {
      levels = λ c. high;
      quiet = λ c. refl;
      seen = (queue_read (touches 0x1F 1 width offset) m.qspi).spsr.seen;
      queue = read_seen (touches 0x1F 1 width offset) m.qspi;
      pqspar = refl;
      ddrqs = refl;
      portqs = refl;
    })
    (λ h.
    record {
      levels = λ c. high;
      quiet = λ c. refl;
      seen = m.qspi.spsr.seen;
      queue = refl;
      pqspar = refl;
      ddrqs = refl;
      portqs = refl;
    })

-- ---- events in a row

followed_spcr0 : (last wrap : Bool) (q : Qspi) → (followed last wrap q).registers.spcr0 ≡ q.registers.spcr0
followed_spcr0 true true q = refl
followed_spcr0 true false q = refl
followed_spcr0 false wrap q = refl

clock_spcr0 : (q : Qspi) (pins : Pins) → (clock q pins).registers.spcr0 ≡ q.registers.spcr0
clock_spcr0 q pins =
    clock_by (λ r. r.registers.spcr0 ≡ q.registers.spcr0) q pins
    (record {
      fault = λ due. refl;
      still = refl;
      within = λ e. refl;
      ends = λ e last wrap. followed_spcr0 last wrap _;
      delay_over_holds = λ e on waits last. refl;
      starts = λ s e. refl;
      starts_ends = λ s e last wrap. followed_spcr0 last wrap _;
    })

run_spcr0 : (pins : ℕ → Pins) (n : ℕ) (q : Qspi) → (run pins n q).registers.spcr0 ≡ q.registers.spcr0
unfolding run
run_spcr0 pins zero q = refl
run_spcr0 pins (suc n) q = clock_spcr0 (run pins n q) (pins (suc n)) ∙ run_spcr0 pins n q

still_master : (m x : Module) (n : ℕ) → Walked m n x → mstr m.qspi.registers.spcr0 ≡ true → mstr x.qspi.registers.spcr0 ≡ true
still_master m x n w master =
    ap (λ (q : Qspi). mstr q.registers.spcr0) w.queue ∙ ap mstr (run_spcr0 w.levels n m.qspi) ∙ master

event_walked : (m : Module) (e : Event) → mstr m.qspi.registers.spcr0 ≡ true → Watches m e → Walked m (clocks_of e) (does m e).state
event_walked m Reset master w = absurd w
event_walked m (Hold pins rxd n) master w = held_walked m pins rxd n w.0 master w.1
event_walked m (event.Access (Read supervisor width offset)) master w = read_walked m supervisor width offset
event_walked m (event.Access (Write supervisor width offset value)) master w = absurd w

pub walked : (es : List Event) (m : Module) → mstr m.qspi.registers.spcr0 ≡ true → Watched m es → Walked m (clocks_in es) (played es m)
unfolding run
walked [] m master w =
    record {
      levels = λ c. high;
      quiet = λ c. refl;
      seen = m.qspi.spsr.seen;
      queue = refl;
      pqspar = refl;
      ddrqs = refl;
      portqs = refl;
    }
walked (e ∷ es) m master w =
    let k : Module = (does m e).state in
    let v : Walked m (clocks_of e) k = event_walked m e master w.0 in
    then m k (played es k) (clocks_of e) (clocks_in es) v (walked es k (still_master m k (clocks_of e) v master) w.1)

-- Holds in a row are a run of the queue, under the pins that each clock finds. Assumes nothing.
use mathlib.Core.Path.{◌≡◌, refl, sym, ap, ◌∙◌}
use mathlib.Core.Bool.{cond, not, ◌&&◌, and-false}
use mathlib.Core.List.{List, [], ◌∷◌}
use Prim.Native.Nat.{ℕ, zero, suc, ◌+◌, ◌-◌, ◌≤◌, ◌<◌}
use native.Mathlib.Omega.{arith}
use lib.Dec.{leb}
use borrow.Author.Tests.{le-leb, lt-leb}
use Rattle.steps.specs.Bits.{bit}
use Rattle.steps.specs.Iterate.{iterate}
use Rattle.sci.specs.model.Serial.{clocked}
use Rattle.qspi.specs.model.Queue.{clock}
use Rattle.qspi.specs.claims.Run.{run}
use Rattle.qspi.specs.claims.Laws.{Calm}
use Rattle.qspi.specs.declared.Qspi.{Qspi}
use Rattle.qspi.specs.declared.Pins.{Pins}
use Rattle.qspi.proofs.Edges.{hold_runs}
use Rattle.qspi.proofs.Delay.{run_add}
use Rattle.qsm.specs.model.State.{with_sci, with_qspi}
use Rattle.qsm.specs.model.Event.{clock_limit, pins_of, held, clocks, does}
use Rattle.qsm.specs.declared.state.Module.{Module}
use Rattle.qsm.specs.declared.event.Event.TheVariants.{Hold}
use Rattle.qsm.proofs.Booleans.{on}
use Rattle.qsm.specs.declared.event.Done.{Done}
use Rattle.qsm.proofs.Clocks.{counting, apart}
use Rattle.qsm.proofs.Limit.{hold_played, is_room}
use Rattle.tool_plan.specs.Running.{played, Span, holding, total, NoFault}

-- The levels in clock c, from 1 on; past the holds all pins are high.
abbrev levels_at : List Span → ℕ → ℕ
levels_at [] c = 255
levels_at (h ∷ hs) c = cond (leb c h.clocks) h.pins (levels_at hs (c - h.clocks))

abbrev pub pins_in : ℕ → ℕ → List Span → ℕ → Pins
pins_in pqspar ddrqs hs c = record { levels = levels_at hs c; pqspar = pqspar; ddrqs = ddrqs }

-- A run minds only the pins of its own clocks.
run_same : (f g : ℕ → Pins) (n : ℕ) (q : Qspi) → ((c : ℕ) → 0 < c → c ≤ n → f c ≡ g c) → run f n q ≡ run g n q
unfolding run
run_same f g zero q same = refl
run_same f g (suc n) q same =
    ap (λ (r : Qspi). clock r (f (suc n))) (run_same f g n q (λ c some less. same c some (omega arith)))
    ∙ ap (clock (run g n q)) (same (suc n) (omega arith) (omega arith))

-- One hold.
abbrev after : Module → Span → Module
after m h = (does m (Hold h.pins h.rxd h.clocks)).state

module _ (m : Module) (h : Span) (room : m.clock + h.clocks ≤ clock_limit) where
  is : after m h
      ≡ counting (with_sci (with_qspi (held m h.pins) (iterate h.clocks (λ q. clock q (pins_of (held m h.pins))) m.qspi))
      (iterate h.clocks (λ s. clocked s h.rxd) m.sci)) (m.clock + h.clocks)
  unfolding clocks
  is =
      ap (λ (d : Done). d.state) (hold_played m h.pins h.rxd h.clocks (is_room m h.clocks room))
      ∙ apart h.clocks h.rxd (held m h.pins)

  held_queue : (after m h).qspi ≡ run (λ c. pins_of (held m h.pins)) h.clocks m.qspi
  held_queue = ap (λ (x : Module). x.qspi) is ∙ hold_runs (pins_of (held m h.pins)) h.clocks m.qspi

  held_pqspar : (after m h).pqspar ≡ m.pqspar
  held_pqspar = ap (λ (x : Module). x.pqspar) is

  held_ddrqs : (after m h).ddrqs ≡ m.ddrqs
  held_ddrqs = ap (λ (x : Module). x.ddrqs) is

  held_clock : (after m h).clock ≡ m.clock + h.clocks
  held_clock = ap (λ (x : Module). x.clock) is

-- The first of several, and what is left for the others.
first : (m : Module) (h : Span) (hs : List Span) → m.clock + total (h ∷ hs) ≤ clock_limit → m.clock + h.clocks ≤ clock_limit
first m h hs room = omega arith

others : (m : Module) (h : Span) (hs : List Span) → m.clock + total (h ∷ hs) ≤ clock_limit → (after m h).clock + total hs ≤ clock_limit
others m h hs room = omega (arith, held_clock m h (first m h hs room))

pub pins_stay : (hs : List Span) (m : Module) → m.clock + total hs ≤ clock_limit →
    ((played (holding hs) m).pqspar ≡ m.pqspar) × ((played (holding hs) m).ddrqs ≡ m.ddrqs) × ((played (holding hs) m).clock ≤ clock_limit)
pins_stay [] m room = (refl, refl, omega arith)
pins_stay (h ∷ hs) m room =
    let less = first m h hs room in
    let stay = pins_stay hs (after m h) (others m h hs room) in
    (stay.0 ∙ held_pqspar m h less, stay.1 ∙ held_ddrqs m h less, stay.2)

pub holds_run : (hs : List Span) (m : Module) → m.clock + total hs ≤ clock_limit →
    (played (holding hs) m).qspi ≡ run (pins_in m.pqspar m.ddrqs hs) (total hs) m.qspi
unfolding run
holds_run [] m room = refl
holds_run (h ∷ hs) m room =
    let less = first m h hs room in
    let all : ℕ → Pins = pins_in m.pqspar m.ddrqs (h ∷ hs) in
    let n : ℕ = h.clocks in
    let begins : run (λ c. pins_of (held m h.pins)) n m.qspi ≡ run all n m.qspi =
    run_same (λ c. pins_of (held m h.pins)) all n m.qspi (λ c some less. rw (le-leb c n less)) in
    let later : run (pins_in m.pqspar m.ddrqs hs) (total hs) (run all n m.qspi)
    ≡ run (λ c. all (n + c)) (total hs) (run all n m.qspi) =
    run_same (pins_in m.pqspar m.ddrqs hs) (λ c. all (n + c)) (total hs) (run all n m.qspi)
    (λ c some less. let back : n + c - n ≡ c = omega arith in rw (lt-leb (n + c) n (omega arith), back)) in
    holds_run hs (after m h) (others m h hs room)
    ∙ ap (λ (x : ℕ). run (pins_in x (after m h).ddrqs hs) (total hs) (after m h).qspi) (held_pqspar m h less)
    ∙ ap (λ (x : ℕ). run (pins_in m.pqspar x hs) (total hs) (after m h).qspi) (held_ddrqs m h less)
    ∙ ap (run (pins_in m.pqspar m.ddrqs hs) (total hs)) (held_queue m h less ∙ begins)
    ∙ later
    ∙ sym (run_add all n (total hs) m.qspi)

pub no_fault : (hs : List Span) (m : Module) → NoFault m hs → Calm (pins_in m.pqspar m.ddrqs hs)
no_fault [] m calm c = and-false (bit 3 m.pqspar && not (bit 3 m.ddrqs))
no_fault (h ∷ hs) m calm c =
    on (leb c h.clocks) (λ e. rw e calm.0) (λ e. rw e (no_fault hs m calm.1 (c - h.clocks)))

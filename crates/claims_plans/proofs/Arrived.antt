-- The converters of a plan, on the pins of the module that runs it. Assumes nothing.
use mathlib.Core.Path.{◌≡◌, ap, subst, ◌∙◌}
use mathlib.Core.Bool.{true, false, cond}
use mathlib.Core.List.{List}
use Prim.Native.Nat.{ℕ, suc, ◌+◌, ◌-◌, ◌*◌, ◌≤◌, ◌<◌}
use native.Mathlib.Omega.{arith}
use lib.Dec.{eqb}
use borrow.Author.Tests.{eqb-true, eqb-false, le-ltb}
use Rattle.steps.specs.Bits.{bit}
use Rattle.qspi.specs.model.Fields.{mstr, cpol, cpha, spe, bits_of}
use Rattle.qspi.specs.model.Outputs.{sck}
use Rattle.qspi.specs.claims.Run.{run}
use Rattle.qspi.specs.declared.Qspi.{Qspi}
use Rattle.qsm.specs.model.Event.{answer_of}
use Rattle.qsm.specs.claims.PinClauses.{high}
use Rattle.qsm.specs.declared.state.Module.{Module}
use Rattle.qsm.specs.declared.event.Event.{Event}
use Rattle.qsm.proofs.Booleans.{on}
use Rattle.tool_plan.specs.Check.{select_no, bits_no, word_no, command_no}
use Rattle.tool_plan.specs.Accepted.{Accepted}
use Rattle.tool_plan.specs.Running.{start_of, edge_no, Does}
use Rattle.tool_plan.specs.declared.SetPoints.{SetPoints}
use Rattle.tool_plan.specs.declared.Plan.{Plan}
use Rattle.tool_plan.proofs.Started.{Started}
use Rattle.claims_plans.specs.Watching.{clocks_in, Watched}
use Rattle.claims_plans.specs.Moments.{cut, moment}
use Rattle.claims_plans.specs.Standing.{Laid}
use Rattle.claims_plans.specs.Converter.{holds_at, converter_for, pins_at, Wired, Parked, Holds}
use Rattle.claims_plans.proofs.Walked.{Walked, walked}
use Rattle.claims_plans.proofs.Fresh.{Fresh}
use Rattle.claims_plans.proofs.Runs.{standing, does_all, sck_shown, sck_parked}
use Rattle.claims_plans.proofs.Cut.{cut_is_watched}
use Rattle.claims_plans.proofs.Shifting.{edge_in}
use Rattle.claims_plans.proofs.Keeping.{keeps}

no_edge_yet : (q : Qspi) → q.entry.edges ≡ 0 → sck q ≡ cpol q.registers.spcr0
no_edge_yet q none = rw none

module _ (s : SetPoints) (window : ℕ) (p : Plan) (a : Accepted s window p) (l : Module) (d : Laid p l)
    (is : l.qspi.registers.spcr1 ≡ p.spcr1) (fresh : Fresh l.qspi) (wires : Wired l) (es : List Event) (w : Watched l es) where
  st : Started p l.qspi
  st = standing s window p a l d is fresh

  abbrev t : ℕ
  t = clocks_in es

  abbrev x : ℕ → Module
  x c = moment l es c

  -- Each clock of the list.
  at : (c : ℕ) → c ≤ t → Walked l c (x c)
  at c most =
      let part = cut_is_watched l es c w most in
      subst (λ (n : ℕ). Walked l n (x c)) part.1 (walked (cut c es) l (ap mstr d.spcr0 ∙ a.master) part.0)

  ok : (c : ℕ) → c ≤ t → Does s p (x c) c
  ok c most = does_all s window p a l st d.mosi_assigned d.mosi_output c (x c) (at c most)

  wired : (c : ℕ) → c ≤ t → Wired (x c)
  wired c most =
      record {
        assigned = λ i four. ap (bit (3 + i)) (at c most).pqspar ∙ wires.assigned i four;
        output = λ i four. ap (bit (3 + i)) (at c most).ddrqs ∙ wires.output i four;
      }

  -- Before the first clock SCK rests.
  start : high (answer_of (x 0) 0 0) 2 ≡ cpol p.spcr0
  unfolding run
  start =
      let v : Walked l 0 (x 0) = at 0 (omega arith) in
      let same : (x 0).qspi.registers.spcr1 ≡ p.spcr1 = ap (λ (q : Qspi). q.registers.spcr1) v.queue ∙ is in
      (sck_shown (x 0) (ap spe same ∙ a.enabled)).1
      ∙ ap sck v.queue
      ∙ no_edge_yet l.qspi fresh.no_edge
      ∙ ap cpol d.spcr0

  -- From the stated clock on DDRQS and PORTQS rule SCK.
  parked : (c : ℕ) → p.clock ≤ c → c ≤ t → high (answer_of (x c) 0 0) 2 ≡ cond (bit 2 l.ddrqs) (bit 2 l.portqs) false
  parked c late most =
      sck_parked (x c) ((ok c most).enabled ∙ le-ltb c p.clock late)
      ∙ ap (λ (y : ℕ). cond (bit 2 y) (bit 2 (x c).portqs) false) (at c most).ddrqs
      ∙ ap (λ (y : ℕ). cond (bit 2 l.ddrqs) (bit 2 y) false) (at c most).portqs

  -- The last entry's last edge is at the stated clock.
  stated : (k : ℕ) → suc k ≡ s.count → p.clock ≡ edge_no p k (bits_no s k * 2)
  stated k last =
      let number : p.count - 1 ≡ k = omega (arith, a.once) in
      a.clock ∙ ap (λ (y : ℕ). edge_no p y (bits_of p.spcr0 (command_no p y) * 2)) number
      ∙ ap (λ (y : ℕ). edge_no p k (y * 2)) (a.carries k (omega arith)).bits

  module _ (k r c : ℕ) (less : k < s.count) (park : cpha p.spcr0 ≡ true → suc k ≡ s.count → Parked p l)
      (low : edge_no p k (bits_no s k * 2) ≤ c) (most : c ≤ t)
      (others : (j : ℕ) → k < j → j < s.count → start_of p j < c → select_no s j ≡ select_no s k → ⊥) where
    abbrev end : ℕ
    end = edge_no p k (bits_no s k * 2)

    -- SCK comes to rest.
    ends : cpha p.spcr0 ≡ true → high (answer_of (x end) 0 0) 2 ≡ cpol p.spcr0
    ends ph =
        on (eqb (suc k) s.count)
        (λ h.
        let last : suc k ≡ s.count = eqb-true (suc k) s.count h in
        parked end (omega (arith, stated k last)) (omega arith) ∙ park ph last)
        (λ h.
        let other : suc k ≡ s.count → ⊥ = eqb-false (suc k) s.count h in
        ((ok end (omega arith)).rests k (omega arith) (omega arith) (edge_in s window p a k less)).1)

    holds : holds_at (converter_for s p k) (pins_at l es) r c ≡ word_no s k
    holds =
        let sum : end + (c - end) ≡ c = omega arith in
        subst (λ (y : ℕ). holds_at (converter_for s p k) (pins_at l es) r y ≡ word_no s k) sum
        (keeps s window p a x t ok wired start (cond (bit 2 l.ddrqs) (bit 2 l.portqs) false) parked stated k less r ends (c - end) (omega arith)
        (λ j late in-plan begun. others j late in-plan (omega arith)))

pub words_arrive : (s : SetPoints) (window : ℕ) (p : Plan) → Accepted s window p → (l : Module) → Laid p l →
    l.qspi.registers.spcr1 ≡ p.spcr1 → Fresh l.qspi → Wired l → Holds s p l
words_arrive s window p a l d is fresh wires es k r c w less park low most others =
    holds s window p a l d is fresh wires es w k r c less park low most others

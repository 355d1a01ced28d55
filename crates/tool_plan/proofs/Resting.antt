-- Between two entries of a loaded plan SCK rests, and the queue goes on. Assumes nothing.
use mathlib.Core.Path.{◌≡◌, refl, sym, ap, subst, ◌∙◌}
use mathlib.Core.Bool.{true, false}
use Prim.Native.Nat.{ℕ, suc, ◌+◌, ◌-◌, ◌*◌, ◌≤◌, ◌<◌}
use native.Mathlib.Omega.{arith}
use lib.Dec.{eqb}
use borrow.Author.Tests.{eqb-true, eqb-false}
use Rattle.qspi.specs.model.Fields.{cpol, spbr, halt, bits_of, pre_delay, delay_after}
use Rattle.qspi.specs.model.Queue.{begun}
use Rattle.qspi.specs.model.Outputs.{sck}
use Rattle.qspi.specs.claims.Run.{run, edge_at, last_clock_of, last_clock, length_of, length_in, delay_in}
use Rattle.qspi.specs.claims.Laws.{Starting, Calm, goes_on}
use Rattle.qspi.specs.declared.Qspi.{Qspi}
use Rattle.qspi.specs.declared.Pins.{Pins}
use Rattle.qspi.proofs.Bounds.{bits_pos, pre_pos}
use Rattle.qspi.proofs.Lines.{sck_rests}
use Rattle.qspi.proofs.Delay.{delay_runs, next_starts}
use Rattle.qsm.proofs.Booleans.{on}
use Rattle.tool_plan.specs.Check.{bits_no, command_no, clock_before}
use Rattle.tool_plan.specs.Accepted.{Accepted}
use Rattle.tool_plan.specs.Running.{start_of, edge_no}
use Rattle.tool_plan.specs.declared.SetPoints.{SetPoints}
use Rattle.tool_plan.specs.declared.Plan.{Plan}
use Rattle.tool_plan.proofs.Clocking.{starts_in_order}
use Rattle.tool_plan.proofs.Verdict.{edge_formula}
use Rattle.tool_plan.proofs.AtEntry.{AtEntry}

-- From edge 2n on, up to the clock before the next entry's clock 1.
at_rest : (r : Qspi) (pins : ℕ → Pins) → Starting r → Calm pins → goes_on r ≡ true → halt r.registers.spcr3 ≡ false → (d : ℕ) →
    d ≤ delay_in (begun r) → sck (run pins (last_clock (begun r) + d) r) ≡ cpol r.registers.spcr0
at_rest r pins starts calm goes clear d most =
    on (eqb d 0)
    (λ none.
    let sum : last_clock (begun r) + d ≡ last_clock (begun r) = omega (arith, eqb-true d 0 none) in
    ap (λ (c : ℕ). sck (run pins c r)) sum ∙ sck_rests r pins starts calm)
    (λ some.
    let positive : d ≡ 0 → ⊥ = eqb-false d 0 some in
    on (eqb d (delay_in (begun r)))
    (λ last.
    let sum : last_clock (begun r) + d ≡ length_in (begun r) = omega (arith, eqb-true d (delay_in (begun r)) last) in
    ap (λ (c : ℕ). sck (run pins c r)) sum ∙ ap sck (next_starts r pins starts calm goes clear).0 ∙ sck_rests r pins starts calm)
    (λ within.
    let other : d ≡ delay_in (begun r) → ⊥ = eqb-false d (delay_in (begun r)) within in
    ap sck (delay_runs r pins starts calm goes d (omega arith) (omega arith)) ∙ sck_rests r pins starts calm))

module _ (s : SetPoints) (window : ℕ) (p : Plan) (a : Accepted s window p) (q r : Qspi) (pins : ℕ → Pins) (calm : Calm pins)
    (k c : ℕ) (next : suc k < s.count) (low : edge_no p k (bits_no s k * 2) ≤ c) (high : c ≤ start_of p (suc k)) (at : AtEntry p q pins k r) where
  abbrev d : ℕ
  d = c - edge_no p k (bits_no s k * 2)

  last_is : last_clock (begun r) ≡ edge_at (pre_delay p.spcr0 p.spcr1 (command_no p k)) (spbr p.spcr0) (bits_no s k * 2)
  last_is =
      at.like last_clock_of
      ∙ ap (λ (n : ℕ). edge_at (pre_delay p.spcr0 p.spcr1 (command_no p k)) (spbr p.spcr0) (n * 2)) (a.carries k (omega arith)).bits

  delay_is : delay_in (begun r) ≡ delay_after p.spcr1 (command_no p k)
  delay_is = at.like (λ x y z. delay_after y z)

  until : start_of p (suc k) ≡ start_of p k + length_of p.spcr0 p.spcr1 (command_no p k)
  unfolding clock_before
  until = refl

  moved : run pins c q ≡ run (λ i. pins (start_of p k + i)) (last_clock (begun r) + d) r
  moved =
      let sum : c ≡ start_of p k + (last_clock (begun r) + d) = omega (arith, last_is, low) in
      ap (λ (x : ℕ). run pins x q) sum ∙ at.moved (last_clock (begun r) + d)

  pub rests : sck (run pins c q) ≡ cpol p.spcr0
  rests =
      let whole : last_clock_of p.spcr0 p.spcr1 (command_no p k) ≡ last_clock (begun r) = sym (at.like last_clock_of) in
      ap sck moved
      ∙ at_rest r (λ i. pins (start_of p k + i)) at.starts (λ i. calm (start_of p k + i)) (at.goes_on_there (omega (arith, a.once))) at.clear d
      (omega (arith, last_is, delay_is, until, whole, low, high))
      ∙ ap cpol (at.like (λ x y z. x))

  -- The queue hasn't ended.
  pub early : c < p.clock
  early =
      let more : suc k + (p.count - 1 - suc k) ≡ p.count - 1 = omega (arith, a.once) in
      let bits : 1 ≤ bits_of p.spcr0 (command_no p (p.count - 1)) = bits_pos p.spcr0 (command_no p (p.count - 1)) in
      let pre : 1 ≤ pre_delay p.spcr0 p.spcr1 (command_no p (p.count - 1)) =
      pre_pos p.spcr0 p.spcr1 (command_no p (p.count - 1)) (omega (arith, a.rate)) in
      omega (
        arith,
        high,
        a.clock,
        subst (λ (n : ℕ). start_of p (suc k) ≤ start_of p n) more
            (starts_in_order p.spcr0 p.spcr1 p.commands (suc k) (p.count - 1 - suc k)),
        edge_formula (pre_delay p.spcr0 p.spcr1 (command_no p (p.count - 1))) (spbr p.spcr0)
            (bits_of p.spcr0 (command_no p (p.count - 1)) * 2) (omega arith),
      )

-- The clocks of a loaded plan are those of the queue that runs it; SPIF rises at the last. Assumes nothing.
use mathlib.Core.Path.{◌≡◌, refl, sym, subst, ◌∙◌}
use mathlib.Core.Bool.{true, false}
use mathlib.Core.List.{List}
use Prim.Native.Nat.{ℕ, zero, suc, ◌+◌, ◌-◌, ◌≤◌, ◌<◌}
use native.Mathlib.Omega.{arith}
use lib.Dec.{leb, ltb}
use borrow.Author.Tests.{leb-true, leb-false, lt-ltb, le-ltb}
use Rattle.qspi.specs.model.Fields.{spe}
use Rattle.qspi.specs.claims.Run.{run, begins_at, entries_before, ends_at}
use Rattle.qspi.specs.claims.Run as queue
use Rattle.qspi.specs.claims.Laws.{Calm, QueueOver}
use Rattle.qspi.specs.declared.Qspi.{Qspi}
use Rattle.qspi.specs.declared.Pins.{Pins}
use Rattle.qspi.proofs.Order.{last_of_queue}
use Rattle.qspi.proofs.Sooner.{not_sooner}
use Rattle.qspi.proofs.Still.{still_on, still_low}
use Rattle.qsm.proofs.Booleans.{on, clash}
use Rattle.tool_plan.specs.Check.{command_no, clock_before}
use Rattle.tool_plan.specs.Accepted.{Accepted}
use Rattle.tool_plan.specs.Running.{start_of}
use Rattle.tool_plan.specs.declared.SetPoints.{SetPoints}
use Rattle.tool_plan.specs.declared.Plan.{Plan}
use Rattle.tool_plan.proofs.Started.{Started}

-- An entry begins before a later one.
pub starts_in_order : (spcr0 spcr1 : ℕ) (commands : List ℕ) (k d : ℕ) →
    clock_before spcr0 spcr1 commands k ≤ clock_before spcr0 spcr1 commands (k + d)
unfolding clock_before
starts_in_order spcr0 spcr1 commands k zero = let same : k + zero ≡ k = omega arith in rw same (omega arith)
starts_in_order spcr0 spcr1 commands k (suc d) =
    let sum : k + suc d ≡ suc (k + d) = omega arith in
    rw sum (omega (arith, starts_in_order spcr0 spcr1 commands k d))

module _ (s : SetPoints) (window : ℕ) (p : Plan) (a : Accepted s window p) (q : Qspi) (st : Started p q) where
  -- As many entries stand before the last as the plan has but one.
  pub before_is : entries_before q ≡ p.count - 1
  before_is =
      rw (st.last, st.first)
      (omega (arith, a.first, a.last, a.consecutive, a.once, a.proper.some, a.proper.most))

  pub command_is : (k : ℕ) → k < p.count → queue.command_no q k ≡ command_no p k
  command_is k less = rw st.first (st.commands k less)

  pub begins_is : (k : ℕ) → k ≤ p.count → begins_at q k ≡ start_of p k
  unfolding begins_at clock_before
  begins_is zero less = refl
  begins_is (suc k) less =
      rw (begins_is k (omega arith), command_is k less, st.spcr0, st.spcr1)

  ends_is : ends_at q ≡ p.clock
  ends_is =
      let last : p.count - 1 < p.count = omega (arith, a.once, a.proper.some) in
      rw (before_is, begins_is (p.count - 1) (omega arith), command_is (p.count - 1) last, st.spcr0, st.spcr1) (sym a.clock)

  module _ (pins : ℕ → Pins) (calm : Calm pins) where
    over : QueueOver q (run pins p.clock q)
    over =
        subst (λ (c : ℕ). QueueOver q (run pins c q)) ends_is
        (last_of_queue q pins st.starts calm st.goes st.no_wrap)

    before : (c : ℕ) → c < p.clock → (spe (run pins c q).registers.spcr1 ≡ true) × ((run pins c q).spsr.flags.spif ≡ false)
    before c less =
        not_sooner q pins st.starts calm st.goes st.low c (subst (λ (e : ℕ). c < e) (sym ends_is) less)

    later : (c : ℕ) → p.clock ≤ c → (spe (run pins c q).registers.spcr1 ≡ false) × ((run pins c q).spsr.flags.spif ≡ true)
    later c less =
        let sum : p.clock + (c - p.clock) ≡ c = omega arith in
        subst (λ (e : ℕ). (spe (run pins e q).registers.spcr1 ≡ false) × ((run pins e q).spsr.flags.spif ≡ true)) sum (
          on (spe (run pins (p.clock + (c - p.clock)) q).registers.spcr1)
              (λ e. clash _ over.off (still_on pins p.clock (c - p.clock) q e)) (λ e. e),
          on (run pins (p.clock + (c - p.clock)) q).spsr.flags.spif (λ e. e)
              (λ e. clash _ (still_low pins p.clock (c - p.clock) q e) over.risen),
        )

    pub spif_at : (c : ℕ) → (run pins c q).spsr.flags.spif ≡ leb p.clock c
    spif_at c =
        on (leb p.clock c) (λ e. (later c (leb-true _ _ e)).1 ∙ sym e) (λ e. (before c (leb-false _ _ e)).1 ∙ sym e)

    pub enabled_at : (c : ℕ) → spe (run pins c q).registers.spcr1 ≡ ltb c p.clock
    enabled_at c =
        on (leb p.clock c) (λ e. (later c (leb-true _ _ e)).0 ∙ sym (le-ltb c p.clock (leb-true p.clock c e)))
        (λ e. (before c (leb-false _ _ e)).0 ∙ sym (lt-ltb c p.clock (leb-false p.clock c e)))

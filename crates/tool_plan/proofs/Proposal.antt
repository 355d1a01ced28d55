-- The proposal: its counts, its commands, its registers. If any plan is accepted the proposal is, with a clock not above. Assumes nothing.
use mathlib.Core.Path.{◌≡◌, refl, sym, ap, ◌∙◌}
use mathlib.Core.Bool.{Bool, true, false, cond}
use mathlib.Core.Logic.{◌⊎◌, inl, inr, ⊎_elim}
use Prim.Native.Nat.{ℕ, zero, suc, ◌+◌, ◌-◌, ◌*◌, ◌/◌, ◌%◌, ◌≤◌, ◌<◌}
use native.Mathlib.Nat.{le_trans, add-le-add}
use native.Mathlib.Omega.{arith}
use lib.Dec.{eqb, leb}
use lib.ListN.{get_or, length, length-set, length-replicate}
use lib.Seq.{get_or-set_same, get_or-set_other}
use borrow.Author.Tests.{eqb-true, eqb-false, leb-true, lt-leb}
use Rattle.qspi.specs.model.Fields.{mstr, spbr, bits_field, zero_means, pcs_field, bits_of}
use Rattle.qspi.specs.model.Registers.{spcr0_unmodelled}
use Rattle.qspi.specs.claims.Run.{last_clock_of}
use Rattle.qspi.proofs.Bounds.{delay_pos}
use Rattle.qsm.proofs.Booleans.{on}
use Rattle.tool_plan.specs.Check.{select_no, bits_no, word_no, command_no, clock_before}
use Rattle.tool_plan.specs.Accepted.{InRange, Accepted}
use Rattle.tool_plan.specs.Quickest.{quickest, commands_of, other_count, proposal}
use Rattle.tool_plan.specs.declared.SetPoints.{SetPoints}
use Rattle.tool_plan.specs.declared.Plan.{Plan}
use Rattle.tool_plan.proofs.Counts.{count_of}
use Rattle.tool_plan.proofs.Verdict.{edge_formula}
use Rattle.tool_plan.proofs.Least.{least_edge, last_least, quick_select, quick_pre, quick_delay}

-- ---- the counts

-- Where every count is 8 or one other, it is 8 or the one that the proposal takes.
module _ (s : SetPoints) (other : ℕ) where
  pub agrees : (n : ℕ) → ((k : ℕ) → k < n → (bits_no s k ≡ 8) ⊎ (bits_no s k ≡ other)) →
      (k : ℕ) → k < n → (bits_no s k ≡ 8) ⊎ (bits_no s k ≡ other_count s.bits n)
  unfolding other_count
  agrees zero h k less = absurd (omega arith)
  agrees (suc n) h k less =
      on (eqb (bits_no s n) 8)
      (λ plain. rw plain
      (on (eqb k n) (λ here. inl (ap (bits_no s) (eqb-true k n here) ∙ eqb-true _ _ plain))
      (λ there. let other : k ≡ n → ⊥ = eqb-false k n there in agrees n (λ i l. h i (omega arith)) k (omega arith))))
      (λ not-8. rw not-8
      (⊎_elim (λ e. inl e)
      (λ e. ⊎_elim (λ f. absurd (eqb-false _ _ not-8 f)) (λ f. inr (e ∙ sym f)) (h n (omega arith)))
      (h k less)))

-- It is from 8 to 16, as all are.
pub other_range : (s : SetPoints) (n : ℕ) → ((k : ℕ) → k < n → InRange (select_no s k) (bits_no s k) (word_no s k)) →
    (8 ≤ other_count s.bits n) × (other_count s.bits n ≤ 16)
unfolding other_count
other_range s zero h = (omega arith, omega arith)
other_range s (suc n) h =
    on (eqb (bits_no s n) 8) (λ plain. rw plain (other_range s n (λ k less. h k (omega arith))))
    (λ not-8. rw not-8 ((h n (omega arith)).bits_least, (h n (omega arith)).bits_most))

-- ---- the registers

-- BITS holds a count from 8 to 16, which is taken back from it.
module _ (o : ℕ) (low : 8 ≤ o) (high : o ≤ 16) where
  abbrev spcr0 : ℕ
  spcr0 = 0x8002 + o % 16 * 1024

  pub bits_back : zero_means 16 (bits_field spcr0) ≡ o
  bits_back =
      let field : bits_field spcr0 ≡ o % 16 = omega arith in
      rw field
      (on (eqb (o % 16) 0) (λ h. let z : o % 16 ≡ 0 = eqb-true _ _ h in rw h (omega arith))
      (λ h. let z : o % 16 ≡ 0 → ⊥ = eqb-false _ _ h in rw h (omega arith)))

  pub rate_2 : spbr spcr0 ≡ 2
  rate_2 = omega arith

  pub is_master : mstr spcr0 ≡ true
  is_master = let one : spcr0 / 32768 % 2 ≡ 1 = omega arith in rw one

  pub is_modelled : spcr0_unmodelled spcr0 true ≡ false
  is_modelled =
      let field : bits_field spcr0 ≡ o % 16 = omega arith in
      let two : spcr0 / 16384 ≡ 2 = omega arith in
      rw (two, field)
      (on (leb 1 (o % 16))
      (λ h.
      let some : 1 ≤ o % 16 = leb-true _ _ h in
      let many : 7 < o % 16 = omega arith in
      rw (h, lt-leb (o % 16) 7 many))
      (λ h. rw h))

-- ---- the commands

commands_long : (s : SetPoints) (n : ℕ) → length (commands_of s.selects s.bits n) ≡ 16
unfolding commands_of
commands_long s zero = length-replicate {A = ℕ} 16 0
commands_long s (suc n) = length-set (commands_of s.selects s.bits n) n (quickest (select_no s n) (bits_no s n)) ∙ commands_long s n

pub command_is : (s : SetPoints) (n : ℕ) → n ≤ 16 → (k : ℕ) → k < n →
    get_or (commands_of s.selects s.bits n) k 0 ≡ quickest (select_no s k) (bits_no s k)
unfolding commands_of
command_is s zero few k less = absurd (omega arith)
command_is s (suc n) few k less =
    on (eqb k n)
    (λ here. rw (eqb-true k n here) (get_or-set_same (commands_of s.selects s.bits n) n _ 0 (omega (arith, commands_long s n))))
    (λ there. let other : k ≡ n → ⊥ = eqb-false k n there in
    get_or-set_other (commands_of s.selects s.bits n) n k _ 0 other ∙ command_is s n (omega arith) k (omega arith))

-- ---- the proposal of set-points for which some plan is accepted

zero_or_64 : (b : Bool) → cond b 0 64 % 64 ≡ 0
zero_or_64 true = refl
zero_or_64 false = refl

module _ (s : SetPoints) (window : ℕ) (p : Plan) (a : Accepted s window p) where
  abbrev n : ℕ
  n = s.count

  abbrev o : ℕ
  o = other_count s.bits n

  abbrev q : Plan
  q = proposal s

  range : (8 ≤ o) × (o ≤ 16)
  range = other_range s n a.proper.ranges

  agree : (k : ℕ) → k < n → (bits_no s k ≡ 8) ⊎ (bits_no s k ≡ o)
  agree =
      agrees s (zero_means 16 (bits_field p.spcr0)) n
      (λ k less.
      ⊎_elim (λ e. inl (sym (a.carries k less).bits ∙ e)) (λ e. inr (sym (a.carries k less).bits ∙ e))
      (count_of p.spcr0 (command_no p k)))

  -- Entry k's command, its bits and its clocks.
  abbrev command : ℕ → ℕ
  command k = quickest (select_no s k) (bits_no s k)

  here : (k : ℕ) → k < n → get_or (commands_of s.selects s.bits n) k 0 ≡ command k
  here k less = command_is s n a.proper.most k less

  bits : (k : ℕ) → k < n → bits_of (0x8002 + o % 16 * 1024) (command k) ≡ bits_no s k
  unfolding bits_of
  bits k less =
      on (eqb (bits_no s k) 8)
      (λ plain.
      let off : (0 + 16 + select_no s k % 16) / 64 % 2 ≡ 0 = omega arith in
      rw (plain, off) (sym (eqb-true _ _ plain)))
      (λ not-8.
      let set : (64 + 16 + select_no s k % 16) / 64 % 2 ≡ 1 = omega arith in
      rw (not-8, set)
      (bits_back o range.0 range.1
      ∙ ⊎_elim (λ e. absurd (eqb-false _ _ not-8 e)) (λ e. sym e) (agree k less)))

  last_is : (k : ℕ) → k < n → last_clock_of (0x8002 + o % 16 * 1024) 0x8100 (command k) ≡ least_edge (bits_no s k)
  last_is k less =
      let some : 8 ≤ bits_no s k = (a.proper.ranges k less).bits_least in
      rw (
        quick_pre (cond (eqb (bits_no s k) 8) 0 64) (select_no s k) (zero_or_64 (eqb (bits_no s k) 8)) (0x8002 + o % 16 * 1024),
        bits k less,
        rate_2 o range.0 range.1,
      )
      (edge_formula 1 2 (bits_no s k * 2) (omega arith))

  last_not_above : (k : ℕ) → k < n →
      last_clock_of (0x8002 + o % 16 * 1024) 0x8100 (command k) ≤ last_clock_of p.spcr0 p.spcr1 (command_no p k)
  last_not_above k less =
      rw (last_is k less, ← (a.carries k less).bits) (last_least p.spcr0 p.spcr1 (command_no p k) a.rate)

  before_not_above : (k : ℕ) → k ≤ n →
      clock_before (0x8002 + o % 16 * 1024) 0x8100 (commands_of s.selects s.bits n) k
      ≤ clock_before p.spcr0 p.spcr1 p.commands k
  unfolding clock_before
  before_not_above zero less = omega arith
  before_not_above (suc k) less =
      add-le-add (before_not_above k (omega arith))
      (rw (here k less)
      (add-le-add (last_not_above k less)
      (rw (quick_delay (cond (eqb (bits_no s k) 8) 0 64) (select_no s k) (zero_or_64 (eqb (bits_no s k) 8)))
      (delay_pos p.spcr1 (command_no p k)))))

  -- Not above any accepted plan's.
  pub clock_not_above : (proposal s).clock ≤ p.clock
  unfolding proposal
  clock_not_above =
      let less : n - 1 < n = omega (arith, a.proper.some) in
      rw (a.clock, a.once)
      (add-le-add (before_not_above (n - 1) (omega arith)) (rw (here (n - 1) less) (last_not_above (n - 1) less)))

  pub proposal_accepted : Accepted s window (proposal s)
  unfolding proposal
  proposal_accepted =
      record {
        proper = a.proper;
        once = refl;
        carries =
            λ k less.
            let small : select_no s k ≤ 15 = (a.proper.ranges k less).select_most in
            record {
              select =
                  ap pcs_field (here k less)
                  ∙ quick_select (cond (eqb (bits_no s k) 8) 0 64) (select_no s k) (zero_or_64 (eqb (bits_no s k) 8))
                  ∙ omega arith;
              word = refl;
              bits = ap (bits_of (0x8002 + o % 16 * 1024)) (here k less) ∙ bits k less;
            };
        first = omega arith;
        last = omega (arith, a.proper.most);
        consecutive = omega (arith, a.proper.some);
        rate = omega (arith, rate_2 o range.0 range.1);
        master = is_master o range.0 range.1;
        enabled = refl;
        no_wrap = refl;
        modelled = is_modelled o range.0 range.1;
        clock = refl;
        within = le_trans clock_not_above a.within;
      }

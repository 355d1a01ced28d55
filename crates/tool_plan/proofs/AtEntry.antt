-- The queue of a loaded plan where entry k is to begin. Assumes nothing.
use mathlib.Core.Path.{◌≡◌, ap, subst, ◌∙◌}
use mathlib.Core.Bool.{true, false}
use Prim.Native.Nat.{ℕ, suc, ◌+◌, ◌%◌, ◌<◌}
use native.Mathlib.Omega.{arith}
use lib.ListN.{get_or}
use borrow.Author.Tests.{ne_eqb}
use Rattle.qspi.specs.model.Fields.{endqp, halt}
use Rattle.qspi.specs.model.Queue.{entry_at, begun}
use Rattle.qspi.specs.claims.Run.{run}
use Rattle.qspi.specs.claims.Run as queue
use Rattle.qspi.specs.claims.Laws.{Starting, Calm, Before, goes_on}
use Rattle.qspi.specs.declared.Qspi.{Qspi}
use Rattle.qspi.specs.declared.Pins.{Pins}
use Rattle.qspi.proofs.Delay.{run_add}
use Rattle.qspi.proofs.Order.{entries_run, same_clock}
use Rattle.tool_plan.specs.Check.{command_no, sent_no}
use Rattle.tool_plan.specs.Accepted.{Accepted}
use Rattle.tool_plan.specs.Running.{start_of}
use Rattle.tool_plan.specs.declared.SetPoints.{SetPoints}
use Rattle.tool_plan.specs.declared.Plan.{Plan}
use Rattle.tool_plan.proofs.Started.{Started}
use Rattle.tool_plan.proofs.Clocking.{before_is, command_is, begins_is}

-- Its next clock is the entry's clock 1, its registers and the entry are the plan's, and the clocks count on from there.
pub record AtEntry (p : Plan) (q : Qspi) (pins : ℕ → Pins) (k : ℕ) (r : Qspi) : Type 0 where
  pub starts : Starting r
  pub clear : halt r.registers.spcr3 ≡ false
  pub goes_on_there : suc k < p.count → goes_on r ≡ true
  pub like : (f : ℕ → ℕ → ℕ → ℕ) →
      f r.registers.spcr0 r.registers.spcr1 (begun r).entry.command ≡ f p.spcr0 p.spcr1 (command_no p k)
  pub word : (begun r).entry.word ≡ sent_no p k
  pub moved : (d : ℕ) → run pins (start_of p k + d) q ≡ run (λ i. pins (start_of p k + i)) d r

module _ (s : SetPoints) (window : ℕ) (p : Plan) (a : Accepted s window p) (q : Qspi) (st : Started p q)
    (pins : ℕ → Pins) (calm : Calm pins) (k : ℕ) (less : k < p.count) where
  abbrev r : Qspi
  r = run pins (start_of p k) q

  b : Before q r k
  b =
      subst (λ (c : ℕ). Before q (run pins c q) k) (begins_is s window p a q st k (omega arith))
      (entries_run q pins st.starts calm st.goes k (omega (arith, before_is s window p a q st)))

  here : entry_at r ≡ (p.first + k) % 16
  here = b.here ∙ ap (λ (x : ℕ). (x + k) % 16) st.first

  more : suc k < p.count → goes_on r ≡ true
  more next =
      let other : entry_at r ≡ endqp r.registers.spcr2 → ⊥ =
      (λ e. omega (arith, here, ap endqp b.spcr2 ∙ st.last, e, a.consecutive, a.first, a.last, a.once, a.proper.most)) in
      rw (ne_eqb (entry_at r) (endqp r.registers.spcr2) other)

  pub at_entry : AtEntry p q pins k r
  at_entry =
      record {
        starts = b.starts;
        clear = ap halt b.spcr3 ∙ st.goes;
        goes_on_there = more;
        like =
            λ f.
            same_clock f q r k b ∙ ap (λ (x : ℕ). f x q.registers.spcr1 (queue.command_no q k)) st.spcr0
            ∙ ap (λ (x : ℕ). f p.spcr0 x (queue.command_no q k)) st.spcr1
            ∙ ap (f p.spcr0 p.spcr1) (command_is s window p a q st k less);
        word =
            ap (λ x. get_or x (entry_at r) 0) b.transmit ∙ ap (λ (x : ℕ). get_or q.ram.transmit x 0) here ∙ st.words k less;
        moved = λ d. run_add pins (start_of p k) d q;
      }

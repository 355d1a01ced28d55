-- What stops a queue, and a hold as clocks of it. Assumes nothing.
use mathlib.Core.Path.{◌≡◌, refl, sym, ap, subst, ◌∙◌}
use mathlib.Core.Bool.{true, false}
use Prim.Native.Nat.{ℕ}
use native.Mathlib.Omega.{arith}
use Rattle.steps.specs.Bits.{merge}
use Rattle.qspi.specs.model.Fields.{spe}
use Rattle.qspi.specs.model.Parts.{with_registers}
use Rattle.qspi.specs.model.Registers.{reset, with_spcr1, switched, write_spcr1}
use Rattle.qspi.specs.model.Queue.{faulted, fault_now}
use Rattle.qspi.specs.claims.Run.{run}
use Rattle.qspi.specs.claims.Marked.{set_up}
use Rattle.qspi.specs.declared.Qspi.{Qspi}
use Rattle.qspi.proofs.Delay.{no_spe}
use Rattle.qspi.proofs.Edges.{hold_runs}
use Rattle.qspi.proofs.FieldClauses.{field_clauses}
use Rattle.qspi.proofs.Lines.{spe_written}
use Rattle.qspi.proofs.Quiet.{clock_faults}
use Rattle.qsm.specs.model.Event.{step, clocks, held, answer_of, does}
use Rattle.qsm.proofs.Limit.{hold_if}
use Rattle.qsm.proofs.Clocks.{apart}
use Rattle.claims_queue.specs.Stops.{TooFast, Abandoned, Faulted, ModeFault, Cleared}
use Rattle.claims_queue.specs.Claims.{HoldRuns, Met}
use Rattle.claims_queue.proofs.Follows.{off}

pub too_fast : TooFast
too_fast q pins on slow p d calm c = field_clauses.none_starts q pins on p d slow calm c

fault_here : (q : Qspi) → Faulted q (faulted true q)
fault_here q =
    record {
      MODF = refl;
      spcr1 = refl;
      abandoned =
          record {
            SPE = no_spe q.registers.spcr1;
            spcr0 = refl;
            spcr2 = refl;
            spcr3 = refl;
            ram = refl;
            cptqp = refl;
            SPIF = refl;
            HALTA = refl;
            seen = refl;
            playing = refl;
            delaying = refl;
            later = λ pins c. off (faulted true q) pins (no_spe q.registers.spcr1) c;
          };
    }

pub mode_fault : ModeFault
mode_fault q pins on master low =
    let due : fault_now q pins ≡ true = rw (on, master, low) in
    subst (Faulted q) (sym (clock_faults q pins due)) (fault_here q)

pub cleared : Cleared
unfolding write_spcr1
cleared q v lower on zero =
    let gone : spe (merge q.registers.spcr1 v true lower) ≡ false = spe_written q.registers.spcr1 v lower ∙ zero in
    let w : Qspi = switched true false (with_registers q (with_spcr1 q.registers (merge q.registers.spcr1 v true lower))) in
    let there : write_spcr1 q v true lower ≡ w = rw (on, gone) in (
      ap (λ r. r.spsr.flags.modf) there,
      subst (Abandoned q) (sym there)
          (record {
            SPE = gone;
            spcr0 = refl;
            spcr2 = refl;
            spcr3 = refl;
            ram = refl;
            cptqp = refl;
            SPIF = refl;
            HALTA = refl;
            seen = refl;
            playing = refl;
            delaying = refl;
            later = λ pins c. off w pins gone c;
          }),
    )

pub holds : HoldRuns
unfolding step clocks answer_of does
holds m pins rxd n =
    hold_if
    (λ d. d.refusal ≡ 0 → d.state.qspi ≡ run (λ c. record { levels = pins; pqspar = m.pqspar; ddrqs = m.ddrqs }) n m.qspi)
    m pins rxd n (λ _ e. absurd (ten e))
    (λ _ _. ap (λ k. k.qspi) (apart n rxd (held m pins)) ∙ hold_runs (record { levels = pins; pqspar = m.pqspar; ddrqs = m.ddrqs }) n m.qspi)
  where
    ten : ◌≡◌ {A = ℕ} 10 0 → ⊥
    ten e = omega arith

pub met : Met
unfolding set_up write_spcr1 reset
met =
    record {
      next = record { SPE = refl; SPBR = omega arith; playing = refl; delaying = refl; waits = refl; here = refl };
      last = refl;
      lasts = refl;
      most = refl;
      goes = refl;
    }

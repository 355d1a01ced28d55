-- What SCK and the PCS show in an entry, and what abandons one. Assumes nothing.
use mathlib.Core.Path.{◌≡◌, refl, sym, ap, subst, ◌∙◌}
use mathlib.Core.Bool.{Bool, true, false, cond, ◌||◌}
use Prim.Native.Nat.{ℕ, zero, suc, ◌/◌, ◌%◌}
use native.Mathlib.Nat.{add-zero}
use native.Mathlib.Omega.{arith}
use lib.Dec.{eqb}
use borrow.Author.Tests.{ne_eqb}
use Rattle.steps.specs.Bits.{merge}
use Rattle.qspi.specs.model.Fields.{spe, cont, pcs_field}
use Rattle.qspi.specs.model.Registers.{with_spcr1, switched, write_spcr1}
use Rattle.qspi.specs.model.Queue.{begun, clock, faulted}
use Rattle.qspi.specs.model.Outputs.{sck, pcs}
use Rattle.qspi.specs.model.Parts.{with_registers}
use Rattle.qspi.specs.claims.Run.{run, last_clock}
use Rattle.qspi.specs.claims.Laws.{SckTurns, SckRests, PcsShow, PcsDelay, Abandoned, FaultAbandons, WriteAbandons}
use Rattle.qspi.proofs.Completed.{completed_keeps}
use Rattle.qspi.proofs.Edges.{edges_fall, last_edge_holds}
use Rattle.qspi.proofs.Delay.{field_on, delay_runs, no_spe}
use Rattle.qspi.proofs.Quiet.{clock_faults}

pub sck_turns : SckTurns
sck_turns q pins s calm j d less within later = ap sck (edges_fall q pins s calm j d less within later)

pub sck_rests : SckRests
sck_rests q pins s calm = ap sck (last_edge_holds q pins s calm) ∙ completed_keeps sck _ refl refl refl

pub pcs_show : PcsShow
pcs_show q pins s calm j d portqs less within later =
    ap (λ r. pcs r portqs) (edges_fall q pins s calm j d less within later)

pub pcs_delay : PcsDelay
pcs_delay q pins s calm goes zero portqs less =
    ap (λ k. pcs (run pins k q) portqs) (add-zero (last_clock (begun q)))
    ∙ field_on q pins s calm goes (λ r. pcs r portqs) (pcs_field (begun q).entry.command) refl refl
pcs_delay q pins s calm goes (suc d) portqs less =
    ap (λ r. pcs r portqs) (delay_runs q pins s calm goes (suc d) (omega arith) less)
    ∙ ap (λ c. cond (cont c) (pcs_field c) (portqs / 8 % 16))
    (field_on q pins s calm goes (λ r. r.entry.command) (begun q).entry.command refl refl)
    ∙ ap (λ b. cond (b || cont (begun q).entry.command) (pcs_field (begun q).entry.command) (portqs / 8 % 16))
    (sym (ne_eqb (suc d) 0 (λ e. omega arith)))

pub fault_abandons : FaultAbandons
fault_abandons q pins h =
    let there : clock q pins ≡ faulted true q = clock_faults q pins h in (
      subst (Abandoned q) (sym there)
          (record { off = no_spe q.registers.spcr1; not_playing = refl; receive = refl; cptqp = refl; spif = refl }),
      ap (λ r. r.spsr.flags.modf) there,
    )

-- A write of the upper byte puts its bit 15 at SPE.
pub spe_written : (old v : ℕ) (lower : Bool) → spe (merge old v true lower) ≡ spe v
spe_written old v true =
    let same : merge old v true true / 32768 % 2 ≡ v / 32768 % 2 = omega arith in
    ap (λ n. eqb n 1) same
spe_written old v false =
    let same : merge old v true false / 32768 % 2 ≡ v / 32768 % 2 = omega arith in
    ap (λ n. eqb n 1) same

pub write_abandons : WriteAbandons
unfolding write_spcr1
write_abandons q v lower on off =
    let gone : spe (merge q.registers.spcr1 v true lower) ≡ false =
    spe_written q.registers.spcr1 v lower ∙ off in
    let there : write_spcr1 q v true lower ≡ switched true false (with_registers q (with_spcr1 q.registers (merge q.registers.spcr1 v true lower))) =
    rw (on, gone) in
    subst (Abandoned q) (sym there)
    (record { off = gone; not_playing = refl; receive = refl; cptqp = refl; spif = refl })

-- SPE's rise. Assumes nothing.
use mathlib.Core.Path.{◌≡◌, refl, sym, ap, subst, ◌∙◌}
use mathlib.Core.Bool.{Bool, true, false, cond}
use Prim.Native.Nat.{ℕ, zero, suc, ◌%◌, ◌<◌}
use native.Mathlib.Nat.{zero-add}
use native.Mathlib.Omega.{arith}
use lib.Dec.{leb}
use Rattle.steps.specs.Bits.{bit, merge}
use Rattle.qspi.specs.model.Fields.{cpha, spe}
use Rattle.qspi.specs.model.Parts.{with_registers}
use Rattle.qspi.specs.model.Registers.{with_spcr1, switched, write_spcr1}
use Rattle.qspi.specs.model.Entry.{mosi_after}
use Rattle.qspi.specs.model.Queue.{begun}
use Rattle.qspi.specs.model.Outputs.{enabled, mosi}
use Rattle.qspi.specs.claims.Run.{run, bits_in, pre_in, spbr_in, mosi_by}
use Rattle.qspi.specs.claims.Laws.{Starting, Calm}
use Rattle.qspi.specs.claims.Clauses.{Rises, SpeRises, NoRise, SilentBefore}
use Rattle.qspi.specs.declared.Qspi.{Qspi}
use Rattle.qspi.specs.declared.Pins.{Pins}
use Rattle.qspi.proofs.Bounds.{bits_pos}
use Rattle.qspi.proofs.Edges.{edges_fall}
use Rattle.qspi.proofs.Lines.{spe_written}
use Rattle.qspi.proofs.Mosi.{even_holds}

from_newqp : (b : Bool) (w : ℕ) → cond b (w % 16) (w % 16 % 16) ≡ w % 16
from_newqp true w = refl
from_newqp false w = omega arith

module _ (q : Qspi) (v : ℕ) (lower : Bool) (one : bit 15 v ≡ true) where
  written : Qspi
  written = with_registers q (with_spcr1 q.registers (merge q.registers.spcr1 v true lower))

  sets : spe (merge q.registers.spcr1 v true lower) ≡ true
  sets = spe_written q.registers.spcr1 v lower ∙ one

  rise : enabled q ≡ false → write_spcr1 q v true lower ≡ switched false true written
  unfolding write_spcr1 written
  rise off = rw (off, sets)

  starts : leb 2 (spbr_in q) ≡ true → Starting (switched false true written)
  unfolding written
  starts quick = record { on = sets; not_playing = refl; not_delaying = refl; goes = rw quick }

  rises : Rises q (switched false true written)
  unfolding written
  rises =
      record {
        on = sets;
        pointer = from_newqp q.next.pending q.registers.spcr2;
        working = refl;
        next = starts;
        rests = refl;
        silent = refl;
        select = λ portqs. refl;
        spsr = refl;
        ram = refl;
      }

  -- MOSI up to edge 1, for CPHA=1.
  silent : leb 2 (spbr_in q) ≡ true → cpha q.registers.spcr0 ≡ true → (pins : ℕ → Pins) → Calm pins → (c : ℕ) →
      c < pre_in (begun (switched false true written)) → mosi (run pins c (switched false true written)) ≡ false
  unfolding run mosi_by written
  silent quick second pins calm zero less = refl
  silent quick second pins calm (suc c) less =
      ap (λ k. mosi (run pins k (switched false true written))) (sym (zero-add (suc c)))
      ∙ ap mosi
      (edges_fall (switched false true written) pins (starts quick) calm 0 (suc c)
      (omega (arith, bits_pos q.registers.spcr0 (begun (switched false true written)).entry.command)) less
      (omega arith))
      ∙ ap
      (λ b. mosi_after b (bits_in (begun (switched false true written)))
      (begun (switched false true written)).entry.word 0 false)
      second
      ∙ even_holds (bits_in (begun (switched false true written))) (begun (switched false true written)).entry.word false 0
      refl

pub spe_rises : SpeRises
spe_rises q v lower off one = subst (Rises q) (sym (rise q v lower one off)) (rises q v lower one)

pub no_rise : NoRise
unfolding write_spcr1
no_rise q v lower on one =
    let still : write_spcr1 q v true lower
    ≡ with_registers q (with_spcr1 q.registers (merge q.registers.spcr1 v true lower)) =
    rw (on, sets q v lower one) in
    (ap (λ r. r.next) still, ap (λ r. r.entry) still)

pub silent_before : SilentBefore
silent_before q v lower pins off one quick second calm c =
    subst (λ r. c < pre_in (begun r) → mosi (run pins c r) ≡ false) (sym (rise q v lower one off))
    (silent q v lower one quick second pins calm c)

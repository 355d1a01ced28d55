-- A supervisor's write of one word or one byte that is in the map and refused neither 3 nor 4. Assumes nothing.
use mathlib.Core.Path.{◌≡◌, refl, sym, subst}
use mathlib.Core.Bool.{true, false}
use Prim.Native.Nat.{ℕ, zero, suc, ◌+◌, ◌*◌, ◌/◌, ◌%◌, ◌≤◌, ◌<◌}
use native.Mathlib.Omega.{arith}
use lib.Dec.{eqb}
use borrow.Author.Tests.{lt-ltb, eqb-true, eqb-false}
use Rattle.steps.specs.Iterate.{iterate}
use Rattle.qsm.specs.model.Map.{decode}
use Rattle.qsm.specs.model.Lanes.{in_map}
use Rattle.qsm.specs.model.Word.{put, unmodelled, guarded}
use Rattle.qsm.specs.model.Access.{store, stored}
use Rattle.qsm.specs.model.Decision.{admitted, stored_by, decide_stored}
use Rattle.qsm.specs.model.Event.{writes, does}
use Rattle.qsm.specs.declared.state.Module.{Module}
use Rattle.qsm.proofs.Booleans.{on}
use Rattle.qsm.specs.declared.map.Place.TheVariants.{Queue}
use Rattle.qsm.specs.declared.map.QueueWord.{QueueWord}
use Rattle.qsm.specs.declared.map.QueueWord.TheVariants.{Transmit, Command}
use Rattle.tool_plan.specs.Loading.{writing}

module _ (m : Module) (offset value : ℕ) (w : QueueWord) (at : decode offset ≡ Queue w) where
  pub word_written_holds : offset % 2 ≡ 0 → value < 65536 → unmodelled m (Queue w) value true true ≡ false →
      guarded m (Queue w) value true true ≡ false → (does m (writing 2 offset value)).state ≡ put m (Queue w) value true true
  unfolding does writes decide_stored admitted in_map stored_by stored store iterate
  word_written_holds even small fine free =
      let same : value % 65536 * 65536 / 65536 ≡ value = omega arith in
      rw (at, same, even, lt-ltb value 65536 small, fine, free)

  -- A byte stands in both bytes of its word, and goes to the one that is touched.
  pub byte_written : value < 256 →
      unmodelled m (Queue w) (value * 257) (eqb (offset % 2) 0) (eqb (offset % 2) 1) ≡ false →
      guarded m (Queue w) (value * 257) (eqb (offset % 2) 0) (eqb (offset % 2) 1) ≡ false →
      (does m (writing 1 offset value)).state ≡ put m (Queue w) (value * 257) (eqb (offset % 2) 0) (eqb (offset % 2) 1)
  unfolding does writes decide_stored admitted in_map stored_by stored store iterate
  byte_written small fine free =
      let same : value % 256 * 16842752 / 65536 ≡ value * 257 = omega arith in
      rw (at, same, lt-ltb value 256 small, fine, free)

-- ---- the places of the queue RAM

-- A fact of each of n numbers from i on.
abbrev From : (ℕ → Type 0) → ℕ → ℕ → Type 0
From P i zero = Unit {0}
From P i (suc n) = P i × From P (suc i) n

from : (P : ℕ → Type 0) (i n : ℕ) → From P i n → (k : ℕ) → i ≤ k → k < i + n → P k
from P i zero all k low high = absurd (omega arith)
from P i (suc n) all k low high =
    on (eqb k i) (λ here. subst P (sym (eqb-true k i here)) all.0)
    (λ there. let other : k ≡ i → ⊥ = eqb-false k i there in from P (suc i) n all.1 k (omega arith) (omega arith))

pub transmit_at : (i : ℕ) → i < 16 → decode (0x120 + i * 2) ≡ Queue (Transmit i)
unfolding decode
transmit_at i less =
    from (λ i. decode (0x120 + i * 2) ≡ Queue (Transmit i)) 0 16
    (refl, (refl, (refl, (refl, (refl, (refl, (refl, (refl, (refl, (refl, (refl, (refl, (refl, (refl, (refl, (refl, tt)))))))))))))))) i (omega arith) (omega arith)

pub command_at : (i : ℕ) → i < 16 → decode (0x140 + i) ≡ Queue (Command (i / 2))
unfolding decode
command_at i less =
    from (λ i. decode (0x140 + i) ≡ Queue (Command (i / 2))) 0 16
    (refl, (refl, (refl, (refl, (refl, (refl, (refl, (refl, (refl, (refl, (refl, (refl, (refl, (refl, (refl, (refl, tt)))))))))))))))) i (omega arith) (omega arith)

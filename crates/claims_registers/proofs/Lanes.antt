-- A byte of the map, written by itself and read. Assumes nothing.
use mathlib.Core.Path.{◌≡◌, refl, ap, ◌∙◌}
use mathlib.Core.Bool.{true, false}
use Prim.Native.Nat.{ℕ, ◌*◌, ◌/◌, ◌%◌, ◌<◌}
use native.Mathlib.Omega.{arith}
use lib.Dec.{eqb}
use borrow.Author.Tests.{ltb-true}
use Rattle.steps.specs.Iterate.{iterate}
use Rattle.qsm.specs.model.Map.{decode, mapped}
use Rattle.qsm.specs.model.Lanes as lanes
use Rattle.qsm.specs.model.Access.{store, stored}
use Rattle.qsm.specs.model.Word.{peek, put, unmodelled}
use Rattle.qsm.specs.model.Decision.{stored_by}
use Rattle.qsm.specs.model.Event.{answer_of, does, step}
use Rattle.qsm.specs.claims.Registers.{reading, writing}
use Rattle.qsm.specs.declared.state.Module.{Module}
use Rattle.qsm.proofs.Words.{byte_of, byte_read, written}

-- A byte that is let through stands in both bytes of the word put, and is put in one.
pub record Put (m : Module) (offset v : ℕ) : Type 0 where
  pub small : v < 256
  pub state : (writing m 1 offset v).state ≡ put m (decode offset) (v * 257) (eqb (offset % 2) 0) (eqb (offset % 2) 1)
  pub modelled : unmodelled m (decode offset) (v * 257) (eqb (offset % 2) 0) (eqb (offset % 2) 1) ≡ false

pub byte_put : (m : Module) (offset v : ℕ) → mapped (decode offset) ≡ true → (writing m 1 offset v).answer.refusal ≡ 0 → Put m offset v
unfolding step answer_of does lanes.in_map stored_by stored store iterate
byte_put m offset v h r =
    let w = written m 1 offset v refl (rw h) r in
    let less : v < 256 = ltb-true v 256 w.fits in
    let it : v % 256 * 16842752 / 65536 ≡ v * 257 = omega arith in
    record { small = less; state = rw it at w.state; modelled = rw it at w.unmodelled }

-- A byte read after such a write, at an offset of the same word or another.
pub byte_after : (m : Module) (offset v place : ℕ) → mapped (decode offset) ≡ true → mapped (decode place) ≡ true →
    (writing m 1 offset v).answer.refusal ≡ 0 →
    (reading (writing m 1 offset v).state 1 place).value
    ≡ byte_of (eqb (place % 2) 0) (peek (put m (decode offset) (v * 257) (eqb (offset % 2) 0) (eqb (offset % 2) 1)) (decode place))
byte_after m offset v place h k r =
    byte_read (writing m 1 offset v).state place k ∙ ap (λ n. byte_of (eqb (place % 2) 0) (peek n (decode place))) (byte_put m offset v h r).state

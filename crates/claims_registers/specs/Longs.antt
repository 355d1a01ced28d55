-- Document 01, Seven refusals: the halves of a long write act in address order. One that is let through leaves what its two words leave, the upper
-- one first, each of them let through.
use Rattle.std.specs.Prelude.{◌≡◌, ℕ, ◌+◌, ◌*◌, ◌/◌, ◌%◌}
use Rattle.qsm.specs.claims.Registers.{writing}
use Rattle.qsm.specs.declared.state.Module.{Module}

-- After the upper half.
abbrev pub half : Module → ℕ → ℕ → Module
half m k v = (writing m 2 (k * 2) (v / 65536)).state

pub record Long (m : Module) (k v : ℕ) : Type 0 where
  pub first : (writing m 2 (k * 2) (v / 65536)).answer.refusal ≡ 0
  pub second : (writing (half m k v) 2 (k * 2 + 2) (v % 65536)).answer.refusal ≡ 0
  pub state : (writing m 4 (k * 2) v).state ≡ (writing (half m k v) 2 (k * 2 + 2) (v % 65536)).state

abbrev pub LongWrites : Type 0
LongWrites = (m : Module) (k v : ℕ) → (writing m 4 (k * 2) v).answer.refusal ≡ 0 → Long m k v

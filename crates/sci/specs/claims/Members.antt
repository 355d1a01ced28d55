-- Document 01, Flags: the laws of membership, stated once over the flag, which is known by its bit k of SCSR.
use Rattle.std.specs.Prelude.{◌≡◌, Bool, true, not, ◌&&◌, ◌||◌, ◌↔◌, ℕ, ◌^◌}
use Rattle.steps.specs.Bits.{bit}
use Rattle.sci.specs.model.Flags.{flag, insert, contains, without, common}
use Rattle.sci.specs.declared.flags.Flags.{Flags}

unfoldable pub member : ℕ → Flags → Bool
member k a = bit k a.bits

pub record Membership (a b : Flags) : Type 0 where
  pub inserted : (k : ℕ) → member k (insert a b) ≡ member k a || member k b
  pub left_out : (k : ℕ) → member k (without a b) ≡ member k a && not (member k b)
  pub shared : (k : ℕ) → member k (common a b) ≡ member k a && member k b
  -- A flag alone is contained where it is a member; a set, where each of its members is one.
  pub contained : (k : ℕ) → contains a (flag (2 ^ k)) ≡ member k a
  pub subset : (contains a b ≡ true) ↔ ((k : ℕ) → member k b ≡ true → member k a ≡ true)
  -- Sets of the same members are equal.
  pub same : ((k : ℕ) → member k a ≡ member k b) → a ≡ b

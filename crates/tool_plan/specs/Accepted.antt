-- Document 02, L10: what an accepted plan is, as facts, one for each condition of the checker.
use Rattle.std.specs.Prelude.{◌≡◌, true, false, ℕ, ◌+◌, ◌%◌, ◌^◌, ◌≤◌, ◌<◌}
use Rattle.qspi.specs.model.Fields.{mstr, spbr, spe, wren, pcs_field, bits_of}
use Rattle.qspi.specs.model.Registers.{spcr0_unmodelled}
use Rattle.tool_plan.specs.Check.{select_no, bits_no, word_no, command_no, sent_no, clock_of, accepts}
use Rattle.tool_plan.specs.declared.SetPoints.{SetPoints}
use Rattle.tool_plan.specs.declared.Plan.{Plan}

pub record InRange (select bits word : ℕ) : Type 0 where
  pub select_most : select ≤ 15
  pub bits_least : 8 ≤ bits
  pub bits_most : bits ≤ 16
  pub word_fits : word < 2 ^ bits

-- One to sixteen set-points, each in range.
pub record Proper (s : SetPoints) : Type 0 where
  pub some : 1 ≤ s.count
  pub most : s.count ≤ 16
  pub ranges : (k : ℕ) → k < s.count → InRange (select_no s k) (bits_no s k) (word_no s k)

pub record Carries (s : SetPoints) (p : Plan) (k : ℕ) : Type 0 where
  pub select : pcs_field (command_no p k) ≡ select_no s k
  pub word : sent_no p k ≡ word_no s k
  pub bits : bits_of p.spcr0 (command_no p k) ≡ bits_no s k

pub record Accepted (s : SetPoints) (window : ℕ) (p : Plan) : Type 0 where
  pub proper : Proper s
  pub once : p.count ≡ s.count
  pub carries : (k : ℕ) → k < s.count → Carries s p k
  pub first : p.first ≤ 15
  pub last : p.last ≤ 15
  pub consecutive : (p.first + p.count) % 16 ≡ (p.last + 1) % 16
  pub rate : 2 ≤ spbr p.spcr0
  pub master : mstr p.spcr0 ≡ true
  pub enabled : spe p.spcr1 ≡ true
  pub no_wrap : wren p.spcr2 ≡ false
  pub modelled : spcr0_unmodelled p.spcr0 true ≡ false
  pub clock : p.clock ≡ clock_of p
  pub within : p.clock ≤ window

-- The checker accepts these and no others.
abbrev pub Means : Type 0
Means =
    (s : SetPoints) (window : ℕ) (p : Plan) →
    (accepts s window p ≡ true → Accepted s window p) × (Accepted s window p → accepts s window p ≡ true)

-- All counts other than 8 agree.
abbrev pub CountsAgree : Type 0
CountsAgree =
    (s : SetPoints) (window : ℕ) (p : Plan) → accepts s window p ≡ true → (i k : ℕ) → i < s.count → k < s.count →
    (bits_no s i ≡ 8 → ⊥) → (bits_no s k ≡ 8 → ⊥) → bits_no s i ≡ bits_no s k

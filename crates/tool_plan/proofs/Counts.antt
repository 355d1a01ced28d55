-- All counts other than 8 agree, since BITS is one field. Assumes nothing.
use mathlib.Core.Path.{◌≡◌, refl, sym, ◌∙◌}
use mathlib.Core.Bool.{Bool, true, false, cond}
use mathlib.Core.Logic.{◌⊎◌, inl, inr, ⊎_elim}
use Prim.Native.Nat.{ℕ, ◌<◌}
use Rattle.qspi.specs.model.Fields.{bitse, bits_field, zero_means, bits_of}
use Rattle.tool_plan.specs.Check.{bits_no, command_no}
use Rattle.tool_plan.specs.Accepted.{Accepted, CountsAgree}
use Rattle.tool_plan.specs.declared.SetPoints.{SetPoints}
use Rattle.tool_plan.specs.declared.Plan.{Plan}
use Rattle.tool_plan.proofs.Meaning.{means}

-- What any command makes of BITS: 8, or the one count.
one_of_two : (b : Bool) (x : ℕ) → (cond b x 8 ≡ 8) ⊎ (cond b x 8 ≡ x)
one_of_two true x = inr refl
one_of_two false x = inl refl

pub count_of : (spcr0 command : ℕ) → (bits_of spcr0 command ≡ 8) ⊎ (bits_of spcr0 command ≡ zero_means 16 (bits_field spcr0))
unfolding bits_of
count_of spcr0 command = one_of_two (bitse command) (zero_means 16 (bits_field spcr0))

-- A count other than 8 is what BITS says.
other_is : (s : SetPoints) (window : ℕ) (p : Plan) → Accepted s window p → (k : ℕ) → k < s.count →
    (bits_no s k ≡ 8 → ⊥) → bits_no s k ≡ zero_means 16 (bits_field p.spcr0)
other_is s window p a k less not-8 =
    ⊎_elim (λ e. absurd (not-8 (sym (a.carries k less).bits ∙ e))) (λ e. sym (a.carries k less).bits ∙ e)
    (count_of p.spcr0 (command_no p k))

pub counts_agree : CountsAgree
counts_agree s window p h i k less less' not-8 not-8' =
    let a : Accepted s window p = (means s window p).0 h in
    other_is s window p a i less not-8 ∙ sym (other_is s window p a k less' not-8')

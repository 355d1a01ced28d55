-- A flag with its mark before and after; the nine flags by their numbers, and as they are read. Assumes nothing.
use mathlib.Core.Path.{◌≡◌, refl, ap}
use mathlib.Core.Bool.{Bool, true, false, not, ◌&&◌, ◌||◌, false≢true}
use Prim.Native.Nat.{ℕ, zero, suc, ◌<◌}
use native.Mathlib.Omega.{arith}
use lib.Dec.{eqb}
use Rattle.steps.specs.Bits.{bit}
use Rattle.sci.specs.model.Flags.{RAF, receive_flags, transmit_flags}
use Rattle.sci.specs.claims.Members.{member}
use Rattle.sci.specs.model.Serial.{sccr1_word}
use Rattle.sci.proofs.Flagged.{is_set}
use Rattle.qsm.specs.model.Event.{answer_of, step}
use Rattle.qsm.specs.declared.state.Module.{Module}
use Rattle.qsm.proofs.StatusFlags.{scsr_bit}
use Rattle.qsm.proofs.Reading.{sccr1_read}
use Rattle.claims_clauses.specs.FlagsFall.{set, RE, receives, transmits}

-- A flag x with its mark y, before and after.
abbrev pub Told : Bool → Bool → Bool → Bool → Bool → Bool → Bool → Type 0
Told x y x' y' look handle stop =
    (x' ≡ x && not (x && ((y || look) && handle || stop)))
    × (x ≡ true → y' ≡ (y || look) && not (x && ((y || look) && handle || stop)))
    × (x ≡ false → y' ≡ true → y ≡ true)

pub unchanged : (x y : Bool) → Told x y x y false false false
unchanged true true = (refl, λ h. refl, λ h g. g)
unchanged true false = (refl, λ h. refl, λ h g. g)
unchanged false y = (refl, λ h. absurd (false≢true h), λ h g. g)

-- ---- the nine flags by their numbers

pub nine : (P : ℕ → Type 0) → P 0 → P 1 → P 2 → P 3 → P 4 → P 5 → P 6 → P 7 → P 8 → (k : ℕ) → k < 9 → P k
nine P a b c d e f g h i zero s = a
nine P a b c d e f g h i (suc zero) s = b
nine P a b c d e f g h i (suc (suc zero)) s = c
nine P a b c d e f g h i (suc (suc (suc zero))) s = d
nine P a b c d e f g h i (suc (suc (suc (suc zero)))) s = e
nine P a b c d e f g h i (suc (suc (suc (suc (suc zero))))) s = f
nine P a b c d e f g h i (suc (suc (suc (suc (suc (suc zero)))))) s = g
nine P a b c d e f g h i (suc (suc (suc (suc (suc (suc (suc zero))))))) s = h
nine P a b c d e f g h i (suc (suc (suc (suc (suc (suc (suc (suc zero)))))))) s = i
nine P a b c d e f g h i (suc (suc (suc (suc (suc (suc (suc (suc (suc k))))))))) s = absurd (omega arith)

is_flag : (k : ℕ) → k < 9 → bit k 511 ≡ true
is_flag = nine (λ k. bit k 511 ≡ true) refl refl refl refl refl refl refl refl refl

pub is_receive : (k : ℕ) → k < 9 → member k receive_flags ≡ receives k
unfolding member
is_receive = nine (λ k. bit k 95 ≡ receives k) refl refl refl refl refl refl refl refl refl

pub is_transmit_holds : (k : ℕ) → k < 9 → member k transmit_flags ≡ transmits k
unfolding member
is_transmit_holds = nine (λ k. bit k 384 ≡ transmits k) refl refl refl refl refl refl refl refl refl

pub is_raf : (k : ℕ) → k < 9 → member k RAF ≡ eqb k 5
unfolding member
is_raf = nine (λ k. bit k 32 ≡ eqb k 5) refl refl refl refl refl refl refl refl refl

-- ---- what is read

pub set_is : (k : ℕ) → k < 9 → (m : Module) → set m k ≡ is_set k m.sci.status
unfolding step answer_of member
set_is k small m = scsr_bit k m (is_flag k small)

pub re_is : (m : Module) → RE m ≡ bit 2 (sccr1_word m.sci)
unfolding step answer_of
re_is m = ap (bit 2) (sccr1_read m)

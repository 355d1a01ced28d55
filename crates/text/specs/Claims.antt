-- What is shown of the texts: decimal digits give the number back, to a reader and to the code, and an answer's bytes in a log give the answer back.
use Rattle.std.specs.Prelude.{◌≡◌, ◌⊎◌, false, Some, Ok, Err, List, [], ◌∷◌, ◌++◌, ℕ, ◌+◌, ◌-◌, ◌*◌, ◌<◌, ◌^◌}
use Rattle.std.specs.Int.Bits.{bit_and}
use Rattle.qsm.specs.declared.event.Answer.{Answer}
use Rattle.answers.specs.Answer.{plain, clocked}
use Rattle.trace.specs.Trace.{answer_body, answer_bytes}
use Rattle.text.specs.Digits.{decimal}
use Rattle.text.specs.Number.{number_of}
use Rattle.text.specs.Answer.{unnamed}
use Rattle.text.specs.Log.{entry}
use Rattle.text.specs.declared.message.Fault.TheVariants.{OtherKind}

-- The number of decimal digits behind those of n.
unfoldable pub valued : ℕ → List ℕ → ℕ
valued n [] = n
valued n (d ∷ ds) = valued (n * 10 + (d - 48)) ds

-- A number that so many digits can show is shown by them.
abbrev pub DigitsGiveBack : Type 0
DigitsGiveBack = (digits n : ℕ) → n < 10 ^ digits → valued 0 (decimal digits n) ≡ n

-- A number in decimal is read back.
abbrev pub NumbersGiveBack : Type 0
NumbersGiveBack = (n : ℕ) → n < 2 ^ 64 → number_of (decimal 20 n) ≡ Some n

-- An answer that a log can have.
pub record Given (a : Answer) : Type 0 where
  pub value : a.value < 2 ^ 32
  pub clock : a.clock < 2 ^ 64
  pub refusal : unnamed a.refusal ≡ false
  pub driven : bit_and a.levels a.mask ≡ a.levels

-- At the start of a log, or behind answers of a kind.
abbrev pub Behind : ℕ → ℕ → Type 0
Behind kind before = (before ≡ 0) ⊎ (before ≡ kind)

-- What the trace writes is read back, with its clock.
abbrev pub BytesGiveBack : Type 0
BytesGiveBack =
    (before : ℕ) (a : Answer) (t : List ℕ) → Behind clocked before → Given a →
    entry before (answer_bytes a ++ t) ≡ Ok (record { kind = clocked; answer = a })

-- So is an answer of kind 10, without a clock.
abbrev pub PlainGiveBack : Type 0
PlainGiveBack =
    (before : ℕ) (a : Answer) (t : List ℕ) → Behind plain before → Given a → a.clock ≡ 0 →
    entry before ((plain ∷ answer_body a) ++ t) ≡ Ok (record { kind = plain; answer = a })

-- Neither is read behind answers of the other kind.
abbrev pub KindsApart : Type 0
KindsApart =
    (a : Answer) (t : List ℕ) →
    (entry plain (answer_bytes a ++ t) ≡ Err OtherKind) × (entry clocked ((plain ∷ answer_body a) ++ t) ≡ Err OtherKind)

pub record Claims : Type 0 where
  pub digits : DigitsGiveBack
  pub numbers : NumbersGiveBack
  pub bytes : BytesGiveBack
  pub plain : PlainGiveBack
  pub apart : KindsApart

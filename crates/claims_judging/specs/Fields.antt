-- The fields of an answer, by the bytes that playing a trace writes for it: their borders are those of a verdict. Big-endian.
use Rattle.std.specs.Prelude.{◌≡◌, [], ◌∷◌, ◌/◌, ◌%◌, ◌^◌, length}
use Rattle.qsm.specs.declared.event.Answer.{Answer}
use Rattle.trace.specs.Trace.{answer_bytes}
use Rattle.answers.specs.declared.Field.TheVariants.{Kind, Refusal, Value, Levels, Mask, Level, Vector, Clock}
use Rattle.claims_judging.specs.Verdicts.{field}

pub record Written (a : Answer) : Type 0 where
  pub long : length (answer_bytes a) ≡ 18
  pub kind : field Kind (answer_bytes a) ≡ 0x11 ∷ []
  pub refusal : field Refusal (answer_bytes a) ≡ a.refusal ∷ []
  pub value :
      field Value (answer_bytes a) ≡ a.value / 2 ^ 24 % 256 ∷ a.value / 2 ^ 16 % 256 ∷ a.value / 2 ^ 8 % 256 ∷ a.value % 256 ∷ []
  pub levels : field Levels (answer_bytes a) ≡ a.levels ∷ []
  pub mask : field Mask (answer_bytes a) ≡ a.mask ∷ []
  pub level : field Level (answer_bytes a) ≡ a.level ∷ []
  pub vector : field Vector (answer_bytes a) ≡ a.vector ∷ []
  pub clock :
      field Clock (answer_bytes a)
      ≡ a.clock / 2 ^ 56 % 256 ∷ a.clock / 2 ^ 48 % 256 ∷ a.clock / 2 ^ 40 % 256 ∷ a.clock / 2 ^ 32 % 256 ∷
      a.clock / 2 ^ 24 % 256 ∷ a.clock / 2 ^ 16 % 256 ∷ a.clock / 2 ^ 8 % 256 ∷ a.clock % 256 ∷ []

abbrev pub AnswerFields : Type 0
AnswerFields = (a : Answer) → Written a

-- The bytes of an answer compute. Assumes nothing.
use mathlib.Core.Path.{refl}
use Rattle.claims_judging.specs.Fields.{AnswerFields}

pub answer_fields : AnswerFields
answer_fields a =
    record {
      long = refl;
      kind = refl;
      refusal = refl;
      value = refl;
      levels = refl;
      mask = refl;
      level = refl;
      vector = refl;
      clock = refl;
    }

-- Document 02, L2 and L9: the refusals by their numbers.
use Rattle.std.specs.Prelude.{ℕ, Option, Some, None}
use Rattle.tool_compare.specs.declared.Refusal.{Refusal}
use Rattle.tool_compare.specs.declared.Refusal.TheVariants.{OtherKind, CutAnswer, ShortList}

abbrev pub number : Refusal → ℕ
number OtherKind = 5
number CutAnswer = 6
number ShortList = 7

-- 0 where there is none.
abbrev pub refusal_in : Option Refusal → ℕ
refusal_in (Some why) = number why
refusal_in None = 0

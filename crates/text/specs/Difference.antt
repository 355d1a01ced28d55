-- The line of a field in which two answers differ: `12: refusal: A ok, B refusal 2 (unmapped)`.
use Rattle.std.specs.Prelude.{cond, not, List, [], ◌∷◌, ◌++◌, ℕ, eqb, ltb}
use Rattle.std.specs.Int.Bits.{bit_and}
use Rattle.qsm.specs.declared.event.Answer.{Answer}
use Rattle.text.specs.Digits.{ascii, decimal, hex_byte, hex_long, number}
use Rattle.text.specs.Answer.{unnamed, refusal, pins}
use Rattle.text.specs.Log.{foreign_kind}
use Rattle.answers.specs.declared.Field.{Field}
use Rattle.answers.specs.declared.Field.TheVariants.{Kind, Refusal, Value, Levels, Mask, Level, Vector, Clock}
use Rattle.text.specs.declared.log.Logged.{Logged}

abbrev pub field_name : Field → List ℕ
field_name Kind = ascii "kind"
field_name Refusal = ascii "refusal"
field_name Value = ascii "value"
field_name Levels = ascii "levels"
field_name Mask = ascii "mask"
field_name Level = ascii "level"
field_name Vector = ascii "vector"
field_name Clock = ascii "clock"

-- A byte that no answer of the model has there.
abbrev pub foreign : ℕ → List ℕ
foreign b = ascii "hex " ++ hex_byte b

abbrev pub kind_text : ℕ → List ℕ
kind_text k = cond (foreign_kind k) (foreign k) (hex_byte k)

-- 5 to 7 and 10 stop a trace and have no answer in a log.
abbrev pub refusal_text : ℕ → List ℕ
refusal_text n = cond (unnamed n) (foreign n) (refusal n)

-- The driven pins with their levels; the byte b where a pin that is not driven has a level.
abbrev pub pins_text : ℕ → Answer → List ℕ
pins_text b a = cond (not (eqb (bit_and a.levels a.mask) a.levels)) (foreign b) (pins a.mask a.levels)

-- The level of a request is 0 to 7.
abbrev pub level_text : ℕ → List ℕ
level_text n = cond (ltb 7 n) (foreign n) (decimal 3 n)

unfoldable pub field_text : Field → Logged → List ℕ
field_text Kind l = kind_text l.kind
field_text Refusal l = refusal_text l.answer.refusal
field_text Value l = hex_long l.answer.value
field_text Levels l = pins_text l.answer.levels l.answer
field_text Mask l = pins_text l.answer.mask l.answer
field_text Level l = level_text l.answer.level
field_text Vector l = hex_byte l.answer.vector
field_text Clock l = decimal 20 l.answer.clock

-- The line of a field of answer n, with the byte that ends a line.
abbrev pub difference_line : ℕ → Field → Logged → Logged → List ℕ
difference_line n f x y =
    number n ++ field_name f ++ ascii ": A " ++ field_text f x ++ ascii ", B " ++ field_text f y ++ (10 ∷ [])

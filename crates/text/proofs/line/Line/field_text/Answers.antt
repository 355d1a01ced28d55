use Rattle.text.specs.Difference.{field_text}
use Rattle.text.proofs.line.Line.field_text.Goals as goal

pub returns-in-Kind : goal.returns-in-Kind
unfolding field_text
returns-in-Kind c = rw (c.kind_text.ensures, c.in-Kind.is)

pub returns-in-Refusal : goal.returns-in-Refusal
unfolding field_text
returns-in-Refusal c = rw (c.refusal_text.ensures, c.in-Refusal.is)

pub returns-in-Value : goal.returns-in-Value
unfolding field_text
returns-in-Value c = rw (c.hex_long.ensures, c.in-Value.is)

pub returns-in-Levels : goal.returns-in-Levels
unfolding field_text
returns-in-Levels c = rw (c.pins_text.ensures, c.in-Levels.is)

pub returns-in-Mask : goal.returns-in-Mask
unfolding field_text
returns-in-Mask c = rw (c.pins_text-in-Mask.ensures, c.in-Mask.is)

pub returns-in-Level : goal.returns-in-Level
unfolding field_text
returns-in-Level c = rw (c.level_text.ensures, c.in-Level.is)

pub returns-in-Vector : goal.returns-in-Vector
unfolding field_text
returns-in-Vector c = rw (c.hex_byte.ensures, c.in-Vector.is)

pub returns-in-Clock : goal.returns-in-Clock
unfolding field_text
returns-in-Clock c = rw (c.decimal.ensures, c.in-Clock.is)

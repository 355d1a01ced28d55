use Rattle.text.specs.Verdict.{expected}
use Rattle.text.proofs.line.Line.expected.Goals as goal

pub returns-then-foreign_kind : goal.returns-then-foreign_kind
unfolding expected
returns-then-foreign_kind c = rw (c.write.ensures, ← c.foreign_kind.ensures, c.if-foreign_kind.true)

pub returns-else-foreign_kind : goal.returns-else-foreign_kind
unfolding expected
returns-else-foreign_kind c = rw (c.hex_byte.ensures, ← c.foreign_kind.ensures, c.if-foreign_kind.false)

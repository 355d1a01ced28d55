use borrow.Author.Tests.{eq-eqb, ne_eqb}
use mathlib.Core.List.{append-nil, append_assoc}
use Rattle.text.proofs.Puts.{puts_append}
use Rattle.text.specs.Register.{registers}
use Rattle.text.proofs.line.Line.registers.Goals as goal

pub returns-then-width-eq4 : goal.returns-then-width-eq4
unfolding registers
returns-then-width-eq4 c =
    rw (
      c.register.ensures,
      c.decode-then-width-eq4.ensures,
      c.write.ensures,
      eq-eqb _ _ c.if-width-eq4.true,
      c.register-start.ensures,
      c.decode.ensures,
      c.part_of.ensures,
    ) (simp (puts_append, append_assoc))

pub returns-else-width-eq4 : goal.returns-else-width-eq4
unfolding registers
returns-else-width-eq4 c =
    rw (
      ne_eqb _ _ c.if-width-eq4.false,
      c.register-start.ensures,
      c.decode.ensures,
      c.part_of.ensures,
      append-nil,
    )

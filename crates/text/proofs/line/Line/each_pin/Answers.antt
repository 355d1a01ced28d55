use native.Mathlib.Nat.{div-one}
use Rattle.text.proofs.Puts.{puts_append}
use Rattle.text.specs.Answer.{each_pin}
use Rattle.text.proofs.line.Line.each_pin.Goals as goal

pub returns : goal.returns
unfolding each_pin
returns c =
    rw (
      c.pin-8.ensures,
      c.pin-7.ensures,
      c.pin-6.ensures,
      c.pin-5.ensures,
      c.pin-4.ensures,
      c.pin-3.ensures,
      c.pin-2.ensures,
      c.pin.ensures,
    ) (simp (
      puts_append,
      div-one,
    ))

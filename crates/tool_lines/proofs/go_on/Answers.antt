use mathlib.Core.Path.{refl}
use borrow.Author.Tests.{lt-ltb}
use Rattle.tool_lines.proofs.Telling.{went}
use Rattle.tool_lines.proofs.go_on.Goals as goal

pub returns-in_default : goal.returns-in_default
returns-in_default c = rw (c.turned.ensures, c.in_default.ensures) (record { answer = refl; buffer = refl })

pub returns-then-line-lt128 : goal.returns-then-line-lt128
returns-then-line-lt128 c =
    rw (c.turned-then-line-lt128.ensures, c.in-Some.ensures.1, lt-ltb _ _ c.if-line-lt128.true)
    (record { answer = refl; buffer = refl })

pub returns : goal.returns
returns c =
    went _ _ _ _ c.in-Some.ensures.1 c.if-line-lt128.false _ c.in-Some.ensures.0 _ c.advance-r.ensures _ c.hand_in.ensures

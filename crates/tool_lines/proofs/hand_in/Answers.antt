use borrow.Enum.Refused.{opened}
use mathlib.Core.Path.{sym}
use Rattle.tool_lines.proofs.Telling.{not_handed}
use Rattle.tool_lines.proofs.hand_in.Goals as goal

pub returns-in_default : goal.returns-in_default
returns-in_default c =
    let args = c.args in
    sym (not_handed args.l args.outcome args.line.now (opened c.in_default.in_default-own.keys2))

pub returns : goal.returns
returns c = rw (c.put_first.ensures, c.in-Handed.is)

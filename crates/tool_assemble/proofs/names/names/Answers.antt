use Rattle.text.specs.Register.{registers}
use Rattle.text.proofs.Puts.{shows}
use Rattle.tool_assemble.proofs.Reading.{names_fit}
use Rattle.tool_assemble.proofs.names.names.Goals as goal

pub returns : goal.returns
returns c = rw (c.registers.ensures, c.empty.ensures) (shows (registers c.args.width c.args.offset) (names_fit c.args.width c.args.offset))

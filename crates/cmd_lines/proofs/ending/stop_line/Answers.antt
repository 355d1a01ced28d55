use Rattle.console.proofs.Stopping.{shown}
use Rattle.tool_lines.specs.Stop.{number_of}
use Rattle.cmd_lines.proofs.Telling.{words_length}
use Rattle.cmd_lines.proofs.ending.stop_line.Goals as goal

pub returns : goal.returns
returns c =
    rw (c.at_byte.ensures, c.why_stopped.ensures, c.numbered.ensures, c.from.ensures) (shown _ _ _ (words_length (number_of c.args.why)))

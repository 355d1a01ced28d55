use Rattle.console.proofs.Stopping.{shown, words_length}
use Rattle.tool_wave.specs.Stop.{number_of}
use Rattle.cmd_wave.proofs.ending.stop_line.Goals as goal

pub returns : goal.returns
returns c =
    rw (c.at_byte.ensures, c.stop_words.ensures, c.numbered.ensures, c.from-number.ensures) (shown _ _ _ (words_length (number_of c.args.why)))

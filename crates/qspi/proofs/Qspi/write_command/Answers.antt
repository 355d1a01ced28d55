use Rattle.qspi.proofs.Qspi.write_command.Goals as goal

pub returns : goal.returns
returns c = rw (c.commanded-self.ensures, c.merge-w.ensures, c.command_word.ensures)

use Rattle.qspi.proofs.Qspi.write_transmit.Goals as goal

pub returns : goal.returns
returns c = rw (c.to_transmit-self.ensures, c.merge-w.ensures, c.transmit_word.ensures)

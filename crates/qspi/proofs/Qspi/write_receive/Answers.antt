use Rattle.qspi.proofs.Qspi.write_receive.Goals as goal

pub returns : goal.returns
returns c = rw (c.received-self.ensures, c.merge-w.ensures, c.receive_word.ensures)

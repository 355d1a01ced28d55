use Rattle.qspi.proofs.Qspi.write_spcr0.Goals as goal

pub returns : goal.returns
returns c = rw c.merge-spcr0.ensures

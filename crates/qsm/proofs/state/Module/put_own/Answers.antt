use Rattle.qsm.specs.model.Own.{put_own}
use Rattle.qsm.proofs.state.Module.put_own.Goals as goal

pub returns-in-Qsmcr : goal.returns-in-Qsmcr
unfolding put_own
returns-in-Qsmcr c = rw (c.put_qsmcr.ensures, c.in-Qsmcr.is)

pub returns-in-QilrQivr : goal.returns-in-QilrQivr
unfolding put_own
returns-in-QilrQivr c = rw (c.put_interrupts.ensures, c.in-QilrQivr.is)

pub returns-in-Portqs : goal.returns-in-Portqs
unfolding put_own
returns-in-Portqs c = rw (c.put_portqs.ensures, c.in-Portqs.is)

pub returns-in-PqsparDdrqs : goal.returns-in-PqsparDdrqs
unfolding put_own
returns-in-PqsparDdrqs c = rw (c.put_directions.ensures, c.in-PqsparDdrqs.is)

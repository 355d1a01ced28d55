use Rattle.qsm.specs.model.Own.{peek_own}
use Rattle.qsm.proofs.state.Module.peek_own.Goals as goal

pub returns-in-Qsmcr : goal.returns-in-Qsmcr
unfolding peek_own
returns-in-Qsmcr c = rw c.in-Qsmcr.is

pub returns-in-QilrQivr : goal.returns-in-QilrQivr
unfolding peek_own
returns-in-QilrQivr c = rw (c.word.ensures, c.in-QilrQivr.is)

pub returns-in-Portqs : goal.returns-in-Portqs
unfolding peek_own
returns-in-Portqs c = rw (c.portqs_word.ensures, c.in-Portqs.is)

pub returns-in-PqsparDdrqs : goal.returns-in-PqsparDdrqs
unfolding peek_own
returns-in-PqsparDdrqs c = rw (c.word-in-PqsparDdrqs.ensures, c.in-PqsparDdrqs.is)

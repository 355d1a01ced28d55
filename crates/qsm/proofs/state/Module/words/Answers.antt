use borrow.Author.Tests.{eq-eqb, ne_eqb}
use Rattle.qsm.proofs.Straight.{one_word, two_words}
use Rattle.qsm.proofs.state.Module.words.Goals as goal

pub returns-then-width-eq4 : goal.returns-then-width-eq4
returns-then-width-eq4 c = rw (c.second_word-second.ensures, c.decode-then-width-eq4.ensures, c.next.ensures, eq-eqb _ 4 c.if-width-eq4.true, c.first_word-first.ensures, c.decode.ensures, two_words)

pub returns-else-width-eq4 : goal.returns-else-width-eq4
returns-else-width-eq4 c = rw (ne_eqb _ 4 c.if-width-eq4.false, c.first_word-first.ensures, c.decode.ensures, one_word)

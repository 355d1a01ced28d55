use Rattle.tool_compare.proofs.kinds.mixed.Goals as goal

pub returns : goal.returns
returns c = rw (c.answers_begun.ensures, c.first_other.ensures)

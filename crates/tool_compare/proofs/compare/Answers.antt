use Rattle.tool_compare.proofs.compare.Goals as goal

pub returns : goal.returns
returns c = rw c.kind_of.ensures at c.compare_as.ensures

use Rattle.tool_compare.proofs.compare_numbers.Goals as goal

pub returns : goal.returns
returns c = rw c.kind_of.ensures at c.compare_numbers_as.ensures

use Rattle.tool_assemble.specs.Item.{reads}
use Rattle.tool_assemble.proofs.item.reads.Goals as goal

pub returns : goal.returns
unfolding reads
returns c = rw (c.better.ensures, c.access_item-2.ensures, c.access_item.ensures)

use Rattle.tool_assemble.specs.Item.{writes}
use Rattle.tool_assemble.proofs.item.writes.Goals as goal

pub returns : goal.returns
unfolding writes
returns c = rw (c.better.ensures, c.access_item-2.ensures, c.access_item.ensures)

use Rattle.tool_editions.proofs.Ways.{past, within}
use Rattle.tool_editions.proofs.contents.read_used.Goals as goal

pub returns-then-used-buf : goal.returns-then-used-buf
returns-then-used-buf c = rw (past c.args.buf.now c.args.used c.if-used-buf.true, c.past_end.ensures)

pub returns : goal.returns
returns c = rw (within c.args.buf.now c.args.used c.if-used-buf.false) c.read.ensures

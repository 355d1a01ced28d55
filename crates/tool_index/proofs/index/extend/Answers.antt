use Rattle.tool_index.proofs.Indexing.{extends, afresh}
use Rattle.tool_index.proofs.index.extend.Goals as goal

pub returns-then-possible : goal.returns-then-possible
returns-then-possible c =
    let args = c.args in
    rw (extends args.trace.now args.lent.now args.count c.room.ensures c.min-there.ensures c.mark_for-last.ensures c.possible.ensures c.if-possible.true)
    c.index_from.ensures

pub returns : goal.returns
returns c =
    let args = c.args in
    rw (afresh args.trace.now args.lent.now args.count c.room.ensures c.min-there.ensures c.mark_for-last.ensures c.possible.ensures c.if-possible.false)
    (rw c.start.ensures at c.index_from-2.ensures)

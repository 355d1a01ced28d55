use mathlib.Core.Path.{refl}
use Rattle.tool_index.proofs.Indexing.{goes, stays}
use Rattle.tool_index.proofs.index.go_on.Goals as goal

pub returns-then-possible : goal.returns-then-possible
returns-then-possible c =
    let args = c.args in
    rw (goes args.piece.now args.lent.now args.count c.room.ensures c.min-there.ensures args.from c.possible.ensures c.if-possible.true)
    c.index_from.ensures

pub returns : goal.returns
returns c =
    let args = c.args in
    rw (stays args.piece.now args.lent.now args.count c.room.ensures c.min-there.ensures args.from c.possible.ensures c.if-possible.false)
    (refl, c.report.ensures)

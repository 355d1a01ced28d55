use mathlib.Core.Path.{refl}
use borrow.Author.Rules.{rules}
use Rattle.tool_index.proofs.Indexing.{read_within, refuses, grows}
use Rattle.tool_index.proofs.index.index_from.Goals as goal

pub slice_bounds-refusal_at-count : goal.slice_bounds-refusal_at-count
slice_bounds-refusal_at-count c = read_within c.args.from c.args.rest.now c.args.lent.now c.args.count c.requires.0 c.walk-w.ensures

pub slice_bounds-refusal_at-start : goal.slice_bounds-refusal_at-start
slice_bounds-refusal_at-start c =
    let h = read_within c.args.from c.args.rest.now c.args.lent.now c.args.count c.requires.0 c.walk-w.ensures in
    search rules

pub returns-then-needed-room : goal.returns-then-needed-room
returns-then-needed-room c =
    let args = c.args in
    refuses args.from args.rest.now args.lent.now args.count c.requires.0 c.walk-w.ensures
    c.refusal_at-stop.ensures c.marks_for.ensures c.fresh-new.ensures c.room.ensures c.report.ensures c.if-needed-room.true refl

pub returns : goal.returns
returns c =
    let args = c.args in
    grows args.from args.rest.now args.lent.now args.count c.requires.0 c.walk-w.ensures
    c.refusal_at-stop.ensures c.marks_for.ensures c.fresh-new.ensures c.room.ensures c.report-2.ensures c.if-needed-room.false refl
    c.write.ensures

use borrow.Author.Rules.{rules}
use Rattle.tool_index.proofs.Looking.{read_within, is_there, not_there}
use Rattle.tool_index.proofs.find.look.Goals as goal

pub slice_bounds-parse-count : goal.slice_bounds-parse-count
slice_bounds-parse-count c = read_within c.args.p c.args.rest.now c.args.n c.requires.1 c.walk-w.ensures

pub slice_bounds-parse-start : goal.slice_bounds-parse-start
slice_bounds-parse-start c =
    let h = read_within c.args.p c.args.rest.now c.args.n c.requires.1 c.walk-w.ensures in
    search rules

pub returns-then-q-n : goal.returns-then-q-n
returns-then-q-n c = is_there c.args.p c.args.rest.now c.args.n c.requires.1 c.walk-w.ensures c.parse.ensures c.is_record-there.ensures c.if-q-n.true

pub returns : goal.returns
returns c = not_there c.args.p c.args.rest.now c.args.n c.requires.1 c.walk-w.ensures c.parse.ensures c.is_record-there.ensures c.if-q-n.false

use Rattle.tool_compare.proofs.Ways.{stretch_as}
use Rattle.tool_compare.proofs.compare_numbers_as.Goals as goal

pub returns : goal.returns
returns c =
    let start = c.args in
    let got = c.compare_as-report.ensures in
    let stretch = stretch_as start.kind start.a.now start.b.now start.list.now in
    (got.list_is, rw (c.min.ensures, got.count_is, c.number-refusal.ensures, got.refusal_is, got.part_is, stretch.0, stretch.1))

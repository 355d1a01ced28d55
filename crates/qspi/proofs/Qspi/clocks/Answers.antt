use mathlib.Core.Path.{◌∙◌}
use Rattle.qspi.proofs.Quiet.{all_quiet}
use Rattle.qspi.proofs.Qspi.clocks.Goals as goal

pub quiet-requires : goal.quiet-requires
quiet-requires c = tt

pub skipped-requires : goal.skipped-requires
skipped-requires c = tt

pub returns-then-n-quiet : goal.returns-then-n-quiet
returns-then-n-quiet c = c.skipped.ensures ∙ all_quiet _ _ _ _ c.quiet.ensures c.if-n-quiet.true

pub played-requires : goal.played-requires
played-requires c = tt

pub returns-then-n-le-LONG : goal.returns-then-n-le-LONG
returns-then-n-le-LONG c = c.played.ensures

pub rounds-requires : goal.rounds-requires
rounds-requires c = tt

pub returns : goal.returns
returns c = c.rounds.ensures

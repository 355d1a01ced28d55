use Rattle.std.proofs.Common.{◌∙◌}
use Rattle.files.proofs.Same.{pointwise_same}
use Rattle.files.proofs.words.same.Goals as goal

pub returns : goal.returns
returns c = c.eq.ensures ∙ pointwise_same c.args.a.now c.args.b.now

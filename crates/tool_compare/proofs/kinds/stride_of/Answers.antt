use mathlib.Core.Path.{◌∙◌, sym}
use Rattle.answers.proofs.Laws.{strides}
use Rattle.tool_compare.proofs.kinds.stride_of.Goals as goal

pub returns : goal.returns
returns c = c.length_of.ensures ∙ sym (strides c.args.kind)

use mathlib.Core.Path.{ap, ◌∙◌}
use Rattle.tool_lines.specs.declared.Turned.{Turned}
use Rattle.qsm_c.specs.Lines.{in_numbers}
use Rattle.qsm_c.proofs.lines.qsm_lines_next.Goals as goal

pub returns : goal.returns
returns c =
    let went = c.go_on-t.ensures in
    record {
      answer = c.in_numbers.ensures ∙ ap (λ (o : Turned). in_numbers o.state o.outcome) went.answer;
      buffer = went.buffer;
    }

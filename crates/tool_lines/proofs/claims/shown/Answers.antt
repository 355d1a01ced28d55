use mathlib.Core.Path.{refl}
use Rattle.tool_lines.proofs.Noises.{line_by_line, noisy_line}
use Rattle.tool_lines.proofs.Pieces.{in_pieces, cuts}
use Rattle.tool_lines.proofs.Whole.{whole_calls, from_start}
use Rattle.tool_lines.proofs.claims.shown.Goals as goal

pub returns : goal.returns
returns c = (
  refl,
  record {
    whole = whole_calls;
    from_start = from_start;
    line_by_line = line_by_line;
    noisy_line = noisy_line;
    in_pieces = in_pieces;
    cuts = cuts;
  },
)

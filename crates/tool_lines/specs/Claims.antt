-- All that is shown of the calls.
use Rattle.tool_lines.specs.Laws.{Whole, FromStart, LineByLine, NoisyLine}
use Rattle.tool_lines.specs.Pieces.{InPieces, Cuts}

pub record Claims : Type 0 where
  pub whole : Whole
  pub from_start : FromStart
  pub line_by_line : LineByLine
  pub noisy_line : NoisyLine
  pub in_pieces : InPieces
  pub cuts : Cuts

use Rattle.tool_lines.proofs.Pieces.{waited}
use Rattle.tool_lines.proofs.piece.go_on_piece.Goals as goal

pub returns : goal.returns
returns c =
    waited c.args.last _ _ _ _ _ c.go_on-t.ensures c.waiting.ensures

-- A record looked for piece by piece is found where it is found in the whole. `t` is a piece with what was left of those before it, `u` the next.
use Rattle.std.specs.Prelude.{◌≡◌, Bool, true, false, List, ◌++◌, ℕ, ◌-◌, ◌≤◌, length, drop}
use Rattle.tool_index.specs.Walk.{largest, possible}
use Rattle.tool_index.specs.declared.walk.Position.{Position}
use Rattle.cmd_find.specs.Piece.{looked}
use Rattle.cmd_find.specs.declared.piece.Looked.{Looked}

-- The same position, and the same there.
pub record Alike (l m : Looked) : Type 0 where
  pub at : l.at ≡ m.at
  pub what : l.what ≡ m.what

abbrev pub InPieces : Type 0
InPieces =
    (p : Position) (n : ℕ) (t u : List ℕ) (ended : Bool) → length (t ++ u) ≤ largest → possible p (largest - length (t ++ u)) ≡ true →
    let first : Looked = looked p n t false in
    Alike (looked first.at n (drop first.read t ++ u) ended) (looked p n (t ++ u) ended)

pub record Claims : Type 0 where
  pub in_pieces : InPieces

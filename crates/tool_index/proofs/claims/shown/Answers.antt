use mathlib.Core.Path.{refl}
use Rattle.tool_index.specs.Records.{records_for, bytes_of, resets_in}
use Rattle.tool_index.specs.Marks.{marks_from, built}
use Rattle.tool_index.specs.Find.{looked_up}
use Rattle.tool_index.specs.Claims.{Example}
use Rattle.tool_index.proofs.Origin.{marks_are, none_missing}
use Rattle.tool_index.proofs.Lawful.{builds, finds, near, behind, extends, keeps_old}
use Rattle.tool_index.proofs.InPieces.{in_pieces, walk_on}
use Rattle.tool_index.proofs.claims.shown.Goals as goal

example : Example
unfolding records_for bytes_of resets_in marks_from built looked_up
example = record { index = refl; second = refl; third = refl; full = refl }

pub returns : goal.returns
returns c = (
  refl,
  record {
    builds = builds;
    marks_are = marks_are;
    none_missing = none_missing;
    finds = finds;
    near = near;
    behind = behind;
    extends = extends;
    keeps_old = keeps_old;
    in_pieces = in_pieces;
    walks_on = walk_on;
    example = example;
  },
)

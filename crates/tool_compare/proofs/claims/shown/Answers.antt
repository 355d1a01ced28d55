use mathlib.Core.Path.{refl}
use Rattle.tool_compare.specs.Answer.{weighed}
use Rattle.tool_compare.specs.Kind.{first_other}
use Rattle.tool_compare.specs.Compare.{differing, compared, compared_as}
use Rattle.tool_compare.specs.Claims.{Example}
use Rattle.tool_compare.proofs.OwnKind.{five_exactly, exchanged}
use Rattle.tool_compare.proofs.ByKind.{tells_all, leaves_the_rest, in_pieces, other_piece, cut_piece, more_of_one, more_of_cut}
use Rattle.tool_compare.proofs.claims.shown.Goals as goal

example : Example
unfolding weighed first_other differing compared compared_as
example =
    record {
      whole = refl;
      clock = refl;
      beginning = refl;
      rest = refl;
      more = refl;
      two_kinds = refl;
      no_kind = refl;
      other_in_cut = refl;
      cut = refl;
      short = refl;
    }

pub returns : goal.returns
returns c = (
  refl,
  record {
    five = five_exactly;
    tells = tells_all;
    leaves = leaves_the_rest;
    exchanged = exchanged;
    in_pieces = in_pieces;
    other_piece = other_piece;
    cut_piece = cut_piece;
    more_of_one = more_of_one;
    more_of_cut = more_of_cut;
    example = example;
  },
)

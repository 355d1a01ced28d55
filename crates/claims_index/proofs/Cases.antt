-- The cases compute. Assumes nothing.
use mathlib.Core.Path.{refl}
use Rattle.tool_index.specs.Records.{records_for, bytes_of, resets_in}
use Rattle.tool_index.specs.Marks.{marks_from, built, extended}
use Rattle.tool_index.specs.Find.{looked_up}
use Rattle.claims_index.specs.Cases.{Cases}

pub cases : Cases
unfolding records_for bytes_of resets_in marks_from built extended looked_up
cases =
    record {
      three_marks = refl;
      cut = refl;
      nothing = refl;
      no_room = refl;
      no_room_list = refl;
      one_mark = refl;
      extension = refl;
      extension_marks = refl;
      by_a_mark = refl;
      last = refl;
      none = refl;
      others = refl;
    }

-- The cases compute. Assumes nothing.
use mathlib.Core.Path.{refl}
use Rattle.tool_compare.specs.Answer.{weighed}
use Rattle.tool_compare.specs.Kind.{first_other}
use Rattle.tool_compare.specs.Compare.{differing, compared, compared_as}
use Rattle.claims_comparing.specs.Cases.{Sums, Stretches, Order, Cases}

sums : Sums
unfolding weighed first_other differing compared compared_as
sums =
    record {
      plain_1 = refl;
      plain_2 = refl;
      plain_3 = refl;
      plain_4 = refl;
      plain_5 = refl;
      plain_6 = refl;
      plain_7 = refl;
      plain_8 = refl;
      plain_9 = refl;
      clocked_1 = refl;
      clocked_2 = refl;
      clocked_3 = refl;
      clocked_4 = refl;
      clocked_5 = refl;
      clocked_6 = refl;
      clocked_7 = refl;
      clocked_8 = refl;
      clocked_9 = refl;
      clocked_10 = refl;
      clocked_11 = refl;
      clocked_12 = refl;
      clocked_13 = refl;
      clocked_14 = refl;
      clocked_15 = refl;
      clocked_16 = refl;
      clocked_17 = refl;
      plain_all = refl;
      clocked_all = refl;
    }

stretches : Stretches
unfolding weighed first_other differing compared compared_as
stretches =
    record {
      equal = refl;
      nothing = refl;
      of_first = refl;
      of_second = refl;
      all_of_second = refl;
    }

order : Order
unfolding weighed first_other differing compared compared_as
order =
    record {
      other_kind_holds = refl;
      no_kind = refl;
      later_kind = refl;
      cut_10 = refl;
      cut_11 = refl;
      ten_of_11 = refl;
      too_short = refl;
      long_enough = refl;
      two_too_short = refl;
      five_six = refl;
      five_seven = refl;
      six_seven = refl;
      refused = refl;
    }

pub cases : Cases
cases = record { sums = sums; stretches = stretches; order = order }

-- The cases compute, through the module's own writes. Assumes nothing.
use mathlib.Core.Path.{refl}
use Rattle.steps.specs.Iterate.{iterate}
use Rattle.sci.specs.model.Status.{has, fall}
use Rattle.sci.specs.model.Serial.{wrote_sccr0, wrote_sccr1, sccr0_guarded, sccr1_guarded}
use Rattle.qspi.specs.model.Registers.{reset, write_spcr1}
use Rattle.qsm.specs.model.State.{reset_module}
use Rattle.qsm.specs.model.Map.{decode}
use Rattle.qsm.specs.model.Lanes.{in_map, is_restricted}
use Rattle.qsm.specs.model.Serial.{put_serial, serial_unmodelled, serial_guarded}
use Rattle.qsm.specs.model.Queue.{put_queue, queue_unmodelled, queue_guarded}
use Rattle.qsm.specs.model.Word.{put, guarded}
use Rattle.qsm.specs.model.Word as words
use Rattle.qsm.specs.model.Access.{store, stored}
use Rattle.qsm.specs.model.Decision.{admitted, stored_by, decide_stored}
use Rattle.qsm.specs.model.Event.{answer_of, refused, writes}
use Rattle.tool_editions.specs.Records.{parsed}
use Rattle.tool_editions.specs.Rules.{withdrawn, latest_from, last_from, tries, unmodelled}
use Rattle.tool_editions.specs.Contents.{read_for, contents}
use Rattle.tool_editions.specs.Editions.{changed, asked}
use Rattle.claims_editions.specs.Cases.{Bytes, Settings, Eight, Seven, Five, Six, Order, Cases}

bytes : Bytes
unfolding parsed withdrawn latest_from last_from tries unmodelled read_for contents changed asked writes refused answer_of store stored stored_by decide_stored admitted in_map is_restricted decode put words.unmodelled guarded put_serial serial_unmodelled serial_guarded put_queue queue_unmodelled queue_guarded reset_module reset write_spcr1 wrote_sccr0 wrote_sccr1 sccr0_guarded sccr1_guarded has fall iterate
bytes =
    record {
      added = refl;
      withdrawn = refl;
      given = refl;
      newest_given = refl;
      other_lower = refl;
      other_upper = refl;
    }

settings : Settings
unfolding parsed withdrawn latest_from last_from tries unmodelled read_for contents changed asked writes refused answer_of store stored stored_by decide_stored admitted in_map is_restricted decode put words.unmodelled guarded put_serial serial_unmodelled serial_guarded put_queue queue_unmodelled queue_guarded reset_module reset write_spcr1 wrote_sccr0 wrote_sccr1 sccr0_guarded sccr1_guarded has fall iterate
settings =
    record {
      loops = refl;
      woms = refl;
      sbk = refl;
      womq = refl;
      bits_1 = refl;
      bits_7 = refl;
      spe_without_mstr = refl;
      sccr0 = refl;
      sccr1 = refl;
      bits_0 = refl;
      bits_8 = refl;
      bits_15 = refl;
      spcr1 = refl;
      spe_with_mstr = refl;
    }

eight : Eight
unfolding parsed withdrawn latest_from last_from tries unmodelled read_for contents changed asked writes refused answer_of store stored stored_by decide_stored admitted in_map is_restricted decode put words.unmodelled guarded put_serial serial_unmodelled serial_guarded put_queue queue_unmodelled queue_guarded reset_module reset write_spcr1 wrote_sccr0 wrote_sccr1 sccr0_guarded sccr1_guarded has fall iterate
eight =
    record {
      zero = refl;
      the_same = refl;
      below = refl;
      above = refl;
      word_below = refl;
      word_above = refl;
      withdrawn_last = refl;
      never_added = refl;
      never_added_0 = refl;
      already = refl;
      an_older = refl;
      none_left = refl;
      nothing_there = refl;
      older_again = refl;
    }

seven : Seven
unfolding parsed withdrawn latest_from last_from tries unmodelled read_for contents changed asked writes refused answer_of store stored stored_by decide_stored admitted in_map is_restricted decode put words.unmodelled guarded put_serial serial_unmodelled serial_guarded put_queue queue_unmodelled queue_guarded reset_module reset write_spcr1 wrote_sccr0 wrote_sccr1 sccr0_guarded sccr1_guarded has fall iterate
seven =
    record {
      edition_fits = refl;
      edition_past_end = refl;
      withdrawal_fits = refl;
      withdrawal_past_end = refl;
      record_64 = refl;
      record_65 = refl;
      withdrawal_65 = refl;
    }

five : Five
unfolding parsed withdrawn latest_from last_from tries unmodelled read_for contents changed asked writes refused answer_of store stored stored_by decide_stored admitted in_map is_restricted decode put words.unmodelled guarded put_serial serial_unmodelled serial_guarded put_queue queue_unmodelled queue_guarded reset_module reset write_spcr1 wrote_sccr0 wrote_sccr1 sccr0_guarded sccr1_guarded has fall iterate
five =
    record {
      kind_20 = refl;
      kind_23 = refl;
      kind_0 = refl;
      unmodelled = refl;
      edition_0 = refl;
      not_above = refl;
      never_added = refl;
      twice = refl;
      record_65 = refl;
      record_64 = refl;
    }

six : Six
unfolding parsed withdrawn latest_from last_from tries unmodelled read_for contents changed asked writes refused answer_of store stored stored_by decide_stored admitted in_map is_restricted decode put words.unmodelled guarded put_serial serial_unmodelled serial_guarded put_queue queue_unmodelled queue_guarded reset_module reset write_spcr1 wrote_sccr0 wrote_sccr1 sccr0_guarded sccr1_guarded has fall iterate
six =
    record {
      edition_cut = refl;
      kind_alone = refl;
      edition_cut_by_end = refl;
      withdrawal_cut = refl;
      past_end = refl;
      nothing_past_end = refl;
      to_the_end = refl;
    }

order : Order
unfolding parsed withdrawn latest_from last_from tries unmodelled read_for contents changed asked writes refused answer_of store stored stored_by decide_stored admitted in_map is_restricted decode put words.unmodelled guarded put_serial serial_unmodelled serial_guarded put_queue queue_unmodelled queue_guarded reset_module reset write_spcr1 wrote_sccr0 wrote_sccr1 sccr0_guarded sccr1_guarded has fall iterate
order =
    record {
      five_before_cut = refl;
      five_and_past_end = refl;
      refused_and_past_end = refl;
      unknown_and_cut = refl;
      five_three = refl;
      five_eight = refl;
      six_three = refl;
      six_eight = refl;
      three_eight = refl;
      three_seven = refl;
      eight_seven = refl;
      withdrawal_eight_seven = refl;
    }

pub cases : Cases
cases = record { bytes = bytes; settings = settings; eight = eight; seven = seven; five = five; six = six; order = order }

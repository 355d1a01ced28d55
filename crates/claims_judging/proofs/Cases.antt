-- The cases compute: the trace is played, and its answers stand beside the logs. Assumes nothing.
use mathlib.Core.Path.{refl}
use Rattle.steps.specs.Iterate.{iterate}
use Rattle.sci.specs.model.Status.{has, mark_seen}
use Rattle.qspi.specs.model.Registers.{reset}
use Rattle.qsm.specs.model.State.{reset_module}
use Rattle.qsm.specs.model.Map.{decode}
use Rattle.qsm.specs.model.Lanes.{in_map, is_restricted}
use Rattle.qsm.specs.model.Word.{peek}
use Rattle.qsm.specs.model.Serial.{peek_serial, serial_read}
use Rattle.qsm.specs.model.Queue.{queue_read}
use Rattle.qsm.specs.model.Access.{fetch, fetched}
use Rattle.qsm.specs.model.Decision.{admitted, decide_read}
use Rattle.qsm.specs.model.Pins.{mask, owned, own_levels, levels}
use Rattle.qsm.specs.model.Request.{request}
use Rattle.qsm.specs.model.Event.{answer_of, after_read, read_value, refused, resets, reads, does, step}
use Rattle.trace.specs.Play.{play_for}
use Rattle.tool_judge.specs.Verdict.{alike, verdict}
use Rattle.claims_judging.specs.Cases.{Cases, InNumbers}

pub cases : Cases
unfolding has mark_seen step does resets reads answer_of after_read read_value refused reset_module reset request mask owned own_levels levels decide_read admitted in_map is_restricted decode fetched fetch iterate peek peek_serial serial_read queue_read play_for alike verdict
cases =
    record {
      right = refl;
      ends = refl;
      kind = refl;
      refusal = refl;
      value_1 = refl;
      value_2 = refl;
      value_3 = refl;
      value_4 = refl;
      levels = refl;
      mask = refl;
      level = refl;
      vector = refl;
      clock_1 = refl;
      clock_8 = refl;
      first_answer = refl;
      first_field = refl;
      first_of_two = refl;
      cut_answer = refl;
      wrong_and_cut = refl;
      missing = refl;
      none_at_all = refl;
      surplus = refl;
      surplus_answer = refl;
      right_before_5 = refl;
      stops_5 = refl;
      wrong_before_5 = refl;
      stops_5_too = refl;
      right_before_6 = refl;
      stops_6 = refl;
      stops_6_short = refl;
    }

pub in_numbers_holds : InNumbers
unfolding has mark_seen step does resets reads answer_of after_read read_value refused reset_module reset request mask owned own_levels levels decide_read admitted in_map is_restricted decode fetched fetch iterate peek peek_serial serial_read queue_read play_for alike verdict
in_numbers_holds =
    record {
      right = refl;
      kind = refl;
      refusal = refl;
      value = refl;
      levels = refl;
      mask = refl;
      level = refl;
      vector = refl;
      clock = refl;
    }

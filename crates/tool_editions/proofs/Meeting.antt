-- The example computes, through the module's own writes. Assumes nothing.
use mathlib.Core.Path.{refl}
use Rattle.steps.specs.Iterate.{iterate}
use Rattle.sci.specs.model.Status.{has, fall}
use Rattle.sci.specs.model.Serial.{wrote_sccr0, wrote_sccr1, sccr0_guarded, sccr1_guarded}
use Rattle.qspi.specs.model.Registers.{reset, write_spcr1}
use Rattle.qsm.specs.model.State.{reset_module}
use Rattle.qsm.specs.model.Map.{decode}
use Rattle.qsm.specs.model.Lanes.{in_map, is_restricted}
use Rattle.qsm.specs.model.Serial.{put_serial, serial_unmodelled, serial_guarded}
use Rattle.qsm.specs.model.Queue.{put_queue, queue_unmodelled, queue_guarded}
use Rattle.qsm.specs.model.Word.{put, guarded}
use Rattle.qsm.specs.model.Word as words
use Rattle.qsm.specs.model.Access.{store, stored}
use Rattle.qsm.specs.model.Decision.{admitted, stored_by, decide_stored}
use Rattle.qsm.specs.model.Event.{answer_of, refused, writes}
use Rattle.tool_editions.specs.Records.{parsed}
use Rattle.tool_editions.specs.Rules.{withdrawn, latest_from, last_from, tries, unmodelled}
use Rattle.tool_editions.specs.Contents.{read_for, contents}
use Rattle.tool_editions.specs.Editions.{changed, asked}
use Rattle.tool_editions.specs.Claims.{Example}

pub example : Example
unfolding parsed withdrawn latest_from last_from tries unmodelled read_for contents changed asked writes refused answer_of store stored stored_by decide_stored admitted in_map is_restricted decode put words.unmodelled guarded put_serial serial_unmodelled serial_guarded put_queue queue_unmodelled queue_guarded reset_module reset write_spcr1 wrote_sccr0 wrote_sccr1 sccr0_guarded sccr1_guarded has fall iterate
example =
    record {
      first = refl;
      unmodelled = refl;
      not_above = refl;
      second = refl;
      withdrawal = refl;
      newest_is_first = refl;
      gone = refl;
      twice = refl;
      no_room = refl;
    }

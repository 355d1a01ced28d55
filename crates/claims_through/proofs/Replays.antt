-- Replays of holds: a fair sender's words come, and none is lost. Assumes nothing.
use mathlib.Core.Path.{◌∙◌}
use mathlib.Core.List.{List}
use Prim.Native.Nat.{◌*◌}
use lib.ListN.{length}
use Rattle.qsm.specs.model.State.{reset_module}
use Rattle.qsm.specs.declared.state.Module.{Module}
use Rattle.qsm.specs.declared.event.Event.{Event}
use Rattle.tool_lines.specs.Schedule.{scheduled}
use Rattle.claims_histories.specs.History.{run}
use Rattle.claims_polling.specs.Replays.{replayed}
use Rattle.claims_deadlines.proofs.Replaying.{in_time_holds}
use Rattle.claims_senders.specs.Heard.{earliest}
use Rattle.claims_through.specs.Through.{sample_of, bits_in}
use Rattle.claims_through.specs.Replayed.{HoldsStay, HeldThrough, Met, Replayed}
use Rattle.claims_through.proofs.Whole.{words_through}
use Rattle.claims_through.proofs.Levels.{all_held, trace_levels_holds}
use Rattle.claims_through.proofs.Polls.{quiet_stays, for_rests}

holds_stay_holds : HoldsStay
holds_stay_holds period since clock t m r e =
    quiet_stays (scheduled period since clock t).acts m (record { on = r.on; awake = r.awake }) (for_rests (length t) period since clock t e)

pub held_through_holds : HeldThrough
held_through_holds past period since t fs r clear only levels fair lt b =
    let m : Module = run past reset_module in
    let es : List Event = replayed period since m.clock t m in
    words_through past es fs
    (record { ready = r; stays = holds_stay_holds period since m.clock t m r only; levels = trace_levels_holds period since t m lt ∙ levels; fair = fair }) clear
    (in_time_holds (earliest (bits_in m) * sample_of m) period since m.clock t m 0 clear lt b)

pub all_replayed : Met → Replayed
all_replayed m = record { all_held = all_held; trace_levels = trace_levels_holds; holds_stay = holds_stay_holds; held_through = held_through_holds; met = m }

use Rattle.tool_index.proofs.Marking.{marking_starts, lent_sound, marks_one}
use Rattle.tool_index.proofs.index.write.Goals as goal

pub loop-j-init : goal.loop-j-init
loop-j-init c = marking_starts _ _ _ _ _ c.requires.sound c.requires.fresh_bound.0 c.requires.fresh_bound.1

pub walk-w-requires : goal.walk-w-requires
walk-w-requires c = lent_sound c.loop-j.invariant

pub loop-j-preserved : goal.loop-j-preserved
loop-j-preserved c = marks_one c.loop-j.invariant c.loop-j-test.true c.walk-w.ensures

use Rattle.qsm.specs.model.Event.{answer_of}
use Rattle.until_change.proofs.shown.Goals as goal

pub returns : goal.returns
unfolding answer_of
returns c =
    rw (
      c.mask.ensures,
      c.levels.ensures,
      c.request_of-asked.ensures,
      c.asks-2.ensures,
      c.asks.ensures,
      c.outputs_of-pins.ensures,
    )

-- Document 02, L1: whether a word entered SCDR within an event, told by the module before the event and the module after it.
use Rattle.std.specs.Prelude.{Bool, cond, not, ◌&&◌, List, [], ◌∷◌, ◌++◌, Option, Some, None, ℕ}
use Rattle.sci.specs.model.Flags.{RDRF}
use Rattle.sci.specs.model.Status.{has}
use Rattle.qsm.specs.model.Event.{step}
use Rattle.qsm.specs.declared.state.Module.{Module}
use Rattle.qsm.specs.declared.event.Event.{Event}

-- RDRF rises: a word came that has not been read, and none can come before it is.
abbrev pub fills : Module → Module → Bool
fills before after = not (has before.sci.status RDRF) && has after.sci.status RDRF

-- The figure that stands beside SCDR, where a word came.
abbrev pub arrival : Module → Module → Option ℕ
arrival before after = cond (fills before after) (Some after.sci.receiver.noise) None

abbrev pub figure_of : Option ℕ → List ℕ
figure_of (Some figure) = figure ∷ []
figure_of None = []

-- The figures that events bring, one event after the other.
unfoldable pub figures : List Event → Module → List ℕ
figures [] m = []
figures (e ∷ es) m = figure_of (arrival m (step m e).state) ++ figures es (step m e).state

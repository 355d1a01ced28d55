-- The word that entered SCDR within an event, as the modules before and after the event tell it.
use Rattle.std.specs.Prelude.{cond, List, [], ◌∷◌, ◌%◌}
use Rattle.qsm.specs.declared.state.Module.{Module}
use Rattle.reception.specs.Arrival.{fills}
use Rattle.claims_words.specs.Words.{Word}

-- The word in SCDR, with the figure beside it.
abbrev pub in_scdr : Module → Word
in_scdr m = record { bits = m.sci.receiver.scdr % 512; figure = m.sci.receiver.noise }

abbrev pub told : Module → Module → List Word
told before after = cond (fills before after) (in_scdr after ∷ []) []

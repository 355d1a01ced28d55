-- L14 is about something: lists of events that lose two frames, sleep through one, and are woken by one.
use Rattle.std.specs.Prelude.{true, false, List, [], ◌∷◌, ◌++◌, ◌≡◌}
use Rattle.sci.specs.claims.Overrun.{frame_lost, word_came}
use Rattle.qsm.specs.model.State.{reset_module}
use Rattle.qsm.specs.declared.event.Access.TheVariants.{Write}
use Rattle.qsm.specs.declared.event.Event.{Event}
use Rattle.qsm.specs.declared.event.Event.TheVariants as event
use Rattle.claims_histories.specs.History.{run, log}
use Rattle.claims_histories.specs.Witness.{rate, enable, samples, letter}
use Rattle.reception.specs.Report.{report}
use Rattle.reception.specs.declared.account.Report.{Report}

-- The letter A three times, and nothing is read.
abbrev pub unread : List Event
unread = rate ∷ (enable ∷ (samples 3 true ∷ (letter ++ (letter ++ letter))))

-- RE and RWU: once, asleep.
abbrev pub asleep : List Event
asleep = rate ∷ (event.Access (Write true 2 0x0A 0x0006) ∷ (samples 3 true ∷ letter))

-- WAKE too: C1, whose last bit before the stop bit is 1.
abbrev pub addressed : List Event
addressed =
    rate
    ∷ (event.Access (Write true 2 0x0A 0x0106)
    ∷ (samples 3 true ∷ (samples 16 false ∷ (samples 16 true ∷ (samples 80 false ∷ (samples 48 true ∷ []))))))

pub record Losing : Type 0 where
  pub loses : log unread reset_module ≡ word_came 0x41 ∷ (frame_lost true ∷ (frame_lost false ∷ []))
  pub reports : ◌≡◌ {A = Report} (report (run unread reset_module)) (record { taken = 3; lost = 2; waiting = true })
  pub sleeps : log asleep reset_module ≡ []
  pub wakes : log addressed reset_module ≡ word_came 0xC1 ∷ []

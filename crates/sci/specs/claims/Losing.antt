-- L14 is about something: a run of two losses, a frame slept through, and an address frame that wakes the receiver.
use Rattle.std.specs.Prelude.{true, false, List, [], ◌∷◌, ◌++◌, ◌≡◌}
use Rattle.sci.specs.model.Serial.{reset_sci}
use Rattle.sci.specs.claims.History.{Step, writesSccr1}
use Rattle.sci.specs.claims.Overrun.{frame_lost, word_came, log}
use Rattle.sci.specs.claims.Witness.{rate, enable, samples, letter}

-- The letter A three times, and nothing is read.
abbrev pub unread : List Step
unread = rate ∷ (enable ∷ (samples 3 true ++ (letter ++ (letter ++ letter))))

-- RE and RWU: once, asleep.
abbrev pub asleep : List Step
asleep = rate ∷ (writesSccr1 0x0006 true true ∷ (samples 3 true ++ letter))

-- WAKE too: C1, whose last bit before the stop bit is 1.
abbrev pub addressed : List Step
addressed =
    rate
    ∷ (writesSccr1 0x0106 true true ∷ (samples 3 true ++ (samples 16 false ++ (samples 16 true ++ (samples 80 false ++ samples 48 true)))))

pub record Losing : Type 0 where
  pub loses : log unread reset_sci ≡ word_came 0x41 ∷ (frame_lost true ∷ (frame_lost false ∷ []))
  pub sleeps : log asleep reset_sci ≡ []
  pub wakes : log addressed reset_sci ≡ word_came 0xC1 ∷ []

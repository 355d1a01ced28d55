-- Document 02, L1: the words that enter SCDR, each with the figure of its frame, clock by clock as demand 3's marks have them.
use Rattle.std.specs.Prelude.{Bool, cond, ◌&&◌, List, [], ◌∷◌, ◌++◌, ℕ, zero, suc, ◌%◌}
use Rattle.sci.specs.model.Framer.{frame_of}
use Rattle.sci.specs.model.Receiver.{outcome}
use Rattle.sci.specs.model.Transmitter.{sent}
use Rattle.sci.specs.claims.History.{sampling}
use Rattle.sci.specs.claims.Figure.{enters}
use Rattle.sci.specs.claims.Overrun.{Mark, frame_lost, word_came, status_read, word_delivered, was_reset}
use Rattle.sci.specs.declared.serial.Sci.{Sci}
use Rattle.qsm.specs.model.Event.{held, clock_module, step}
use Rattle.qsm.specs.declared.state.Module.{Module}
use Rattle.qsm.specs.declared.event.Event.{Event}
use Rattle.qsm.specs.declared.event.Event.TheVariants.{Reset, Hold}
use Rattle.qsm.specs.declared.event.Event.TheVariants as event
use Rattle.claims_histories.specs.History.{played_clocks}

-- Nine bits, and the noise figure.
pub record Word : Type 0 where
  pub bits : ℕ
  pub figure : ℕ

-- At this clock a frame enters SCDR, and what it brings there. On a sample the transmitter comes before the receiver.
abbrev pub comes : Sci → Bool → Bool
comes s x = sampling s && enters (outcome s.receiver (sent s.transmitter s.status s.sccr1).status s.sccr1 x)

abbrev pub brought : Sci → Bool → Word
brought s x = record { bits = s.receiver.framer.shift % 512; figure = (frame_of s.receiver.framer x).noise }

abbrev pub clock_words : ℕ → Bool → Module → List Word
clock_words zero rxd m = []
clock_words (suc n) rxd m =
    cond (comes m.sci rxd) (brought m.sci rxd ∷ []) [] ++ clock_words n rxd (clock_module rxd m)

-- Words come only while a level is held; none where the hold is refused 10.
abbrev pub event_words : Event → Module → List Word
event_words Reset m = []
event_words (Hold pins rxd n) m = clock_words (played_clocks m n) rxd (held m pins)
event_words (event.Access a) m = []

-- The words of events, one after the other.
unfoldable pub words : List Event → Module → List Word
words [] m = []
words (e ∷ es) m = event_words e m ++ words es (step m e).state

-- The bits and the figures of words, and the words of demand 3's marks.
abbrev pub bits_of : List Word → List ℕ
bits_of [] = []
bits_of (w ∷ ws) = w.bits ∷ bits_of ws

abbrev pub figures_of : List Word → List ℕ
figures_of [] = []
figures_of (w ∷ ws) = w.figure ∷ figures_of ws

abbrev pub came : List Mark → List ℕ
came [] = []
came (frame_lost raises ∷ h) = came h
came (word_came w ∷ h) = w ∷ came h
came (status_read ∷ h) = came h
came (word_delivered w ∷ h) = came h
came (was_reset ∷ h) = came h

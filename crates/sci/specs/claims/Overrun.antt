-- Demand 3, second half, of the serial half: after a lost frame no word is delivered before a status read.
use Rattle.std.specs.Prelude.{Bool, true, false, cond, not, List, [], ◌∷◌, ◌++◌, ◌≡◌, ℕ, ◌%◌}
use Rattle.std.proofs.Math.Option.{Option, none, some}
use Rattle.sci.specs.model.Flags.{OR}
use Rattle.sci.specs.model.Status.{has}
use Rattle.sci.specs.model.Receiver.{outcome}
use Rattle.sci.specs.model.Transmitter.{sent}
use Rattle.sci.specs.claims.Line.{read, delivers}
use Rattle.sci.specs.claims.History.{Step, reset, clock, reads, writesSccr0, writesSccr1, writesScdr, step, receiving, sampling}
use Rattle.sci.specs.declared.status.Status.{Status}
use Rattle.sci.specs.declared.receiver.Outcome.{Outcome}
use Rattle.sci.specs.declared.serial.Sci.{Sci}

-- What happens to words, in order: a frame is lost, and whether OR rises with it; a word enters SCDR; a status read; a word is delivered;
-- a reset.
pub data Mark : Type 0 where
  frame_lost : (raises : Bool) → Mark
  word_came : ℕ → Mark
  status_read : Mark
  word_delivered : ℕ → Mark
  was_reset : Mark

abbrev pub taken_marks : Outcome → Bool → ℕ → List Mark
taken_marks o raises w = cond o.lost (frame_lost raises ∷ []) (cond o.taken (word_came (w % 512) ∷ []) [])

-- The transmitter comes before the receiver.
abbrev pub sample_marks : Sci → Status → Bool → List Mark
sample_marks s t x =
    taken_marks (outcome s.receiver t s.sccr1 x) (not (has t OR)) s.receiver.framer.shift

abbrev pub look_marks : Bool → List Mark
look_marks scsr = cond scsr (status_read ∷ []) []

abbrev pub delivery_marks : Option ℕ → List Mark
delivery_marks (some w) = word_delivered w ∷ []
delivery_marks none = []

abbrev pub step_marks : Step → Sci → List Mark
step_marks reset s = was_reset ∷ []
step_marks (clock x) s = cond (sampling s) (sample_marks s (sent s.transmitter s.status s.sccr1).status x) []
step_marks (reads scsr scdr) s = look_marks scsr ++ delivery_marks (delivers (read scsr scdr) (receiving s))
step_marks (writesSccr0 v upper lower) s = []
step_marks (writesSccr1 v upper lower) s = []
step_marks (writesScdr v upper lower) s = []

unfoldable pub log : List Step → Sci → List Mark
log [] s = []
log (e ∷ es) s = step_marks e s ++ log es (step e s)

abbrev pub has_reset : List Mark → Bool
has_reset [] = false
has_reset (frame_lost raises ∷ h) = has_reset h
has_reset (word_came w ∷ h) = has_reset h
has_reset (status_read ∷ h) = has_reset h
has_reset (word_delivered w ∷ h) = has_reset h
has_reset (was_reset ∷ h) = true

abbrev pub has_status_read : List Mark → Bool
has_status_read [] = false
has_status_read (frame_lost raises ∷ h) = has_status_read h
has_status_read (word_came w ∷ h) = has_status_read h
has_status_read (status_read ∷ h) = true
has_status_read (word_delivered w ∷ h) = has_status_read h
has_status_read (was_reset ∷ h) = has_status_read h

-- No reset and no frame entering SCDR: losses on both sides are of one run.
abbrev pub one_run : List Mark → Bool
one_run [] = true
one_run (frame_lost raises ∷ h) = one_run h
one_run (word_came w ∷ h) = false
one_run (status_read ∷ h) = one_run h
one_run (word_delivered w ∷ h) = one_run h
one_run (was_reset ∷ h) = false

-- Whether a run of losses is open at the end: `b`, whether one was at the beginning.
abbrev pub open_run : Bool → List Mark → Bool
open_run b [] = b
open_run b (frame_lost raises ∷ h) = open_run true h
open_run b (word_came w ∷ h) = open_run false h
open_run b (status_read ∷ h) = open_run b h
open_run b (word_delivered w ∷ h) = open_run b h
open_run b (was_reset ∷ h) = open_run false h

-- The run of losses that `past` ends in raised OR with its first loss, and a status read was made since, in that run or in what came after.
pub record ReadSince (past after : List Mark) : Type 0 where
  pub before : List Mark
  pub run : List Mark
  pub raised : past ≡ before ++ (frame_lost true ∷ run)
  pub first : open_run false before ≡ false
  pub one : one_run run ≡ true
  pub looked : has_status_read (run ++ after) ≡ true

-- No word that came after a lost one, with no reset between, is delivered before a status read made since its run of losses raised OR.
abbrev pub Overrun : List Mark → Type 0
Overrun h =
    (a b c d : List Mark) (raises : Bool) (w v : ℕ) →
    h ≡ a ++ (frame_lost raises ∷ (b ++ (word_came w ∷ (c ++ (word_delivered v ∷ d))))) →
    has_reset b ≡ false → has_reset c ≡ false → ReadSince (a ++ (frame_lost raises ∷ [])) (b ++ c)

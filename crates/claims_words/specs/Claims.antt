-- What is shown of the words that enter SCDR, in every state of the module.
use Rattle.std.specs.Prelude.{true, List, [], ◌∷◌, ◌++◌, ◌≡◌, ℕ, ◌*◌, ◌<◌}
use Rattle.qsm.specs.declared.state.Module.{Module}
use Rattle.qsm.specs.declared.event.Event.{Event}
use Rattle.qsm.specs.declared.event.Event.TheVariants.{Hold}
use Rattle.trace.specs.Trace.{answer_length}
use Rattle.trace.specs.Play.{Outcome, play}
use Rattle.trace.specs.Laws.{unread, Buffer, streamed}
use Rattle.trace.specs.Records.{events}
use Rattle.reception.specs.Arrival.{arrival, figure_of, figures}
use Rattle.reception.specs.Examples.{free}
use Rattle.claims_histories.specs.History.{after, event_marks}
use Rattle.claims_words.specs.Words.{Word, event_words, words, bits_of, figures_of, came}
use Rattle.claims_words.specs.Told.{told}

-- The words within an event are those of demand 3's marks.
abbrev pub AsMarked : Type 0
AsMarked = (e : Event) (m : Module) → came (event_marks e m) ≡ bits_of (event_words e m)

-- There is at most one, and one exactly if RDRF rises from before the event to after it: it then stands in SCDR with its figure beside it.
abbrev pub Told : Type 0
Told = (e : Event) (m : Module) → event_words e m ≡ told m (after e m)

abbrev pub FigureTold : Type 0
FigureTold = (m left : Module) → figures_of (told m left) ≡ figure_of (arrival m left)

-- So the figures that `replay` counts, told by the modules before and after each event, are those of the words that enter SCDR clock by clock.
abbrev pub FiguresTold : Type 0
FiguresTold = (es : List Event) (m : Module) → figures es m ≡ figures_of (words es m)

-- Into less room than two answers take, a trace is played by one record at most: the modules before and after it tell the word.
abbrev pub RecordTold : Type 0
RecordTold =
    (m : Module) (t : List ℕ) (room : ℕ) → room < 2 * answer_length →
    words (events (play m t room).records) m ≡ told m (play m t room).state

-- The words told buffer by buffer.
unfoldable pub told_by : Module → List ℕ → List Buffer → List Word
told_by m left [] = []
told_by m left (b ∷ bs) =
    let o : Outcome = play m (left ++ b.bytes) b.room in
    told m o.state ++ told_by o.state (unread o (left ++ b.bytes)) bs

abbrev pub Small : List Buffer → Type 0
Small [] = Unit {0}
Small (b ∷ bs) = (b.room < 2 * answer_length) × Small bs

-- However a trace comes in, they are the words of all the records answered. That the buffers make up the trace is the trace's `Streams`.
abbrev pub AllTold : Type 0
AllTold =
    (m : Module) (left : List ℕ) (bs : List Buffer) → Small bs →
    told_by m left bs ≡ words (events (streamed m left bs).played.records) m

-- Words that are noisy do come.
abbrev pub NoisyWord : Type 0
NoisyWord = event_words (Hold 0 true 1) free ≡ record { bits = 65; figure = 3 } ∷ []

pub record Claims : Type 0 where
  pub as_marked_holds : AsMarked
  pub told : Told
  pub figure_told : FigureTold
  pub figures_told : FiguresTold
  pub record_told : RecordTold
  pub all_told : AllTold
  pub noisy_word : NoisyWord

-- Demand 3 is about something: lists of events that meet every hypothesis, and then deliver a word.
use Rattle.std.specs.Prelude.{Bool, true, false, List, [], ◌∷◌, ◌++◌, ◌≡◌, ℕ, ◌*◌}
use Rattle.std.proofs.Math.Option.{some}
use Rattle.sci.specs.model.Control.{settings}
use Rattle.sci.specs.claims.Line.{resync_samples}
use Rattle.sci.specs.claims.Overrun.{frame_lost, word_came, status_read, word_delivered}
use Rattle.sci.specs.claims.Witness.{words_of}
use Rattle.qsm.specs.model.State.{reset_module}
use Rattle.qsm.specs.model.Event.{step}
use Rattle.qsm.specs.declared.state.Module.{Module}
use Rattle.qsm.specs.declared.event.Access.TheVariants.{Read, Write}
use Rattle.qsm.specs.declared.event.Event.{Event}
use Rattle.qsm.specs.declared.event.Event.TheVariants.{Hold}
use Rattle.qsm.specs.declared.event.Event.TheVariants as event
use Rattle.claims_histories.specs.History.{after, run, reads_status, reads_data, Unbroken, ops, fresh_word, watched, log}
use Rattle.claims_histories.specs.Demand3.{Recovers, Compared}

-- SCBR 1, then RE, as words.
abbrev pub rate : Event
rate = event.Access (Write true 2 0x08 1)

abbrev pub enable : Event
enable = event.Access (Write true 2 0x0A 4)

-- So many samples of a level, at two clocks each.
abbrev pub samples : ℕ → Bool → Event
samples n x = Hold 0 x (2 * n)

-- The letter A, 41: start bit, data bits low bit first, stop bit.
abbrev pub letter : List Event
letter =
    samples 16 false ∷ (samples 16 true ∷ (samples 80 false ∷ (samples 16 true ∷ (samples 16 false ∷ (samples 16 true ∷ [])))))

abbrev pub status : Event
status = reads_status true

abbrev pub fetch : List Event
fetch = status ∷ (reads_data true ∷ [])

-- A letter taken and read; ones, and the idle line's flag read away; a letter again.
abbrev pub before : List Event
before = rate ∷ (enable ∷ (samples 3 true ∷ (letter ++ fetch)))

abbrev pub quiet : List Event
quiet = samples resync_samples true ∷ fetch

abbrev pub waited : List Event
waited = samples resync_samples true ∷ []

abbrev pub later : List Event
later = letter ++ fetch

abbrev pub started : Module
started = run before reset_module

abbrev pub enabled : Module
enabled = after enable (run (rate ∷ []) reset_module)

abbrev pub recovering : Module
recovering = after status (run quiet started)

abbrev pub waiting : Module
waiting = run waited enabled

-- A letter taken, one lost; status, then data; a letter taken again and delivered after a status read.
abbrev pub losing : List Event
losing = rate ∷ (enable ∷ (samples 3 true ∷ (letter ++ (letter ++ (fetch ++ (letter ++ fetch))))))

-- M set, and a word of nine bits, 141, whose bit 8 is a one: start bit, data bits low bit first, stop bit.
abbrev pub nine : List Event
nine =
    rate ∷
    (event.Access (Write true 2 0x0A 0x204) ∷
    (samples 3 true ∷
    (samples 16 false ∷ (samples 16 true ∷ (samples 80 false ∷ (samples 16 true ∷ (samples 16 false ∷ (samples 32 true ∷ []))))))))

abbrev pub nined : Module
nined = run nine reset_module

-- A read that delivers a word, with such a value in its answer.
pub record Answers (m : Module) (width offset word shown : ℕ) : Type 0 where
  pub fresh : fresh_word m (after (event.Access (Read true width offset)) m) ≡ some word
  pub value : (step m (event.Access (Read true width offset))).answer.value ≡ shown

pub record Met : Type 0 where
  pub recovers : Recovers started quiet true 2 0x0C
  pub compared : Compared (rate ∷ []) enable waited
  pub equal : settings started.sci.sccr1 ≡ settings enabled.sci.sccr1
  pub unbroken : Unbroken later recovering
  pub unbroken' : Unbroken later waiting
  pub alike : ops later recovering ≡ ops later waiting
  pub delivers : words_of (watched later recovering) ≡ 65 ∷ []
  pub loses :
      log losing reset_module
      ≡ word_came 65 ∷ (frame_lost true ∷ (status_read ∷ (word_delivered 65 ∷ (word_came 65 ∷ (status_read ∷ (word_delivered 65 ∷ []))))))
  pub by_byte : Answers (after status nined) 1 0x0F 0x141 0x41
  pub by_word : Answers (after status nined) 2 0x0E 0x141 0x141
  pub by_long : Answers nined 4 0x0C 0x141 0x01E00141

-- Demand 3 is about something: histories that meet every hypothesis, and then deliver a word.
use Rattle.std.specs.Prelude.{Bool, true, false, List, [], ◌∷◌, ◌++◌, ◌≡◌, ℕ, ◌*◌, replicate}
use Rattle.std.proofs.Math.Option.{Option, none, some}
use Rattle.sci.specs.model.Control.{settings}
use Rattle.sci.specs.claims.Line.{Seen, resync_samples}
use Rattle.sci.specs.model.Serial.{reset_sci}
use Rattle.sci.specs.claims.History.{Step, clock, reads, writesSccr0, writesSccr1, step, run, ops, watched, Unbroken}
use Rattle.sci.specs.claims.Overrun.{frame_lost, word_came, status_read, word_delivered, log}
use Rattle.sci.specs.claims.Demand3.{Recovers, Compared}
use Rattle.sci.specs.declared.serial.Sci.{Sci}

-- SCBR 1, then RE.
abbrev pub rate : Step
rate = writesSccr0 1 true true

abbrev pub enable : Step
enable = writesSccr1 4 true true

-- So many samples of a level, at two clocks each.
abbrev pub samples : ℕ → Bool → List Step
samples n x = replicate (2 * n) (clock x)

-- The letter A, 41: start bit, data bits low bit first, stop bit.
abbrev pub letter : List Step
letter =
    samples 16 false ++ (samples 16 true ++ (samples 80 false ++ (samples 16 true ++ (samples 16 false ++ samples 16 true))))

-- Status, then data.
abbrev pub fetch : List Step
fetch = reads true false ∷ (reads false true ∷ [])

-- A letter taken and read; ones, and the idle line's flag read away; a letter again.
abbrev pub before : List Step
before = rate ∷ (enable ∷ (samples 3 true ++ (letter ++ fetch)))

abbrev pub quiet : List Step
quiet = samples resync_samples true ++ fetch

abbrev pub later : List Step
later = letter ++ fetch

abbrev pub recovering : Sci
recovering = step (reads true false) (run quiet (run before reset_sci))

abbrev pub waiting : Sci
waiting = run (samples resync_samples true) (step enable (step rate reset_sci))

-- The words delivered.
abbrev pub and_word : Option ℕ → List ℕ → List ℕ
and_word (some w) rest = w ∷ rest
and_word none rest = rest

unfoldable pub words_of : List Seen → List ℕ
words_of [] = []
words_of (e ∷ es) = and_word e.word (words_of es)

-- A letter taken, one lost; status, then data; a letter taken again and delivered after a status read.
abbrev pub losing : List Step
losing = rate ∷ (enable ∷ (samples 3 true ++ (letter ++ (letter ++ (fetch ++ (letter ++ fetch))))))

pub record Met : Type 0 where
  pub recovers : Recovers before quiet
  pub compared : Compared (rate ∷ []) enable (samples resync_samples true)
  pub equal : settings (run before reset_sci).sccr1 ≡ settings (step enable (step rate reset_sci)).sccr1
  pub unbroken : Unbroken later recovering
  pub unbroken' : Unbroken later waiting
  pub alike : ops later recovering ≡ ops later waiting
  pub delivers : words_of (watched later recovering) ≡ 65 ∷ []
  pub loses :
      log losing reset_sci
      ≡ word_came 65 ∷ (frame_lost true ∷ (status_read ∷ (word_delivered 65 ∷ (word_came 65 ∷ (status_read ∷ (word_delivered 65 ∷ []))))))

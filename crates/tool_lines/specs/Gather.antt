-- Document 02, L8: lines from delivered words.
use Rattle.std.specs.Prelude.{Bool, cond, Option, Some, None, List, [], ◌∷◌, ◌++◌, ℕ, ◌+◌, ◌-◌, ◌%◌, ◌^◌, min, eqb, ltb, take, set}
use Rattle.steps.specs.Bits.{bit}
use Rattle.qsm.specs.claims.StatusFlags.{RDRF, OR, NF, FE, PF, place}
use Rattle.tool_lines.specs.declared.line.Line.{Line}
use Rattle.tool_lines.specs.declared.line.Cause.{Cause}
use Rattle.tool_lines.specs.declared.line.Cause.TheVariants.{Framing, Parity, Noise, Length, Overrun}
use Rattle.tool_lines.specs.declared.line.Gathered.{Gathered}
use Rattle.tool_lines.specs.declared.line.Outcome.{Outcome}
use Rattle.tool_lines.specs.declared.line.Outcome.TheVariants.{Nothing, Handed, Dropped, Stopped, Ended, Refused}

-- What gathering is told, in order: a reset, or a poll with the status that it showed and the word that it read.
pub data Notice : Type 0 where
  was_reset : Notice
  showed : (status word : ℕ) → Notice

-- What it gives: a line handed over, or one dropped, each by its number.
pub data Report : Type 0 where
  handed : (number : ℕ) (characters : List ℕ) → Report
  dropped : (number cause : ℕ) → Report

-- The line's end, and the most characters before it.
abbrev pub newline : ℕ
newline = 0x0A

abbrev pub most : ℕ
most = 128

-- Why a line is dropped, in their order on one word: FE, PF, NF, length, OR. 0 is no cause.
abbrev pub damage : ℕ → ℕ
damage status = cond (bit (place FE) status) 1 (cond (bit (place PF) status) 2 (cond (bit (place NF) status) 3 0))

abbrev pub too_long : ℕ
too_long = 4

abbrev pub overrun : ℕ
overrun = 5

-- The same as the code has them.
abbrev pub number_of : Cause → ℕ
number_of Framing = 1
number_of Parity = 2
number_of Noise = 3
number_of Length = too_long
number_of Overrun = overrun

abbrev pub or_0 : Option Cause → ℕ
or_0 (Some why) = number_of why
or_0 None = 0

-- The first cause stays.
abbrev pub caused : Line → ℕ → Line
caused l why =
    record { number = l.number; cause = cond (eqb l.cause 0) why l.cause; count = l.count; characters = l.characters }

-- A character is put behind those so far; the 129th is a cause.
abbrev pub typed : Line → ℕ → Line
typed l c =
    cond (ltb l.count most)
    (record { number = l.number; cause = l.cause; count = l.count + 1; characters = set l.characters l.count c })
    (caused l too_long)

-- An unfinished line is forgotten, without report or number. The next line has the next number, as far as numbers go.
abbrev pub forgotten : Line → Line
forgotten l = record { number = l.number; cause = 0; count = 0; characters = l.characters }

abbrev pub following : Line → Line
following l =
    record { number = min (l.number + 1) (2 ^ 64 - 1); cause = 0; count = 0; characters = l.characters }

abbrev pub goes_on : Line → Gathered
goes_on l = record { line = l; outcome = Nothing }

-- A line that ends is handed over whole, or dropped with its cause.
abbrev pub ended : Line → Gathered
ended l =
    record {
      line = following l;
      outcome = cond (eqb l.cause 0) (Handed l.number (min l.count most)) (Dropped l.number l.cause);
    }

-- A word that is delivered: its low 7 bits, and the flags shown with it.
abbrev pub put : Line → ℕ → ℕ → Gathered
put l status c =
    cond (eqb c newline) (ended (caused l (damage status))) (goes_on (typed (caused l (damage status)) c))

-- OR touches the line that is being gathered.
abbrev pub touched : Bool → Gathered → Gathered
touched over g = record { line = cond over (caused g.line overrun) g.line; outcome = g.outcome }

-- The word came before the loss.
unfoldable pub shown : Line → ℕ → ℕ → Gathered
shown l status word =
    touched (bit (place OR) status) (cond (bit (place RDRF) status) (put l status (word % 128)) (goes_on l))

abbrev pub noticed : Line → Notice → Gathered
noticed l was_reset = goes_on (forgotten l)
noticed l (showed status word) = shown l status word

-- What is reported: of a line handed over, its characters.
abbrev pub reported : Line → Outcome → List Report
reported l Nothing = []
reported l (Handed number n) = handed number (take n l.characters) ∷ []
reported l (Dropped number cause) = dropped number cause ∷ []
reported l (Stopped why) = []
reported l Ended = []
reported l (Refused why) = []

-- Notice after notice. What is unfinished at the end is forgotten.
unfoldable pub gather : Line → List Notice → List Report
gather l [] = []
gather l (n ∷ ns) = reported (noticed l n).line (noticed l n).outcome ++ gather (noticed l n).line ns

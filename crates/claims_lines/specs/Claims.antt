-- Document 02, L8: what is shown of the lines of a replay, for every trace and period.
use Rattle.std.specs.Prelude.{Bool, true, false, List, [], ◌∷◌, ◌++◌, ◌≡◌, ℕ, suc, ◌≤◌, length}
use Rattle.qsm.specs.model.State.{reset_module}
use Rattle.qsm.specs.declared.state.Module.{Module}
use Rattle.qsm.specs.declared.event.Event.{Event}
use Rattle.claims_histories.specs.History.{log}
use Rattle.tool_lines.specs.Gather.{Report, handed, dropped, most}
use Rattle.tool_lines.specs.Replay.{polled_events, lines}
use Rattle.claims_lines.specs.Happened.{Happening, frame_lost, word_came, status_read, word_delivered, was_reset, marks_of, happened}
use Rattle.claims_lines.specs.Segment.{letters_of, clean, sound, report_of, ended_in, numbered, Line}

-- Without the flags, what happened is demand 3's marks.
abbrev pub AsMarked : Type 0
AsMarked = (es : List Event) (m : Module) → marks_of (happened es m) ≡ log es m

-- What happens to frames when a trace is played with polls put in.
abbrev pub heard : ℕ → List ℕ → List Happening
heard period t = happened (polled_events period t) reset_module

-- A line handed over: its characters are the low 7 bits of all the words that came from the start, a reset or the last 0A to its own 0A; none
-- of them came with FE, PF or NF, and between them no frame was lost.
pub record OnWire (h : List Happening) (number : ℕ) (characters : List ℕ) : Type 0 where
  pub line : Line h
  pub letters : letters_of line.body ≡ characters
  pub whole : clean line.body ≡ true
  pub undamaged : sound line.damage ≡ true
  pub short : length characters ≤ most
  pub numbers : number ≡ numbered (ended_in (line.before ++ line.body))

-- A line dropped: its cause is the first in time of that line.
pub record Dropped (h : List Happening) (number cause : ℕ) : Type 0 where
  pub line : Line h
  pub report : report_of number line.body line.damage ≡ dropped number cause
  pub numbers : number ≡ numbered (ended_in (line.before ++ line.body))

abbrev pub Told : List Happening → Report → Type 0
Told h (handed number characters) = OnWire h number characters
Told h (dropped number cause) = Dropped h number cause

abbrev pub AllTold : List Happening → List Report → Type 0
AllTold h [] = Unit {0}
AllTold h (r ∷ rs) = Told h r × AllTold h rs

-- The theorem: every line handed over is what came on the wire.
abbrev pub FromWire : Type 0
FromWire = (period : ℕ) (t : List ℕ) → AllTold (heard period t) (lines period t)

-- Every line that ended is reported exactly once, in the order of its number.
abbrev pub number_of : Report → ℕ
number_of (handed number characters) = number
number_of (dropped number cause) = number

abbrev pub InTurn : ℕ → List Report → Type 0
InTurn k [] = Unit {0}
InTurn k (r ∷ rs) = (number_of r ≡ numbered k) × InTurn (suc k) rs

pub record EachOnce (h : List Happening) (rs : List Report) : Type 0 where
  pub count : length rs ≡ ended_in h
  pub order : InTurn 0 rs

abbrev pub Once : Type 0
Once = (period : ℕ) (t : List ℕ) → EachOnce (heard period t) (lines period t)

-- The other way round. The word that ends a line is delivered: until then frames may be lost and status may be read.
abbrev pub waiting : List Happening → Bool
waiting [] = true
waiting (frame_lost raises ∷ h) = waiting h
waiting (word_came w d ∷ h) = false
waiting (status_read ∷ h) = waiting h
waiting (word_delivered w ∷ h) = false
waiting (was_reset ∷ h) = false

pub record Delivered {h : List Happening} (line : Line h) : Type 0 where
  pub between : List Happening
  pub rest : List Happening
  pub waits : waiting between ≡ true
  pub then : line.after ≡ between ++ (word_delivered line.last ∷ rest)

pub record Reported (r : Report) (rs : List Report) : Type 0 where
  pub earlier : List Report
  pub later : List Report
  pub split : rs ≡ earlier ++ (r ∷ later)

-- Every line whose 0A is delivered is reported, handed over or dropped as its words came.
abbrev pub AllReported : Type 0
AllReported =
    (period : ℕ) (t : List ℕ) (line : Line (heard period t)) → Delivered line →
    Reported (report_of (numbered (ended_in (line.before ++ line.body))) line.body line.damage) (lines period t)

-- So one of up to 128 characters, with no damage and no loss, is handed over.
abbrev pub HandedOver : Type 0
HandedOver =
    (period : ℕ) (t : List ℕ) (line : Line (heard period t)) → Delivered line → clean line.body ≡ true → sound line.damage ≡ true →
    length (letters_of line.body) ≤ most →
    Reported (handed (numbered (ended_in (line.before ++ line.body))) (letters_of line.body)) (lines period t)

pub record Claims : Type 0 where
  pub as_marked : AsMarked
  pub from_wire : FromWire
  pub once : Once
  pub all_reported : AllReported
  pub handed_over : HandedOver

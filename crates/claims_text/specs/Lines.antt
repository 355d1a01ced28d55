-- The lines of a text: cut at bytes whose low 7 bits are 0A, numbered from 0; one of more than 128 characters is dropped.
use Rattle.std.specs.Prelude.{cond, List, [], ◌∷◌, ◌++◌, ◌≡◌, ℕ, suc, ◌%◌, ltb, length}
use Rattle.tool_lines.specs.Gather.{Report, handed, dropped, most, too_long}
use Rattle.claims_lines.specs.Happened.{Happening, frame_lost, word_came, status_read, word_delivered, was_reset}
use Rattle.claims_lines.specs.Segment.{ends, numbered, damaged}
use Rattle.claims_lines.specs.Claims.{heard}
use Rattle.claims_lines.specs.Witness.{recorded}
use Rattle.tool_lines.specs.Replay.{lines}

abbrev pub line_report : ℕ → List ℕ → Report
line_report k cs = cond (ltb most (length cs)) (dropped (numbered k) too_long) (handed (numbered k) cs)

-- With so many lines before, and so many characters of the one under way.
unfoldable pub lines_from : ℕ → List ℕ → List ℕ → List Report
lines_from k cs [] = []
lines_from k cs (w ∷ ws) = cond (ends w) (line_report k cs ∷ lines_from (suc k) [] ws) (lines_from k (cs ++ (w % 128 ∷ [])) ws)

abbrev pub text_lines : List ℕ → List Report
text_lines ws = lines_from 0 [] ws

unfoldable pub delivered : List Happening → List ℕ
delivered [] = []
delivered (frame_lost raises ∷ h) = delivered h
delivered (word_came w d ∷ h) = delivered h
delivered (status_read ∷ h) = delivered h
delivered (word_delivered w ∷ h) = w ∷ delivered h
delivered (was_reset ∷ h) = delivered h

-- No frame is lost, no word comes with a flag, and there is no reset.
unfoldable pub Clean : List Happening → Type 0
Clean [] = Unit {0}
Clean (frame_lost raises ∷ h) = ⊥
Clean (word_came w d ∷ h) = (damaged d ≡ 0) × Clean h
Clean (status_read ∷ h) = Clean h
Clean (word_delivered w ∷ h) = Clean h
Clean (was_reset ∷ h) = ⊥

-- Of a trace from reset on in whose replay no frame is lost and no word comes with a flag, and in which there is no reset, `lines` hands over the
-- lines of the words that are delivered.
abbrev pub LinesOfWords : Type 0
LinesOfWords = (period : ℕ) (t : List ℕ) → Clean (heard period t) → lines period t ≡ text_lines (delivered (heard period t))

-- Met: A and 0A twice at 32 clocks a bit with SCBR 1, polled every 300 clocks.
pub record TextLines : Type 0 where
  pub lines : LinesOfWords
  pub met : Clean (heard 300 recorded)

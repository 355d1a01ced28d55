-- The claims are about something: one trace whose lines are handed over with a quick poll, and dropped for a lost frame with a slow one.
use Rattle.std.specs.Prelude.{List, [], ◌∷◌, ◌++◌, ◌≡◌, true, false, ℕ, ◌≤◌, length}
use Rattle.tool_lines.specs.Gather.{handed, dropped, most, overrun}
use Rattle.tool_lines.specs.Replay.{lines}
use Rattle.claims_lines.specs.Happened.{Damage, Happening, frame_lost, word_came, status_read, word_delivered}
use Rattle.claims_lines.specs.Segment.{letters_of, clean, sound, Line}
use Rattle.claims_lines.specs.Claims.{heard, Delivered}

-- SCBR 1, then RE, as supervisor words; RXD at a level for so many clocks, below 256.
abbrev pub on : List ℕ
on =
    4 ∷ (0x82 ∷ (0 ∷ (0x08 ∷ (0 ∷ (0 ∷ (0 ∷ (1 ∷ []))))))) ++ (4 ∷ (0x82 ∷ (0 ∷ (0x0A ∷ (0 ∷ (0 ∷ (0 ∷ (4 ∷ []))))))))

abbrev pub hold : ℕ → ℕ → List ℕ
hold level clocks = 2 ∷ (0 ∷ (level ∷ (0 ∷ (clocks ∷ []))))

-- The letter A, 41, and 0A, at 32 clocks a bit.
abbrev pub letter : List ℕ
letter = hold 0 32 ++ (hold 1 32 ++ (hold 0 160 ++ (hold 1 32 ++ (hold 0 32 ++ hold 1 32))))

abbrev pub end : List ℕ
end = hold 0 64 ++ (hold 1 32 ++ (hold 0 32 ++ (hold 1 32 ++ (hold 0 128 ++ hold 1 32))))

abbrev pub recorded : List ℕ
recorded = on ++ (hold 1 6 ++ (letter ++ (end ++ (end ++ (hold 1 220 ++ hold 1 220)))))

abbrev pub undamaged : Damage
undamaged = record { fe = false; pf = false; nf = false }

abbrev pub came : ℕ → Happening
came w = word_came w undamaged

abbrev pub read : ℕ → List Happening
read w = status_read ∷ (word_delivered w ∷ [])

-- A line that meets what is asked for one to be handed over.
pub record Whole (h : List Happening) : Type 0 where
  pub line : Line h
  pub delivered : Delivered line
  pub clean : clean line.body ≡ true
  pub sound : sound line.damage ≡ true
  pub short : length (letters_of line.body) ≤ most

pub record Met : Type 0 where
  -- A frame lasts 320 clocks. Polled every 300: the letter's line, and an empty one.
  pub quick :
      heard 300 recorded
      ≡ status_read ∷ (came 0x41 ∷ (read 0x41 ++ (came 0x0A ∷ (read 0x0A ++ (came 0x0A ∷ read 0x0A)))))
  pub handed : lines 300 recorded ≡ handed 0 (0x41 ∷ []) ∷ (handed 1 [] ∷ [])
  pub whole : Whole (heard 300 recorded)
  -- Every 700: the first 0A is lost.
  pub slow : heard 700 recorded ≡ came 0x41 ∷ (frame_lost true ∷ (read 0x41 ++ (came 0x0A ∷ read 0x0A)))
  pub dropped : lines 700 recorded ≡ dropped 0 overrun ∷ []

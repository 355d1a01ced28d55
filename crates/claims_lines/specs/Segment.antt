-- Document 02, L8: a line as it came on the wire. It is a segment of what happened: from a reset, a 0A or the start to its own 0A.
use Rattle.std.specs.Prelude.{Bool, true, false, cond, not, ◌&&◌, List, [], ◌∷◌, ◌++◌, ◌≡◌, ℕ, suc, ◌-◌, ◌%◌, ◌^◌, min, eqb, ltb}
use Rattle.tool_lines.specs.Gather.{Report, handed, dropped, newline, most, too_long, overrun}
use Rattle.claims_lines.specs.Happened.{Damage, Happening, frame_lost, word_came, status_read, word_delivered, was_reset}

-- A word whose low 7 bits are 0A ends a line.
abbrev pub ends : ℕ → Bool
ends w = eqb (w % 128) newline

-- A line begins at the start, after a reset, and after a word that ends one.
abbrev pub closes : Happening → Bool
closes (frame_lost raises) = false
closes (word_came w d) = ends w
closes status_read = false
closes (word_delivered w) = false
closes was_reset = true

abbrev pub begins_after : List Happening → Bool
begins_after [] = true
begins_after (e ∷ []) = closes e
begins_after (e ∷ (f ∷ h)) = begins_after (f ∷ h)

-- No line begins or ends within it.
abbrev pub inside : List Happening → Bool
inside [] = true
inside (e ∷ h) = not (closes e) && inside h

-- The low 7 bits of the words that came.
abbrev pub letters_of : List Happening → List ℕ
letters_of [] = []
letters_of (frame_lost raises ∷ h) = letters_of h
letters_of (word_came w d ∷ h) = w % 128 ∷ letters_of h
letters_of (status_read ∷ h) = letters_of h
letters_of (word_delivered w ∷ h) = letters_of h
letters_of (was_reset ∷ h) = letters_of h

-- No frame is lost, and no word came with FE, PF or NF.
abbrev pub sound : Damage → Bool
sound d = not d.fe && not d.pf && not d.nf

abbrev pub clean : List Happening → Bool
clean [] = true
clean (frame_lost raises ∷ h) = false
clean (word_came w d ∷ h) = sound d && clean h
clean (status_read ∷ h) = clean h
clean (word_delivered w ∷ h) = clean h
clean (was_reset ∷ h) = clean h

-- The first cause in time, after so many characters, or 0: FE, PF, NF and the 129th character in that order on one word, and a lost frame.
abbrev pub or_else : ℕ → ℕ → ℕ
or_else why next = cond (eqb why 0) next why

abbrev pub damaged : Damage → ℕ
damaged d = cond d.fe 1 (cond d.pf 2 (cond d.nf 3 0))

abbrev pub cause_from : ℕ → List Happening → ℕ
cause_from k [] = 0
cause_from k (frame_lost raises ∷ h) = overrun
cause_from k (word_came w d ∷ h) = or_else (damaged d) (or_else (cond (ltb k most) 0 too_long) (cause_from (suc k) h))
cause_from k (status_read ∷ h) = cause_from k h
cause_from k (word_delivered w ∷ h) = cause_from k h
cause_from k (was_reset ∷ h) = cause_from k h

-- With the word that ends the line.
abbrev pub cause_of : List Happening → Damage → ℕ
cause_of body d = or_else (cause_from 0 body) (damaged d)

-- What is reported of it.
abbrev pub report_of : ℕ → List Happening → Damage → Report
report_of number body d =
    cond (eqb (cause_of body d) 0) (handed number (letters_of body)) (dropped number (cause_of body d))

-- The lines that ended: their 0A was delivered. Numbers go as far as 2^64 - 1.
abbrev pub ended_in : List Happening → ℕ
ended_in [] = 0
ended_in (frame_lost raises ∷ h) = ended_in h
ended_in (word_came w d ∷ h) = ended_in h
ended_in (status_read ∷ h) = ended_in h
ended_in (word_delivered w ∷ h) = cond (ends w) (suc (ended_in h)) (ended_in h)
ended_in (was_reset ∷ h) = ended_in h

abbrev pub numbered : ℕ → ℕ
numbered k = min k (2 ^ 64 - 1)

-- What happened splits: before the line; its body; the word that ends it, with the flags that it came with; after it.
pub record Line (h : List Happening) : Type 0 where
  pub before : List Happening
  pub body : List Happening
  pub last : ℕ
  pub damage : Damage
  pub after : List Happening
  pub split : h ≡ before ++ (body ++ (word_came last damage ∷ after))
  pub begins : begins_after before ≡ true
  pub inner : inside body ≡ true
  pub end : ends last ≡ true

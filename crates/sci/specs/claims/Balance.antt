-- Document 02, L14, of the serial half: each frame taken is delivered, waits in SCDR or is lost, counted from the history by demand 3's marks.
use Rattle.std.specs.Prelude.{Bool, true, false, ◌&&◌, ◌||◌, List, [], ◌∷◌, ◌++◌, ◌≡◌, ℕ, suc, ◌+◌, ◌≤◌, min, ltb}
use Rattle.steps.specs.Bits.{digit}
use Rattle.sci.specs.model.Flags.{OR, RDRF}
use Rattle.sci.specs.model.Status.{has}
use Rattle.sci.specs.model.Receiver.{outcome}
use Rattle.sci.specs.claims.ReceiverClauses.{rises}
use Rattle.sci.specs.model.Transmitter.{sent}
use Rattle.sci.specs.model.Account.{most, counting}
use Rattle.sci.specs.model.Serial.{reset_sci}
use Rattle.sci.specs.claims.History.{Step, step, run}
use Rattle.sci.specs.claims.Overrun.{Mark, frame_lost, word_came, status_read, word_delivered, was_reset, step_marks, log, has_reset, one_run, open_run}
use Rattle.sci.specs.declared.receiver.Outcome.{Outcome}
use Rattle.sci.specs.declared.account.Account.{Account}
use Rattle.sci.specs.declared.serial.Sci.{Sci}

-- Frames taken: those that are lost and those whose word enters SCDR.
abbrev pub taken_in : List Mark → ℕ
taken_in [] = 0
taken_in (frame_lost raises ∷ h) = suc (taken_in h)
taken_in (word_came w ∷ h) = suc (taken_in h)
taken_in (status_read ∷ h) = taken_in h
taken_in (word_delivered w ∷ h) = taken_in h
taken_in (was_reset ∷ h) = taken_in h

abbrev pub lost_in : List Mark → ℕ
lost_in [] = 0
lost_in (frame_lost raises ∷ h) = suc (lost_in h)
lost_in (word_came w ∷ h) = lost_in h
lost_in (status_read ∷ h) = lost_in h
lost_in (word_delivered w ∷ h) = lost_in h
lost_in (was_reset ∷ h) = lost_in h

abbrev pub delivered_in : List Mark → ℕ
delivered_in [] = 0
delivered_in (frame_lost raises ∷ h) = delivered_in h
delivered_in (word_came w ∷ h) = delivered_in h
delivered_in (status_read ∷ h) = delivered_in h
delivered_in (word_delivered w ∷ h) = suc (delivered_in h)
delivered_in (was_reset ∷ h) = delivered_in h

-- Rises of OR.
abbrev pub rises_in : List Mark → ℕ
rises_in [] = 0
rises_in (frame_lost raises ∷ h) = digit raises + rises_in h
rises_in (word_came w ∷ h) = rises_in h
rises_in (status_read ∷ h) = rises_in h
rises_in (word_delivered w ∷ h) = rises_in h
rises_in (was_reset ∷ h) = rises_in h

-- The word that waits in SCDR, if RDRF is set.
abbrev pub waiting : Sci → ℕ
waiting s = digit (has s.status RDRF)

-- Of the marks of a history since a reset, and the serial half that it leaves.
pub record Balanced (h : List Mark) (s : Sci) : Type 0 where
  pub balance : taken_in h ≡ delivered_in h + waiting s + lost_in h
  -- The counts are those of the history; at 2^32 - 1 a count stays.
  pub taken : s.account.taken ≡ min most (taken_in h)
  pub lost : s.account.lost ≡ min most (lost_in h)
  -- So the counts themselves balance, while they don't pass it.
  pub counts : taken_in h ≤ most → s.account.taken ≡ delivered_in h + waiting s + s.account.lost

-- Each run of losses (the paper's words: no reset and no frame entering SCDR between), from its first frame on: OR rises with that one,
-- and with no other.
abbrev pub OneRise : List Mark → Type 0
OneRise h =
    (before run after : List Mark) (raises : Bool) → h ≡ before ++ (frame_lost raises ∷ (run ++ after)) →
    open_run false before ≡ false → one_run run ≡ true → (raises ≡ true) × (rises_in run ≡ 0)

-- What a sample that is due makes happen, the transmitter before the receiver.
abbrev pub happens : Sci → Bool → Outcome
happens s x = outcome s.receiver (sent s.transmitter s.status s.sccr1).status s.sccr1 x

pub record Balance : Type 0 where
  pub balanced : (es : List Step) → has_reset (log es reset_sci) ≡ false → Balanced (log es reset_sci) (run es reset_sci)
  pub one_rise : (es : List Step) → OneRise (log es reset_sci)
  -- A frame is lost if it is taken while RDRF or OR is set; the rises that are marked are OR's.
  pub lost : (s : Sci) (x : Bool) →
      (happens s x).lost ≡ (happens s x).taken && (has s.status RDRF || has s.status OR)
  pub rise : (e : Step) (s : Sci) →
      rises (has s.status OR) (has (step e s).status OR) ≡ ltb 0 (rises_in (step_marks e s))
  -- A count at the largest number.
  pub stays : (o : Outcome) → ◌≡◌ {A = Account} (counting (record { taken = most; lost = most }) o) (record { taken = most; lost = most })

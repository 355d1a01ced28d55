-- What it is that words are served over what happened, and that it goes on from one part to the next. Assumes nothing.
use mathlib.Core.Path.{◌≡◌, refl, ap, sym, ◌∙◌}
use mathlib.Core.Bool.{Bool, false, cond}
use mathlib.Core.List.{List, [], ◌∷◌, ◌++◌, append_assoc}
use Prim.Native.Nat.{ℕ, ◌+◌}
use native.Mathlib.Omega.{arith}
use Rattle.sci.specs.claims.Overrun.{Mark}
use Rattle.sci.specs.claims.Overrun as marks
use Rattle.claims_polling.specs.Rule.{lost_in}
use Rattle.claims_polling.proofs.Joined.{lost_joined}
use Rattle.claims_lines.specs.Happened.{Damage, Happening, frame_lost, word_came, status_read, word_delivered, was_reset, marks_of}
use Rattle.claims_lines.specs.Segment.{damaged}
use Rattle.claims_lines.proofs.Marked.{marks_joined}
use Rattle.claims_lines.proofs.Slots.{Slot, empty, holding}
use Rattle.claims_through.specs.Through.{words_came}
use Rattle.claims_text.specs.Lines.{delivered, Clean}

-- SCDR holds a word or none.
pub data Sound : Slot → Type 0 where
  clear : (u : ℕ) → Sound (empty u)
  waits : (w : ℕ) (d : Damage) (over : Bool) → Sound (holding w d over)

-- The word that waits.
abbrev pub pending : Slot → List ℕ
pending v = cond v.rdrf (v.word ∷ []) []

abbrev pub came_in : List Happening → List ℕ
came_in h = words_came (marks_of h)

abbrev pub lost : List Happening → ℕ
lost h = lost_in (marks_of h)

lost_parts : (h k : List Happening) → lost (h ++ k) ≡ lost h + lost k
lost_parts h k = ap lost_in (marks_joined h k) ∙ lost_joined (marks_of h) (marks_of k)

-- From a slot, over what happened, to a slot: clean, and no word is left out.
pub record Serves (v : Slot) (h : List Happening) (v' : Slot) : Type 0 where
  pub clean : Clean h
  pub words : pending v ++ came_in h ≡ delivered h ++ pending v'
  pub sound : Sound v'

pub serves_came : (u w : ℕ) (d : Damage) (h : List Happening) (v' : Slot) → damaged d ≡ 0 → Serves (holding w d false) h v' →
    Serves (empty u) (word_came w d ∷ h) v'
unfolding Clean words_came delivered
serves_came u w d h v' e r = record { clean = (e, r.clean); words = r.words; sound = r.sound }

pub serves_status : (v : Slot) (h : List Happening) (v' : Slot) → Serves v h v' → Serves v (status_read ∷ h) v'
unfolding Clean words_came delivered
serves_status v h v' r = record { clean = r.clean; words = r.words; sound = r.sound }

pub serves_delivered : (w : ℕ) (d : Damage) (over : Bool) (h : List Happening) (v' : Slot) → Serves (empty w) h v' →
    Serves (holding w d over) (word_delivered w ∷ h) v'
unfolding Clean words_came delivered
serves_delivered w d over h v' r =
    record { clean = r.clean; words = ap (λ (ws : List ℕ). w ∷ ws) r.words; sound = r.sound }

pub serves_none : (v : Slot) → Sound v → Serves v [] v
unfolding Clean words_came delivered
serves_none v (clear u) = record { clean = tt; words = refl; sound = clear u }
serves_none v (waits w d over) = record { clean = tt; words = refl; sound = waits w d over }

-- ---- one after the other

came_joined : (h k : List Mark) → words_came (h ++ k) ≡ words_came h ++ words_came k
unfolding words_came
came_joined [] k = refl
came_joined (marks.frame_lost raises ∷ h) k = came_joined h k
came_joined (marks.word_came w ∷ h) k = ap (λ (ws : List ℕ). w ∷ ws) (came_joined h k)
came_joined (marks.status_read ∷ h) k = came_joined h k
came_joined (marks.word_delivered w ∷ h) k = came_joined h k
came_joined (marks.was_reset ∷ h) k = came_joined h k

pub came_parts : (h k : List Happening) → came_in (h ++ k) ≡ came_in h ++ came_in k
came_parts h k = ap words_came (marks_joined h k) ∙ came_joined (marks_of h) (marks_of k)

delivered_parts : (h k : List Happening) → delivered (h ++ k) ≡ delivered h ++ delivered k
unfolding delivered
delivered_parts [] k = refl
delivered_parts (frame_lost raises ∷ h) k = delivered_parts h k
delivered_parts (word_came w d ∷ h) k = delivered_parts h k
delivered_parts (status_read ∷ h) k = delivered_parts h k
delivered_parts (word_delivered w ∷ h) k = ap (λ (ws : List ℕ). w ∷ ws) (delivered_parts h k)
delivered_parts (was_reset ∷ h) k = delivered_parts h k

clean_parts : (h k : List Happening) → Clean h → Clean k → Clean (h ++ k)
unfolding Clean
clean_parts [] k c d = d
clean_parts (frame_lost raises ∷ h) k c d = absurd c
clean_parts (word_came w e ∷ h) k c d = (c.0, clean_parts h k c.1 d)
clean_parts (status_read ∷ h) k c d = clean_parts h k c d
clean_parts (word_delivered w ∷ h) k c d = clean_parts h k c d
clean_parts (was_reset ∷ h) k c d = absurd c

pub serves_joined : (v u z : Slot) (h k : List Happening) → Serves v h u → Serves u k z → Serves v (h ++ k) z
serves_joined v u z h k a b =
    record {
      clean = clean_parts h k a.clean b.clean;
      words =
          ap (λ (ws : List ℕ). pending v ++ ws) (came_parts h k) ∙ sym (append_assoc (pending v) (came_in h) (came_in k))
          ∙ ap (λ (ws : List ℕ). ws ++ came_in k) a.words ∙ append_assoc (delivered h) (pending u) (came_in k)
          ∙ ap (λ (ws : List ℕ). delivered h ++ ws) b.words ∙ sym (append_assoc (delivered h) (delivered k) (pending z))
          ∙ ap (λ (ws : List ℕ). ws ++ pending z) (sym (delivered_parts h k));
      sound = b.sound;
    }

pub first_none : (h k : List Happening) → lost (h ++ k) ≡ 0 → lost h ≡ 0
first_none h k e = omega (arith, e, lost_parts h k)

pub last_none : (h k : List Happening) → lost (h ++ k) ≡ 0 → lost k ≡ 0
last_none h k e = omega (arith, e, lost_parts h k)

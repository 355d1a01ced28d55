-- The word that waits, by a list of marks: it is the last that came in. Assumes nothing.
use mathlib.Core.Path.{◌≡◌, refl, ap, ◌∙◌}
use mathlib.Core.Bool.{true, false, false≢true}
use mathlib.Core.List.{List, [], ◌∷◌, ◌++◌}
use mathlib.Core.Option.{Option, none, some}
use Prim.Native.Nat.{ℕ}
use Rattle.sci.specs.claims.Overrun.{Mark, frame_lost, word_came, status_read, word_delivered, was_reset}
use Rattle.claims_histories.specs.Demand3.{untouched, CameLast}

-- The word that came last and wasn't delivered yet: `o` at the beginning.
abbrev pub waiting : Option ℕ → List Mark → Option ℕ
waiting o [] = o
waiting o (frame_lost raises ∷ h) = waiting o h
waiting o (word_came w ∷ h) = waiting (some w) h
waiting o (status_read ∷ h) = waiting o h
waiting o (word_delivered w ∷ h) = waiting none h
waiting o (was_reset ∷ h) = waiting none h

-- Each word delivered is the one that waits.
abbrev pub Good : Option ℕ → List Mark → Type 0
Good o [] = Unit {0}
Good o (frame_lost raises ∷ h) = Good o h
Good o (word_came w ∷ h) = Good (some w) h
Good o (status_read ∷ h) = Good o h
Good o (word_delivered w ∷ h) = (o ≡ some w) × Good none h
Good o (was_reset ∷ h) = Good none h

pub good_append : (o : Option ℕ) (h k : List Mark) → Good o h → Good (waiting o h) k → Good o (h ++ k)
good_append o [] k g r = r
good_append o (frame_lost raises ∷ h) k g r = good_append o h k g r
good_append o (word_came w ∷ h) k g r = good_append (some w) h k g r
good_append o (status_read ∷ h) k g r = good_append o h k g r
good_append o (word_delivered w ∷ h) k g r = (g.0, good_append none h k g.1 r)
good_append o (was_reset ∷ h) k g r = good_append none h k g r

pub good_at : (o : Option ℕ) (h k : List Mark) (w : ℕ) → Good o (h ++ (word_delivered w ∷ k)) → waiting o h ≡ some w
good_at o [] k w g = g.0
good_at o (frame_lost raises ∷ h) k w g = good_at o h k w g
good_at o (word_came v ∷ h) k w g = good_at (some v) h k w g
good_at o (status_read ∷ h) k w g = good_at o h k w g
good_at o (word_delivered v ∷ h) k w g = good_at none h k w g.1
good_at o (was_reset ∷ h) k w g = good_at none h k w g

-- The word that waits came within the list, or stood there at its beginning and nothing touched it.
pub data From (o : Option ℕ) (h : List Mark) (w : ℕ) : Type 0 where
  within : CameLast h w → From o h w
  stood : o ≡ some w → untouched h ≡ true → From o h w

behind : (k : Mark) (h : List Mark) (w : ℕ) → CameLast h w → CameLast (k ∷ h) w
behind k h w c = record { before = k ∷ c.before; since = c.since; came = ap (λ (l : List Mark). k ∷ l) c.came; stays = c.stays }

passes : (o : Option ℕ) (k : Mark) (h : List Mark) (w : ℕ) → untouched (k ∷ h) ≡ untouched h → From o h w → From o (k ∷ h) w
passes o k h w e (within c) = within (behind k h w c)
passes o k h w e (stood i u) = stood i (e ∙ u)

enters : (o : Option ℕ) (v : ℕ) (h : List Mark) (w : ℕ) → From (some v) h w → From o (word_came v ∷ h) w
enters o v h w (within c) = within (behind (word_came v) h w c)
enters o v h w (stood i u) =
    let same : v ≡ w = cc in
    within (record { before = []; since = h; came = ap (λ (x : ℕ). word_came x ∷ h) same; stays = u })

nothing : (w : ℕ) → ◌≡◌ {A = Option ℕ} none (some w) → ⊥
nothing w h = let clash : false ≡ true = cc in false≢true clash

empties : (o : Option ℕ) (k : Mark) (h : List Mark) (w : ℕ) → From none h w → From o (k ∷ h) w
empties o k h w (within c) = within (behind k h w c)
empties o k h w (stood i u) = absurd (nothing w i)

pub from : (o : Option ℕ) (h : List Mark) (w : ℕ) → waiting o h ≡ some w → From o h w
from o [] w e = stood e refl
from o (frame_lost raises ∷ h) w e = passes o (frame_lost raises) h w refl (from o h w e)
from o (word_came v ∷ h) w e = enters o v h w (from (some v) h w e)
from o (status_read ∷ h) w e = passes o status_read h w refl (from o h w e)
from o (word_delivered v ∷ h) w e = empties o (word_delivered v) h w (from none h w e)
from o (was_reset ∷ h) w e = empties o was_reset h w (from none h w e)

pub came_last : (h : List Mark) (w : ℕ) → From none h w → CameLast h w
came_last h w (within c) = c
came_last h w (stood i u) = absurd (nothing w i)

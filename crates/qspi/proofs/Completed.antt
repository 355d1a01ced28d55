-- What the end of an entry keeps. Assumes nothing.
use mathlib.Core.Path.{◌≡◌, refl}
use mathlib.Core.Bool.{Bool, true, false, not, ◌||◌, false≢true, true≢false}
use Rattle.qspi.specs.model.Queue.{is_last, wraps, stored, wrapped, finished, advanced, followed, completed}
use Rattle.qspi.specs.declared.Qspi.{Qspi}

followed_keeps : {A : Type 0} (f : Qspi → A) (last wrap : Bool) (r : Qspi) →
    f (wrapped r) ≡ f r → f (finished r) ≡ f r → f (advanced r) ≡ f r → f (followed last wrap r) ≡ f r
followed_keeps f true true r a b c = a
followed_keeps f true false r a b c = b
followed_keeps f false wrap r a b c = c

-- A field is as the store left it, if none of the three ways on changes it.
pub completed_keeps : {A : Type 0} (f : Qspi → A) (r : Qspi) → f (wrapped (stored r)) ≡ f (stored r) →
    f (finished (stored r)) ≡ f (stored r) → f (advanced (stored r)) ≡ f (stored r) →
    f (completed r) ≡ f (stored r)
unfolding completed
completed_keeps f r a b c =
    followed_keeps f (is_last r) (wraps r) (stored r) a b c

followed_on : {A : Type 0} (f : Qspi → A) (v : A) (last wrap : Bool) (r : Qspi) → not last || wrap ≡ true →
    f (wrapped r) ≡ v → f (advanced r) ≡ v → f (followed last wrap r) ≡ v
followed_on f v true true r h a c = a
followed_on f v true false r h a c = absurd (false≢true h)
followed_on f v false wrap r h a c = c

-- Of the ways on, only the two that keep SPE set.
pub completed_on : {A : Type 0} (f : Qspi → A) (v : A) (r : Qspi) →
    not (is_last r) || wraps r ≡ true → f (wrapped (stored r)) ≡ v →
    f (advanced (stored r)) ≡ v → f (completed r) ≡ v
unfolding completed
completed_on f v r h a c =
    followed_on f v (is_last r) (wraps r) (stored r) h a c

pub completed_next : (r : Qspi) → is_last r ≡ false →
    completed r ≡ advanced (stored r)
unfolding completed
completed_next r h = rw h

pub completed_wraps : (r : Qspi) → is_last r ≡ true → wraps r ≡ true →
    completed r ≡ wrapped (stored r)
unfolding completed
completed_wraps r h k = rw (h, k)

pub completed_ends : (r : Qspi) → not (is_last r) || wraps r ≡ false →
    completed r ≡ finished (stored r)
unfolding completed
completed_ends r h = ends (is_last r) (wraps r) (stored r) h
  where
    ends : (last wrap : Bool) (r : Qspi) → not last || wrap ≡ false → followed last wrap r ≡ finished r
    ends true true r h = absurd (true≢false h)
    ends true false r h = refl
    ends false wrap r h = absurd (true≢false h)

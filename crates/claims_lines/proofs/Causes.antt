-- The first cause, the letters and the ended lines of what happened, piece by piece. Assumes nothing.
use mathlib.Core.Path.{◌≡◌, refl, ap, sym, ◌∙◌}
use mathlib.Core.Bool.{Bool, true, false, cond, not, ◌&&◌, false≢true}
use mathlib.Core.List.{List, [], ◌∷◌, ◌++◌}
use Prim.Native.Nat.{ℕ, suc, ◌+◌, ◌%◌, ◌≤◌, ◌<◌}
use native.Mathlib.Omega.{arith}
use lib.Dec.{eqb, ltb}
use lib.ListN.{length}
use borrow.Author.Tests.{ltb-true, lt-ltb}
use Rattle.sci.proofs.Membership.{and_left, and_right}
use Rattle.tool_lines.specs.Gather.{most, too_long}
use Rattle.claims_lines.specs.Happened.{Damage, Happening, frame_lost, word_came, status_read, word_delivered, was_reset}
use Rattle.claims_lines.specs.Segment.{ends, closes, begins_after, inside, letters_of, sound, clean, or_else, damaged, cause_from, ended_in}
use Rattle.claims_lines.proofs.Gathering.{or_left, or_right}

pub or_joined : (a b c : ℕ) → or_else (or_else a b) c ≡ or_else a (or_else b c)
or_joined a b c = go (eqb a 0) refl
  where
    go : (t : Bool) → eqb a 0 ≡ t → or_else (cond t b a) c ≡ cond t (or_else b c) a
    go true e = refl
    go false e = rw e

-- Behind one another.
pub letters_joined : (h k : List Happening) → letters_of (h ++ k) ≡ letters_of h ++ letters_of k
letters_joined [] k = refl
letters_joined (frame_lost raises ∷ h) k = letters_joined h k
letters_joined (word_came w d ∷ h) k = ap (λ (l : List ℕ). w % 128 ∷ l) (letters_joined h k)
letters_joined (status_read ∷ h) k = letters_joined h k
letters_joined (word_delivered w ∷ h) k = letters_joined h k
letters_joined (was_reset ∷ h) k = letters_joined h k

next_count : (i : ℕ) (l : List ℕ) → suc i + length l ≡ i + suc (length l)
next_count i l = omega arith

pub cause_joined : (i : ℕ) (h k : List Happening) →
    cause_from i (h ++ k) ≡ or_else (cause_from i h) (cause_from (i + length (letters_of h)) k)
cause_joined i [] k = ap (λ (j : ℕ). cause_from j k) (omega arith)
cause_joined i (frame_lost raises ∷ h) k = refl
cause_joined i (word_came w d ∷ h) k =
    let long : ℕ = cond (ltb i most) 0 too_long in
    let c : ℕ = cause_from (suc i) h in
    let j : ℕ = i + suc (length (letters_of h)) in
    ap (λ (z : ℕ). or_else (damaged d) (or_else long z)) (cause_joined (suc i) h k ∙ rw (next_count i (letters_of h)))
    ∙ ap (or_else (damaged d)) (sym (or_joined long c (cause_from j k)))
    ∙ sym (or_joined (damaged d) (or_else long c) (cause_from j k))
cause_joined i (status_read ∷ h) k = cause_joined i h k
cause_joined i (word_delivered w ∷ h) k = cause_joined i h k
cause_joined i (was_reset ∷ h) k = cause_joined i h k

inside_on : (b : Bool) (p q : Bool) → not b && p ≡ true → (p ≡ true → q ≡ true) → not b && q ≡ true
inside_on true p q e f = absurd (false≢true e)
inside_on false p q e f = f e

pub inside_joined : (h k : List Happening) → inside h ≡ true → inside k ≡ true → inside (h ++ k) ≡ true
inside_joined [] k e f = f
inside_joined (c ∷ h) k e f = inside_on (closes c) (inside h) (inside (h ++ k)) e (λ g. inside_joined h k g f)

pub begins_last : (h : List Happening) (e : Happening) → begins_after (h ++ (e ∷ [])) ≡ closes e
begins_last [] e = refl
begins_last (d ∷ []) e = refl
begins_last (d ∷ (c ∷ h)) e = begins_last (c ∷ h) e

ended_one : (b : Bool) (all first last : ℕ) → all ≡ first + last → cond b (suc all) all ≡ cond b (suc first) first + last
ended_one true all first last e = omega arith
ended_one false all first last e = e

pub ended_joined : (h k : List Happening) → ended_in (h ++ k) ≡ ended_in h + ended_in k
ended_joined [] k = omega arith
ended_joined (frame_lost raises ∷ h) k = ended_joined h k
ended_joined (word_came w d ∷ h) k = ended_joined h k
ended_joined (status_read ∷ h) k = ended_joined h k
ended_joined (word_delivered w ∷ h) k = ended_one (ends w) (ended_in (h ++ k)) (ended_in h) (ended_in k) (ended_joined h k)
ended_joined (was_reset ∷ h) k = ended_joined h k

-- No cause: nothing lost or damaged, and no more than 128 letters. And the other way round.
sound_none : (a b c : Bool) → ◌≡◌ {A = ℕ} (cond a 1 (cond b 2 (cond c 3 0))) 0 → not a && not b && not c ≡ true
sound_none true b c e = absurd (omega (arith, e))
sound_none false true c e = absurd (omega (arith, e))
sound_none false false true e = absurd (omega (arith, e))
sound_none false false false e = refl

pub undamaged : (d : Damage) → damaged d ≡ 0 → sound d ≡ true
undamaged d e = sound_none d.fe d.pf d.nf e

none_sound : (a b c : Bool) → not a && not b && not c ≡ true → ◌≡◌ {A = ℕ} (cond a 1 (cond b 2 (cond c 3 0))) 0
none_sound true b c e = absurd (false≢true e)
none_sound false true c e = absurd (false≢true e)
none_sound false false true e = absurd (false≢true e)
none_sound false false false e = refl

pub sound_damage : (d : Damage) → sound d ≡ true → damaged d ≡ 0
sound_damage d e = none_sound d.fe d.pf d.nf e

not_long : (i : ℕ) → ◌≡◌ {A = ℕ} (cond (ltb i most) 0 too_long) 0 → i < most
not_long i e = ltb-true i most (go (ltb i most) e)
  where
    go : (b : Bool) → ◌≡◌ {A = ℕ} (cond b 0 too_long) 0 → b ≡ true
    go true e = refl
    go false e = absurd (omega (arith, e))

pub record Whole (i : ℕ) (h : List Happening) : Type 0 where
  pub whole : clean h ≡ true
  pub short : i + length (letters_of h) ≤ most

pub no_cause : (i : ℕ) (h : List Happening) → i ≤ most → cause_from i h ≡ 0 → Whole i h
no_cause i [] l e = record { whole = refl; short = omega arith }
no_cause i (frame_lost raises ∷ h) l e = absurd (omega (arith, e))
no_cause i (word_came w d ∷ h) l e =
    let long : ℕ = cond (ltb i most) 0 too_long in
    let a : damaged d ≡ 0 = or_left (damaged d) (or_else long (cause_from (suc i) h)) e in
    let b : or_else long (cause_from (suc i) h) ≡ 0 = or_right (damaged d) (or_else long (cause_from (suc i) h)) e in
    let f : i < most = not_long i (or_left long (cause_from (suc i) h) b) in
    let r : Whole (suc i) h = no_cause (suc i) h (omega arith) (or_right long (cause_from (suc i) h) b) in
    record { whole = rw (undamaged d a) r.whole; short = omega (arith, r.short) }
no_cause i (status_read ∷ h) l e = let r : Whole i h = no_cause i h l e in record { whole = r.whole; short = r.short }
no_cause i (word_delivered w ∷ h) l e = let r : Whole i h = no_cause i h l e in record { whole = r.whole; short = r.short }
no_cause i (was_reset ∷ h) l e = let r : Whole i h = no_cause i h l e in record { whole = r.whole; short = r.short }

pub whole_none : (i : ℕ) (h : List Happening) → clean h ≡ true → i + length (letters_of h) ≤ most → cause_from i h ≡ 0
whole_none i [] e l = refl
whole_none i (frame_lost raises ∷ h) e l = absurd (false≢true e)
whole_none i (word_came w d ∷ h) e l =
    rw (
      sound_damage d (and_left (sound d) (clean h) e),
      lt-ltb i most (omega arith),
      whole_none (suc i) h (and_right (sound d) (clean h) e) (omega arith),
    )
whole_none i (status_read ∷ h) e l = whole_none i h e l
whole_none i (word_delivered w ∷ h) e l = whole_none i h e l
whole_none i (was_reset ∷ h) e l = whole_none i h e l

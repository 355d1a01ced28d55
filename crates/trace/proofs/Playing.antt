-- The definition of playing, one record on: a record lies within the trace, the count of records never runs out, and a record stays
-- the same where more follows it. Assumes nothing.
use mathlib.Core.Path.{◌≡◌, refl, sym, ap, subst, ◌∙◌}
use mathlib.Core.Bool.{Bool, true, false, cond, true≢false}
use mathlib.Core.List.{List, ◌++◌, append_assoc}
use Prim.Native.Nat.{ℕ, zero, suc, ◌-◌, ◌<◌, ◌≤◌}
use native.Mathlib.Omega.{arith}
use lib.Dec.{eqb, ltb}
use lib.ListN.{length, take, drop, length-append, length-drop, get_or-append}
use lib.Seq.{get_or-take, length-take-le}
use borrow.Author.Tests.{le-ltb, ltb-false, eq-eqb, ne_eqb, eqb-true, eqb-false}
use Rattle.qsm.specs.declared.state.Module.{Module}
use Rattle.qsm.specs.declared.event.Event.{Event}
use Rattle.qsm.specs.model.Event.{step}
use Rattle.qsm.specs.claims.Count.{limited}
use Rattle.trace.specs.Trace.{byte_at, whole, reset_kind, hold_kind, read_kind, write_kind, long_hold_kind, by_kind, every_kind, parsed_by, parsed, Reader}
use Rattle.trace.specs.Play.{Outcome, stopped, answered_by, followed, turn, play_for, play_by}
use Rattle.trace.specs.declared.Parsed.{Parsed}
use Rattle.trace.specs.declared.Parsed.TheVariants.{Record, Unknown, Cut}

-- ---- a record has at least one byte, and lies within the trace

abbrev Sized : List ℕ → Parsed → Type 0
Sized t (Record e n) = (0 < n) × (n ≤ length t)
Sized t Unknown = Unit {0}
Sized t Cut = Unit {0}

sized_if : (t : List ℕ) (b : Bool) (p q : Parsed) → (b ≡ true → Sized t p) → (b ≡ false → Sized t q) → Sized t (cond b p q)
sized_if t true p q f g = f refl
sized_if t false p q f g = g refl

sized_whole : (t : List ℕ) (n : ℕ) (e : Event) → 0 < n → Sized t (whole t n e)
sized_whole t n e pos = sized_if t (ltb (length t) n) Cut (Record e n) (λ _. tt) (λ h. (pos, ltb-false _ _ h))

positive : (t : List ℕ) → eqb (length t) 0 ≡ false → 0 < length t
positive t h = let no : length t ≡ 0 → ⊥ = eqb-false (length t) 0 h in omega (arith, no)

sized : (takes : ℕ → Bool) (t : List ℕ) → Sized t (parsed_by takes t)
sized takes t =
    sized_if t (eqb (length t) 0) _ _ (λ _. tt) (λ some.
    sized_if t (takes (byte_at t 0)) _ Unknown (λ _.
    sized_if t (eqb (byte_at t 0) reset_kind) _ _ (λ _. (omega (arith, positive t some), omega (arith, positive t some))) (λ _.
    sized_if t (eqb (byte_at t 0) hold_kind) _ _ (λ _. sized_whole t 5 _ (omega arith)) (λ _.
    sized_if t (eqb (byte_at t 0) read_kind) _ _ (λ _. sized_whole t 4 _ (omega arith)) (λ _.
    sized_if t (eqb (byte_at t 0) write_kind) _ _ (λ _. sized_whole t 8 _ (omega arith)) (λ _.
    sized_if t (eqb (byte_at t 0) long_hold_kind) _ _ (λ _. sized_whole t 7 _ (omega arith)) (λ _. tt)))))) (λ _. tt))

pub record_within : (t : List ℕ) {e : Event} {n : ℕ} → parsed t ≡ Record e n → (0 < n) × (n ≤ length t)
record_within t is = subst (Sized t) is (sized every_kind t)

-- What a reader of some kinds takes for a record, one of every kind takes for the same.
pub taken : (takes : ℕ → Bool) (t : List ℕ) {e : Event} {n : ℕ} → parsed_by takes t ≡ Record e n → parsed t ≡ Record e n
taken takes t {e} {n} = go (eqb (length t) 0) (takes (byte_at t 0)) (by_kind (byte_at t 0) t)
  where
    go : (over is : Bool) (p : Parsed) → cond over Cut (cond is p Unknown) ≡ Record e n → cond over Cut p ≡ Record e n
    go true is p h = h
    go false true p h = h
    go false false p h = cc

-- ---- the count of records never runs out

turn_same : (R : Reader) (f g : Module → List ℕ → ℕ → Outcome) (m : Module) (t : List ℕ) (room : ℕ) (p : Parsed) → Sized t p
    → ((m' : Module) (n room' : ℕ) → 0 < n → f m' (drop n t) room' ≡ g m' (drop n t) room') → turn R f m t room p ≡ turn R g m t room p
turn_same R f g m t room (Record e n) s h =
    ap (λ (o : Outcome). cond (ltb room R.size) (stopped m 7) (cond (limited m e) (stopped m 10) (followed (answered_by R (step m e) (take n t)) o)))
    (h (step m e).state n (room - R.size) s.0)
turn_same R f g m t room Unknown s h = refl
turn_same R f g m t room Cut s h = refl

pub otherwise : {A : Type 0} (b : Bool) (x : A) {y : A} → b ≡ false → cond b x y ≡ y
otherwise true x h = absurd (true≢false h)
otherwise false x h = refl

module _ (R : Reader) where
  enough : (k j : ℕ) (m : Module) (t : List ℕ) (room : ℕ) → length t ≤ k → length t ≤ j → play_for R k m t room ≡ play_for R j m t room
  unfolding play_for
  enough zero zero m t room h i = refl
  enough zero (suc j) m t room h i = simp (eq-eqb (length t) 0 (omega arith))
  enough (suc k) zero m t room h i = simp (eq-eqb (length t) 0 (omega arith))
  enough (suc k) (suc j) m t room h i =
      ap (cond (eqb (length t) 0) (stopped m 0))
      (turn_same R (play_for R k) (play_for R j) m t room (parsed_by R.takes t) (sized R.takes t)
      (λ m' n room' pos. enough k j m' (drop n t) room' (simp length-drop (omega arith)) (simp length-drop (omega arith))))

  unrolled : (k : ℕ) (m : Module) (t : List ℕ) (room : ℕ) → 0 < length t → length t ≤ k → play_for R k m t room ≡ turn R (play_by R) m t room (parsed_by R.takes t)
  unfolding play_for
  unrolled zero m t room pos h = absurd (omega arith)
  unrolled (suc k) m t room pos h =
      otherwise (eqb (length t) 0) (stopped m 0) (ne_eqb (length t) 0 (λ z. omega arith))
      ∙ (turn_same R (play_for R k) (play_by R) m t room (parsed_by R.takes t) (sized R.takes t)
      (λ m' n room' less. enough k (length (drop n t)) m' (drop n t) room' (simp length-drop (omega arith)) (omega arith)))

  -- One record on.
  pub unroll : (m : Module) (t : List ℕ) (room : ℕ) → 0 < length t → play_by R m t room ≡ turn R (play_by R) m t room (parsed_by R.takes t)
  unroll m t room pos = unrolled (length t) m t room pos (omega arith)

  pub play_none : (m : Module) (t : List ℕ) (room : ℕ) → length t ≡ 0 → play_by R m t room ≡ stopped m 0
  unfolding play_for
  play_none m t room none = rw none

  -- A record and what follows it, one record on.
  pub one_on : (m : Module) (t : List ℕ) (room : ℕ) (e : Event) (n : ℕ) → parsed_by R.takes t ≡ Record e n → R.size ≤ room → limited m e ≡ false
      → play_by R m t room ≡ followed (answered_by R (step m e) (take n t)) (play_by R (step m e).state (drop n t) (room - R.size))
  one_on m t room e n is fits free =
      let w = record_within t (taken R.takes t is) in
      unroll m t room (omega (arith, w)) ∙ ap (turn R (play_by R) m t room) is ∙ simp (le-ltb room R.size fits, free)

pub followed_assoc : (o p q : Outcome) → followed (followed o p) q ≡ followed o (followed p q)
followed_assoc o p q = simp append_assoc

-- ---- a record is told by its own bytes

-- Two traces that begin with the same n bytes.
abbrev Alike : List ℕ → List ℕ → ℕ → Type 0
Alike s t n = ((i : ℕ) → i < n → byte_at s i ≡ byte_at t i) × (n ≤ length s)

module _ (s t : List ℕ) where
  abbrev Told : Parsed → Parsed → Type 0
  Told (Record e n) q = Alike s t n → q ≡ Record e n
  Told Unknown q = Unit {0}
  Told Cut q = Unit {0}

  told_if : (b : Bool) (p q p' q' : Parsed) → Told p p' → Told q q' → Told (cond b p q) (cond b p' q')
  told_if true p q p' q' f g = f
  told_if false p q p' q' f g = g

  told_unless : (b : Bool) (n : ℕ) (e e' : Event) → (Alike s t n → e' ≡ e) → Told (cond b Cut (Record e n)) (whole s n e')
  told_unless true n e e' f = tt
  told_unless false n e e' f = λ a. simp (le-ltb (length s) n a.1, f a)

  told_kind : (kind : ℕ) → Told (by_kind kind t) (by_kind kind s)
  told_kind kind =
      told_if (eqb kind reset_kind) _ _ _ _ (λ a. refl)
      (told_if (eqb kind hold_kind) _ _ _ _
      (told_unless (ltb (length t) 5) 5 _ _
      (λ a. rw (a.0 1 (omega arith), a.0 2 (omega arith), a.0 3 (omega arith), a.0 4 (omega arith))))
      (told_if (eqb kind read_kind) _ _ _ _
      (told_unless (ltb (length t) 4) 4 _ _
      (λ a. rw (a.0 1 (omega arith), a.0 2 (omega arith), a.0 3 (omega arith))))
      (told_if (eqb kind write_kind) _ _ _ _
      (told_unless (ltb (length t) 8) 8 _ _
      (λ a. rw (a.0 1 (omega arith), a.0 2 (omega arith), a.0 3 (omega arith), a.0 4 (omega arith), a.0 5 (omega arith), a.0 6 (omega arith), a.0 7 (omega arith))))
      (told_if (eqb kind long_hold_kind) _ _ _ _
      (told_unless (ltb (length t) 7) 7 _ _
      (λ a. rw (a.0 1 (omega arith), a.0 2 (omega arith), a.0 3 (omega arith), a.0 4 (omega arith), a.0 5 (omega arith), a.0 6 (omega arith))))
      tt))))

  pub kind_told : {e : Event} {n : ℕ} → parsed t ≡ Record e n → by_kind (byte_at t 0) t ≡ Record e n
  kind_told {e} {n} is =
      let some : 0 < length t = omega (arith, record_within t is) in
      sym (otherwise (eqb (length t) 0) Cut (ne_eqb (length t) 0 (λ z. omega arith))) ∙ is

  pub record_told : {e : Event} {n : ℕ} → parsed t ≡ Record e n → Alike s t n → parsed s ≡ Record e n
  record_told {e} {n} is a =
      let pos : 0 < n = (record_within t is).0 in
      let none : length s ≡ 0 → ⊥ = λ z. omega (arith, a.1) in
      otherwise (eqb (length s) 0) Cut (ne_eqb (length s) 0 none)
      ∙ ap (λ (k : ℕ). by_kind k s) (a.0 0 pos)
      ∙ subst (λ (p : Parsed). Told p (by_kind (byte_at t 0) s)) (kind_told is) (told_kind (byte_at t 0)) a

-- A record stays the same where more follows it, and where nothing does.
pub record_kept : (t u : List ℕ) {e : Event} {n : ℕ} → parsed t ≡ Record e n → parsed (t ++ u) ≡ Record e n
record_kept t u {e} {n} is =
    let le : n ≤ length t = (record_within t is).1 in
    record_told (t ++ u) t is ((λ i h. get_or-append t u 0 i (omega arith)), simp length-append (omega arith))

pub record_alone : (t : List ℕ) {e : Event} {n : ℕ} → parsed t ≡ Record e n → parsed (take n t) ≡ Record e n
record_alone t {e} {n} is =
    let le : n ≤ length t = (record_within t is).1 in
    record_told (take n t) t is ((λ i h. get_or-take n t i 0 h), simp (length-take-le n t le) (omega arith))

-- ---- induction over what is played

-- What holds of a trace that stops at once, and of one record and what follows it, holds of every trace.
module _ (R : Reader) (P : Module → List ℕ → ℕ → Outcome → Type 0)
    (stops : (m : Module) (t : List ℕ) (room why : ℕ) → (why ≡ 0 → length t ≡ 0) → P m t room (stopped m why))
    (goes : (m : Module) (t : List ℕ) (room : ℕ) (e : Event) (n : ℕ) (o : Outcome) → parsed_by R.takes t ≡ Record e n → 0 < n → n ≤ length t → R.size ≤ room
    → limited m e ≡ false → P (step m e).state (drop n t) (room - R.size) o → P m t room (followed (answered_by R (step m e) (take n t)) o)) where
  by_room : (b : Bool) (m : Module) (t : List ℕ) (room : ℕ) (o : Outcome) → b ≡ ltb room R.size → (R.size ≤ room → P m t room o)
      → P m t room (cond b (stopped m 7) o)
  by_room true m t room o is h = stops m t room _ (λ z. absurd (omega arith))
  by_room false m t room o is h = h (ltb-false _ _ (sym is))

  by_limit : (b : Bool) (m : Module) (t : List ℕ) (room : ℕ) (e : Event) (o : Outcome) → b ≡ limited m e → (limited m e ≡ false → P m t room o)
      → P m t room (cond b (stopped m 10) o)
  by_limit true m t room e o is h = stops m t room _ (λ z. absurd (omega arith))
  by_limit false m t room e o is h = h (sym is)

  by_record : (f : Module → List ℕ → ℕ → Outcome) (m : Module) (t : List ℕ) (room : ℕ) (p : Parsed) → parsed_by R.takes t ≡ p
      → ((m' : Module) (n room' : ℕ) → 0 < n → P m' (drop n t) room' (f m' (drop n t) room')) → P m t room (turn R f m t room p)
  by_record f m t room (Record e n) is h =
      let w = record_within t (taken R.takes t is) in
      by_room (ltb room R.size) m t room _ refl (λ fits.
      by_limit (limited m e) m t room e _ refl (λ free.
      goes m t room e n _ is w.0 w.1 fits free (h (step m e).state n (room - R.size) w.0)))
  by_record f m t room Unknown is h = stops m t room _ (λ z. absurd (omega arith))
  by_record f m t room Cut is h = stops m t room _ (λ z. absurd (omega arith))

  by_end : (b : Bool) (m : Module) (t : List ℕ) (room : ℕ) (o : Outcome) → b ≡ eqb (length t) 0 → P m t room o → P m t room (cond b (stopped m 0) o)
  by_end true m t room o is h = stops m t room 0 (λ z. eqb-true _ _ (sym is))
  by_end false m t room o is h = h

  by_count : (k : ℕ) (m : Module) (t : List ℕ) (room : ℕ) → length t ≤ k → P m t room (play_for R k m t room)
  unfolding play_for
  by_count zero m t room le = stops m t room 0 (λ z. omega arith)
  by_count (suc k) m t room le =
      by_end (eqb (length t) 0) m t room _ refl
      (by_record (play_for R k) m t room (parsed_by R.takes t) refl (λ m' n room' pos. by_count k m' (drop n t) room' (simp length-drop (omega arith))))

  pub played : (m : Module) (t : List ℕ) (room : ℕ) → P m t room (play_by R m t room)
  played m t room = by_count (length t) m t room (omega arith)

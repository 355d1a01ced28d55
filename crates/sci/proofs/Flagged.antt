-- What the changes of the status make of one flag k and of its mark.
use mathlib.Core.Path.{◌≡◌, refl, ap, sym, ◌∙◌}
use mathlib.Core.Bool.{Bool, true, false, not, ◌&&◌, ◌||◌, and-true, and-false, or-false}
use Prim.Native.Nat.{ℕ, ◌^◌}
use Rattle.sci.specs.model.Flags.{flag, common}
use Rattle.sci.specs.claims.Members.{member}
use Rattle.sci.specs.model.Status.{has, raise, raise_if, fall, fall_if, mark_seen, fall_seen}
use Rattle.sci.specs.declared.flags.Flags.{Flags}
use Rattle.sci.specs.declared.status.Status.{Status}
use Rattle.sci.proofs.Membership.{member_insert, member_without, member_common, contains_flag}

-- Flag k is set; it is marked as seen.
abbrev pub is_set : ℕ → Status → Bool
is_set k s = member k s.flags

abbrev pub is_marked : ℕ → Status → Bool
is_marked k s = member k s.seen

less_none : (a b c : Bool) → c ≡ false → a && not (b && c) ≡ a
less_none a b c e = rw (e, and-false b) (and-true a)

pub has_flag : (k : ℕ) (s : Status) → has s (flag (2 ^ k)) ≡ is_set k s
unfolding has
has_flag k s = contains_flag k s.flags

module _ (k : ℕ) where
  pub set_raise : (s : Status) (f : Flags) → is_set k (raise s f) ≡ is_set k s || member k f
  unfolding raise
  set_raise s f = member_insert k s.flags f

  pub marked_raise : (s : Status) (f : Flags) → is_marked k (raise s f) ≡ is_marked k s
  unfolding raise
  marked_raise s f = refl

  pub set_raiseIf : (b : Bool) (s : Status) (f : Flags) → is_set k (raise_if b s f) ≡ is_set k s || (b && member k f)
  unfolding raise_if
  set_raiseIf true s f = set_raise s f
  set_raiseIf false s f = sym (or-false (is_set k s))

  pub marked_raiseIf : (b : Bool) (s : Status) (f : Flags) → is_marked k (raise_if b s f) ≡ is_marked k s
  unfolding raise_if
  marked_raiseIf true s f = marked_raise s f
  marked_raiseIf false s f = refl

  pub set_fall : (s : Status) (f : Flags) → is_set k (fall s f) ≡ is_set k s && not (member k f)
  unfolding fall
  set_fall s f = member_without k s.flags f

  pub marked_fall : (s : Status) (f : Flags) → is_marked k (fall s f) ≡ is_marked k s && not (member k f)
  unfolding fall
  marked_fall s f = member_without k s.seen f

  pub set_fallIf : (b : Bool) (s : Status) (f : Flags) → is_set k (fall_if b s f) ≡ is_set k s && not (b && member k f)
  unfolding fall_if
  set_fallIf true s f = set_fall s f
  set_fallIf false s f = sym (and-true (is_set k s))

  pub marked_fallIf : (b : Bool) (s : Status) (f : Flags) →
      is_marked k (fall_if b s f) ≡ is_marked k s && not (b && member k f)
  unfolding fall_if
  marked_fallIf true s f = marked_fall s f
  marked_fallIf false s f = sym (and-true (is_marked k s))

  pub set_markSeen : (s : Status) → is_set k (mark_seen s) ≡ is_set k s
  unfolding mark_seen
  set_markSeen s = refl

  pub marked_markSeen : (s : Status) → is_marked k (mark_seen s) ≡ is_marked k s || is_set k s
  unfolding mark_seen
  marked_markSeen s = member_insert k s.seen s.flags

  falling : (s : Status) (g : Flags) →
      member k (common (common s.flags s.seen) g) ≡ is_set k s && is_marked k s && member k g
  falling s g =
      member_common k (common s.flags s.seen) g
      ∙ ap (λ b. b && member k g) (member_common k s.flags s.seen)

  pub set_fallSeen : (s : Status) (g : Flags) →
      is_set k (fall_seen s g) ≡ is_set k s && not (is_set k s && is_marked k s && member k g)
  unfolding fall_seen
  set_fallSeen s g =
      set_fall s (common (common s.flags s.seen) g) ∙ ap (λ b. is_set k s && not b) (falling s g)

  pub marked_fallSeen : (s : Status) (g : Flags) →
      is_marked k (fall_seen s g) ≡ is_marked k s && not (is_set k s && is_marked k s && member k g)
  unfolding fall_seen
  marked_fallSeen s g =
      marked_fall s (common (common s.flags s.seen) g) ∙ ap (λ b. is_marked k s && not b) (falling s g)

  -- A flag keeps still where it is none of those that rise or fall.
  pub raise_off : (b : Bool) (s : Status) (f : Flags) → b && member k f ≡ false → is_set k (raise_if b s f) ≡ is_set k s
  raise_off b s f e = set_raiseIf b s f ∙ ap (λ c. is_set k s || c) e ∙ or-false (is_set k s)

  pub raise_keeps : (b : Bool) (s : Status) (f : Flags) → member k f ≡ false → is_set k (raise_if b s f) ≡ is_set k s
  raise_keeps b s f e = raise_off b s f (ap (λ c. b && c) e ∙ and-false b)

  pub fall_keeps : (b : Bool) (s : Status) (f : Flags) → member k f ≡ false → is_set k (fall_if b s f) ≡ is_set k s
  fall_keeps b s f e = set_fallIf b s f ∙ less_none (is_set k s) b (member k f) e

  pub fall_keeps_marked : (b : Bool) (s : Status) (f : Flags) → member k f ≡ false →
      is_marked k (fall_if b s f) ≡ is_marked k s
  fall_keeps_marked b s f e = marked_fallIf b s f ∙ less_none (is_marked k s) b (member k f) e

  pub fallSeen_keeps : (s : Status) (g : Flags) → member k g ≡ false → is_set k (fall_seen s g) ≡ is_set k s
  fallSeen_keeps s g e = set_fallSeen s g ∙ less_none (is_set k s) (is_set k s && is_marked k s) (member k g) e

  pub fallSeen_keeps_marked : (s : Status) (g : Flags) → member k g ≡ false → is_marked k (fall_seen s g) ≡ is_marked k s
  fallSeen_keeps_marked s g e =
      marked_fallSeen s g ∙ less_none (is_marked k s) (is_set k s && is_marked k s) (member k g) e

  -- A clear flag stays clear.
  pub fallSeen_clear : (s : Status) (g : Flags) → is_set k s ≡ false → is_set k (fall_seen s g) ≡ false
  fallSeen_clear s g e = set_fallSeen s g ∙ ap (λ c. c && not (is_set k s && is_marked k s && member k g)) e

-- Equal receive flags and marks stay equal, and the flags of the transmitter and RAF are no part of them.
use mathlib.Core.Path.{◌≡◌, refl, ap, sym, ◌∙◌}
use mathlib.Core.Bool.{Bool, true, false, not, ◌&&◌, ◌||◌, true≢false, false≢true}
use lib.Dec.{ltb}
use Prim.Native.Nat.{ℕ, ◌^◌}
use native.Mathlib.Nat.{zero-div}
use Rattle.sci.specs.model.Flags.{flag, TC, TDRE, receive_flags, transmit_flags, common}
use Rattle.sci.specs.claims.Members.{member}
use Rattle.sci.specs.model.Status.{has, raise, raise_if, fall, fall_if, mark_seen, fall_seen}
use Rattle.sci.specs.model.Receiver.{raised, entered, status_after}
use Rattle.sci.specs.claims.Line.{shown, looked, fetched, read_status}
use Rattle.sci.specs.claims.Alike.{Same}
use Rattle.sci.specs.model.Transmitter.{ends, begins_frame, sent}
use Rattle.sci.specs.declared.flags.Flags.{Flags}
use Rattle.sci.specs.declared.status.Status.{Status}
use Rattle.sci.specs.declared.framer.Frame.{Frame}
use Rattle.sci.specs.declared.transmitter.Transmitter.{Transmitter}
use Rattle.sci.specs.declared.receiver.Outcome.{Outcome}
use Rattle.sci.proofs.Membership.{member_common, same_members}
use Rattle.sci.proofs.Flagged.{is_set, is_marked, has_flag, set_raise, marked_raise, set_raiseIf, marked_raiseIf, set_fallIf, marked_fallIf, set_markSeen, marked_markSeen, set_fallSeen, marked_fallSeen, raise_keeps, fall_keeps, fall_keeps_marked, fallSeen_keeps, fallSeen_keeps_marked}

-- Flag k is a receive flag.
abbrev pub Receives : ℕ → Type 0
Receives k = member k receive_flags ≡ true

-- Equality of the receive flags is equality flag by flag.
both_true : (a b c : Bool) → a && c ≡ b && c → c ≡ true → a ≡ b
both_true true true c e h = refl
both_true true false c e h = absurd (true≢false (sym h ∙ e))
both_true false true c e h = absurd (false≢true (e ∙ h))
both_true false false c e h = refl

both_and : (a b c : Bool) → (c ≡ true → a ≡ b) → a && c ≡ b && c
both_and a b true f = rw (f refl)
both_and true true false f = refl
both_and true false false f = refl
both_and false true false f = refl
both_and false false false f = refl

common_at : (a b c : Flags) → common a c ≡ common b c → (k : ℕ) → member k c ≡ true → member k a ≡ member k b
common_at a b c e k h =
    both_true (member k a) (member k b) (member k c) (sym (member_common k a c) ∙ ap (member k) e ∙ member_common k b c) h

common_from : (a b c : Flags) → ((k : ℕ) → member k c ≡ true → member k a ≡ member k b) → common a c ≡ common b c
common_from a b c f =
    same_members (common a c) (common b c)
    (λ k. member_common k a c ∙ both_and (member k a) (member k b) (member k c) (f k) ∙ sym (member_common k b c))

pub set_at : (s t : Status) → Same s t → (k : ℕ) → Receives k → is_set k s ≡ is_set k t
set_at s t e k h = common_at s.flags t.flags receive_flags e.flags k h

pub marked_at : (s t : Status) → Same s t → (k : ℕ) → Receives k → is_marked k s ≡ is_marked k t
marked_at s t e k h = common_at s.seen t.seen receive_flags e.seen k h

pub same_from : (s t : Status) → ((k : ℕ) → Receives k → is_set k s ≡ is_set k t) →
    ((k : ℕ) → Receives k → is_marked k s ≡ is_marked k t) → Same s t
same_from s t f g =
    record { flags = common_from s.flags t.flags receive_flags f; seen = common_from s.seen t.seen receive_flags g }

pub same_refl : (s : Status) → Same s s
same_refl s = record { flags = refl; seen = refl }

pub same_sym : (s t : Status) → Same s t → Same t s
same_sym s t e = record { flags = sym e.flags; seen = sym e.seen }

pub same_trans : (s t u : Status) → Same s t → Same t u → Same s u
same_trans s t u e f = record { flags = e.flags ∙ f.flags; seen = e.seen ∙ f.seen }

pub same_has : (s t : Status) → Same s t → (k : ℕ) → Receives k → has s (flag (2 ^ k)) ≡ has t (flag (2 ^ k))
same_has s t e k h = has_flag k s ∙ set_at s t e k h ∙ sym (has_flag k t)

-- Each change of the status respects it.
pub same_raiseIf : (b : Bool) (s t : Status) (f : Flags) → Same s t → Same (raise_if b s f) (raise_if b t f)
same_raiseIf b s t f e =
    same_from (raise_if b s f) (raise_if b t f)
    (λ k h. rw (set_raiseIf k b s f, set_raiseIf k b t f, set_at s t e k h))
    (λ k h. rw (marked_raiseIf k b s f, marked_raiseIf k b t f) (marked_at s t e k h))

pub same_raise : (s t : Status) (f : Flags) → Same s t → Same (raise s f) (raise t f)
same_raise s t f e =
    same_from (raise s f) (raise t f)
    (λ k h. rw (set_raise k s f, set_raise k t f, set_at s t e k h))
    (λ k h. rw (marked_raise k s f, marked_raise k t f) (marked_at s t e k h))

pub same_fallIf : (b : Bool) (s t : Status) (f : Flags) → Same s t → Same (fall_if b s f) (fall_if b t f)
same_fallIf b s t f e =
    same_from (fall_if b s f) (fall_if b t f)
    (λ k h. rw (set_fallIf k b s f, set_fallIf k b t f, set_at s t e k h))
    (λ k h. rw (marked_fallIf k b s f, marked_fallIf k b t f, marked_at s t e k h))

pub same_mark : (s t : Status) → Same s t → Same (mark_seen s) (mark_seen t)
same_mark s t e =
    same_from (mark_seen s) (mark_seen t)
    (λ k h. rw (set_markSeen k s, set_markSeen k t) (set_at s t e k h))
    (λ k h. rw (marked_markSeen k s, marked_markSeen k t, marked_at s t e k h, set_at s t e k h))

pub same_fallSeen : (s t : Status) (g : Flags) → Same s t → Same (fall_seen s g) (fall_seen t g)
same_fallSeen s t g e =
    same_from (fall_seen s g) (fall_seen t g)
    (λ k h. rw (set_fallSeen k s g, set_fallSeen k t g, marked_at s t e k h, set_at s t e k h))
    (λ k h. rw (marked_fallSeen k s g, marked_fallSeen k t g, marked_at s t e k h, set_at s t e k h))

-- Of a sample.
same_raised : (s t : Status) (f : Frame) (bad : Bool) → Same s t → Same (raised s f bad) (raised t f bad)
unfolding raised
same_raised s t f bad e =
    same_raiseIf bad _ _ _ (same_raiseIf (not f.stop) _ _ _ (same_raiseIf (ltb 0 f.noise) _ _ _ (same_raise s t _ e)))

same_entered : (b : Bool) (s t : Status) (f : Frame) (bad : Bool) → Same s t → Same (entered b s f bad) (entered b t f bad)
unfolding entered
same_entered true s t f bad e = same_raised s t f bad e
same_entered false s t f bad e = e

pub same_after : (s t : Status) (o : Outcome) (f : Frame) (bad idles : Bool) → Same s t →
    Same (status_after s o f bad idles) (status_after t o f bad idles)
unfolding status_after
same_after s t o f bad idles e =
    same_raiseIf idles _ _ _
    (same_fallIf (o.abandoned || o.reached) _ _ _
    (same_raiseIf o.begun _ _ _
    (same_entered (o.taken && not o.lost) _ _ f bad (same_raiseIf o.lost s t _ e))))

-- Of a read.
same_looked : (b : Bool) (s t : Status) → Same s t → Same (looked b s) (looked b t)
same_looked true s t e = same_mark s t e
same_looked false s t e = e

same_fetched : (b : Bool) (s t : Status) → Same s t → Same (fetched b s) (fetched b t)
same_fetched true s t e = same_fallSeen s t receive_flags e
same_fetched false s t e = e

pub same_read : (scsr scdr : Bool) (s t : Status) → Same s t → Same (read_status scsr scdr s) (read_status scsr scdr t)
same_read scsr scdr s t e = same_fetched scdr _ _ (same_looked scsr s t e)

-- A flag outside the receive flags: RAF, TC, TDRE.
abbrev pub Outside : Flags → Type 0
Outside f = common f receive_flags ≡ flag 0

pub member_none : (k : ℕ) → member k (flag 0) ≡ false
unfolding member
member_none k = rw (zero-div (2 ^ k))

pub outside_at : (f : Flags) → Outside f → (k : ℕ) → Receives k → member k f ≡ false
outside_at f e k h =
    common_at f (flag 0) receive_flags (e ∙ sym none) k h ∙ member_none k
  where
    none : common (flag 0) receive_flags ≡ flag 0
    none = refl

pub outside_raiseIf : (b : Bool) (s : Status) (f : Flags) → Outside f → Same s (raise_if b s f)
outside_raiseIf b s f o =
    same_from s (raise_if b s f) (λ k h. sym (raise_keeps k b s f (outside_at f o k h))) (λ k h. sym (marked_raiseIf k b s f))

pub outside_fallIf : (b : Bool) (s : Status) (f : Flags) → Outside f → Same s (fall_if b s f)
outside_fallIf b s f o =
    same_from s (fall_if b s f) (λ k h. sym (fall_keeps k b s f (outside_at f o k h)))
    (λ k h. sym (fall_keeps_marked k b s f (outside_at f o k h)))

pub outside_fall : (s : Status) (f : Flags) → Outside f → Same s (fall s f)
unfolding fall_if
outside_fall s f o = outside_fallIf true s f o

pub outside_fallSeen : (s : Status) (g : Flags) → Outside g → Same s (fall_seen s g)
outside_fallSeen s g o =
    same_from s (fall_seen s g) (λ k h. sym (fallSeen_keeps k s g (outside_at g o k h)))
    (λ k h. sym (fallSeen_keeps_marked k s g (outside_at g o k h)))

-- A sample of the transmitter, and a write of data.
pub same_sent : (t : Transmitter) (s : Status) (sccr1 : ℕ) → Same s (sent t s sccr1).status
unfolding sent
same_sent t s sccr1 =
    let s₁ : Status = raise_if (ends t && has s TDRE) s TC in
    same_trans s s₁ (raise_if (begins_frame t s sccr1) s₁ TDRE) (outside_raiseIf (ends t && has s TDRE) s TC refl)
    (outside_raiseIf (begins_frame t s sccr1) s₁ TDRE refl)

pub same_loaded : (s : Status) → Same s (fall_seen s transmit_flags)
same_loaded s = outside_fallSeen s transmit_flags refl

-- No receive flag is set, or marked.
pub none_set : (s : Status) → shown s ≡ flag 0 → (k : ℕ) → Receives k → is_set k s ≡ false
none_set s e k h = outside_at s.flags e k h

pub none_marked : (s : Status) → common s.seen receive_flags ≡ flag 0 → (k : ℕ) → Receives k → is_marked k s ≡ false
none_marked s e k h = outside_at s.seen e k h

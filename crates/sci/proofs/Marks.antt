-- Every change of the status keeps this: a receive flag that is marked as seen is set.
use mathlib.Core.Path.{◌≡◌, refl, sym, ◌∙◌}
use mathlib.Core.Bool.{Bool, true, false, not, ◌&&◌, ◌||◌, false≢true}
use lib.Dec.{ltb}
use Prim.Native.Nat.{ℕ}
use Rattle.sci.specs.model.Flags.{receive_flags, contains, common}
use Rattle.sci.specs.claims.Members.{member}
use Rattle.sci.specs.model.Status.{raise, raise_if, fall, fall_if, mark_seen, fall_seen}
use Rattle.sci.specs.model.Receiver.{raised, entered, status_after}
use Rattle.sci.specs.declared.flags.Flags.{Flags}
use Rattle.sci.specs.declared.status.Status.{Status}
use Rattle.sci.specs.declared.framer.Frame.{Frame}
use Rattle.sci.specs.declared.receiver.Outcome.{Outcome}
use Rattle.sci.proofs.Membership.{and_left, and_right, member_common, membership}
use Rattle.sci.proofs.Flagged.{is_set, is_marked, set_raise, marked_raise, set_raiseIf, marked_raiseIf, set_fall, marked_fall, set_fallIf, marked_fallIf, set_markSeen, marked_markSeen, set_fallSeen, marked_fallSeen}

abbrev pub Marked : Status → Type 0
Marked s = contains s.flags (common s.seen receive_flags) ≡ true

and_both : (a b : Bool) → a ≡ true → b ≡ true → a && b ≡ true
and_both a b e f = rw (e, f)

pub at : (s : Status) → Marked s → (k : ℕ) → member k receive_flags ≡ true → is_marked k s ≡ true → is_set k s ≡ true
at s e k h m =
    (membership s.flags (common s.seen receive_flags)).subset.0 e k
    (member_common k s.seen receive_flags ∙ and_both (is_marked k s) (member k receive_flags) m h)

pub all : (s : Status) → ((k : ℕ) → member k receive_flags ≡ true → is_marked k s ≡ true → is_set k s ≡ true) → Marked s
all s f =
    (membership s.flags (common s.seen receive_flags)).subset.1
    (λ k e.
    let m : is_marked k s && member k receive_flags ≡ true = sym (member_common k s.seen receive_flags) ∙ e in
    f k (and_right (is_marked k s) (member k receive_flags) m) (and_left (is_marked k s) (member k receive_flags) m))

or_keeps : (m s b : Bool) → (m ≡ true → s ≡ true) → m ≡ true → s || b ≡ true
or_keeps m true b f e = refl
or_keeps true false b f e = absurd (false≢true (f refl))
or_keeps false false b f e = absurd (false≢true e)

and_keeps : (m s b : Bool) → (m ≡ true → s ≡ true) → m && b ≡ true → s && b ≡ true
and_keeps true s b f e = rw (f refl) e
and_keeps false s b f e = absurd (false≢true e)

mark_keeps : (m s : Bool) → (m ≡ true → s ≡ true) → m || s ≡ true → s ≡ true
mark_keeps true s f e = f refl
mark_keeps false s f e = e

pub marked_raiseIf_on : (b : Bool) (s : Status) (f : Flags) → Marked s → Marked (raise_if b s f)
marked_raiseIf_on b s f m =
    all (raise_if b s f)
    (λ k h e. rw (set_raiseIf k b s f) (or_keeps (is_marked k s) (is_set k s) (b && member k f) (at s m k h) (sym (marked_raiseIf k b s f) ∙ e)))

pub marked_raise_on : (s : Status) (f : Flags) → Marked s → Marked (raise s f)
marked_raise_on s f m =
    all (raise s f)
    (λ k h e. rw (set_raise k s f) (or_keeps (is_marked k s) (is_set k s) (member k f) (at s m k h) (sym (marked_raise k s f) ∙ e)))

pub marked_fallIf_on : (b : Bool) (s : Status) (f : Flags) → Marked s → Marked (fall_if b s f)
marked_fallIf_on b s f m =
    all (fall_if b s f)
    (λ k h e. rw (set_fallIf k b s f) (and_keeps (is_marked k s) (is_set k s) (not (b && member k f)) (at s m k h) (sym (marked_fallIf k b s f) ∙ e)))

pub marked_fall_on : (s : Status) (f : Flags) → Marked s → Marked (fall s f)
marked_fall_on s f m =
    all (fall s f)
    (λ k h e. rw (set_fall k s f) (and_keeps (is_marked k s) (is_set k s) (not (member k f)) (at s m k h) (sym (marked_fall k s f) ∙ e)))

pub marked_mark_on : (s : Status) → Marked s → Marked (mark_seen s)
marked_mark_on s m =
    all (mark_seen s)
    (λ k h e. rw (set_markSeen k s) (mark_keeps (is_marked k s) (is_set k s) (at s m k h) (sym (marked_markSeen k s) ∙ e)))

pub marked_fallSeen_on : (s : Status) (g : Flags) → Marked s → Marked (fall_seen s g)
marked_fallSeen_on s g m =
    all (fall_seen s g)
    (λ k h e.
    rw (set_fallSeen k s g)
    (and_keeps (is_marked k s) (is_set k s) (not (is_set k s && is_marked k s && member k g)) (at s m k h) (sym (marked_fallSeen k s g) ∙ e)))

marked_raised : (s : Status) (f : Frame) (bad : Bool) → Marked s → Marked (raised s f bad)
unfolding raised
marked_raised s f bad m =
    marked_raiseIf_on bad _ _ (marked_raiseIf_on (not f.stop) _ _ (marked_raiseIf_on (ltb 0 f.noise) _ _ (marked_raise_on s _ m)))

marked_entered : (b : Bool) (s : Status) (f : Frame) (bad : Bool) → Marked s → Marked (entered b s f bad)
unfolding entered
marked_entered true s f bad m = marked_raised s f bad m
marked_entered false s f bad m = m

pub marked_after : (s : Status) (o : Outcome) (f : Frame) (bad idles : Bool) → Marked s → Marked (status_after s o f bad idles)
unfolding status_after
marked_after s o f bad idles m =
    marked_raiseIf_on idles _ _
    (marked_fallIf_on (o.abandoned || o.reached) _ _
    (marked_raiseIf_on o.begun _ _
    (marked_entered (o.taken && not o.lost) _ f bad (marked_raiseIf_on o.lost s _ m))))

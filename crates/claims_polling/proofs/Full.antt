-- RDRF or OR is set: what a sample and the accesses make of that. Assumes nothing.
use mathlib.Core.Path.{◌≡◌, refl, sym, ◌∙◌}
use mathlib.Core.Bool.{Bool, true, false, not, ◌&&◌, ◌||◌, or-false, true≢false}
use Prim.Native.Nat.{ℕ}
use Rattle.sci.specs.model.Flags.{receive_flags}
use Rattle.sci.specs.claims.Members.{member}
use Rattle.sci.specs.model.Status.{mark_seen, fall_seen}
use Rattle.sci.specs.model.Receiver.{full, outcome, received}
use Rattle.sci.specs.claims.Line.{read_status}
use Rattle.sci.specs.claims.Alike.{Same}
use Rattle.sci.specs.declared.status.Status.{Status}
use Rattle.sci.specs.declared.receiver.Receiver.{Receiver}
use Rattle.sci.proofs.Flagged.{is_set, is_marked, has_flag, set_markSeen, marked_markSeen, set_fallSeen, fallSeen_clear}
use Rattle.sci.proofs.Same.{set_at}
use Rattle.sci.proofs.Rising.{rdrf_after, or_after}

-- By the two flags.
pub full_sets : (s : Status) → full s ≡ is_set 6 s || is_set 3 s
full_sets s = rw (has_flag 6 s, has_flag 3 s)

or_none : (a b : Bool) → a || b ≡ false → (a ≡ false) × (b ≡ false)
or_none true b e = absurd (true≢false e)
or_none false b e = (refl, e)

pub clear_sets : (s : Status) → full s ≡ false → (is_set 6 s ≡ false) × (is_set 3 s ≡ false)
clear_sets s e = or_none (is_set 6 s) (is_set 3 s) (sym (full_sets s) ∙ e)

pub sets_clear : (s : Status) → is_set 6 s ≡ false → is_set 3 s ≡ false → full s ≡ false
sets_clear s a b = full_sets s ∙ rw (a, b)

pub full_same : (s t : Status) → Same s t → full s ≡ full t
unfolding member
full_same s t e = full_sets s ∙ rw (set_at s t e 6 refl, set_at s t e 3 refl) (sym (full_sets t))

-- A read lets nothing rise.
pub read_clear : (scsr scdr : Bool) (s : Status) → full s ≡ false → full (read_status scsr scdr s) ≡ false
read_clear scsr scdr s h = sets_clear (read_status scsr scdr s) (at 6 scsr scdr (clear_sets s h).0) (at 3 scsr scdr (clear_sets s h).1)
  where
    at : (k : ℕ) (scsr scdr : Bool) → is_set k s ≡ false → is_set k (read_status scsr scdr s) ≡ false
    at k true true e = fallSeen_clear k (mark_seen s) receive_flags (set_markSeen k s ∙ e)
    at k true false e = set_markSeen k s ∙ e
    at k false true e = fallSeen_clear k s receive_flags e
    at k false false e = e

-- A poll clears both.
seen_falls : (a m : Bool) → a && not (a && (m || a) && true) ≡ false
seen_falls true true = refl
seen_falls true false = refl
seen_falls false m = refl

pub polled_at : (k : ℕ) (s : Status) → member k receive_flags ≡ true → is_set k (fall_seen (mark_seen s) receive_flags) ≡ false
polled_at k s e =
    set_fallSeen k (mark_seen s) receive_flags ∙ rw (set_markSeen k s, marked_markSeen k s, e) (seen_falls (is_set k s) (is_marked k s))

pub polled_clear : (s : Status) → full (fall_seen (mark_seen s) receive_flags) ≡ false
unfolding member
polled_clear s = sets_clear (fall_seen (mark_seen s) receive_flags) (polled_at 6 s refl) (polled_at 3 s refl)

-- A sample at which no frame is taken changes neither.
pub sample_full : (r : Receiver) (t : Status) (sccr1 : ℕ) (x : Bool) → (outcome r t sccr1 x).taken ≡ false →
    full (received r t sccr1 x).status ≡ full t
unfolding received outcome
sample_full r t sccr1 x e =
    full_sets (received r t sccr1 x).status
    ∙ rw (rdrf_after t (outcome r t sccr1 x) _ _ _, or_after t (outcome r t sccr1 x) _ _ _, e, or-false, or-false) (sym (full_sets t))

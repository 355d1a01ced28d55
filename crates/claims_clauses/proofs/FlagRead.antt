-- What a read leaves of a flag. Assumes nothing.
use mathlib.Core.Path.{◌≡◌, refl, sym, ◌∙◌}
use mathlib.Core.Bool.{Bool, true, false, not, ◌&&◌, ◌||◌, true≢false, false≢true}
use Prim.Native.Nat.{ℕ}
use Rattle.sci.specs.model.Flags.{receive_flags}
use Rattle.sci.specs.claims.Members.{member}
use Rattle.sci.specs.model.Status.{mark_seen}
use Rattle.sci.specs.declared.serial.Sci.{Sci}
use Rattle.sci.proofs.Flagged.{is_set, is_marked, set_markSeen, marked_markSeen, set_fallSeen, marked_fallSeen}
use Rattle.qsm.specs.model.Serial.{serial_read}
use Rattle.qsm.proofs.Booleans.{or_false}
use Rattle.claims_clauses.proofs.FlagTold.{Told}

pub read_told : (x y t l g : Bool) →
    Told x y (x && not (x && (y || (t && x)) && (l && g))) ((y || (t && x)) && not (x && (y || (t && x)) && (l && g))) t (l && g) false
read_told true true t l g = (rw (or_false (l && g)), λ h. rw (or_false (l && g)), λ h g. refl)
read_told true false true l g = (rw (or_false (l && g)), λ h. rw (or_false (l && g)), λ h g. absurd (true≢false h))
read_told true false false l g = (refl, λ h. refl, λ h g. g)
read_told false true t l g = (refl, λ h. absurd (false≢true h), λ h g. refl)
read_told false false true l g = (refl, λ h. absurd (false≢true h), λ h g. g)
read_told false false false l g = (refl, λ h. absurd (false≢true h), λ h g. g)

module _ (k : ℕ) (s : Sci) where
  abbrev x0 : Bool
  x0 = is_set k s.status

  abbrev y0 : Bool
  y0 = is_marked k s.status

  abbrev g0 : Bool
  g0 = member k receive_flags

  none_falls : (x y : Bool) → x ≡ x && not (x && y && false)
  none_falls true true = refl
  none_falls true false = refl
  none_falls false y = refl

  none_less : (x y : Bool) → y ≡ y && not (x && y && false)
  none_less true true = refl
  none_less true false = refl
  none_less false true = refl
  none_less false false = refl

  pub read_set : (t l : Bool) → is_set k (serial_read t l s).status ≡ x0 && not (x0 && (y0 || (t && x0)) && (l && g0))
  unfolding serial_read
  read_set false false = none_falls x0 (y0 || false)
  read_set true false = set_markSeen k s.status ∙ none_falls x0 (y0 || x0)
  read_set false true = set_fallSeen k s.status receive_flags ∙ rw (or_false y0)
  read_set true true =
      set_fallSeen k (mark_seen s.status) receive_flags ∙ rw (set_markSeen k s.status, marked_markSeen k s.status)

  pub read_mark : (t l : Bool) →
      is_marked k (serial_read t l s).status ≡ (y0 || (t && x0)) && not (x0 && (y0 || (t && x0)) && (l && g0))
  unfolding serial_read
  read_mark false false = sym (or_false y0) ∙ none_less x0 (y0 || false)
  read_mark true false = marked_markSeen k s.status ∙ none_less x0 (y0 || x0)
  read_mark false true = marked_fallSeen k s.status receive_flags ∙ rw (or_false y0)
  read_mark true true =
      marked_fallSeen k (mark_seen s.status) receive_flags ∙ rw (set_markSeen k s.status, marked_markSeen k s.status)

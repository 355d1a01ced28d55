-- One flag k after a sample: what raises it, and what makes it fall.
-- Assumes nothing.
use mathlib.Core.Path.{◌≡◌, refl, ap, sym, ◌∙◌}
use mathlib.Core.Bool.{Bool, true, false, not, ◌&&◌, ◌||◌, and-true, and-false, or-false}
use Prim.Native.Nat.{ℕ}
use lib.Dec.{ltb}
use Rattle.sci.specs.model.Flags.{PF, FE, NF, OR, IDLE, RAF, RDRF, receive_flags}
use Rattle.sci.specs.claims.Members.{member}
use Rattle.sci.specs.model.Status.{raise, raise_if}
use Rattle.sci.specs.model.Receiver.{raised, entered, status_after}
use Rattle.sci.specs.declared.status.Status.{Status}
use Rattle.sci.specs.declared.framer.Frame.{Frame}
use Rattle.sci.specs.declared.receiver.Outcome.{Outcome}
use Rattle.sci.proofs.Flagged.{is_set, set_raise, set_raiseIf, set_fallIf, raise_keeps, fall_keeps}
use Rattle.sci.proofs.Same.{outside_at}
use Rattle.sci.proofs.Samples.{status_set}

or_in : (a b c : Bool) → a || b || c ≡ a || (b || c)
or_in true b c = refl
or_in false b c = refl

-- A flag that is neither NF nor FE.
module _ (k : ℕ) (nf : member k NF ≡ false) (fe : member k FE ≡ false) where
  set_entered : (enters : Bool) (s : Status) (f : Frame) (bad : Bool) →
      is_set k (entered enters s f bad) ≡ is_set k s || (enters && (member k RDRF || (bad && member k PF)))
  unfolding entered raised
  set_entered true s f bad =
      rw (set_raiseIf k bad, raise_keeps k, raise_keeps k, set_raise k)
      (or_in (is_set k s) (member k RDRF) (bad && member k PF))
  set_entered false s f bad = sym (or-false (is_set k s))

  set_after : (s : Status) (o : Outcome) (f : Frame) (bad idles : Bool) →
      is_set k (status_after s o f bad idles)
      ≡ ((is_set k s || (o.lost && member k OR) || (o.taken && not o.lost && (member k RDRF || (bad && member k PF))) || (o.begun && member k RAF))
      && not ((o.abandoned || o.reached) && member k RAF)) || (idles && member k IDLE)
  unfolding status_after
  set_after s o f bad idles =
      rw (set_raiseIf k idles, set_fallIf k (o.abandoned || o.reached), set_raiseIf k o.begun, set_entered (o.taken && not o.lost), set_raiseIf k o.lost)

-- With nothing taken no receive flag changes but IDLE.
pub none_after : (k : ℕ) → member k receive_flags ≡ true → (s : Status) (o : Outcome) (f : Frame) (bad : Bool) → o.taken ≡ false → o.lost ≡ false →
    is_set k (status_after s o f bad false) ≡ is_set k s
unfolding status_after entered raise_if
none_after k m s o f bad t l =
    let outside : member k RAF ≡ false = outside_at RAF refl k m in
    rw (t, l, fall_keeps k, raise_keeps k)

-- FE with a frame that enters.
fe_entered : (b : Bool) (s : Status) (f : Frame) (bad : Bool) → is_set 1 (entered b s f bad) ≡ is_set 1 s || (b && not f.stop)
unfolding entered raised member
fe_entered true s f bad =
    raise_keeps 1 bad _ PF refl ∙ set_raiseIf 1 (not f.stop) _ FE
    ∙ ap (λ (b : Bool). b || (not f.stop && true))
    (raise_keeps 1 (ltb 0 f.noise) (raise s RDRF) NF refl ∙ set_raise 1 s RDRF ∙ or-false (is_set 1 s))
    ∙ ap (λ (b : Bool). is_set 1 s || b) (and-true (not f.stop))
fe_entered false s f bad = sym (or-false (is_set 1 s))

-- Each flag by itself.
module _ (s : Status) (o : Outcome) (f : Frame) (bad idles : Bool) where
  pub raf_after : is_set 5 (status_after s o f bad idles) ≡ (is_set 5 s || o.begun) && not (o.abandoned || o.reached)
  unfolding member
  raf_after = set_after 5 refl refl s o f bad idles ∙ simp (and-false, and-true, or-false)

  pub idle_after : is_set 4 (status_after s o f bad idles) ≡ is_set 4 s || idles
  unfolding member
  idle_after = set_after 4 refl refl s o f bad idles ∙ simp (and-false, and-true, or-false)

  pub rdrf_after : is_set 6 (status_after s o f bad idles) ≡ is_set 6 s || (o.taken && not o.lost)
  unfolding member
  rdrf_after = set_after 6 refl refl s o f bad idles ∙ simp (and-false, and-true, or-false)

  pub or_after : is_set 3 (status_after s o f bad idles) ≡ is_set 3 s || o.lost
  unfolding member
  or_after = set_after 3 refl refl s o f bad idles ∙ simp (and-false, and-true, or-false)

  pub fe_after : is_set 1 (status_after s o f bad idles) ≡ is_set 1 s || (o.taken && not o.lost && not f.stop)
  unfolding member
  fe_after =
      status_set 1 s o f bad idles refl (and-false idles) ∙ fe_entered (o.taken && not o.lost) (raise_if o.lost s OR) f bad
      ∙ ap (λ (b : Bool). b || (o.taken && not o.lost && not f.stop)) (raise_keeps 1 o.lost s OR refl)

  pub pf_after : is_set 0 (status_after s o f bad idles) ≡ is_set 0 s || (o.taken && not o.lost && bad)
  unfolding member
  pf_after = set_after 0 refl refl s o f bad idles ∙ simp (and-false, and-true, or-false)

-- What was seen, by the history. Assumes nothing.
use mathlib.Core.Path.{◌≡◌, refl, sym, ap, ◌∙◌}
use mathlib.Core.Bool.{Bool, true, false, cond, not, ◌&&◌, ◌||◌, false≢true}
use mathlib.Core.List.{List, [], ◌∷◌}
use Prim.Native.Nat.{ℕ, zero, suc, ◌<◌}
use lib.Dec.{eqb}
use borrow.Author.Tests.{ne_eqb}
use Rattle.steps.specs.Iterate.{iterate}
use Rattle.steps.specs.Bits.{bit}
use Rattle.sci.specs.model.Flags.{PF, FE, NF, OR, IDLE, RAF, RDRF, TC, TDRE}
use Rattle.sci.specs.claims.Members.{member}
use Rattle.sci.specs.model.Status.{raise, raise_if, fall_if}
use Rattle.sci.specs.model.Control as control
use Rattle.sci.specs.model.Receiver.{raised, entered, status_after, outcome, received}
use Rattle.sci.specs.model.Transmitter.{sent}
use Rattle.sci.specs.model.Parts.{after_sent}
use Rattle.sci.specs.model.Serial.{active, due, heard, prescaled, sampled, clocked}
use Rattle.sci.specs.declared.flags.Flags.{Flags}
use Rattle.sci.specs.declared.framer.Frame.{Frame}
use Rattle.sci.specs.declared.receiver.Receiver.{Receiver}
use Rattle.sci.specs.declared.receiver.Outcome.{Outcome}
use Rattle.sci.specs.declared.serial.Sci.{Sci}
use Rattle.sci.specs.declared.status.Status.{Status}
use Rattle.sci.specs.declared.transmitter.Transmitter.{Transmitter}
use Rattle.sci.proofs.Membership.{and_right}
use Rattle.sci.proofs.Flagged.{is_set, is_marked, set_raise, set_raiseIf, marked_raise, marked_raiseIf, fall_keeps, fall_keeps_marked}
use Rattle.qsm.specs.model.State.{reset_module}
use Rattle.qsm.specs.model.Event.{held, clocks, clock_module, step, does, resets}
use Rattle.qsm.specs.declared.state.Module.{Module}
use Rattle.qsm.specs.declared.event.Event.{Event}
use Rattle.qsm.specs.declared.event.Event.TheVariants.{Reset, Hold}
use Rattle.qsm.specs.declared.event.Event.TheVariants as event
use Rattle.qsm.proofs.Booleans.{and_true, and_false, clash, left_or}
use Rattle.qsm.proofs.Limit.{hold_if}
use Rattle.claims_clauses.specs.FlagsFall.{after, set, seen, looks, handles, stops, falls, FlagsFall}
use Rattle.claims_clauses.specs.SeenBy.{run, shown_by, shown, SeenBy, HoldKeeps, FallsBy, SeenClauses}
use Rattle.claims_clauses.proofs.FlagTold.{nine, is_raf, set_is}
use Rattle.claims_clauses.proofs.FlagsFall.{seen_is, flags_fall}

-- A change of the status that makes no mark of flag k, and does not make it fall.
module _ (k : ℕ) (other : member k RAF ≡ false) where
  abbrev Keeps : Status → Status → Type 0
  Keeps s t = (is_marked k t ≡ is_marked k s) × (is_set k s ≡ true → is_set k t ≡ true)

  same : (s : Status) → Keeps s s
  same s = (refl, λ h. h)

  then : (s t u : Status) → Keeps s t → Keeps t u → Keeps s u
  then s t u a b = (b.0 ∙ a.0, λ h. b.1 (a.1 h))

  keeps_raise : (s : Status) (f : Flags) → Keeps s (raise s f)
  keeps_raise s f = (marked_raise k s f, λ h. set_raise k s f ∙ left_or (is_set k s) (member k f) h)

  keeps_raiseIf : (b : Bool) (s : Status) (f : Flags) → Keeps s (raise_if b s f)
  keeps_raiseIf b s f = (marked_raiseIf k b s f, λ h. set_raiseIf k b s f ∙ left_or (is_set k s) (b && member k f) h)

  keeps_fallIf : (b : Bool) (s : Status) → Keeps s (fall_if b s RAF)
  keeps_fallIf b s = (fall_keeps_marked k b s RAF other, λ h. fall_keeps k b s RAF other ∙ h)

  keeps_raised : (s : Status) (f : Frame) (bad : Bool) → Keeps s (raised s f bad)
  unfolding raised
  keeps_raised s f bad =
      then _ _ _ (then _ _ _ (then _ _ _ (keeps_raise s RDRF) (keeps_raiseIf _ (raise s RDRF) NF)) (keeps_raiseIf (not f.stop) _ FE)) (keeps_raiseIf bad _ PF)

  keeps_entered : (e : Bool) (s : Status) (f : Frame) (bad : Bool) → Keeps s (entered e s f bad)
  unfolding entered
  keeps_entered true s f bad = keeps_raised s f bad
  keeps_entered false s f bad = same s

  keeps_after : (s : Status) (o : Outcome) (f : Frame) (bad idles : Bool) → Keeps s (status_after s o f bad idles)
  unfolding status_after
  keeps_after s o f bad idles =
      then _ _ _ (then _ _ _ (then _ _ _ (then _ _ _ (keeps_raiseIf o.lost s OR) (keeps_entered (o.taken && not o.lost) (raise_if o.lost s OR) f bad)) (keeps_raiseIf o.begun (entered (o.taken && not o.lost) (raise_if o.lost s OR) f bad) RAF)) (keeps_fallIf (o.abandoned || o.reached) (raise_if o.begun (entered (o.taken && not o.lost) (raise_if o.lost s OR) f bad) RAF))) (keeps_raiseIf idles _ IDLE)

  keeps_received : (r : Receiver) (s : Status) (c : ℕ) (x : Bool) → Keeps s (received r s c x).status
  unfolding received
  keeps_received r s c x = keeps_after s (outcome r s c x) _ _ _

  keeps_sent : (t : Transmitter) (s : Status) (c : ℕ) → Keeps s (sent t s c).status
  unfolding sent
  keeps_sent t s c = then _ _ _ (keeps_raiseIf _ s TC) (keeps_raiseIf _ _ TDRE)

  keeps_heard : (on : Bool) (s : Sci) (x : Bool) → Keeps s.status (heard on s x).status
  keeps_heard true s x = keeps_received s.receiver s.status s.sccr1 x
  keeps_heard false s x = same s.status

  keeps_sampled : (s : Sci) (x : Bool) → Keeps s.status (sampled s x).status
  unfolding sampled
  keeps_sampled s x =
      then _ _ _ (keeps_sent s.transmitter s.status s.sccr1)
      (keeps_heard (control.RE s.sccr1) (after_sent s (sent s.transmitter s.status s.sccr1)) x)

  keeps_prescaled : (d : Bool) (s : Sci) (x : Bool) → Keeps s.status (prescaled d s x).status
  keeps_prescaled true s x = keeps_sampled s x
  keeps_prescaled false s x = same s.status

  keeps_active : (a : Bool) (s : Sci) (x : Bool) → Keeps s.status (cond a (prescaled (due s) s x) s).status
  keeps_active true s x = keeps_prescaled (due s) s x
  keeps_active false s x = same s.status

  keeps_clocked : (s : Sci) (x : Bool) → Keeps s.status (clocked s x).status
  unfolding clocked
  keeps_clocked s x = keeps_active (active s) s x

  keeps_clocks : (n : ℕ) (rxd : Bool) (m : Module) → Keeps m.sci.status (iterate n (clock_module rxd) m).sci.status
  unfolding iterate clock_module
  keeps_clocks zero rxd m = same m.sci.status
  keeps_clocks (suc n) rxd m = then _ _ _ (keeps_clocks n rxd m) (keeps_clocked (iterate n (clock_module rxd) m).sci rxd)

  keeps_hold : (m : Module) (pins : ℕ) (rxd : Bool) (n : ℕ) → Keeps m.sci.status (step m (Hold pins rxd n)).state.sci.status
  unfolding step clocks
  keeps_hold m pins rxd n =
      hold_if (λ d. Keeps m.sci.status d.state.sci.status) m pins rxd n (λ h. same m.sci.status)
      (λ h. keeps_clocks n rxd (held m pins))

-- ---- the history

is_false : (b : Bool) → (b ≡ true → ⊥) → b ≡ false
is_false true h = absurd (h refl)
is_false false h = refl

-- A flag x with its mark y, an access that looks or not, and what is left of both.
accessed : (x y look f x' y' : Bool) → (y ≡ true → x ≡ true) → x' ≡ x && not f → (x ≡ true → y' ≡ (y || look) && not f) →
    (x ≡ false → y' ≡ true → y ≡ true) → (y' ≡ (y || (look && x)) && x') × (y' ≡ true → x' ≡ true)
accessed true y look f x' y' sub p q r =
    (q refl ∙ rw (p, and_true look), λ h. p ∙ and_right (y || look) (not f) (sym (q refl) ∙ h))
accessed false y look f x' y' sub p q r =
    let none : y' ≡ true → ⊥ = λ h. false≢true (sub (r refl h)) in
    (is_false y' none ∙ sym (ap (λ b. (y || (look && false)) && b) p ∙ and_false (y || (look && false))), λ h. absurd (none h))

module _ (k : ℕ) (small : k < 9) (others : k ≡ 5 → ⊥) where
  other : member k RAF ≡ false
  other = is_raf k small ∙ ne_eqb k 5 others

  abbrev Inv : Module → Bool → Type 0
  Inv m was = (seen m k ≡ was) × (seen m k ≡ true → set m k ≡ true)

  reset_unseen : seen reset_module k ≡ false
  unfolding reset_module
  reset_unseen = nine (λ j. bit j 0 ≡ false) refl refl refl refl refl refl refl refl refl k small

  at_reset : Inv reset_module false
  at_reset = (reset_unseen, λ h. clash (seen reset_module k) reset_unseen h)

  reset_is : (m : Module) → (step m Reset).state ≡ reset_module
  unfolding step does resets
  reset_is m = refl

  pub hold_keeps : (m : Module) (pins : ℕ) (rxd : Bool) (n : ℕ) → set m k ≡ true → set (step m (Hold pins rxd n)).state k ≡ true
  hold_keeps m pins rxd n h =
      set_is k small (step m (Hold pins rxd n)).state ∙ (keeps_hold k other m pins rxd n).1 (sym (set_is k small m) ∙ h)

  hold_marks : (m : Module) (pins : ℕ) (rxd : Bool) (n : ℕ) → seen (step m (Hold pins rxd n)).state k ≡ seen m k
  hold_marks m pins rxd n =
      seen_is (step m (Hold pins rxd n)).state k ∙ (keeps_hold k other m pins rxd n).0 ∙ sym (seen_is m k)

  kept : (m : Module) (e : Event) (was : Bool) → Inv m was → Inv (step m e).state (shown_by k m e was)
  kept m Reset was h = rw (reset_is m) at_reset
  kept m (Hold pins rxd n) was h = (
    hold_marks m pins rxd n ∙ h.0,
    λ g. hold_keeps m pins rxd n (h.1 (sym (hold_marks m pins rxd n) ∙ g)),
  )
  kept m (event.Access a) was h =
      let law : FlagsFall m a k = flags_fall m a k small in
      let done = accessed (set m k) (seen m k) (looks m a) (falls m a k) (set (after m a) k) (seen (after m a) k) h.1 law.flag law.mark law.unset in
      (done.0 ∙ ap (λ b. (b || (looks m a && set m k)) && set (after m a) k) h.0, done.1)

  told : (es : List Event) (m : Module) (was : Bool) → Inv m was → seen (run es m) k ≡ shown k es m was
  told [] m was h = h.0
  told (e ∷ es) m was h = told es (step m e).state (shown_by k m e was) (kept m e was h)

pub seen_by : SeenBy
seen_by es k small others = told k small others es reset_module false (at_reset k small others)

pub holds_keep : HoldKeeps
holds_keep m pins rxd n k small others h = hold_keeps k small others m pins rxd n h

plainly : (x y h t f : Bool) → f ≡ false → x && not (x && (y && h || (t && f))) ≡ x && not (y && h)
plainly true true true t f e = refl
plainly true true false true f e = ap not e
plainly true true false false f e = refl
plainly true false h true f e = ap not e
plainly true false h false f e = refl
plainly false y h t f e = refl

pub falls_by : FallsBy
falls_by es a k small others =
    (flags_fall (run es reset_module) a k small).flag
    ∙ plainly (set (run es reset_module) k) (seen (run es reset_module) k || looks (run es reset_module) a) (handles (run es reset_module) a k) (stops (run es reset_module) a) (eqb k 5) (ne_eqb k 5 others)
    ∙ ap (λ (b : Bool). set (run es reset_module) k && not ((b || looks (run es reset_module) a) && handles (run es reset_module) a k)) (seen_by es k small others)

pub seen_clauses : SeenClauses
seen_clauses = record { seen_by = seen_by; hold_keeps = holds_keep; falls_by = falls_by }

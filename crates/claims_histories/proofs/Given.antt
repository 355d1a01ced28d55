-- The accesses of a module as accesses of its serial half.
use mathlib.Core.Path.{◌≡◌, refl, ap, sym, subst, ◌∙◌}
use mathlib.Core.Bool.{Bool, true, false, cond}
use mathlib.Core.List.{List, [], ◌∷◌, ◌++◌}
use Prim.Native.Nat.{ℕ, ◌/◌, ◌%◌, ◌*◌}
use lib.Dec.{eqb}
use borrow.Author.Tests.{eqb-false}
use Rattle.steps.specs.Bits.{merge}
use Rattle.sci.specs.model.Control.{sccr0_bits}
use Rattle.sci.specs.model.Serial.{sccr0_set, wrote_sccr0, wrote_sccr1, sccr0_guarded, sccr1_guarded}
use Rattle.sci.specs.claims.History.{Step, reset, clock, reads, writesSccr0, writesSccr1, writesScdr}
use Rattle.sci.specs.claims.History as half
use Rattle.sci.specs.claims.Wire.{Access, read_status, read_data, write_data, write_control, accessed}
use Rattle.sci.specs.declared.serial.Sci.{Sci}
use Rattle.qsm.specs.model.Map.{decode}
use Rattle.qsm.specs.model.Lanes.{upper_lane, lower_lane, lined}
use Rattle.qsm.specs.model.Access.{next}
use Rattle.qsm.specs.model.Decision.{permits, decide_write}
use Rattle.qsm.specs.declared.map.SerialWord.TheVariants.{Sccr0, Sccr1, Scsr, Scdr}
use Rattle.qsm.specs.declared.map.Place.{Place}
use Rattle.qsm.specs.declared.map.Place.TheVariants.{Own, Serial, Queue, Hole}
use Rattle.qsm.specs.declared.state.Module.{Module}
use Rattle.qsm.specs.declared.event.Access as bus
use Rattle.qsm.specs.declared.event.Access.TheVariants.{Read, Write}
use Rattle.qsm.specs.declared.event.Event.TheVariants as event
use Rattle.claims_histories.specs.History.{after, receiver_read}
use Rattle.claims_histories.specs.Demand2.{SameSettings}
use Rattle.claims_histories.proofs.Words.{word_steps, store_steps, is_sccr0}
use Rattle.claims_histories.proofs.Follows as follow
use Rattle.claims_histories.proofs.Parts.{Along, event_along, rate_part}

abbrev pub given : Step → Sci → List Access
given reset s = []
given (clock x) s = []
given (reads scsr scdr) s = cond scsr (read_status ∷ []) [] ++ cond scdr (read_data ∷ []) []
given (writesSccr0 v upper lower) s = []
given (writesSccr1 v upper lower) s = cond (sccr1_guarded s v upper lower) [] (write_control v upper lower ∷ [])
given (writesScdr v upper lower) s = cond lower (write_data v upper ∷ []) []

abbrev pub all_given : List Step → Sci → List Access
all_given [] s = []
all_given (e ∷ es) s = given e s ++ all_given es (half.step e s)

abbrev pub accessed_all : List Access → Sci → Sci
accessed_all [] s = s
accessed_all (a ∷ ks) s = accessed_all ks (accessed a s)

accessed_append : (ks bs : List Access) (s : Sci) → accessed_all (ks ++ bs) s ≡ accessed_all bs (accessed_all ks s)
accessed_append [] bs s = refl
accessed_append (a ∷ ks) bs s = accessed_append ks bs (accessed a s)

-- Neither a reset nor a clock.
abbrev pub Accesses : Step → Type 0
Accesses reset = ⊥
Accesses (clock x) = ⊥
Accesses (reads scsr scdr) = Unit {0}
Accesses (writesSccr0 v upper lower) = Unit {0}
Accesses (writesSccr1 v upper lower) = Unit {0}
Accesses (writesScdr v upper lower) = Unit {0}

abbrev pub AllAccesses : List Step → Type 0
AllAccesses [] = Unit {0}
AllAccesses (e ∷ es) = Accesses e × AllAccesses es

accesses_append : (es fs : List Step) → AllAccesses es → AllAccesses fs → AllAccesses (es ++ fs)
accesses_append [] fs h k = k
accesses_append (e ∷ es) fs h k = (h.0, accesses_append es fs h.1 k)

-- A write that leaves SCCR0 as it was does nothing.
rate_nothing : (g : Bool) (s : Sci) (v : ℕ) (upper lower : Bool) → (cond g s (wrote_sccr0 s v upper lower)).sccr0 ≡ s.sccr0 →
    s ≡ cond g s (wrote_sccr0 s v upper lower)
unfolding wrote_sccr0
rate_nothing true s v upper lower h = refl
rate_nothing false s v upper lower h = go (eqb (sccr0_bits (merge s.sccr0 v upper lower)) s.sccr0) refl h
  where
    go : (b : Bool) → eqb (sccr0_bits (merge s.sccr0 v upper lower)) s.sccr0 ≡ b →
        (sccr0_set b s (sccr0_bits (merge s.sccr0 v upper lower))).sccr0 ≡ s.sccr0 →
        s ≡ sccr0_set b s (sccr0_bits (merge s.sccr0 v upper lower))
    go true e h = refl
    go false e h = absurd (eqb-false _ _ e h)

control_given : (g : Bool) (s : Sci) (v : ℕ) (upper lower : Bool) →
    accessed_all (cond g [] (write_control v upper lower ∷ [])) s ≡ cond g s (wrote_sccr1 s v upper lower)
unfolding accessed
control_given true s v upper lower = refl
control_given false s v upper lower = refl

given_step : (e : Step) (s : Sci) → Accesses e → (half.step e s).sccr0 ≡ s.sccr0 → accessed_all (given e s) s ≡ half.step e s
unfolding accessed half.step
given_step reset s h b = absurd h
given_step (clock x) s h b = absurd h
given_step (reads true true) s h b = refl
given_step (reads true false) s h b = refl
given_step (reads false true) s h b = refl
given_step (reads false false) s h b = refl
given_step (writesSccr0 v upper lower) s h b = rate_nothing (sccr0_guarded s v upper lower) s v upper lower b
given_step (writesSccr1 v upper lower) s h b = control_given (sccr1_guarded s v upper lower) s v upper lower
given_step (writesScdr v upper true) s h b = refl
given_step (writesScdr v upper false) s h b = refl

-- Each step leaves SCCR0.
abbrev pub Rated : List Step → Sci → Type 0
Rated es s = Along (λ (r : Sci). r.sccr0) es s

given_steps : (es : List Step) (s : Sci) → AllAccesses es → Rated es s → accessed_all (all_given es s) s ≡ half.run es s
unfolding half.run
given_steps [] s h u = refl
given_steps (e ∷ es) s h u =
    accessed_append (given e s) (all_given es (half.step e s)) s
    ∙ ap (accessed_all (all_given es (half.step e s))) (given_step e s h.0 u.0)
    ∙ given_steps es (half.step e s) h.1 u.1

word_accesses : (p : Place) (v : ℕ) (upper lower : Bool) → AllAccesses (word_steps p v upper lower)
word_accesses (Own w) v upper lower = tt
word_accesses (Serial Sccr0) v upper lower = (tt, tt)
word_accesses (Serial Sccr1) v upper lower = (tt, tt)
word_accesses (Serial Scsr) v upper lower = tt
word_accesses (Serial Scdr) v upper lower = (tt, tt)
word_accesses (Queue w) v upper lower = tt
word_accesses Hole v upper lower = tt

store_accesses : (long : Bool) (at words : ℕ) (upper lower : Bool) → AllAccesses (store_steps long at words upper lower)
store_accesses false at words upper lower = word_accesses (decode at) (words / 65536) upper lower
store_accesses true at words upper lower =
    accesses_append (word_steps (decode at) (words / 65536) upper lower) _ (word_accesses (decode at) (words / 65536) upper lower)
    (word_accesses (decode (next at)) (words % 65536 * 65536 / 65536) upper lower)

cond_accesses : (b : Bool) (es : List Step) → AllAccesses es → AllAccesses (cond b es [])
cond_accesses true es h = h
cond_accesses false es h = tt

pub event_accesses : (a : bus.Access) (m : Module) → AllAccesses (follow.steps (event.Access a) m)
event_accesses (Read supervisor width offset) m =
    cond_accesses (receiver_read m supervisor width offset) _ (tt, tt)
event_accesses (Write supervisor width offset value) m =
    cond_accesses (permits (decide_write m supervisor width offset value)) _
    (store_accesses (eqb width 4) offset (lined width value) (upper_lane width offset) (lower_lane width offset))

-- The accesses of the serial half that an access of the module makes.
abbrev pub makes : bus.Access → Module → List Access
makes a m = all_given (follow.steps (event.Access a) m) m.sci

pub rates : (a : bus.Access) (m : Module) → SameSettings m (after (event.Access a) m) → Rated (follow.steps (event.Access a) m) m.sci
rates a m h = event_along is_sccr0 (λ (s : Sci). s.sccr0) rate_part a m h.rate

pub access_half : (a : bus.Access) (m : Module) → SameSettings m (after (event.Access a) m) →
    accessed_all (makes a m) m.sci ≡ (after (event.Access a) m).sci
access_half a m h =
    given_steps (follow.steps (event.Access a) m) m.sci (event_accesses a m) (rates a m h)
    ∙ sym (follow.follows (event.Access a) m)

-- None of them reconfigures: what K says of the half before and after each.
abbrev pub Kept : (Sci → Sci → Type 0) → List Access → Sci → Type 0
Kept K [] s = Unit {0}
Kept K (a ∷ ks) s = K s (accessed a s) × Kept K ks (accessed a s)

abbrev pub AlongBy : (Sci → Sci → Type 0) → List Step → Sci → Type 0
AlongBy K [] s = Unit {0}
AlongBy K (e ∷ es) s = K s (half.step e s) × AlongBy K es (half.step e s)

-- Of reads and of writes of SCDR K holds always.
pub record Mild (K : Sci → Sci → Type 0) : Type 0 where
  pub status : (s : Sci) → K s (accessed read_status s)
  pub fetch : (s : Sci) → K s (accessed read_data s)
  pub write : (v : ℕ) (upper : Bool) (s : Sci) → K s (accessed (write_data v upper) s)

module _ (K : Sci → Sci → Type 0) (mild : Mild K) where
  kept_append : (ks bs : List Access) (s : Sci) → Kept K ks s → Kept K bs (accessed_all ks s) → Kept K (ks ++ bs) s
  kept_append [] bs s h k = k
  kept_append (a ∷ ks) bs s h k = (h.0, kept_append ks bs (accessed a s) h.1 k)

  control_kept : (g : Bool) (s : Sci) (v : ℕ) (upper lower : Bool) → K s (cond g s (wrote_sccr1 s v upper lower)) →
      Kept K (cond g [] (write_control v upper lower ∷ [])) s
  unfolding accessed
  control_kept true s v upper lower h = tt
  control_kept false s v upper lower h = (h, tt)

  given_kept : (e : Step) (s : Sci) → K s (half.step e s) → Kept K (given e s) s
  unfolding half.step
  given_kept reset s h = tt
  given_kept (clock x) s h = tt
  given_kept (reads true true) s h = (mild.status s, (mild.fetch (accessed read_status s), tt))
  given_kept (reads true false) s h = (mild.status s, tt)
  given_kept (reads false true) s h = (mild.fetch s, tt)
  given_kept (reads false false) s h = tt
  given_kept (writesSccr0 v upper lower) s h = tt
  given_kept (writesSccr1 v upper lower) s h = control_kept (sccr1_guarded s v upper lower) s v upper lower h
  given_kept (writesScdr v upper true) s h = (mild.write v upper s, tt)
  given_kept (writesScdr v upper false) s h = tt

  pub all_kept : (es : List Step) (s : Sci) → AllAccesses es → Rated es s → AlongBy K es s → Kept K (all_given es s) s
  all_kept [] s h u k = tt
  all_kept (e ∷ es) s h u k =
      kept_append (given e s) (all_given es (half.step e s)) s (given_kept e s k.0)
      (subst (Kept K (all_given es (half.step e s))) (sym (given_step e s h.0 u.0))
      (all_kept es (half.step e s) h.1 u.1 k.1))

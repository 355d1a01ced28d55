-- A write changes RE at most once: its words are SCCR1's at most once.
use mathlib.Core.Path.{◌≡◌, refl, ap, sym, subst, ◌∙◌}
use mathlib.Core.Bool.{Bool, true, false, true≢false}
use mathlib.Core.List.{List, [], ◌∷◌, ◌++◌, append_assoc}
use Prim.Native.Nat.{ℕ, ◌/◌}
use native.Mathlib.Omega.{arith}
use lib.Dec.{eqb}
use Rattle.steps.specs.Bits.{merge}
use Rattle.sci.specs.model.Control.{RE, sccr0_bits}
use Rattle.sci.specs.model.Serial.{wrote_sccr0, sccr0_guarded}
use Rattle.sci.specs.claims.History.{Step, writesSccr0, writesScdr, step, run}
use Rattle.sci.specs.claims.Demand3.{Off}
use Rattle.sci.specs.declared.serial.Sci.{Sci}
use Rattle.sci.proofs.Frames.{by_cond}
use Rattle.sci.proofs.History.{run_append}
use Rattle.sci.proofs.Follow.{step_sccr1}
use Rattle.qsm.specs.model.Map.{decode}
use Rattle.qsm.specs.model.Access.{next}
use Rattle.qsm.specs.declared.map.SerialWord.TheVariants.{Sccr0, Sccr1, Scsr, Scdr}
use Rattle.qsm.specs.declared.map.Place.{Place}
use Rattle.qsm.specs.declared.map.Place.TheVariants.{Own, Serial, Queue, Hole}
use Rattle.qsm.proofs.Ranges.{at_word_holds}
use Rattle.claims_histories.proofs.Words.{word_steps, store_steps, is_sccr1, placed}

abbrev pub on : Sci → Bool
on s = RE s.sccr1

sccr0_kept : (v : ℕ) (upper lower : Bool) (s : Sci) → (step (writesSccr0 v upper lower) s).sccr1 ≡ s.sccr1
unfolding step wrote_sccr0
sccr0_kept v upper lower s =
    by_cond (λ (t : Sci). t.sccr1 ≡ s.sccr1) (sccr0_guarded s v upper lower) (λ e. refl)
    (λ e. by_cond (λ (t : Sci). t.sccr1 ≡ s.sccr1) (eqb (sccr0_bits (merge s.sccr0 v upper lower)) s.sccr0) (λ e. refl)
    (λ e. refl))

pub word_kept : (p : Place) (v : ℕ) (upper lower : Bool) (s : Sci) → is_sccr1 p ≡ false →
    (run (word_steps p v upper lower) s).sccr1 ≡ s.sccr1
unfolding run
word_kept (Own w) v upper lower s h = refl
word_kept (Serial Sccr0) v upper lower s h = sccr0_kept v upper lower s
word_kept (Serial Sccr1) v upper lower s h = absurd (true≢false h)
word_kept (Serial Scsr) v upper lower s h = refl
word_kept (Serial Scdr) v upper lower s h = step_sccr1 (writesScdr v upper lower) s refl
word_kept (Queue w) v upper lower s h = refl
word_kept Hole v upper lower s h = refl

word_off : (p : Place) (v : ℕ) (upper lower : Bool) (s : Sci) → on (run (word_steps p v upper lower) s) ≡ false →
    Off (word_steps p v upper lower) s
unfolding run
word_off (Own w) v upper lower s h = tt
word_off (Serial Sccr0) v upper lower s h = (h, tt)
word_off (Serial Sccr1) v upper lower s h = (h, tt)
word_off (Serial Scsr) v upper lower s h = tt
word_off (Serial Scdr) v upper lower s h = (h, tt)
word_off (Queue w) v upper lower s h = tt
word_off Hole v upper lower s h = tt

pub off_append : (es fs : List Step) (s : Sci) → Off es s → Off fs (run es s) → Off (es ++ fs) s
unfolding run
off_append [] fs s o p = p
off_append (e ∷ es) fs s o p = (o.0, off_append es fs (step e s) o.1 p)

-- After SCCR1 comes SCSR.
pub after_sccr1 : (at v : ℕ) (upper lower : Bool) → is_sccr1 (decode at) ≡ true → word_steps (decode (next at)) v upper lower ≡ []
after_sccr1 at v upper lower e =
    let five : at / 2 ≡ 5 = (placed at).sccr1 e in
    let six : next at / 2 ≡ 6 = omega (arith, five) in
    ap (λ (p : Place). word_steps p v upper lower) (at_word_holds 6 (next at) six)

-- RE rises at the last step, and is clear before it.
pub record Rise (es : List Step) (s : Sci) : Type 0 where
  pub before : List Step
  pub enable : Step
  pub split : es ≡ before ++ (enable ∷ [])
  pub off : Off before s

rise_none : (s : Sci) → on s ≡ false → on s ≡ true → Rise [] s
rise_none s h g = absurd (true≢false (sym g ∙ h))

rise_one : (e : Step) (s : Sci) → Rise (e ∷ []) s
rise_one e s = record { before = []; enable = e; split = refl; off = tt }

word_rise : (p : Place) (v : ℕ) (upper lower : Bool) (s : Sci) → on s ≡ false → on (run (word_steps p v upper lower) s) ≡ true →
    Rise (word_steps p v upper lower) s
unfolding run
word_rise (Own w) v upper lower s h g = rise_none s h g
word_rise (Serial Sccr0) v upper lower s h g = rise_one _ s
word_rise (Serial Sccr1) v upper lower s h g = rise_one _ s
word_rise (Serial Scsr) v upper lower s h g = rise_none s h g
word_rise (Serial Scdr) v upper lower s h g = rise_one _ s
word_rise (Queue w) v upper lower s h g = rise_none s h g
word_rise Hole v upper lower s h g = rise_none s h g

append_none : (es fs : List Step) → fs ≡ [] → es ≡ es ++ fs
append_none [] fs e = sym e
append_none (d ∷ es) fs e = ap (λ (gs : List Step). d ∷ gs) (append_none es fs e)

-- The middle of a long, by whether its first word is SCCR1.
middle_off : (b : Bool) (at v w : ℕ) (upper lower : Bool) (s : Sci) → is_sccr1 (decode at) ≡ b → on s ≡ false →
    on (run (word_steps (decode at) v upper lower ++ word_steps (decode (next at)) w upper lower) s) ≡ false →
    on (run (word_steps (decode at) v upper lower) s) ≡ false
middle_off true at v w upper lower s e h g =
    ap (λ (es : List Step). on (run es s)) (append_none (word_steps (decode at) v upper lower) _ (after_sccr1 at w upper lower e)) ∙ g
middle_off false at v w upper lower s e h g = ap RE (word_kept (decode at) v upper lower s e) ∙ h

pub store_off : (long : Bool) (at words : ℕ) (upper lower : Bool) (s : Sci) → on s ≡ false →
    on (run (store_steps long at words upper lower) s) ≡ false → Off (store_steps long at words upper lower) s
store_off false at words upper lower s h g = word_off (decode at) (words / 65536) upper lower s g
store_off true at words upper lower s h g =
    off_append (word_steps (decode at) (words / 65536) upper lower) _ s
    (word_off (decode at) (words / 65536) upper lower s (middle_off (is_sccr1 (decode at)) at _ _ upper lower s refl h g))
    (word_off (decode (next at)) _ upper lower _
    (ap on (sym (run_append (word_steps (decode at) (words / 65536) upper lower) _ s)) ∙ g))

first_on : (b : Bool) (at v w : ℕ) (upper lower : Bool) (s : Sci) → is_sccr1 (decode at) ≡ b → on s ≡ false →
    on (run (word_steps (decode at) v upper lower) s) ≡ true →
    Rise (word_steps (decode at) v upper lower ++ word_steps (decode (next at)) w upper lower) s
first_on true at v w upper lower s e h g =
    subst (λ (es : List Step). Rise es s)
    (append_none (word_steps (decode at) v upper lower) _ (after_sccr1 at w upper lower e))
    (word_rise (decode at) v upper lower s h g)
first_on false at v w upper lower s e h g =
    absurd (true≢false (sym g ∙ ap RE (word_kept (decode at) v upper lower s e) ∙ h))

rise_later : (es fs : List Step) (s : Sci) → Off es s → Rise fs (run es s) → Rise (es ++ fs) s
rise_later es fs s o r =
    record {
      before = es ++ r.before;
      enable = r.enable;
      split = ap (λ (gs : List Step). es ++ gs) r.split ∙ sym (append_assoc es r.before (r.enable ∷ []));
      off = off_append es r.before s o r.off;
    }

long_rise : (b : Bool) (at v w : ℕ) (upper lower : Bool) (s : Sci) → on (run (word_steps (decode at) v upper lower) s) ≡ b →
    on s ≡ false →
    on (run (word_steps (decode at) v upper lower ++ word_steps (decode (next at)) w upper lower) s) ≡ true →
    Rise (word_steps (decode at) v upper lower ++ word_steps (decode (next at)) w upper lower) s
long_rise true at v w upper lower s e h g = first_on (is_sccr1 (decode at)) at v w upper lower s refl h e
long_rise false at v w upper lower s e h g =
    rise_later (word_steps (decode at) v upper lower) _ s (word_off (decode at) v upper lower s e)
    (word_rise (decode (next at)) w upper lower _ e
    (ap on (sym (run_append (word_steps (decode at) v upper lower) _ s)) ∙ g))

pub store_rise : (long : Bool) (at words : ℕ) (upper lower : Bool) (s : Sci) → on s ≡ false →
    on (run (store_steps long at words upper lower) s) ≡ true → Rise (store_steps long at words upper lower) s
store_rise false at words upper lower s h g = word_rise (decode at) (words / 65536) upper lower s h g
store_rise true at words upper lower s h g = long_rise _ at _ _ upper lower s refl h g

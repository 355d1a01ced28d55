-- A part of the serial half that only one register's writes change: where an access leaves it as it was, so does each of the access's steps.
use mathlib.Core.Path.{◌≡◌, refl, ap, sym, ◌∙◌}
use mathlib.Core.Bool.{Bool, true, false, cond, true≢false}
use mathlib.Core.List.{List, [], ◌∷◌, ◌++◌}
use Prim.Native.Nat.{ℕ, ◌+◌, ◌*◌, ◌/◌, ◌%◌}
use native.Mathlib.Omega.{arith}
use lib.Dec.{eqb}
use Rattle.steps.specs.Bits.{merge}
use Rattle.sci.specs.model.Control.{RE, sccr0_bits, settings}
use Rattle.sci.specs.model.Serial.{data_written, wrote_sccr0, sccr1_word, with_sccr1, stopped, wrote_sccr1, sccr0_guarded, sccr1_guarded}
use Rattle.sci.specs.claims.History.{Step, reads, writesSccr0, writesSccr1, step, run}
use Rattle.sci.specs.declared.serial.Sci.{Sci}
use Rattle.sci.proofs.Frames.{by_cond}
use Rattle.sci.proofs.History.{run_append}
use Rattle.qsm.specs.model.Map.{decode}
use Rattle.qsm.specs.model.Lanes.{upper_lane, lower_lane, lined, touches}
use Rattle.qsm.specs.model.Access.{next}
use Rattle.qsm.specs.model.Decision.{permits, decide_write}
use Rattle.qsm.specs.declared.map.SerialWord.TheVariants.{Sccr0, Sccr1, Scsr, Scdr}
use Rattle.qsm.specs.declared.map.Place.{Place}
use Rattle.qsm.specs.declared.map.Place.TheVariants.{Own, Serial, Queue, Hole}
use Rattle.qsm.specs.declared.state.Module.{Module}
use Rattle.qsm.specs.declared.event.Access as bus
use Rattle.qsm.specs.declared.event.Access.TheVariants.{Read, Write}
use Rattle.qsm.specs.declared.event.Event.TheVariants as event
use Rattle.claims_histories.specs.History.{after, receiver_read}
use Rattle.claims_histories.proofs.Words.{word_steps, store_steps, is_sccr0, is_sccr1, placed}
use Rattle.claims_histories.proofs.Rise.{word_kept}
use Rattle.claims_histories.proofs.Follows.{write_steps, steps, follows, refuted}

-- The words of one register, `is`, which no long touches twice.
pub record Part {B : Type 0} (is : Place → Bool) (part : Sci → B) : Type 0 where
  pub unless : (p : Place) (v : ℕ) (upper lower : Bool) (s : Sci) → is p ≡ false → part (run (word_steps p v upper lower) s) ≡ part s
  pub once : (at : ℕ) → is (decode at) ≡ true → is (decode (next at)) ≡ false
  pub read : (scsr scdr : Bool) (s : Sci) → part (step (reads scsr scdr) s) ≡ part s

-- Each step leaves the part as it was.
abbrev pub Along : {B : Type 0} → (Sci → B) → List Step → Sci → Type 0
Along part [] s = Unit {0}
Along part (e ∷ es) s = (part (step e s) ≡ part s) × Along part es (step e s)

module _ {B : Type 0} (is : Place → Bool) (part : Sci → B) (k : Part is part) where
  along_append : (es fs : List Step) (s : Sci) → Along part es s → Along part fs (run es s) → Along part (es ++ fs) s
  unfolding run
  along_append [] fs s h g = g
  along_append (e ∷ es) fs s h g = (h.0, along_append es fs (step e s) h.1 g)

  word_along : (p : Place) (v : ℕ) (upper lower : Bool) (s : Sci) → part (run (word_steps p v upper lower) s) ≡ part s →
      Along part (word_steps p v upper lower) s
  unfolding run
  word_along (Own w) v upper lower s h = tt
  word_along (Serial Sccr0) v upper lower s h = (h, tt)
  word_along (Serial Sccr1) v upper lower s h = (h, tt)
  word_along (Serial Scsr) v upper lower s h = tt
  word_along (Serial Scdr) v upper lower s h = (h, tt)
  word_along (Queue w) v upper lower s h = tt
  word_along Hole v upper lower s h = tt

  -- Of a long's two words at most one changes the part, so that neither does.
  first_along : (b : Bool) (at v w : ℕ) (upper lower : Bool) (s : Sci) → is (decode at) ≡ b →
      part (run (word_steps (decode (next at)) w upper lower) (run (word_steps (decode at) v upper lower) s)) ≡ part s →
      part (run (word_steps (decode at) v upper lower) s) ≡ part s
  first_along true at v w upper lower s e h = sym (k.unless (decode (next at)) w upper lower _ (k.once at e)) ∙ h
  first_along false at v w upper lower s e h = k.unless (decode at) v upper lower s e

  store_along : (long : Bool) (at words : ℕ) (upper lower : Bool) (s : Sci) →
      part (run (store_steps long at words upper lower) s) ≡ part s → Along part (store_steps long at words upper lower) s
  store_along false at words upper lower s h = word_along (decode at) (words / 65536) upper lower s h
  store_along true at words upper lower s h =
      let es : List Step = word_steps (decode at) (words / 65536) upper lower in
      let fs : List Step = word_steps (decode (next at)) (words % 65536 * 65536 / 65536) upper lower in
      let g : part (run fs (run es s)) ≡ part s = ap part (sym (run_append es fs s)) ∙ h in
      let f : part (run es s) ≡ part s = first_along (is (decode at)) at _ _ upper lower s refl g in
      along_append es fs s (word_along (decode at) (words / 65536) upper lower s f)
      (word_along (decode (next at)) (words % 65536 * 65536 / 65536) upper lower (run es s) (g ∙ sym f))

  cond_along : (b : Bool) (es : List Step) (s : Sci) → (part (run es s) ≡ part s → Along part es s) →
      part (run (cond b es []) s) ≡ part s → Along part (cond b es []) s
  cond_along true es s f h = f h
  cond_along false es s f h = tt

  pub event_along : (a : bus.Access) (m : Module) → part (after (event.Access a) m).sci ≡ part m.sci →
      Along part (steps (event.Access a) m) m.sci
  event_along (Read supervisor width offset) m h =
      cond_along (receiver_read m supervisor width offset) _ m.sci
      (λ _. (k.read (touches 0x0C 2 width offset) (touches 0x0F 1 width offset) m.sci, tt))
      (ap part (sym (follows (event.Access (Read supervisor width offset)) m)) ∙ h)
  event_along (Write supervisor width offset value) m h =
      cond_along (permits (decide_write m supervisor width offset value)) (write_steps width offset value) m.sci
      (store_along (eqb width 4) offset (lined width value) (upper_lane width offset) (lower_lane width offset) m.sci)
      (ap part (sym (follows (event.Access (Write supervisor width offset value)) m)) ∙ h)

-- SCCR0.
pub rate_control : (v : ℕ) (upper lower : Bool) (s : Sci) → (step (writesSccr1 v upper lower) s).sccr0 ≡ s.sccr0
unfolding step wrote_sccr1
rate_control v upper lower s =
    by_cond (λ (t : Sci). t.sccr0 ≡ s.sccr0) (sccr1_guarded s v upper lower) (λ _. refl)
    (λ _. go (RE (merge (sccr1_word s) v upper lower)))
  where
    go : (b : Bool) → (stopped b (with_sccr1 s (merge (sccr1_word s) v upper lower))).sccr0 ≡ s.sccr0
    go true = refl
    go false = refl

pub rate_data : (lower : Bool) (s : Sci) (v : ℕ) (upper : Bool) → (data_written lower s v upper).sccr0 ≡ s.sccr0
rate_data true s v upper = refl
rate_data false s v upper = refl

rate_unless : (p : Place) (v : ℕ) (upper lower : Bool) (s : Sci) → is_sccr0 p ≡ false → (run (word_steps p v upper lower) s).sccr0 ≡ s.sccr0
unfolding run step
rate_unless (Own w) v upper lower s h = refl
rate_unless (Serial Sccr0) v upper lower s h = absurd (true≢false h)
rate_unless (Serial Sccr1) v upper lower s h = rate_control v upper lower s
rate_unless (Serial Scsr) v upper lower s h = refl
rate_unless (Serial Scdr) v upper lower s h = rate_data lower s v upper
rate_unless (Queue w) v upper lower s h = refl
rate_unless Hole v upper lower s h = refl

rate_once : (at : ℕ) → is_sccr0 (decode at) ≡ true → is_sccr0 (decode (next at)) ≡ false
rate_once at e =
    let four : at / 2 ≡ 4 = (placed at).sccr0 e in
    refuted (is_sccr0 (decode (next at)))
    (λ g. let again : (at + 2) % 65536 / 2 ≡ 4 = (placed (next at)).sccr0 g in omega (arith, four, again))

pub rate_part : Part is_sccr0 (λ (s : Sci). s.sccr0)
unfolding step
rate_part = record { unless = rate_unless; once = rate_once; read = λ scsr scdr s. refl }

-- SCCR1: the settings and RE in it, and RWU.
control_once : (at : ℕ) → is_sccr1 (decode at) ≡ true → is_sccr1 (decode (next at)) ≡ false
control_once at e =
    let five : at / 2 ≡ 5 = (placed at).sccr1 e in
    refuted (is_sccr1 (decode (next at)))
    (λ g. let again : (at + 2) % 65536 / 2 ≡ 5 = (placed (next at)).sccr1 g in omega (arith, five, again))

control_part : {B : Type 0} (part : ℕ → B) → Part is_sccr1 (λ (s : Sci). part s.sccr1)
unfolding step
control_part part =
    record {
      unless = λ p v upper lower s h. ap part (word_kept p v upper lower s h);
      once = control_once;
      read = λ scsr scdr s. refl;
    }

pub set_part : Part is_sccr1 (λ (s : Sci). settings s.sccr1)
set_part = control_part settings

pub on_part : Part is_sccr1 (λ (s : Sci). RE s.sccr1)
on_part = control_part RE

asleep_rate : (v : ℕ) (upper lower : Bool) (s : Sci) → (step (writesSccr0 v upper lower) s).receiver.asleep ≡ s.receiver.asleep
unfolding step wrote_sccr0
asleep_rate v upper lower s =
    by_cond (λ (t : Sci). t.receiver.asleep ≡ s.receiver.asleep) (sccr0_guarded s v upper lower) (λ _. refl)
    (λ _. by_cond (λ (t : Sci). t.receiver.asleep ≡ s.receiver.asleep)
    (eqb (sccr0_bits (merge s.sccr0 v upper lower)) s.sccr0) (λ _. refl) (λ _. refl))

pub asleep_data : (lower : Bool) (s : Sci) (v : ℕ) (upper : Bool) → (data_written lower s v upper).receiver.asleep ≡ s.receiver.asleep
asleep_data true s v upper = refl
asleep_data false s v upper = refl

asleep_unless : (p : Place) (v : ℕ) (upper lower : Bool) (s : Sci) → is_sccr1 p ≡ false →
    (run (word_steps p v upper lower) s).receiver.asleep ≡ s.receiver.asleep
unfolding run step
asleep_unless (Own w) v upper lower s h = refl
asleep_unless (Serial Sccr0) v upper lower s h = asleep_rate v upper lower s
asleep_unless (Serial Sccr1) v upper lower s h = absurd (true≢false h)
asleep_unless (Serial Scsr) v upper lower s h = refl
asleep_unless (Serial Scdr) v upper lower s h = asleep_data lower s v upper
asleep_unless (Queue w) v upper lower s h = refl
asleep_unless Hole v upper lower s h = refl

pub asleep_part : Part is_sccr1 (λ (s : Sci). s.receiver.asleep)
unfolding step
asleep_part = record { unless = asleep_unless; once = control_once; read = λ scsr scdr s. refl }

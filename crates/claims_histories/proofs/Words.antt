-- The words of an access, as the serial half gets them.
use mathlib.Core.Path.{◌≡◌, refl, ap, sym, ◌∙◌}
use mathlib.Core.Bool.{Bool, true, false, cond, ◌||◌, true≢false, false≢true}
use mathlib.Core.List.{List, [], ◌∷◌, ◌++◌}
use Prim.Native.Nat.{ℕ, ◌<◌, ◌*◌, ◌/◌, ◌%◌}
use native.Mathlib.Omega.{arith}
use Rattle.steps.specs.Iterate.{iterate}
use Rattle.sci.specs.model.Serial.{data_written}
use Rattle.sci.specs.claims.History.{Step, writesSccr0, writesSccr1, writesScdr, step, run, ops, watched, Unbroken}
use Rattle.sci.specs.claims.Overrun.{log}
use Rattle.sci.specs.declared.serial.Sci.{Sci}
use Rattle.sci.proofs.Frames.{by_cond}
use Rattle.sci.proofs.History.{run_append, ops_append, watched_append, log_append, writes_sccr0, writes_sccr1}
use Rattle.qsm.specs.model.Map.{from, decode, mapped}
use Rattle.qsm.specs.model.Own.{put_own}
use Rattle.qsm.specs.model.Serial.{put_serial, serial_guarded}
use Rattle.qsm.specs.model.Word.{put, guarded}
use Rattle.qsm.specs.model.Access.{next, store, stored}
use Rattle.qsm.specs.declared.map.OwnWord.{OwnWord}
use Rattle.qsm.specs.declared.map.OwnWord.TheVariants.{Qsmcr, QilrQivr, Portqs, PqsparDdrqs}
use Rattle.qsm.specs.declared.map.SerialWord.{SerialWord}
use Rattle.qsm.specs.declared.map.SerialWord.TheVariants.{Sccr0, Sccr1, Scsr, Scdr}
use Rattle.qsm.specs.declared.map.Place.{Place}
use Rattle.qsm.specs.declared.map.Place.TheVariants.{Own, Serial, Queue, Hole}
use Rattle.qsm.specs.declared.state.Module.{Module}
use Rattle.qsm.proofs.Ranges.{bounds}

abbrev pub serial_steps : SerialWord → ℕ → Bool → Bool → List Step
serial_steps Sccr0 v upper lower = writesSccr0 v upper lower ∷ []
serial_steps Sccr1 v upper lower = writesSccr1 v upper lower ∷ []
serial_steps Scsr v upper lower = []
serial_steps Scdr v upper lower = writesScdr v upper lower ∷ []

abbrev pub word_steps : Place → ℕ → Bool → Bool → List Step
word_steps (Own w) v upper lower = []
word_steps (Serial w) v upper lower = serial_steps w v upper lower
word_steps (Queue w) v upper lower = []
word_steps Hole v upper lower = []

-- One word, or two.
abbrev pub store_steps : Bool → ℕ → ℕ → Bool → Bool → List Step
store_steps false at words upper lower = word_steps (decode at) (words / 65536) upper lower
store_steps true at words upper lower =
    word_steps (decode at) (words / 65536) upper lower
    ++ word_steps (decode (next at)) (words % 65536 * 65536 / 65536) upper lower

-- What a word that is not guarded makes of the serial half.
own_sci : (m : Module) (w : OwnWord) (v : ℕ) (upper lower : Bool) → (put_own m w v upper lower).sci ≡ m.sci
unfolding put_own
own_sci m Qsmcr v upper lower = refl
own_sci m QilrQivr v upper lower = refl
own_sci m Portqs v upper lower = refl
own_sci m PqsparDdrqs v upper lower = refl

writes_scdr : (s : Sci) (v : ℕ) (upper lower : Bool) →
    step (writesScdr v upper lower) s ≡ data_written lower s v upper
unfolding step
writes_scdr s v upper lower = refl

serial_follows : (s : Sci) (w : SerialWord) (v : ℕ) (upper lower : Bool) → serial_guarded s w v upper lower ≡ false →
    put_serial s w v upper lower ≡ run (serial_steps w v upper lower) s
unfolding put_serial serial_guarded run
serial_follows s Sccr0 v upper lower g = sym (writes_sccr0 s v upper lower g)
serial_follows s Sccr1 v upper lower g = sym (writes_sccr1 s v upper lower g)
serial_follows s Scsr v upper lower g = refl
serial_follows s Scdr v upper lower g = sym (writes_scdr s v upper lower)

word_follows : (m : Module) (p : Place) (v : ℕ) (upper lower : Bool) → guarded m p v upper lower ≡ false →
    (put m p v upper lower).sci ≡ run (word_steps p v upper lower) m.sci
unfolding put guarded run
word_follows m (Own w) v upper lower g = own_sci m w v upper lower
word_follows m (Serial w) v upper lower g = serial_follows m.sci w v upper lower g
word_follows m (Queue w) v upper lower g = refl
word_follows m Hole v upper lower g = refl

neither_left : (a b : Bool) → a || b ≡ false → a ≡ false
neither_left true b e = e
neither_left false b e = refl

neither_right : (a b : Bool) → a || b ≡ false → b ≡ false
neither_right true b e = absurd (true≢false e)
neither_right false b e = e

pub stored_follows : (long : Bool) (m : Module) (at words : ℕ) (upper lower : Bool) →
    (stored m at (cond long 2 1) words upper lower).guarded ≡ false →
    (stored m at (cond long 2 1) words upper lower).state.sci ≡ run (store_steps long at words upper lower) m.sci
unfolding stored store iterate
stored_follows false m at words upper lower g = word_follows m (decode at) (words / 65536) upper lower g
stored_follows true m at words upper lower g =
    let first = put m (decode at) (words / 65536) upper lower in
    let g₁ : guarded m (decode at) (words / 65536) upper lower ≡ false =
    neither_left (guarded m (decode at) (words / 65536) upper lower) _ g in
    let g₂ : guarded first (decode (next at)) (words % 65536 * 65536 / 65536) upper lower ≡ false =
    neither_right (guarded m (decode at) (words / 65536) upper lower) _ g in
    word_follows first (decode (next at)) (words % 65536 * 65536 / 65536) upper lower g₂
    ∙ ap (run (word_steps (decode (next at)) (words % 65536 * 65536 / 65536) upper lower))
    (word_follows m (decode at) (words / 65536) upper lower g₁)
    ∙ sym (run_append (word_steps (decode at) (words / 65536) upper lower) _ m.sci)

-- A write takes no sample and reads nothing.
word_ops : (p : Place) (v : ℕ) (upper lower : Bool) (s : Sci) → ops (word_steps p v upper lower) s ≡ []
unfolding ops
word_ops (Own w) v upper lower s = refl
word_ops (Serial Sccr0) v upper lower s = refl
word_ops (Serial Sccr1) v upper lower s = refl
word_ops (Serial Scsr) v upper lower s = refl
word_ops (Serial Scdr) v upper lower s = refl
word_ops (Queue w) v upper lower s = refl
word_ops Hole v upper lower s = refl

word_watched : (p : Place) (v : ℕ) (upper lower : Bool) (s : Sci) → watched (word_steps p v upper lower) s ≡ []
unfolding watched
word_watched (Own w) v upper lower s = refl
word_watched (Serial Sccr0) v upper lower s = refl
word_watched (Serial Sccr1) v upper lower s = refl
word_watched (Serial Scsr) v upper lower s = refl
word_watched (Serial Scdr) v upper lower s = refl
word_watched (Queue w) v upper lower s = refl
word_watched Hole v upper lower s = refl

word_log : (p : Place) (v : ℕ) (upper lower : Bool) (s : Sci) → log (word_steps p v upper lower) s ≡ []
unfolding log
word_log (Own w) v upper lower s = refl
word_log (Serial Sccr0) v upper lower s = refl
word_log (Serial Sccr1) v upper lower s = refl
word_log (Serial Scsr) v upper lower s = refl
word_log (Serial Scdr) v upper lower s = refl
word_log (Queue w) v upper lower s = refl
word_log Hole v upper lower s = refl

pub store_ops : (long : Bool) (at words : ℕ) (upper lower : Bool) (s : Sci) → ops (store_steps long at words upper lower) s ≡ []
store_ops false at words upper lower s = word_ops (decode at) (words / 65536) upper lower s
store_ops true at words upper lower s =
    ops_append (word_steps (decode at) (words / 65536) upper lower) _ s
    ∙ rw (word_ops (decode at) (words / 65536) upper lower s) (word_ops (decode (next at)) _ upper lower _)

pub store_watched : (long : Bool) (at words : ℕ) (upper lower : Bool) (s : Sci) →
    watched (store_steps long at words upper lower) s ≡ []
store_watched false at words upper lower s = word_watched (decode at) (words / 65536) upper lower s
store_watched true at words upper lower s =
    watched_append (word_steps (decode at) (words / 65536) upper lower) _ s
    ∙ rw (word_watched (decode at) (words / 65536) upper lower s) (word_watched (decode (next at)) _ upper lower _)

pub store_log : (long : Bool) (at words : ℕ) (upper lower : Bool) (s : Sci) → log (store_steps long at words upper lower) s ≡ []
store_log false at words upper lower s = word_log (decode at) (words / 65536) upper lower s
store_log true at words upper lower s =
    log_append (word_steps (decode at) (words / 65536) upper lower) _ s
    ∙ rw (word_log (decode at) (words / 65536) upper lower s) (word_log (decode (next at)) _ upper lower _)

-- Where the counted registers stand, and where the map ends.
abbrev pub is_sccr0 : Place → Bool
is_sccr0 (Own w) = false
is_sccr0 (Serial Sccr0) = true
is_sccr0 (Serial Sccr1) = false
is_sccr0 (Serial Scsr) = false
is_sccr0 (Serial Scdr) = false
is_sccr0 (Queue w) = false
is_sccr0 Hole = false

abbrev pub is_sccr1 : Place → Bool
is_sccr1 (Own w) = false
is_sccr1 (Serial Sccr0) = false
is_sccr1 (Serial Sccr1) = true
is_sccr1 (Serial Scsr) = false
is_sccr1 (Serial Scdr) = false
is_sccr1 (Queue w) = false
is_sccr1 Hole = false

-- Where a byte stands whose place is SCCR0, SCCR1 or in the map at all.
pub record Placed (b : ℕ) (p : Place) : Type 0 where
  pub sccr0 : is_sccr0 p ≡ true → b / 2 ≡ 4
  pub sccr1 : is_sccr1 p ≡ true → b / 2 ≡ 5
  pub inside : mapped p ≡ true → b < 0x150

no : {A : Type 0} → false ≡ true → A
no e = absurd (false≢true e)

at_other : (first last b : ℕ) (p : Place) → is_sccr0 p ≡ false → is_sccr1 p ≡ false → last < 0x150 → from first last b ≡ true → Placed b p
at_other first last b p h₀ h₁ h e =
    record {
      sccr0 = λ t. absurd (true≢false (sym t ∙ h₀));
      sccr1 = λ t. absurd (true≢false (sym t ∙ h₁));
      inside = λ _. omega (arith, h, bounds first last b e);
    }

pub placed : (b : ℕ) → Placed b (decode b)
unfolding decode
placed b =
    by_cond (Placed b) (from 0x00 0x01 b) (at_other 0x00 0x01 b _ refl refl (omega arith))
    (λ _. by_cond (Placed b) (from 0x04 0x05 b) (at_other 0x04 0x05 b _ refl refl (omega arith))
    (λ _. by_cond (Placed b) (from 0x08 0x09 b)
    (λ e. record { sccr0 = λ _. omega (arith, bounds 0x08 0x09 b e); sccr1 = no; inside = λ _. omega (arith, bounds 0x08 0x09 b e) })
    (λ _. by_cond (Placed b) (from 0x0A 0x0B b)
    (λ e. record { sccr0 = no; sccr1 = λ _. omega (arith, bounds 0x0A 0x0B b e); inside = λ _. omega (arith, bounds 0x0A 0x0B b e) })
    (λ _. by_cond (Placed b) (from 0x0C 0x0D b) (at_other 0x0C 0x0D b _ refl refl (omega arith))
    (λ _. by_cond (Placed b) (from 0x0E 0x0F b) (at_other 0x0E 0x0F b _ refl refl (omega arith))
    (λ _. by_cond (Placed b) (from 0x14 0x15 b) (at_other 0x14 0x15 b _ refl refl (omega arith))
    (λ _. by_cond (Placed b) (from 0x16 0x17 b) (at_other 0x16 0x17 b _ refl refl (omega arith))
    (λ _. by_cond (Placed b) (from 0x18 0x19 b) (at_other 0x18 0x19 b _ refl refl (omega arith))
    (λ _. by_cond (Placed b) (from 0x1A 0x1B b) (at_other 0x1A 0x1B b _ refl refl (omega arith))
    (λ _. by_cond (Placed b) (from 0x1C 0x1D b) (at_other 0x1C 0x1D b _ refl refl (omega arith))
    (λ _. by_cond (Placed b) (from 0x1E 0x1F b) (at_other 0x1E 0x1F b _ refl refl (omega arith))
    (λ _. by_cond (Placed b) (from 0x100 0x11F b) (at_other 0x100 0x11F b _ refl refl (omega arith))
    (λ _. by_cond (Placed b) (from 0x120 0x13F b) (at_other 0x120 0x13F b _ refl refl (omega arith))
    (λ _. by_cond (Placed b) (from 0x140 0x14F b) (at_other 0x140 0x14F b _ refl refl (omega arith))
    (λ _. record { sccr0 = no; sccr1 = no; inside = no })))))))))))))))

-- A word that is neither SCCR0 nor SCCR1 breaks nothing.
pub word_unbroken : (p : Place) (v : ℕ) (upper lower : Bool) (s : Sci) → is_sccr0 p ≡ false → is_sccr1 p ≡ false →
    Unbroken (word_steps p v upper lower) s
word_unbroken (Own w) v upper lower s h₀ h₁ = tt
word_unbroken (Serial Sccr0) v upper lower s h₀ h₁ = absurd (true≢false h₀)
word_unbroken (Serial Sccr1) v upper lower s h₀ h₁ = absurd (true≢false h₁)
word_unbroken (Serial Scsr) v upper lower s h₀ h₁ = tt
word_unbroken (Serial Scdr) v upper lower s h₀ h₁ = (refl, tt)
word_unbroken (Queue w) v upper lower s h₀ h₁ = tt
word_unbroken Hole v upper lower s h₀ h₁ = tt

-- Refusal 9, exactly when. Assumes nothing.
use mathlib.Core.Path.{◌≡◌, refl, sym, ap, subst, ◌∙◌}
use mathlib.Core.Bool.{Bool, true, false, cond, not, ◌&&◌, ◌||◌, false≢true}
use Prim.Native.Nat.{ℕ, ◌+◌, ◌/◌, ◌%◌}
use native.Mathlib.Omega.{arith}
use lib.Dec.{eqb}
use borrow.Author.Tests.{eqb-true, eqb-false}
use Rattle.steps.specs.Bits.{bit, merge}
use Rattle.qspi.specs.model.Outputs.{enabled}
use Rattle.qsm.specs.model.Map.{decode}
use Rattle.qsm.specs.model.Lanes.{upper_lane, lower_lane, lined, in_map}
use Rattle.qsm.specs.model.Decision.{shaped, fits, barred, permits, gate, admitted, decide_read}
use Rattle.qsm.specs.model.Event.{answer_of}
use Rattle.qsm.specs.declared.state.Module.{Module}
use Rattle.qsm.specs.declared.event.Access as access
use Rattle.qsm.specs.declared.event.Access.TheVariants.{Read, Write}
use Rattle.qsm.specs.declared.event.Event.TheVariants as event
use Rattle.drivers.specs.State.{holds as holding, begun}
use Rattle.drivers.specs.Reach.{reaches_word, reaches, fit, writes_spcr1, writes_spcr2, writes_word, writes, allows, admits}
use Rattle.drivers.specs.Event.{told, played, refuses, restarted, does, step}
use Rattle.drivers.specs.Claims.{reached, every, SPCR1, SPCR2, changes_delays, sets_unfit, leaves_unfit, half_while_on, disorderly, outside, nine, Exactly, Unchanged}
use Rattle.drivers.specs.declared.state.Driver.{Driver}
use Rattle.drivers.specs.declared.state.Shared.{Shared}
use Rattle.drivers.specs.declared.event.Event.{Event}
use Rattle.drivers.specs.declared.event.Event.TheVariants.{Reset, Hold, Access, Drive, Claim, Release}
use Rattle.drivers.specs.declared.event.Stepped.{Stepped}
use Rattle.drivers.proofs.Below.{not_nine}
use Rattle.drivers.proofs.Reached.{and_true, even_byte, odd_byte, one_word, written_at}

-- ---- the shape of an access that comes to refusal 9

and_left : (a b : Bool) → a && b ≡ true → a ≡ true
and_left true b h = refl
and_left false b h = h

gate_shaped : (s m b : Bool) → permits (gate s m b) ≡ true → s ≡ true
gate_shaped true m b h = refl
gate_shaped false m b h = h

pub read_shaped : (m : Module) (s : Bool) (w o : ℕ) → admits m (Read s w o) ≡ true → shaped w o ≡ true
unfolding admits decide_read admitted
read_shaped m s w o h = gate_shaped (shaped w o) (in_map w o) (barred m s w o) h

pub write_shaped : (m : Module) (s : Bool) (w o v : ℕ) → admits m (Write s w o v) ≡ true → shaped w o ≡ true
unfolding admits admitted
write_shaped m s w o v h =
    and_left (shaped w o) (fits w v) (gate_shaped (shaped w o && fits w v) (in_map w o) (barred m s w o) h)

-- A byte, or an even word or long.
shapes :
    (P : ℕ → Type 0) (o : ℕ) → P 1 → (o % 2 ≡ 0 → P 2) → (o % 2 ≡ 0 → P 4) → (t u v e : Bool) (w : ℕ) →
    eqb w 1 ≡ t → eqb w 2 ≡ u → eqb w 4 ≡ v → eqb (o % 2) 0 ≡ e → t || ((u || v) && e) ≡ true → P w
shapes P o one two four true u v e w is₁ is₂ is₄ even h = subst P (sym (eqb-true w 1 is₁)) one
shapes P o one two four false true v true w is₁ is₂ is₄ even h = subst P (sym (eqb-true w 2 is₂)) (two (eqb-true (o % 2) 0 even))
shapes P o one two four false false true true w is₁ is₂ is₄ even h = subst P (sym (eqb-true w 4 is₄)) (four (eqb-true (o % 2) 0 even))
shapes P o one two four false true v false w is₁ is₂ is₄ even h = absurd (false≢true h)
shapes P o one two four false false true false w is₁ is₂ is₄ even h = absurd (false≢true h)
shapes P o one two four false false false e w is₁ is₂ is₄ even h = absurd (false≢true h)

pub by_shape : (P : ℕ → Type 0) (w o : ℕ) → P 1 → (o % 2 ≡ 0 → P 2) → (o % 2 ≡ 0 → P 4) → shaped w o ≡ true → P w
by_shape P w o one two four h =
    shapes P o one two four (eqb w 1) (eqb w 2) (eqb w 4) (eqb (o % 2) 0) w refl refl refl refl h

-- ---- every byte touched

in_word : (a b : Bool) → (a && b) && true ≡ a && (b && true)
in_word true b = refl
in_word false b = refl

in_long : (a b c d : Bool) → (a && b) && (c && d) ≡ a && (b && (c && (d && true)))
in_long true true c d = ap (λ (x : Bool). c && x) (sym (and_true d))
in_long true false c d = refl
in_long false b c d = refl

module _ (d : Shared) (who : Driver) where
  abbrev c : Bool
  c = holding d who

  abbrev r : ℕ → Bool
  r = reached d.split who c

  one_byte : (e : Bool) (o : ℕ) → eqb (o % 2) 0 ≡ e →
      reaches_word d.split who c (decode o) (upper_lane 1 o) (lower_lane 1 o) ≡ r o
  one_byte true o is =
      let even : o % 2 ≡ 0 = eqb-true (o % 2) 0 is in
      rw even (even_byte d.split who c o even)
  one_byte false o is =
      let isnt : o % 2 ≡ 0 → ⊥ = eqb-false (o % 2) 0 is in
      let odd : o % 2 ≡ 1 = omega (arith, isnt) in
      rw odd (odd_byte d.split who c o odd)

  pub by_bytes : (w o : ℕ) → shaped w o ≡ true → reaches d who w o ≡ every r o w
  unfolding reaches
  by_bytes w o =
      let third : o + 2 ≡ o + 1 + 1 = omega arith in
      let fourth : o + 2 + 1 ≡ o + 1 + 1 + 1 = omega arith in
      by_shape (λ (w : ℕ). reaches d who w o ≡ every r o w) w o
      (ap (λ (x : Bool). x && true) (one_byte (eqb (o % 2) 0) o refl))
      (λ even. ap (λ (x : Bool). x && true) (one_word d.split who c o even) ∙ in_word (r o) (r (o + 1)))
      (λ even.
      let second : (o + 2) % 2 ≡ 0 = omega arith in
      ap (λ (x : Bool). x && reaches_word d.split who c (decode (o + 2)) true true) (one_word d.split who c o even)
      ∙ ap (λ (x : Bool). (r o && r (o + 1)) && x) (one_word d.split who c (o + 2) second)
      ∙ in_long (r o) (r (o + 1)) (r (o + 2)) (r (o + 2 + 1))
      ∙ ap (λ (k : ℕ). r o && (r (o + 1) && (r k && (r (o + 2 + 1) && true)))) third
      ∙ ap (λ (k : ℕ). r o && (r (o + 1) && (r (o + 1 + 1) && (r k && true)))) fourth)

-- ---- a word in order

refuted : (a b c : Bool) → not (a && (not b || c)) ≡ not a || (b && not c)
refuted false b c = refl
refuted true true c = refl
refuted true false c = refl

chosen : (t u : Bool) (a b a' b' : Bool) → not a ≡ a' → not b ≡ b' → not (cond t a (cond u b true)) ≡ cond t a' (cond u b' false)
chosen true u a b a' b' h k = h
chosen false true a b a' b' h k = k
chosen false false a b a' b' h k = refl

pub in_order : (d : Shared) (who : Driver) (b v : ℕ) (u l : Bool) →
    not (writes_word d.split who d.qsm.qspi.registers (decode b) v u l) ≡ disorderly d who b v u l
in_order d who b v u l =
    ap not (written_at d.split who d.qsm.qspi.registers v u l b)
    ∙ chosen (eqb (b / 2) 13) (eqb (b / 2) 14) (writes_spcr1 d.split who d.qsm.qspi.registers v u l)
    (writes_spcr2 d.split who d.qsm.qspi.registers v u l) (changes_delays d v u l || sets_unfit d who v u)
    (leaves_unfit d who v u l || half_while_on d u l)
    (refuted (eqb (merge (SPCR1 d) v u l % 32768) (SPCR1 d % 32768)) (u && bit 15 v) (fit d.split who (SPCR2 d)))
    (refuted (fit d.split who (merge (SPCR2 d) v u l)) (bit 15 (SPCR1 d)) (u && l))

-- ---- an access

not_read : (x y : Bool) → not (x && y) ≡ not x || not y
not_read true y = refl
not_read false y = refl

not_written : (x y p e q : Bool) → not ((x && y) && (p && (not e || q))) ≡ not x || (not y || (not p || (e && not q)))
not_written false y p e q = refl
not_written true false p e q = refl
not_written true true false e q = refl
not_written true true true true q = refl
not_written true true true false q = refl

pub outside_is : (d : Shared) (who : Driver) (a : access.Access) → admits d.qsm a ≡ true →
    not (allows d who a) ≡ not (begun d) || outside d who a
unfolding allows writes
outside_is d who (Read s w o) h =
    rw (by_bytes d who w o (read_shaped d.qsm s w o h)) (not_read (begun d) (every (reached d.split who (holding d who)) o w))
outside_is d who (Write s w o v) h =
    rw (
      by_bytes d who w o (write_shaped d.qsm s w o v h),
      ← in_order d who o (lined w v / 65536) (upper_lane w o) (lower_lane w o),
      ← in_order d who (o + 2) (lined w v % 65536) (upper_lane w o) (lower_lane w o),
    )
    (not_written (begun d) (every (reached d.split who (holding d who)) o w)
    (writes_word d.split who d.qsm.qspi.registers (decode o) (lined w v / 65536) (upper_lane w o) (lower_lane w o)) (eqb w 4)
    (writes_word d.split who d.qsm.qspi.registers (decode (o + 2)) (lined w v % 65536) (upper_lane w o) (lower_lane w o)))

comes : (t : Bool) (d : Shared) (who : Driver) (a : access.Access) → admits d.qsm a ≡ t →
    t && not (allows d who a) ≡ t && (not (begun d) || outside d who a)
comes true d who a h = outside_is d who a h
comes false d who a h = refl

or_assoc : (a b c : Bool) → (a || b) || c ≡ a || (b || c)
or_assoc true b c = refl
or_assoc false b c = refl

pub refuses_is : (d : Shared) (e : Event) → refuses d e ≡ nine d e
unfolding refuses
refuses_is d (Reset s) = refl
refuses_is d (Hold pins rxd n) = refl
refuses_is d (Access a) = refl
refuses_is d (Drive who a) = comes (admits d.qsm a) d who a refl
refuses_is d (Claim who) = refl
refuses_is d (Release who) = or_assoc (not (begun d)) (not (holding d who)) (enabled d.qsm.qspi)

-- ---- the answer

does_other : (d : Shared) (e : Event) → eqb (does d e).answer.refusal 9 ≡ false
unfolding does restarted played told answer_of
does_other d (Reset s) = not_nine _ event.Reset
does_other d (Hold pins rxd n) = not_nine d.qsm (event.Hold pins rxd n)
does_other d (Access a) = not_nine d.qsm (event.Access a)
does_other d (Drive who a) = not_nine d.qsm (event.Access a)
does_other d (Claim who) = refl
does_other d (Release who) = refl

answered : (t : Bool) (d : Shared) (e : Event) → refuses d e ≡ t → eqb (step d e).answer.refusal 9 ≡ t
unfolding step told answer_of
answered true d e h = rw h
answered false d e h = rw h (does_other d e)

pub exactly : Exactly
exactly d e = answered (refuses d e) d e refl ∙ refuses_is d e

pub refused : (d : Shared) (e : Event) → nine d e ≡ true → step d e ≡ told d 9
unfolding step
refused d e h = rw (refuses_is d e, h)

pub done : (d : Shared) (e : Event) → nine d e ≡ false → step d e ≡ does d e
unfolding step
done d e h = rw (refuses_is d e, h)

pub unchanged : Unchanged
unfolding told
unchanged d e h = (ap (λ (s : Stepped). s.state) (refused d e h), ap (λ (s : Stepped). s.answer) (refused d e h))

-- A reset, a write of SCCR0 and one of SCCR1 with RE: the rate and the settings are those asked for. Assumes nothing.
use mathlib.Core.Path.{◌≡◌, refl, ap, sym, ◌∙◌}
use mathlib.Core.Bool.{Bool, true, false}
use mathlib.Core.List.{[], ◌∷◌}
use Prim.Native.Nat.{ℕ, ◌+◌, ◌*◌, ◌/◌, ◌%◌, ◌^◌, ◌<◌}
use native.Mathlib.Omega.{arith}
use lib.Dec.{eqb}
use borrow.Author.Tests.{lt-ltb, eqb-true}
use Rattle.steps.specs.Bits.{merge}
use Rattle.steps.specs.Iterate.{iterate}
use Rattle.sci.specs.model.Control.{RE, sccr0_bits, sccr1_bits, settings}
use Rattle.sci.specs.model.Control as control
use Rattle.sci.specs.model.Serial.{reset_sci, active, sccr0_set, wrote_sccr0, wrote_sccr1, sccr0_guarded, sccr1_guarded}
use Rattle.sci.specs.claims.History.{writesSccr0, writesSccr1}
use Rattle.sci.specs.claims.History as sci
use Rattle.sci.specs.declared.serial.Sci.{Sci}
use Rattle.qsm.specs.model.Map.{decode}
use Rattle.qsm.specs.model.Lanes.{in_map}
use Rattle.qsm.specs.model.Word.{unmodelled, guarded}
use Rattle.qsm.specs.model.Serial.{serial_unmodelled, serial_guarded}
use Rattle.qsm.specs.model.Access.{store, stored}
use Rattle.qsm.specs.model.Decision.{permits, admitted, stored_by, decide_stored, decide_write}
use Rattle.qsm.specs.declared.state.Module.{Module}
use Rattle.qsm.specs.declared.event.Access.TheVariants.{Write}
use Rattle.qsm.specs.declared.event.Event.{Event}
use Rattle.qsm.specs.declared.event.Event.TheVariants as event
use Rattle.claims_histories.proofs.Follows.{steps}

-- SCCR0 and SCCR1 written as words while the serial half isn't active.
permits_rate : (m : Module) (v : ℕ) → v < 65536 → active m.sci ≡ false → permits (decide_write m true 2 0x08 v) ≡ true
unfolding decide_write decide_stored admitted in_map decode stored_by stored store iterate unmodelled guarded serial_unmodelled serial_guarded sccr0_guarded
permits_rate m v l a = rw (lt-ltb v 65536 l, a)

permits_control : (m : Module) (v : ℕ) → v < 65536 → control.unmodelled (v % 65536 * 65536 / 65536) true true ≡ false → active m.sci ≡ false →
    permits (decide_write m true 2 0x0A v) ≡ true
unfolding decide_write decide_stored admitted in_map decode stored_by stored store iterate unmodelled guarded serial_unmodelled serial_guarded sccr1_guarded
permits_control m v l u a = rw (lt-ltb v 65536 l, a, u)

abbrev pub rate : ℕ → Event
rate b = event.Access (Write true 2 0x08 b)

abbrev pub enable : ℕ → Event
enable v = event.Access (Write true 2 0x0A v)

-- A word on its lanes.
abbrev pub on_lanes : ℕ → ℕ
on_lanes v = v % 65536 * 65536 / 65536

lanes : (v : ℕ) → v < 65536 → on_lanes v ≡ v
lanes v l = omega arith

bytes : (v : ℕ) → v < 65536 → v / 256 % 256 * 256 + v % 256 ≡ v
bytes v l = omega arith

whole : (v : ℕ) → v < 65536 → on_lanes v / 256 % 256 * 256 + on_lanes v % 256 ≡ v
whole v l = ap (λ (w : ℕ). w / 256 % 256 * 256 + w % 256) (lanes v l) ∙ bytes v l

pub rate_steps : (m : Module) (b : ℕ) → b < 65536 → active m.sci ≡ false → steps (rate b) m ≡ writesSccr0 (on_lanes b) true true ∷ []
unfolding decode
rate_steps m b l a = rw (permits_rate m b l a)

pub enable_steps : (m : Module) (v : ℕ) → v < 65536 → control.unmodelled (on_lanes v) true true ≡ false → active m.sci ≡ false →
    steps (enable v) m ≡ writesSccr1 (on_lanes v) true true ∷ []
unfolding decode
enable_steps m v l u a = rw (permits_control m v l u a)

-- After a reset and a write of SCCR0.
pub record Rated (b : ℕ) (s : Sci) : Type 0 where
  pub rate : s.sccr0 ≡ b
  pub off : RE s.sccr1 ≡ false
  pub count : s.prescaler ≡ 0
  pub still : active s ≡ false

abbrev new_rate : ℕ → ℕ
new_rate b = sccr0_bits (merge 4 (on_lanes b) true true)

new_rate_holds : (b : ℕ) → b < 8192 → new_rate b ≡ b
new_rate_holds b l = ap sccr0_bits (whole b (omega arith)) ∙ omega arith

pub rated : (b : ℕ) → b < 8192 → Rated b (sci.step (writesSccr0 (on_lanes b) true true) reset_sci)
unfolding sci.step sccr0_guarded wrote_sccr0
rated b l = go (eqb (new_rate b) 4) refl
  where
    go : (e : Bool) → eqb (new_rate b) 4 ≡ e → Rated b (sccr0_set e reset_sci (new_rate b))
    go true e = record { rate = sym (eqb-true (new_rate b) 4 e) ∙ new_rate_holds b l; off = refl; count = refl; still = refl }
    go false e = record { rate = new_rate_holds b l; off = refl; count = refl; still = refl }

-- And of SCCR1, with RE: ILT, PT, PE, M and WAKE as in c.
abbrev pub written : ℕ → ℕ
written c = settings c * 256 + 4

pub record Enabled (b c : ℕ) (s : Sci) : Type 0 where
  pub rate : s.sccr0 ≡ b
  pub on : RE s.sccr1 ≡ true
  pub awake : s.receiver.asleep ≡ false
  pub equal : settings s.sccr1 ≡ settings c
  pub count : s.prescaler ≡ 0

pub modelled : (c : ℕ) → control.unmodelled (on_lanes (written c)) true true ≡ false
modelled c =
    let a : on_lanes (written c) / 2 ^ 14 % 2 ≡ 0 = omega arith in
    let b : on_lanes (written c) / 2 ^ 13 % 2 ≡ 0 = omega arith in
    let d : on_lanes (written c) / 2 ^ 0 % 2 ≡ 0 = omega arith in
    rw (a, b, d)

all_kept : (x : ℕ) → x < 32 → sccr1_bits (x * 256 + 4) ≡ x * 256 + 4
all_kept x l = omega arith

set_again : (x : ℕ) → x < 32 → settings (x * 256 + 4) ≡ x
set_again x l = omega arith

pub enabled : (b c : ℕ) (s : Sci) → Rated b s → Enabled b c (sci.step (writesSccr1 (on_lanes (written c)) true true) s)
unfolding sci.step sccr1_guarded wrote_sccr1
enabled b c s h =
    let r : written c / 2 ^ 2 % 2 ≡ 1 = omega arith in
    let w : written c / 2 ^ 1 % 2 ≡ 0 = omega arith in
    let k : sccr1_bits (written c) ≡ written c = all_kept (settings c) (omega arith) in
    rw (h.still, whole (written c) (omega arith), r)
    (record {
      rate = h.rate;
      on = ap RE k ∙ ap (λ (x : ℕ). eqb x 1) r;
      awake = ap (λ (x : ℕ). eqb x 1) w;
      equal = ap settings k ∙ set_again (settings c) (omega arith);
      count = h.count;
    })

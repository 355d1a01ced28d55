-- What clocks and accesses leave of SCCR0 and SCCR1.
-- Assumes nothing.
use mathlib.Core.Path.{◌≡◌, refl, ap}
use mathlib.Core.Bool.{Bool, true, false, cond}
use Rattle.steps.specs.Bits.{merge}
use Rattle.sci.specs.model.Control.{RE, settings}
use Rattle.sci.specs.model.Serial.{active, due, prescaled, clocked, sccr1_word, with_sccr1, stopped, wrote_sccr1}
use Rattle.sci.specs.claims.Wire.{Access, read_status, read_data, write_data, write_control, accessed}
use Rattle.sci.specs.declared.serial.Sci.{Sci}
use Rattle.sci.proofs.Sampling.{sample_leaves}

pub record Registers (s r : Sci) : Type 0 where
  pub sccr0 : r.sccr0 ≡ s.sccr0
  pub control : settings r.sccr1 ≡ settings s.sccr1

clock_leaves : (s : Sci) (x : Bool) → ((clocked s x).sccr0 ≡ s.sccr0) × ((clocked s x).sccr1 ≡ s.sccr1)
unfolding clocked
clock_leaves s x = go (active s) (due s)
  where
    go : (a d : Bool) → ((cond a (prescaled d s x) s).sccr0 ≡ s.sccr0) × ((cond a (prescaled d s x) s).sccr1 ≡ s.sccr1)
    go true true = ((sample_leaves s x).sccr0, (sample_leaves s x).sccr1)
    go true false = (refl, refl)
    go false true = (refl, refl)
    go false false = (refl, refl)

pub clock_registers : (s : Sci) (x : Bool) → Registers s (clocked s x)
clock_registers s x = record { sccr0 = (clock_leaves s x).0; control = ap settings (clock_leaves s x).1 }

pub clock_on : (s : Sci) (x : Bool) → RE (clocked s x).sccr1 ≡ RE s.sccr1
clock_on s x = ap RE (clock_leaves s x).1

access_rate : (s : Sci) (a : Access) → (accessed a s).sccr0 ≡ s.sccr0
unfolding accessed wrote_sccr1
access_rate s read_status = refl
access_rate s read_data = refl
access_rate s (write_data v upper) = refl
access_rate s (write_control v upper lower) = go (RE (merge (sccr1_word s) v upper lower))
  where
    go : (b : Bool) → (stopped b (with_sccr1 s (merge (sccr1_word s) v upper lower))).sccr0 ≡ s.sccr0
    go true = refl
    go false = refl

pub access_registers : (s : Sci) (a : Access) → settings (accessed a s).sccr1 ≡ settings s.sccr1 → Registers s (accessed a s)
access_registers s a e = record { sccr0 = access_rate s a; control = e }

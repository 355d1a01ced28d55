-- A write of SCCR0, SCCR1 or SCDR leaves the receive flags, their marks and the account as they are.
use mathlib.Core.Path.{◌≡◌, refl}
use mathlib.Core.Bool.{Bool, true, false}
use Prim.Native.Nat.{ℕ}
use lib.Dec.{eqb}
use Rattle.steps.specs.Bits.{merge}
use Rattle.sci.specs.model.Flags.{RAF}
use Rattle.sci.specs.model.Control.{RE, sccr0_bits}
use Rattle.sci.specs.claims.Alike.{Same}
use Rattle.sci.specs.model.Serial.{sccr1_word, data_written, wrote_sccr0, wrote_sccr1, sccr0_guarded, sccr1_guarded, stopped, with_sccr1}
use Rattle.sci.specs.claims.History.{writesSccr0, writesSccr1, writesScdr, step}
use Rattle.sci.specs.declared.serial.Sci.{Sci}
use Rattle.sci.proofs.Frames.{by_cond}
use Rattle.sci.proofs.Same.{same_refl, same_loaded, outside_fall}

pub record Keeps (s t : Sci) : Type 0 where
  pub same : Same s.status t.status
  pub account : s.account ≡ t.account

keeps_all : (s : Sci) → Keeps s s
keeps_all s = record { same = same_refl s.status; account = refl }

sccr0_keeps : (s : Sci) (v : ℕ) (upper lower : Bool) → Keeps s (wrote_sccr0 s v upper lower)
unfolding wrote_sccr0
sccr0_keeps s v upper lower =
    by_cond (Keeps s) (eqb (sccr0_bits (merge s.sccr0 v upper lower)) s.sccr0) (λ e. keeps_all s)
    (λ e. record { same = same_refl s.status; account = refl })

-- RE clear lets RAF alone fall.
stopped_keeps : (on : Bool) (s t : Sci) → Keeps s t → s.status ≡ t.status → Keeps s (stopped on t)
stopped_keeps true s t k e = k
stopped_keeps false s t k e = record { same = rw e (outside_fall t.status RAF refl); account = k.account }

sccr1_keeps : (s : Sci) (v : ℕ) (upper lower : Bool) → Keeps s (wrote_sccr1 s v upper lower)
unfolding wrote_sccr1
sccr1_keeps s v upper lower =
    let w : ℕ = merge (sccr1_word s) v upper lower in
    stopped_keeps (RE w) s (with_sccr1 s w) (record { same = same_refl s.status; account = refl }) refl

scdr_keeps : (lower : Bool) (s : Sci) (v : ℕ) (upper : Bool) → Keeps s (data_written lower s v upper)
scdr_keeps true s v upper = record { same = same_loaded s.status; account = refl }
scdr_keeps false s v upper = keeps_all s

module _ (s : Sci) (v : ℕ) (upper lower : Bool) where
  pub keeps_sccr0 : Keeps s (step (writesSccr0 v upper lower) s)
  unfolding step
  keeps_sccr0 =
      by_cond (Keeps s) (sccr0_guarded s v upper lower) (λ e. keeps_all s) (λ e. sccr0_keeps s v upper lower)

  pub keeps_sccr1 : Keeps s (step (writesSccr1 v upper lower) s)
  unfolding step
  keeps_sccr1 =
      by_cond (Keeps s) (sccr1_guarded s v upper lower) (λ e. keeps_all s) (λ e. sccr1_keeps s v upper lower)

  pub keeps_scdr : Keeps s (step (writesScdr v upper lower) s)
  unfolding step
  keeps_scdr = scdr_keeps lower s v upper

-- Without a write SPE that has fallen stays clear, and SPIF that has risen stays set. Assumes nothing.
use mathlib.Core.Path.{◌≡◌, refl, sym, ap, ◌∙◌}
use mathlib.Core.Bool.{true, false, true≢false}
use Prim.Native.Nat.{ℕ, zero, suc, ◌+◌}
use Rattle.qspi.specs.model.Fields.{spe}
use Rattle.qspi.specs.model.Queue.{clock}
use Rattle.qspi.specs.claims.Run.{run}
use Rattle.qspi.specs.claims.FlagLaws.{SPIF}
use Rattle.qspi.specs.declared.Qspi.{Qspi}
use Rattle.qspi.specs.declared.Pins.{Pins}
use Rattle.qspi.proofs.Mosi.{by_test}
use Rattle.qspi.proofs.Delay.{run_add}
use Rattle.qspi.proofs.Quiet.{clock_off}
use Rattle.qspi.proofs.FlagLaws.{clock_keeps}

run_off : (pins : ℕ → Pins) (d : ℕ) (q : Qspi) → spe q.registers.spcr1 ≡ false → run pins d q ≡ q
unfolding run
run_off pins zero q h = refl
run_off pins (suc d) q h =
    ap (λ r. clock r (pins (suc d))) (run_off pins d q h) ∙ clock_off q (pins (suc d)) h

run_spif : (pins : ℕ → Pins) (d : ℕ) (q : Qspi) → q.spsr.flags.spif ≡ true → (run pins d q).spsr.flags.spif ≡ true
unfolding run
run_spif pins zero q h = h
run_spif pins (suc d) q h = clock_keeps SPIF (run pins d q) (pins (suc d)) (run_spif pins d q h)

-- So what holds at a later clock held at the earlier ones.
pub still_on : (pins : ℕ → Pins) (c d : ℕ) (q : Qspi) → spe (run pins (c + d) q).registers.spcr1 ≡ true →
    spe (run pins c q).registers.spcr1 ≡ true
still_on pins c d q h =
    by_test (spe (run pins c q).registers.spcr1) (λ e. e)
    (λ e.
    absurd
    (true≢false
    (sym h ∙ ap (λ r. spe r.registers.spcr1) (run_add pins c d q ∙ run_off (λ k. pins (c + k)) d (run pins c q) e) ∙ e)))

pub still_low : (pins : ℕ → Pins) (c d : ℕ) (q : Qspi) → (run pins (c + d) q).spsr.flags.spif ≡ false → (run pins c q).spsr.flags.spif ≡ false
still_low pins c d q h =
    by_test (run pins c q).spsr.flags.spif
    (λ e.
    absurd
    (true≢false
    (sym (run_spif (λ k. pins (c + k)) d (run pins c q) e) ∙ ap (λ r. r.spsr.flags.spif) (sym (run_add pins c d q)) ∙ h)))
    (λ e. e)

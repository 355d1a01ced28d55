-- A queue that is back in a state it was in, beside a still serial half: what was shown between is shown for ever. Assumes nothing.
use mathlib.Core.Bool.{Bool, true, false, not}
use mathlib.Core.Path.{◌≡◌, refl, sym, ap, ◌∙◌}
use Prim.Native.Nat.{ℕ, zero, suc, ◌+◌, ◌-◌, ◌%◌, ◌<◌, ◌≤◌}
use native.Mathlib.Nat.{mod-lt}
use native.Mathlib.Omega.{arith}
use Rattle.steps.specs.Iterate.{iterate}
use Rattle.steps.proofs.Iterate.{iterate_add, iterate_period}
use Rattle.qspi.specs.model.Queue.{clock}
use Rattle.qspi.specs.declared.Qspi.{Qspi}
use Rattle.qsm.specs.model.Event.{clocks, pins_of}
use Rattle.qsm.specs.declared.state.Module.{Module}
use Rattle.until_change.specs.Change.{look, same_look}
use Rattle.until_change.specs.Steady.{ahead, serial_still}
use Rattle.until_change.specs.declared.Look.{Look}
use Rattle.until_change.proofs.Steadily.{shows, still_look, look_ahead, ahead_add}
use Rattle.until_change.proofs.Turns.{changed}

module _ (now : Look) (m : Module) (rxd : Bool) (a p : ℕ) (still : serial_still (ahead a rxd m).sci rxd ≡ true)
    (back : (ahead a rxd m).qspi ≡ (ahead (p + a) rxd m).qspi) (some : 1 ≤ p)
    (none : (i : ℕ) → 1 ≤ i → i ≤ p + a → changed now m rxd i ≡ false) where
  -- The queue j clocks after the state that it comes back to.
  abbrev later : ℕ → Qspi
  later j = iterate j (λ q. clock q (pins_of m)) (ahead a rxd m).qspi

  back_again : later p ≡ (ahead a rxd m).qspi
  back_again = sym (iterate_add p a (λ q. clock q (pins_of m)) m.qspi) ∙ sym back

  onward : (j : ℕ) → look (clocks m rxd (j + a)) ≡ shows (ahead a rxd m) (ahead a rxd m).sci (later j)
  onward j = look_ahead (j + a) rxd m ∙ ap look (sym (ahead_add j a rxd m)) ∙ still_look j rxd (ahead a rxd m) still

  as_before : (j k : ℕ) → later j ≡ later k → 1 ≤ k → k ≤ p → changed now m rxd (j + a) ≡ false
  as_before j k e low high =
      ap (λ (l : Look). not (same_look now l))
      (onward j ∙ ap (shows (ahead a rxd m) (ahead a rxd m).sci) e ∙ sym (onward k))
      ∙ none (k + a) (omega arith) (omega arith)

  round : (j : ℕ) → changed now m rxd (j + a) ≡ false
  unfolding iterate
  round j = go (j % p) (mod-lt j some) (iterate_period j p (λ q. clock q (pins_of m)) (ahead a rxd m).qspi some back_again)
    where
      go : (r : ℕ) → r < p → later j ≡ later r → changed now m rxd (j + a) ≡ false
      go zero less e = as_before j p (e ∙ sym back_again) some (omega arith)
      go (suc r) less e = as_before j (suc r) e (omega arith) (omega arith)

  pub for_ever : (i : ℕ) → 1 ≤ i → changed now m rxd i ≡ false
  for_ever i low = go (i - a) refl
    where
      go : (d : ℕ) → i - a ≡ d → changed now m rxd i ≡ false
      go zero z = none i low (omega arith)
      go (suc j) z = let at : i ≡ suc j + a = omega arith in ap (changed now m rxd) at ∙ round (suc j)

-- The same by what is left of all clocks.
pub comes_back : (now : Look) (m : Module) (rxd : Bool) (all kept left : ℕ) → left < kept → kept ≤ all →
    serial_still (ahead (all - kept) rxd m).sci rxd ≡ true → (ahead (all - kept) rxd m).qspi ≡ (ahead (all - left) rxd m).qspi →
    ((i : ℕ) → 1 ≤ i → i ≤ all - left → changed now m rxd i ≡ false) → (i : ℕ) → 1 ≤ i → changed now m rxd i ≡ false
comes_back now m rxd all kept left less most still back none =
    let sum : kept - left + (all - kept) ≡ all - left = omega arith in
    for_ever now m rxd (all - kept) (kept - left) still (back ∙ ap (λ (n : ℕ). (ahead n rxd m).qspi) (sym sum)) (omega arith)
    (λ i low high. none i low (omega (arith, sum)))

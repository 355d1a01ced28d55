-- The queue does not end sooner than its last entry. Assumes nothing.
use mathlib.Core.Path.{◌≡◌, refl, sym, ap, subst, ◌∙◌}
use mathlib.Core.Bool.{true, false}
use Prim.Native.Nat.{ℕ, zero, suc, ◌+◌, ◌-◌, ◌*◌, ◌≤◌, ◌<◌}
use native.Mathlib.Omega.{arith}
use Rattle.qspi.specs.model.Fields.{spe}
use Rattle.qspi.specs.model.Queue.{begun}
use Rattle.qspi.specs.claims.Run.{run, bits_in, edge_clock, gap, last_clock_of, last_clock, during, command_no, begins_at, entries_before}
use Rattle.qspi.specs.claims.Laws.{Starting, Calm, Before, NotSooner}
use Rattle.qspi.specs.declared.Qspi.{Qspi}
use Rattle.qspi.specs.declared.Pins.{Pins}
use Rattle.qspi.proofs.Bounds.{bits_pos, pre_pos}
use Rattle.qspi.proofs.Edges.{fast, next_edge, gap_pos, edges_fall}
use Rattle.qspi.proofs.Delay.{run_add}
use Rattle.qspi.proofs.Order.{same_clock, at_entry}
use Rattle.qspi.proofs.Still.{still_on, still_low}

-- One clock before edge 2n of an entry.
module _ (r : Qspi) (pins : ℕ → Pins) (s : Starting r) (calm : Calm pins) where
  before_end : (j : ℕ) → suc j ≡ bits_in (begun r) * 2 → 0 < last_clock (begun r) - 1 →
      run pins (last_clock (begun r) - 1) r ≡ during (begun r) pins j (gap (begun r) j - (gap (begun r) j - 1))
  before_end j full pos =
      let whole : last_clock (begun r) ≡ edge_clock (begun r) j + gap (begun r) j =
      ap (edge_clock (begun r)) (sym full) ∙ next_edge (begun r) j in
      let some : 1 ≤ gap (begun r) j = gap_pos (begun r) j (fast r s) in
      let there : edge_clock (begun r) j + (gap (begun r) j - 1) ≡ last_clock (begun r) - 1 = omega arith in
      subst
      (λ k. run pins k r ≡ during (begun r) pins j (gap (begun r) j - (gap (begun r) j - 1)))
      there
      (edges_fall r pins s calm j (gap (begun r) j - 1) (omega arith) (omega arith) (omega arith))

  last_more : 1 < last_clock (begun r)
  last_more = more (bits_in (begun r) * 2) (omega (arith, bits_pos r.registers.spcr0 (begun r).entry.command))
    where
      more : (j : ℕ) → 2 ≤ j → 1 < edge_clock (begun r) j
      more zero h = absurd (omega arith)
      more (suc zero) h = absurd (omega arith)
      more (suc (suc j)) h =
          omega (arith, next_edge (begun r) (suc j), fast r s, pre_pos r.registers.spcr0 r.registers.spcr1 (begun r).entry.command (omega (arith, fast r s)))

  before_end_on : (spe (run pins (last_clock (begun r) - 1) r).registers.spcr1 ≡ true)
      × ((run pins (last_clock (begun r) - 1) r).spsr.flags.spif ≡ r.spsr.flags.spif)
  before_end_on =
      let full : suc (bits_in (begun r) * 2 - 1) ≡ bits_in (begun r) * 2 =
      omega (arith, bits_pos r.registers.spcr0 (begun r).entry.command) in
      let e : run pins (last_clock (begun r) - 1) r
      ≡ during (begun r) pins (bits_in (begun r) * 2 - 1)
      (gap (begun r) (bits_in (begun r) * 2 - 1) - (gap (begun r) (bits_in (begun r) * 2 - 1) - 1)) =
      before_end (bits_in (begun r) * 2 - 1) full (omega (arith, last_more)) in
      (ap (λ x. spe x.registers.spcr1) e ∙ s.on, ap (λ x. x.spsr.flags.spif) e)

moved_run : (q r : Qspi) (pins : ℕ → Pins) (b l k : ℕ) → run pins b q ≡ r → b + l ≡ k →
    run (λ i. pins (b + i)) l r ≡ run pins k q
moved_run q r pins b l k e there =
    ap (run (λ i. pins (b + i)) l) (sym e) ∙ sym (run_add pins b l q) ∙ ap (λ i. run pins i q) there

on_before : (q r : Qspi) (pins : ℕ → Pins) (b l c : ℕ) → run pins b q ≡ r → last_clock (begun r) - 1 ≡ l →
    Starting r → Calm pins → r.spsr.flags.spif ≡ false → c ≤ b + l →
    (spe (run pins c q).registers.spcr1 ≡ true) × ((run pins c q).spsr.flags.spif ≡ false)
on_before q r pins b l c e last s calm low less =
    let there : b + l ≡ c + (b + l - c) = omega arith in
    let ends : (spe (run (λ i. pins (b + i)) l r).registers.spcr1 ≡ true)
    × ((run (λ i. pins (b + i)) l r).spsr.flags.spif ≡ r.spsr.flags.spif) =
    subst
    (λ k. (spe (run (λ i. pins (b + i)) k r).registers.spcr1 ≡ true)
    × ((run (λ i. pins (b + i)) k r).spsr.flags.spif ≡ r.spsr.flags.spif))
    last
    (before_end_on r (λ i. pins (b + i)) s (λ i. calm (b + i))) in (
      still_on pins c (b + l - c) q
          (subst (λ x. spe x.registers.spcr1 ≡ true) (moved_run q r pins b l (c + (b + l - c)) e there) ends.0),
      still_low pins c (b + l - c) q
          (subst (λ x. x.spsr.flags.spif ≡ false) (moved_run q r pins b l (c + (b + l - c)) e there) (ends.1 ∙ low)),
    )

pub not_sooner : NotSooner
not_sooner q pins s calm clear low c less =
    let a : Before q (run pins (begins_at q (entries_before q)) q) (entries_before q) =
    at_entry q pins s calm clear (entries_before q) (omega arith) in
    on_before q (run pins (begins_at q (entries_before q)) q) pins (begins_at q (entries_before q))
    (last_clock_of q.registers.spcr0 q.registers.spcr1 (command_no q (entries_before q)) - 1) c refl
    (ap (λ k. k - 1) (same_clock last_clock_of q (run pins (begins_at q (entries_before q)) q) (entries_before q) a))
    a.starts calm (a.spif ∙ low) (omega arith)

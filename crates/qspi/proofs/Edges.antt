-- The edges of an entry fall where the law says. Assumes nothing.
use mathlib.Core.Path.{◌≡◌, refl, sym, ap, subst, ◌∙◌}
use mathlib.Core.Bool.{Bool, true, false, ◌&&◌}
use Prim.Native.Nat.{ℕ, zero, suc, ◌+◌, ◌-◌, ◌*◌, ◌%◌, ◌≤◌, ◌<◌}
use native.Mathlib.Nat.{add-zero, zero-add, zero-mul, mul_comm, mul-suc}
use native.Mathlib.Omega.{arith}
use lib.Dec.{leb}
use Rattle.steps.specs.Iterate.{iterate}
use borrow.Author.Tests.{lt-leb, le-leb, leb-true}
use Rattle.qspi.specs.model.Fields.{mstr, spe}
use Rattle.qspi.specs.model.Queue.{clock, queue_clock, play_clock, start_clock, begun, edge, miso_of, selected, fault_now, judged, completed}
use Rattle.qspi.specs.claims.Run.{run, bits_in, pre_in, spbr_in, edge_clock, gap, last_clock, during, mosi_by, collected_by}
use Rattle.qspi.specs.claims.Laws.{Starting, Calm, HoldRuns, EdgeFormula, EdgesFall, LastEdge}
use Rattle.qspi.specs.declared.Qspi.{Qspi}
use Rattle.qspi.specs.declared.Pins.{Pins}
use Rattle.qspi.proofs.Bounds.{bits_small, bits_pos, pre_pos}

and_false : (b : Bool) → b && false ≡ false
and_false true = refl
and_false false = refl

pub no_fault : (q : Qspi) (pins : Pins) → selected pins ≡ false → fault_now q pins ≡ false
no_fault q pins h = rw h (and_false (spe q.registers.spcr1 && mstr q.registers.spcr0))

pub clock_playing : (q : Qspi) (pins : Pins) → spe q.registers.spcr1 ≡ true → q.entry.playing ≡ true → selected pins ≡ false →
    clock q pins ≡ play_clock (miso_of pins) q
unfolding clock queue_clock
clock_playing q pins on p calm = rw (no_fault q pins calm, on, p)

pub clock_starting : (q : Qspi) (pins : Pins) → Starting q → selected pins ≡ false →
    clock q pins ≡ play_clock (miso_of pins) (begun q)
unfolding clock queue_clock start_clock
clock_starting q pins s calm = rw (no_fault q pins calm, s.on, s.not_playing, s.not_delaying, s.goes)

pub hold_runs : HoldRuns
unfolding iterate run
hold_runs pins zero q = refl
hold_runs pins (suc n) q = ap (λ r. clock r pins) (hold_runs pins n q)

pub edge_formula : EdgeFormula
edge_formula e zero h = absurd (omega arith)
edge_formula e (suc j) h =
    let same : j ≡ suc j - 1 = omega arith in
    ap (λ k. pre_in e + k * spbr_in e) same

suc_mul : (j s : ℕ) → suc j * s ≡ j * s + s
suc_mul j s = mul_comm (suc j) s ∙ mul-suc s j ∙ ap (λ x. x + s) (mul_comm s j)

pub next_edge : (e : Qspi) (j : ℕ) → edge_clock e (suc j) ≡ edge_clock e j + gap e j
next_edge e zero = rw (zero-mul (spbr_in e)) (omega arith)
next_edge e (suc j) = rw (suc_mul j (spbr_in e)) (omega arith)

pub gap_pos : (e : Qspi) (j : ℕ) → 2 ≤ spbr_in e → 1 ≤ gap e j
gap_pos e zero h = pre_pos e.registers.spcr0 e.registers.spcr1 e.entry.command (omega arith)
gap_pos e (suc j) h = omega arith

edge_pos : (e : Qspi) (j : ℕ) → 2 ≤ spbr_in e → 0 < j → 0 < edge_clock e j
edge_pos e zero h k = absurd (omega arith)
edge_pos e (suc j) h k = omega (arith, pre_pos e.registers.spcr0 e.registers.spcr1 e.entry.command (omega arith))

pub last_pos : (e : Qspi) → 2 ≤ spbr_in e → 0 < last_clock e
last_pos e h = edge_pos e (bits_in e * 2) h (omega (arith, bits_pos e.registers.spcr0 e.entry.command))

module _ (e : Qspi) (pins : ℕ → Pins) (on : spe e.registers.spcr1 ≡ true) (plays : e.entry.playing ≡ true) (calm : Calm pins) where
  quiet_step : (j l c : ℕ) → run pins c e ≡ during e pins j (suc (suc l)) →
      run pins (suc c) e ≡ during e pins j (suc l)
  unfolding run play_clock
  quiet_step j l c h =
      let less : suc (suc l) - 1 ≡ suc l = omega arith in
      rw h (clock_playing (during e pins j (suc (suc l))) (pins (suc c)) on plays (calm (suc c))
      ∙ rw (lt-leb (suc (suc l)) 1 (omega arith), less))

  quiet : (d j l c : ℕ) → run pins c e ≡ during e pins j (suc (d + l)) →
      run pins (c + d) e ≡ during e pins j (suc l)
  quiet zero j l c h =
      subst (λ k. run pins k e ≡ during e pins j (suc l)) (sym (add-zero c))
      (subst (λ k. run pins c e ≡ during e pins j (suc k)) (zero-add l) h)
  quiet (suc d) j l c h =
      let same : suc d + l ≡ suc (d + l) = omega arith in
      let there : suc c + d ≡ c + suc d = omega arith in
      subst (λ k. run pins k e ≡ during e pins j (suc l)) there
      (quiet d j l (suc c)
      (quiet_step j (d + l) c (subst (λ k. run pins c e ≡ during e pins j (suc k)) same h)))

  edge_step : (j c : ℕ) → j < bits_in e * 2 → suc c ≡ edge_clock e (suc j) → run pins c e ≡ during e pins j 1 →
      run pins (suc c) e ≡ judged (leb (bits_in e * 2) (suc j)) (during e pins (suc j) (spbr_in e))
  unfolding run play_clock edge mosi_by collected_by
  edge_step j c less at h =
      let few : j % 32 + 1 ≡ suc j = omega (arith, bits_small e.registers.spcr0 e.entry.command) in
      rw h (clock_playing (during e pins j 1) (pins (suc c)) on plays (calm (suc c)) ∙ rw (few, at))

  module _ (fast : 2 ≤ spbr_in e) (starts : e ≡ during e pins 0 (pre_in e)) where
    -- One clock before the next edge, and at it.
    before_edge : (j : ℕ) → run pins (edge_clock e j) e ≡ during e pins j (gap e j) →
        run pins (edge_clock e j + (gap e j - 1)) e ≡ during e pins j 1
    before_edge j h =
        let parts : gap e j ≡ suc (gap e j - 1 + 0) = omega (arith, gap_pos e j fast) in
        quiet (gap e j - 1) j 0 (edge_clock e j)
        (subst (λ k. run pins (edge_clock e j) e ≡ during e pins j k) parts h)

    after_edge : (j : ℕ) → j < bits_in e * 2 → run pins (edge_clock e j) e ≡ during e pins j (gap e j) →
        run pins (edge_clock e (suc j)) e ≡ judged (leb (bits_in e * 2) (suc j)) (during e pins (suc j) (spbr_in e))
    after_edge j less h =
        let at : suc (edge_clock e j + (gap e j - 1)) ≡ edge_clock e (suc j) =
        omega (arith, next_edge e j, gap_pos e j fast) in
        subst
        (λ k. run pins k e ≡ judged (leb (bits_in e * 2) (suc j)) (during e pins (suc j) (spbr_in e)))
        at
        (edge_step j (edge_clock e j + (gap e j - 1)) less at (before_edge j h))

    at_edge : (j : ℕ) → j < bits_in e * 2 → run pins (edge_clock e j) e ≡ during e pins j (gap e j)
    unfolding run
    at_edge zero less = starts
    at_edge (suc j) less =
        let before : j < bits_in e * 2 = omega arith in
        rw (lt-leb (bits_in e * 2) (suc j) less) at (after_edge j before (at_edge j before))

    pub between_edges : (j d : ℕ) → j < bits_in e * 2 → d < gap e j →
        run pins (edge_clock e j + d) e ≡ during e pins j (gap e j - d)
    between_edges j d less within =
        let parts : gap e j ≡ suc (d + (gap e j - d - 1)) = omega arith in
        let rest : suc (gap e j - d - 1) ≡ gap e j - d = omega arith in
        subst (λ k. run pins (edge_clock e j + d) e ≡ during e pins j k) rest
        (quiet d j (gap e j - d - 1) (edge_clock e j)
        (subst (λ k. run pins (edge_clock e j) e ≡ during e pins j k) parts (at_edge j less)))

    pub at_last : run pins (last_clock e) e ≡ completed (during e pins (bits_in e * 2) (spbr_in e))
    at_last =
        let full : suc (bits_in e * 2 - 1) ≡ bits_in e * 2 = omega (arith, bits_pos e.registers.spcr0 e.entry.command) in
        let less : bits_in e * 2 - 1 < bits_in e * 2 = omega (arith, bits_pos e.registers.spcr0 e.entry.command) in
        subst (λ k. run pins (edge_clock e k) e ≡ completed (during e pins k (spbr_in e))) full
        (rw (le-leb (bits_in e * 2) (suc (bits_in e * 2 - 1)) (omega (arith, full))) at
        (after_edge (bits_in e * 2 - 1) less (at_edge (bits_in e * 2 - 1) less)))

-- A run from before clock 1 is a run of the entry that clock 1 takes.
same_run : (q : Qspi) (pins : ℕ → Pins) → Starting q → Calm pins → (c : ℕ) →
    run pins (suc c) q ≡ run pins (suc c) (begun q)
unfolding run
same_run q pins s calm zero =
    clock_starting q (pins 1) s (calm 1) ∙ sym (clock_playing (begun q) (pins 1) s.on refl (calm 1))
same_run q pins s calm (suc c) = ap (λ r. clock r (pins (suc (suc c)))) (same_run q pins s calm c)

run_entry : (q : Qspi) (pins : ℕ → Pins) → Starting q → Calm pins → (c : ℕ) → 0 < c →
    run pins c q ≡ run pins c (begun q)
run_entry q pins s calm zero h = absurd (omega arith)
run_entry q pins s calm (suc c) h = same_run q pins s calm c

pub and_left : (a b : Bool) → a && b ≡ true → a ≡ true
and_left true b h = refl
and_left false b h = h

pub fast : (q : Qspi) → Starting q → 2 ≤ spbr_in q
fast q s = leb-true 2 (spbr_in q) (and_left _ _ s.goes)

pub edges_fall : EdgesFall
unfolding mosi_by collected_by
edges_fall q pins s calm j d less within later =
    run_entry q pins s calm (edge_clock (begun q) j + d) later
    ∙ between_edges (begun q) pins s.on refl calm (fast q s) refl j d less within

pub last_edge_holds : LastEdge
unfolding mosi_by collected_by
last_edge_holds q pins s calm =
    run_entry q pins s calm (last_clock (begun q)) (last_pos (begun q) (fast q s))
    ∙ at_last (begun q) pins s.on refl calm (fast q s) refl

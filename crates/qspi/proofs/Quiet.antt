-- Quiet clocks change nothing but the count, so that any number of them can be taken at once. Assumes nothing.
use mathlib.Core.Path.{◌≡◌, refl, sym, ap, ◌∙◌}
use mathlib.Core.Bool.{Bool, true, false, not, ◌&&◌, ◌||◌, and_comm}
use Prim.Native.Nat.{ℕ, zero, suc, ◌+◌, ◌-◌, ◌*◌, ◌%◌, ◌≤◌, ◌<◌}
use native.Mathlib.Omega.{arith}
use lib.Dec.{leb, ltb}
use borrow.Author.Tests.{le-leb, lt-leb, lt-ltb, ltb-true, leb-true, leb-false}
use Rattle.steps.specs.Iterate.{iterate}
use Rattle.steps.proofs.Iterate.{iterate_add}
use Rattle.qspi.specs.model.Fields.{spe, cont, bits_of}
use Rattle.qspi.specs.model.Queue.{clock, queue_clock, play_clock, delay_clock, start_clock, begun, ready, miso_of, fault_now, faulted, edge}
use Rattle.qspi.specs.model.Entry.{edge_fallen, ticked, in_delay}
use Rattle.qspi.specs.quick.Quiet.{quiet, skipped, skipped_if, plays, until_edge, edge_within}
use Rattle.qspi.specs.model.Parts.{with_entry}
use Rattle.qspi.specs.declared.Qspi.{Qspi}
use Rattle.qspi.specs.declared.Pins.{Pins}
use Rattle.qspi.specs.declared.entry.Entry.{Entry}
use Rattle.qspi.proofs.Mosi.{by_test}
use Rattle.qspi.proofs.Delay.{no_spe}

-- What one clock is, by where the queue stands.
module _ (q : Qspi) (pins : Pins) where
  pub clock_faults : fault_now q pins ≡ true → clock q pins ≡ faulted true q
  unfolding clock queue_clock
  clock_faults due = rw (due, no_spe q.registers.spcr1)

  pub clock_off : spe q.registers.spcr1 ≡ false → clock q pins ≡ q
  unfolding clock queue_clock
  clock_off off =
      let safe : fault_now q pins ≡ false = rw off in
      rw (safe, off)

  module _ (on : spe q.registers.spcr1 ≡ true) (safe : fault_now q pins ≡ false) where
    pub clock_playing : q.entry.playing ≡ true → clock q pins ≡ play_clock (miso_of pins) q
    unfolding clock queue_clock
    clock_playing p = rw (safe, on, p)

    pub clock_delaying : q.entry.playing ≡ false → q.entry.delaying ≡ true → clock q pins ≡ delay_clock q
    unfolding clock queue_clock
    clock_delaying p d = rw (safe, on, p, d)

    pub clock_starts : q.entry.playing ≡ false → q.entry.delaying ≡ false → ready q ≡ true →
        clock q pins ≡ play_clock (miso_of pins) (begun q)
    unfolding clock queue_clock start_clock
    clock_starts p d r = rw (safe, on, p, d, r)

    pub clock_waiting : q.entry.playing ≡ false → q.entry.delaying ≡ false → ready q ≡ false → clock q pins ≡ q
    unfolding clock queue_clock start_clock
    clock_waiting p d r = rw (safe, on, p, d, r)

play_quiet : (miso : Bool) (q : Qspi) → 1 < q.entry.left → play_clock miso q ≡ with_entry q (ticked q.entry)
unfolding play_clock
play_quiet miso q more = rw (lt-leb q.entry.left 1 more)

delay_quiet : (q : Qspi) → 1 < q.entry.left → delay_clock q ≡ with_entry q (in_delay q.entry)
unfolding delay_clock
delay_quiet q more = rw (lt-leb q.entry.left 1 more)

-- What is skipped.
skip_off : (k : ℕ) (q : Qspi) → spe q.registers.spcr1 ≡ false → skipped k q ≡ q
unfolding skipped
skip_off zero q off = refl
skip_off (suc k) q off = rw (off, lt-ltb 0 (suc k) (omega arith))

skip_waiting : (k : ℕ) (q : Qspi) → q.entry.playing ≡ false → q.entry.delaying ≡ false → skipped k q ≡ q
unfolding skipped
skip_waiting k q p d = rw (p, d, and_comm _ false)

skip_running : (k : ℕ) (q : Qspi) → spe q.registers.spcr1 ≡ true → q.entry.playing || q.entry.delaying ≡ true →
    skipped (suc k) q ≡ skipped_if true (suc k) q
unfolding skipped
skip_running k q on runs = rw (lt-ltb 0 (suc k) (omega arith), on, runs)

and_again : (a b : Bool) → (a && b) && a ≡ a && b
and_again true true = refl
and_again true false = refl
and_again false b = refl

-- One more quiet clock.
playing_next : (k : ℕ) (q : Qspi) (pins : Pins) → spe q.registers.spcr1 ≡ true → fault_now q pins ≡ false → q.entry.playing ≡ true →
    suc k ≤ q.entry.left - 1 → clock (skipped k q) pins ≡ skipped (suc k) q
unfolding skipped
playing_next zero q pins on safe p more =
    clock_playing q pins on safe p ∙ play_quiet (miso_of pins) q (omega arith) ∙ rw (on, p)
playing_next (suc k) q pins on safe p more =
    let less : q.entry.left - suc k - 1 ≡ q.entry.left - suc (suc k) = omega arith in
    let s : Qspi = skipped_if true (suc k) q in
    ap (λ r. clock r pins) (skip_running k q on (rw p))
    ∙ clock_playing s pins on safe p
    ∙ play_quiet (miso_of pins) s (omega arith)
    ∙ (rw less)
    ∙ sym (skip_running (suc k) q on (rw p))

delaying_next : (k : ℕ) (q : Qspi) (pins : Pins) → spe q.registers.spcr1 ≡ true → fault_now q pins ≡ false → q.entry.playing ≡ false →
    q.entry.delaying ≡ true → suc k ≤ q.entry.left - 1 → clock (skipped k q) pins ≡ skipped (suc k) q
unfolding skipped
delaying_next zero q pins on safe p d more =
    clock_delaying q pins on safe p d ∙ delay_quiet q (omega arith) ∙ rw (on, p, d, and_comm q.entry.selecting (cont q.entry.command))
delaying_next (suc k) q pins on safe p d more =
    let less : q.entry.left - suc k - 1 ≡ q.entry.left - suc (suc k) = omega arith in
    let s : Qspi = skipped_if true (suc k) q in
    ap (λ r. clock r pins) (skip_running k q on (rw (p, d)))
    ∙ clock_delaying s pins on safe p d
    ∙ delay_quiet s (omega arith)
    ∙ (rw (less, p, and_again (cont q.entry.command) q.entry.selecting))
    ∙ sym (skip_running (suc k) q on (rw (p, d)))

quiet_next : (e f p d r : Bool) (k : ℕ) (q : Qspi) (pins : Pins) → spe q.registers.spcr1 ≡ e → fault_now q pins ≡ f →
    q.entry.playing ≡ p → q.entry.delaying ≡ d → ready q ≡ r → suc k ≤ quiet q pins → clock (skipped k q) pins ≡ skipped (suc k) q
unfolding quiet
quiet_next false f p d r k q pins off _ _ _ _ more =
    ap (λ s. clock s pins) (skip_off k q off) ∙ clock_off q pins off ∙ sym (skip_off (suc k) q off)
quiet_next true true p d r k q pins on due _ _ _ more = absurd (omega (arith, rw (due, on) at more))
quiet_next true false true d r k q pins on safe playing _ _ more =
    playing_next k q pins on safe playing (rw (safe, on, playing) at more)
quiet_next true false false true r k q pins on safe playing delaying _ more =
    delaying_next k q pins on safe playing delaying (rw (safe, on, playing, delaying) at more)
quiet_next true false false false true k q pins on safe playing delaying starts more =
    absurd (omega (arith, rw (safe, on, playing, delaying, starts) at more))
quiet_next true false false false false k q pins on safe playing delaying waits more =
    ap (λ s. clock s pins) (skip_waiting k q playing delaying)
    ∙ clock_waiting q pins on safe playing delaying waits
    ∙ sym (skip_waiting (suc k) q playing delaying)

pub quiet_clocks : (k : ℕ) (q : Qspi) (pins : Pins) → k ≤ quiet q pins → iterate k (λ r. clock r pins) q ≡ skipped k q
unfolding iterate skipped
quiet_clocks zero q pins less = refl
quiet_clocks (suc k) q pins less =
    ap (λ r. clock r pins) (quiet_clocks k q pins (omega arith))
    ∙ quiet_next _ _ _ _ _ k q pins refl refl refl refl refl less

-- A hold that is all quiet, a turn that plays k quiet clocks and one more, and a hold at its end.
pub all_quiet : (k n : ℕ) (q : Qspi) (pins : Pins) → k ≡ quiet q pins → n ≤ k → skipped n q ≡ iterate n (λ r. clock r pins) q
all_quiet k n q pins counted fits = sym (quiet_clocks n q pins (omega arith))

pub turned : (k n : ℕ) (q : Qspi) (pins : Pins) → k ≡ quiet q pins → k < n →
    iterate (n - (k + 1)) (λ r. clock r pins) (clock (skipped k q) pins) ≡ iterate n (λ r. clock r pins) q
unfolding iterate
turned k n q pins counted more =
    let parts : n - (k + 1) + suc k ≡ n = omega arith in
    ap (λ s. iterate (n - (k + 1)) (λ r. clock r pins) (clock s pins)) (all_quiet k k q pins counted (omega arith))
    ∙ sym (iterate_add (n - (k + 1)) (suc k) (λ r. clock r pins) q)
    ∙ ap (λ m. iterate m (λ r. clock r pins) q) parts

pub at_end_holds : (n : ℕ) (q : Qspi) (pins : Pins) → n ≤ 0 → q ≡ iterate n (λ r. clock r pins) q
unfolding iterate
at_end_holds zero q pins none = refl
at_end_holds (suc n) q pins none = absurd (omega arith)

-- An edge before edge 2n after quiet clocks: nothing of them is left but the edge.
pub and_parts : (a b : Bool) → a && b ≡ true → (a ≡ true) × (b ≡ true)
and_parts true b h = (refl, h)
and_parts false b h = (h, cc)

not_true : (b : Bool) → not b ≡ true → b ≡ false
not_true true h = sym h
not_true false h = refl

play_edge : (miso : Bool) (q : Qspi) → q.entry.left ≤ 1 →
    q.entry.edges % 32 + 1 < bits_of q.registers.spcr0 q.entry.command * 2 →
    play_clock miso q ≡ with_entry q (edge_fallen q.registers.spcr0 (q.entry.edges % 32 + 1) miso q.entry)
unfolding play_clock edge
play_edge miso q due early =
    rw (
      le-leb q.entry.left 1 due,
      lt-leb (bits_of q.registers.spcr0 q.entry.command * 2) (q.entry.edges % 32 + 1) early,
    )

module _ (q : Qspi) (pins : Pins) (on : spe q.registers.spcr1 ≡ true) (safe : fault_now q pins ≡ false)
    (p : q.entry.playing ≡ true)
    (early : q.entry.edges % 32 + 1 < bits_of q.registers.spcr0 q.entry.command * 2) where
  skipped_edge : (k : ℕ) → k ≡ q.entry.left - 1 →
      clock (skipped k q) pins
      ≡ with_entry q (edge_fallen q.registers.spcr0 (q.entry.edges % 32 + 1) (miso_of pins) q.entry)
  unfolding skipped
  skipped_edge zero counted = clock_playing q pins on safe p ∙ play_edge (miso_of pins) q (omega arith) early
  skipped_edge (suc k) counted =
      let s : Qspi = skipped_if true (suc k) q in
      ap (λ r. clock r pins) (skip_running k q on (rw p))
      ∙ clock_playing s pins on safe p
      ∙ play_edge (miso_of pins) s (omega arith) early
      ∙ (rw p)

  quiet_here : quiet q pins ≡ q.entry.left - 1
  unfolding quiet
  quiet_here = rw (safe, on, p)

pub until_edge_holds : (e : Entry) → until_edge e ≡ e.left - 1 + 1
until_edge_holds e = by_test (leb e.left 1)
    (λ h. rw h (omega (arith, leb-true e.left 1 h))) (λ h. rw h (omega (arith, leb-false e.left 1 h)))

-- The entry alone at such an edge stands for the queue after so many clocks.
pub edge_turn : (n : ℕ) (q : Qspi) (e : Entry) (pins : Pins) → plays q pins ≡ true → e.playing ≡ q.entry.playing →
    edge_within q.registers.spcr0 n e ≡ true →
    iterate (n - until_edge e) (λ r. clock r pins)
    (with_entry q (edge_fallen q.registers.spcr0 (e.edges % 32 + 1) (miso_of pins) e))
    ≡ iterate n (λ r. clock r pins) (with_entry q e)
edge_turn n q e pins runs same next =
    let a : ((spe q.registers.spcr1 && not (fault_now q pins)) ≡ true) × (q.entry.playing ≡ true) =
    and_parts (spe q.registers.spcr1 && not (fault_now q pins)) q.entry.playing runs in
    let b : (spe q.registers.spcr1 ≡ true) × (not (fault_now q pins) ≡ true) =
    and_parts (spe q.registers.spcr1) (not (fault_now q pins)) a.0 in
    let safe : fault_now q pins ≡ false = not_true (fault_now q pins) b.1 in
    let w : (leb (until_edge e) n ≡ true) × (ltb (e.edges % 32 + 1) (bits_of q.registers.spcr0 e.command * 2) ≡ true) =
    and_parts (leb (until_edge e) n) (ltb (e.edges % 32 + 1) (bits_of q.registers.spcr0 e.command * 2)) next in
    let p : e.playing ≡ true = same ∙ a.1 in
    let early : e.edges % 32 + 1 < bits_of q.registers.spcr0 e.command * 2 = ltb-true (e.edges % 32 + 1) (bits_of q.registers.spcr0 e.command * 2) w.1 in
    let fits : e.left - 1 < n = omega (arith, until_edge_holds e, leb-true (until_edge e) n w.0) in
    let rest : n - until_edge e ≡ n - (e.left - 1 + 1) = ap (λ k. n - k) (until_edge_holds e) in
    ap (λ s. iterate (n - until_edge e) (λ r. clock r pins) s)
    (sym (skipped_edge (with_entry q e) pins b.0 safe p early (e.left - 1) refl))
    ∙ ap (λ k. iterate k (λ r. clock r pins) (clock (skipped (e.left - 1) (with_entry q e)) pins)) rest
    ∙ turned (e.left - 1) n (with_entry q e) pins (sym (quiet_here (with_entry q e) pins b.0 safe p early)) fits

-- It has at least one clock, and not more than there are.
pub edge_fits : (n spcr0 : ℕ) (e : Entry) → edge_within spcr0 n e ≡ true → (1 ≤ until_edge e) × (until_edge e ≤ n)
edge_fits n spcr0 e next =
    (omega (arith, until_edge_holds e), leb-true (until_edge e) n (and_parts (leb (until_edge e) n) _ next).0)

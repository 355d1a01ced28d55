-- Up to the next clock 1 a write of SPCR2 changes nothing but SPCR2 as it is read and what is pending. Assumes nothing.
use mathlib.Core.Path.{◌≡◌, refl, sym, ap, subst, ◌∙◌}
use mathlib.Core.Bool.{Bool, true, false, cond, ◌||◌}
use Prim.Native.Nat.{ℕ, zero, suc, ◌+◌, ◌-◌, ◌*◌, ◌%◌}
use native.Mathlib.Omega.{arith}
use lib.Dec.{leb}
use borrow.Author.Tests.{leb-true, leb-false}
use Rattle.steps.specs.Bits.{merge, upper_byte}
use Rattle.qspi.specs.model.Fields.{spe, newqp, bits_of}
use Rattle.qspi.specs.model.Parts.{with_registers, with_next, with_entry}
use Rattle.qspi.specs.model.Registers.{with_spcr2, spcr2_bits, write_spcr2}
use Rattle.qspi.specs.model.Entry.{edge_fallen}
use Rattle.qspi.specs.model.Queue.{clock, queue_clock, clock_if, clock_at, start_clock, delay_clock, delayed, play_clock, counted, edge, judged, completed, is_last, wraps, followed, stored, begun, entry_at, faulted, fault_now, miso_of, ready}
use Rattle.qspi.specs.model.Outputs.{asks}
use Rattle.qspi.specs.claims.Run.{run, pre_in, spbr_in, edge_clock, during}
use Rattle.qspi.specs.claims.Laws.{Starting}
use Rattle.qspi.specs.claims.Clauses.{NoClock1, NewqpMoves, UpperAlone, Taken, Clock1Takes, Alike, Buffered}
use Rattle.qspi.specs.declared.Qspi.{Qspi}
use Rattle.qspi.specs.declared.Pins.{Pins}
use Rattle.qspi.proofs.Bounds.{bits_pos}
use Rattle.qspi.proofs.Edges.{next_edge, gap_pos, fast, edges_fall}
use Rattle.qspi.proofs.Mosi.{by_test}
use Rattle.qspi.proofs.Order.{or_true}
use Rattle.qspi.proofs.Delay.{no_spe}

-- SPCR2 and what is pending replaced.
abbrev holding : ℕ → Bool → Qspi → Qspi
holding w p q =
    with_next (with_registers q (with_spcr2 q.registers w))
    (record { working = q.next.working; pointer = q.next.pointer; pending = p })

module _ (w : ℕ) (p : Bool) where
  followed_same : (last wrap : Bool) (q : Qspi) →
      followed last wrap (holding w p q) ≡ holding w p (followed last wrap q)
  followed_same true true q = refl
  followed_same true false q = refl
  followed_same false wrap q = refl

  judged_same : (b : Bool) (q : Qspi) → judged b (holding w p q) ≡ holding w p (judged b q)
  unfolding completed
  judged_same true q =
      followed_same (is_last q) (wraps q) (stored q)
  judged_same false q = refl

  counted_same : (b miso : Bool) (q : Qspi) → counted b miso (holding w p q) ≡ holding w p (counted b miso q)
  unfolding edge
  counted_same true miso q =
      judged_same (leb (bits_of q.registers.spcr0 q.entry.command * 2) (q.entry.edges % 32 + 1))
      (with_entry q (edge_fallen q.registers.spcr0 (q.entry.edges % 32 + 1) miso q.entry))
  counted_same false miso q = refl

  delayed_same : (b : Bool) (q : Qspi) → delayed b (holding w p q) ≡ holding w p (delayed b q)
  delayed_same true q = refl
  delayed_same false q = refl

  at_same : (plays waits goes miso : Bool) (q : Qspi) → ready q ≡ goes →
      (plays ≡ false → waits ≡ false → goes ≡ true → ⊥) →
      clock_at plays waits miso (holding w p q) ≡ holding w p (clock_at plays waits miso q)
  unfolding play_clock delay_clock start_clock
  at_same true waits goes miso q h never = counted_same (leb q.entry.left 1) miso q
  at_same false true goes miso q h never = delayed_same (leb q.entry.left 1) q
  at_same false false true miso q h never = absurd (never refl refl refl)
  at_same false false false miso q h never = rw h

  if_same : (on miso : Bool) (q : Qspi) →
      (on ≡ true → q.entry.playing ≡ false → q.entry.delaying ≡ false → ready q ≡ true → ⊥) →
      clock_if on miso (holding w p q) ≡ holding w p (clock_if on miso q)
  if_same true miso q never = at_same q.entry.playing q.entry.delaying (ready q) miso q refl (never refl)
  if_same false miso q never = refl

  fault_same : (due : Bool) (q : Qspi) → faulted due (holding w p q) ≡ holding w p (faulted due q)
  fault_same true q = refl
  fault_same false q = refl

  queue_same : (due miso : Bool) (q : Qspi) →
      (due ≡ false → spe q.registers.spcr1 ≡ true → q.entry.playing ≡ false → q.entry.delaying ≡ false →
      ready q ≡ true → ⊥) →
      queue_clock miso (holding w p (faulted due q)) ≡ holding w p (queue_clock miso (faulted due q))
  unfolding queue_clock
  queue_same true miso q never = rw (no_spe q.registers.spcr1)
  queue_same false miso q never = if_same (spe q.registers.spcr1) miso q (never refl)

  clock_same : (q : Qspi) (pins : Pins) → (Starting q → ⊥) → clock (holding w p q) pins ≡ holding w p (clock q pins)
  unfolding clock
  clock_same q pins never =
      ap (queue_clock (miso_of pins)) (fault_same (fault_now q pins) q)
      ∙ queue_same (fault_now q pins) (miso_of pins) q
      (λ safe on plays waits goes. never
      (record { on = on; not_playing = plays; not_delaying = waits; goes = goes }))

  run_same : (q : Qspi) (pins : ℕ → Pins) (c : ℕ) → NoClock1 q pins c → run pins c (holding w p q) ≡ holding w p (run pins c q)
  unfolding run
  run_same q pins zero never = refl
  run_same q pins (suc c) never =
      ap (λ r. clock r (pins (suc c))) (run_same q pins c (λ k h. never k (omega arith)))
      ∙ clock_same (run pins c q) (pins (suc c)) (never c (omega arith))

-- A write of SPCR2 is such a replacement.
pub buffered : Buffered
buffered q v upper lower pins c never =
    let r : Qspi = write_spcr2 q v upper lower in
    let same : run pins c r ≡ holding r.registers.spcr2 r.next.pending (run pins c q) =
    run_same r.registers.spcr2 r.next.pending q pins c never in (
      subst (Alike (run pins c q)) (sym same)
          (record {
            spcr0 = refl;
            spcr1 = refl;
            spcr3 = refl;
            spsr = refl;
            ram = refl;
            working = refl;
            pointer = refl;
            entry = refl;
          }),
      ap asks same,
    )

newqp_bits : (h l : ℕ) → spcr2_bits (h * 256 + l % 256) % 16 ≡ l % 16
newqp_bits h l = omega arith

-- What is pending, and SPCR2, stay to the next clock 1.
pub newqp_moves : NewqpMoves
newqp_moves q v upper pins c never =
    let r : Qspi = write_spcr2 q v upper true in
    ap entry_at (run_same r.registers.spcr2 r.next.pending r pins c never)
    ∙ ap (λ b. cond b (newqp r.registers.spcr2) ((run pins c r).next.pointer % 16)) (or_true q.next.pending)
    ∙ newqp_bits (cond upper (upper_byte v) (upper_byte q.registers.spcr2)) v

or_false : (b : Bool) → b || false ≡ b
or_false true = refl
or_false false = refl

pub upper_alone : UpperAlone
upper_alone q v =
    ap (λ b. cond b (newqp (spcr2_bits (merge q.registers.spcr2 v true false))) (q.next.pointer % 16))
    (or_false q.next.pending)
    ∙ ap (λ n. cond q.next.pending n (q.next.pointer % 16)) (newqp_bits (upper_byte v) q.registers.spcr2)

-- Clock 1 leaves what it took, also where edge 1 falls in it.
taken : (q r : Qspi) (pins : ℕ → Pins) (j left : ℕ) → r ≡ during (begun q) pins j left → Taken q r
taken q r pins j left e =
    subst (Taken q) (sym e) (record { working = refl; pointer = refl; command = refl; word = refl })

pub clock1_takes : Clock1Takes
clock1_takes q pins s calm =
    by_test (leb 2 (pre_in (begun q)))
    (λ more.
    taken q (run pins 1 q) pins 0 (pre_in (begun q) - 1)
    (edges_fall q pins s calm 0 1 (omega (arith, bits_pos q.registers.spcr0 (begun q).entry.command))
    (leb-true 2 (pre_in (begun q)) more) (omega arith)))
    (λ one.
    let here : edge_clock (begun q) 1 + 0 ≡ 1 =
    omega (arith, next_edge (begun q) 0, leb-false 2 (pre_in (begun q)) one, gap_pos (begun q) 0 (fast q s)) in
    taken q (run pins 1 q) pins 1 (spbr_in (begun q) - 0)
    (ap (λ c. run pins c q) (sym here)
    ∙ edges_fall q pins s calm 1 0 (omega (arith, bits_pos q.registers.spcr0 (begun q).entry.command))
    (omega (arith, fast q s)) (omega (arith, here))))

-- Entries run from the pointer to ENDQP modulo 16. Assumes nothing.
use mathlib.Core.Path.{◌≡◌, refl, sym, ap, subst, ◌∙◌}
use mathlib.Core.Bool.{Bool, true, false, not, cond, ◌||◌}
use Prim.Native.Nat.{ℕ, zero, suc, ◌+◌, ◌*◌, ◌%◌, ◌≤◌, ◌<◌}
use native.Mathlib.Nat.{mod-eq_of_lt}
use native.Mathlib.Omega.{arith}
use lib.Dec.{eqb}
use lib.ListN.{get_or}
use borrow.Author.Tests.{eq-eqb, ne_eqb}
use Rattle.qspi.specs.model.Fields.{wren, wrto, endqp, newqp, halt}
use Rattle.qspi.specs.model.Queue.{entry_at, begun, stored, advanced, wrapped, wrap_to}
use Rattle.qspi.specs.claims.Run.{run, bits_in, spbr_in, last_clock_of, last_clock, length_of, length_in, during, waited, entry_no, command_no, begins_at, entries_before}
use Rattle.qspi.specs.claims.Laws.{Starting, Calm, goes_on, Before, QueueOver, EntriesRun, QueueWraps, LastOfQueue}
use Rattle.qspi.specs.declared.Qspi.{Qspi}
use Rattle.qspi.specs.declared.Pins.{Pins}
use Rattle.qspi.proofs.Completed.{completed_next, completed_wraps}
use Rattle.qspi.proofs.Edges.{last_edge_holds}
use Rattle.qspi.proofs.Word.{entry_small, word_stored}
use Rattle.qspi.proofs.Delay.{run_add, next_starts, queue_ends}

abbrev at_end : Qspi → (ℕ → Pins) → Qspi
at_end q pins = during (begun q) pins (bits_in (begun q) * 2) (spbr_in (begun q))

cond_less : (b : Bool) (x y : ℕ) → x < 16 → y < 16 → cond b x y < 16
cond_less true x y h k = h
cond_less false x y h k = k

entry_less : (q : Qspi) → entry_at q < 16
entry_less q = cond_less q.next.pending (q.registers.spcr2 % 16) (q.next.pointer % 16) (omega arith) (omega arith)

not_last : (q : Qspi) (k : ℕ) → k < entries_before q → entry_no q k ≡ endqp q.registers.spcr2 → ⊥
not_last q k h e = omega (arith, entry_less q)

is_last : (q : Qspi) → entry_no q (entries_before q) ≡ endqp q.registers.spcr2
is_last q = omega (arith, entry_less q)

-- One entry that isn't the last.
module _ (r : Qspi) (pins : ℕ → Pins) (s : Starting r) (calm : Calm pins) (clear : halt r.registers.spcr3 ≡ false)
    (more : entry_at r ≡ endqp r.registers.spcr2 → ⊥) where
  tests : eqb (entry_at r) (endqp r.registers.spcr2) ≡ false
  tests = ne_eqb (entry_at r) (endqp r.registers.spcr2) more

  goes : goes_on r ≡ true
  goes = rw tests

  after : run pins (length_in (begun r)) r ≡ waited (advanced (stored (at_end r pins)))
  after =
      (next_starts r pins s calm goes clear).0
      ∙ ap waited
      (last_edge_holds r pins s calm ∙ completed_next (at_end r pins) (rw (entry_small r) tests))

  next_at : entry_at (run pins (length_in (begun r)) r) ≡ (entry_at r + 1) % 16
  next_at = ap entry_at after ∙ omega (arith, entry_less r)

  step : (q : Qspi) (k : ℕ) → Before q r k → Before q (run pins (length_in (begun r)) r) (suc k)
  step q k a =
      record {
        starts = (next_starts r pins s calm goes clear).1;
        here = next_at ∙ omega (arith, a.here);
        spcr0 = ap (λ x. x.registers.spcr0) after ∙ a.spcr0;
        spcr1 = ap (λ x. x.registers.spcr1) after ∙ a.spcr1;
        spcr2 = ap (λ x. x.registers.spcr2) after ∙ a.spcr2;
        spcr3 = ap (λ x. x.registers.spcr3) after ∙ a.spcr3;
        spif = ap (λ x. x.spsr.flags.spif) after ∙ a.spif;
        transmit = ap (λ x. x.ram.transmit) after ∙ a.transmit;
        commands = ap (λ x. x.ram.commands) after ∙ a.commands;
      }

-- The length of the entry before which the queue stands.
pub same_clock : (f : ℕ → ℕ → ℕ → ℕ) (q r : Qspi) (k : ℕ) → Before q r k →
    f r.registers.spcr0 r.registers.spcr1 (begun r).entry.command ≡ f q.registers.spcr0 q.registers.spcr1 (command_no q k)
same_clock f q r k a =
    ap (λ w. f w r.registers.spcr1 (begun r).entry.command) a.spcr0
    ∙ ap (λ w. f q.registers.spcr0 w (begun r).entry.command) a.spcr1
    ∙ ap (λ bs. f q.registers.spcr0 q.registers.spcr1 (get_or bs (entry_at r) 0)) a.commands
    ∙ ap (λ i. f q.registers.spcr0 q.registers.spcr1 (get_or q.ram.commands i 0)) a.here

module _ (q : Qspi) (pins : ℕ → Pins) (s : Starting q) (calm : Calm pins) (clear : halt q.registers.spcr3 ≡ false) where
  pub at_entry : (k : ℕ) → k ≤ entries_before q → Before q (run pins (begins_at q k) q) k
  unfolding run begins_at
  at_entry zero less =
      record {
        starts = s;
        here = omega (arith, entry_less q);
        spcr0 = refl;
        spcr1 = refl;
        spcr2 = refl;
        spcr3 = refl;
        spif = refl;
        transmit = refl;
        commands = refl;
      }
  at_entry (suc k) less =
      let r : Qspi = run pins (begins_at q k) q in
      let a : Before q r k = at_entry k (omega arith) in
      let later : ℕ → Pins = λ i. pins (begins_at q k + i) in
      let moved : run pins (begins_at q k + length_of q.registers.spcr0 q.registers.spcr1 (command_no q k)) q
      ≡ run later (length_in (begun r)) r =
      run_add pins (begins_at q k) (length_of q.registers.spcr0 q.registers.spcr1 (command_no q k)) q
      ∙ ap (λ l. run later l r) (sym (same_clock length_of q r k a)) in
      subst (λ x. Before q x (suc k)) (sym moved)
      (step r later a.starts (λ i. calm (begins_at q k + i)) (ap halt a.spcr3 ∙ clear)
      (λ e. not_last q k (omega arith) (sym a.here ∙ e ∙ ap endqp a.spcr2)) q k a)

pub entries_run : EntriesRun
entries_run q pins s calm clear k less = at_entry q pins s calm clear k less

pub last_of_queue : LastOfQueue
last_of_queue q pins s calm clear once =
    let m : ℕ = entries_before q in
    let r : Qspi = run pins (begins_at q m) q in
    let a : Before q r m = at_entry q pins s calm clear m (omega arith) in
    let later : ℕ → Pins = λ i. pins (begins_at q m + i) in
    let here : entry_at r ≡ endqp q.registers.spcr2 = a.here ∙ is_last q in
    let ends : goes_on r ≡ false =
    rw (eq-eqb (entry_at r) (endqp r.registers.spcr2) (here ∙ ap endqp (sym a.spcr2))) (ap wren a.spcr2 ∙ once) in
    let moved : run later (last_clock (begun r)) r
    ≡ run pins (begins_at q m + last_clock_of q.registers.spcr0 q.registers.spcr1 (command_no q m)) q =
    ap (λ l. run later l r) (same_clock last_clock_of q r m a)
    ∙ sym (run_add pins (begins_at q m) (last_clock_of q.registers.spcr0 q.registers.spcr1 (command_no q m)) q) in
    let calm_later : Calm later = λ i. calm (begins_at q m + i) in
    subst (QueueOver q) moved
    (record {
      off = (queue_ends r later a.starts calm_later ends).0;
      risen = (queue_ends r later a.starts calm_later ends).1;
      last = (word_stored r later a.starts calm_later).1 ∙ here;
    })

pub or_true : (b : Bool) → b || true ≡ true
or_true true = refl
or_true false = refl

wrap_less : (w : ℕ) → wrap_to w < 16
wrap_less w = cond_less (wrto w) (newqp w) 0 (omega arith) (omega arith)

pub queue_wraps : QueueWraps
queue_wraps q pins s calm clear last again =
    let tests : eqb (entry_at q) (endqp q.registers.spcr2) ≡ true = eq-eqb (entry_at q) (endqp q.registers.spcr2) last in
    let goes : goes_on q ≡ true = rw again (or_true (not (eqb (entry_at q) (endqp q.registers.spcr2)))) in
    let done : run pins (last_clock (begun q)) q ≡ wrapped (stored (at_end q pins)) =
    last_edge_holds q pins s calm ∙ completed_wraps (at_end q pins) (rw (entry_small q) tests) again in (
      ap (λ r. r.spsr.flags.spif) done,
      ap entry_at ((next_starts q pins s calm goes clear).0 ∙ ap waited done)
          ∙ mod-eq_of_lt (wrap_less q.registers.spcr2),
    )

-- The delay after edge 2n, and where the queue goes from there. Assumes nothing.
use mathlib.Core.Path.{◌≡◌, refl, sym, ap, subst, ◌∙◌}
use mathlib.Core.Bool.{Bool, true, false, not, ◌&&◌, ◌||◌}
use Prim.Native.Nat.{ℕ, zero, suc, ◌+◌, ◌-◌, ◌*◌, ◌/◌, ◌%◌, ◌≤◌, ◌<◌}
use native.Mathlib.Nat.{add-zero, add-suc, zero-add, div-one}
use native.Mathlib.Omega.{arith}
use lib.Dec.{eqb, leb}
use borrow.Author.Tests.{lt-leb, ne_eqb, eqb-false}
use Rattle.steps.specs.Bits.{bit}
use Rattle.qspi.specs.model.Fields.{spbr, spe, wren, endqp, halt, cont}
use Rattle.qspi.specs.model.Queue.{clock, queue_clock, start_clock, delay_clock, entry_at, begun, selected, stored, finished, wrapped, advanced}
use Rattle.qspi.specs.claims.Run.{run, bits_in, spbr_in, delay_in, last_clock, length_in, during, waiting, waited, stopped}
use Rattle.qspi.specs.claims.Laws.{Starting, Calm, Halted, goes_on, DelayRuns, NextStarts, HaltComes, HaltHolds, HaltReleases, QueueEnds}
use Rattle.qspi.specs.declared.Qspi.{Qspi}
use Rattle.qspi.specs.declared.Pins.{Pins}
use Rattle.qspi.proofs.Bounds.{delay_pos}
use Rattle.qspi.proofs.Completed.{completed_on, completed_ends}
use Rattle.qspi.proofs.Edges.{no_fault, last_edge_holds, and_left}
use Rattle.qspi.proofs.Word.{entry_small}

pub run_add : (pins : ℕ → Pins) (c d : ℕ) (q : Qspi) → run pins (c + d) q ≡ run (λ k. pins (c + k)) d (run pins c q)
unfolding run
run_add pins c zero q = ap (λ k. run pins k q) (add-zero c)
run_add pins c (suc d) q =
    ap (λ k. run pins k q) (add-suc c d)
    ∙ ap (λ r. clock r (pins (suc (c + d)))) (run_add pins c d q)
    ∙ ap (λ k. clock (run (λ i. pins (c + i)) d (run pins c q)) (pins k)) (sym (add-suc c d))

and_same : (b : Bool) → b && b ≡ b
and_same true = refl
and_same false = refl

clock_delaying : (q : Qspi) (pins : Pins) → spe q.registers.spcr1 ≡ true → q.entry.playing ≡ false → q.entry.delaying ≡ true →
    selected pins ≡ false → clock q pins ≡ delay_clock q
unfolding clock queue_clock
clock_delaying q pins on p w calm = rw (no_fault q pins calm, on, p, w)

module _ (q : Qspi) (pins : ℕ → Pins) (on : spe q.registers.spcr1 ≡ true) (p : q.entry.playing ≡ false)
    (w : q.entry.delaying ≡ true) (selects : q.entry.selecting ≡ true) (calm : Calm pins) where
  first_step : (l : ℕ) → q.entry.left ≡ suc (suc l) → run pins 1 q ≡ waiting q (suc l)
  unfolding run delay_clock
  first_step l h =
      let less : suc (suc l) - 1 ≡ suc l = omega arith in
      clock_delaying q (pins 1) on p w (calm 1) ∙ rw (h, lt-leb (suc (suc l)) 1 (omega arith), less, selects)

  wait_step : (l c : ℕ) → run pins c q ≡ waiting q (suc (suc l)) → run pins (suc c) q ≡ waiting q (suc l)
  unfolding run delay_clock
  wait_step l c h =
      let less : suc (suc l) - 1 ≡ suc l = omega arith in
      rw h
      (clock_delaying (waiting q (suc (suc l))) (pins (suc c)) on p w (calm (suc c))
      ∙ rw (lt-leb (suc (suc l)) 1 (omega arith), less, and_same (cont q.entry.command)))

  wait : (d l : ℕ) → q.entry.left ≡ suc (suc (d + l)) → run pins (suc d) q ≡ waiting q (suc l)
  wait zero l h = first_step l (h ∙ rw (zero-add l))
  wait (suc d) l h =
      wait_step l (suc d) (wait d (suc l) (h ∙ same))
    where
      same : suc (suc (suc d + l)) ≡ suc (suc (d + suc l))
      same = omega arith

  over : (c : ℕ) → halt q.registers.spcr3 ≡ false → run pins c q ≡ waiting q 1 → run pins (suc c) q ≡ waited q
  unfolding run delay_clock
  over c h e =
      rw e
      (clock_delaying (waiting q 1) (pins (suc c)) on p w (calm (suc c))
      ∙ rw (h, and_same (cont q.entry.command)))

  over_halted : (c : ℕ) → halt q.registers.spcr3 ≡ true → run pins c q ≡ waiting q 1 → run pins (suc c) q ≡ stopped q
  unfolding run delay_clock
  over_halted c h e =
      rw e
      (clock_delaying (waiting q 1) (pins (suc c)) on p w (calm (suc c))
      ∙ rw (h, and_same (cont q.entry.command)))

  pub waits : (d : ℕ) → 0 < d → d < q.entry.left → run pins d q ≡ waiting q (q.entry.left - d)
  waits zero pos less = absurd (omega arith)
  waits (suc d) pos less =
      let parts : q.entry.left ≡ suc (suc (d + (q.entry.left - suc (suc d)))) = omega arith in
      let rest : suc (q.entry.left - suc (suc d)) ≡ q.entry.left - suc d = omega arith in
      wait d (q.entry.left - suc (suc d)) parts ∙ ap (waiting q) rest

  -- In the delay's last clock.
  last_wait : 2 ≤ q.entry.left → run pins (q.entry.left - 1) q ≡ waiting q 1
  last_wait two =
      let one : q.entry.left - (q.entry.left - 1) ≡ 1 = omega arith in
      waits (q.entry.left - 1) (omega arith) (omega arith) ∙ ap (waiting q) one

  pub waits_over : 2 ≤ q.entry.left → halt q.registers.spcr3 ≡ false → run pins q.entry.left q ≡ waited q
  waits_over two h =
      let full : suc (q.entry.left - 1) ≡ q.entry.left = omega arith in
      ap (λ k. run pins k q) (sym full) ∙ over (q.entry.left - 1) h (last_wait two)

  pub waits_halted : 2 ≤ q.entry.left → halt q.registers.spcr3 ≡ true → run pins q.entry.left q ≡ stopped q
  waits_halted two h =
      let full : suc (q.entry.left - 1) ≡ q.entry.left = omega arith in
      ap (λ k. run pins k q) (sym full) ∙ over_halted (q.entry.left - 1) h (last_wait two)

-- The entry at edge 2n.
abbrev at_end : Qspi → (ℕ → Pins) → Qspi
at_end q pins = during (begun q) pins (bits_in (begun q) * 2) (spbr_in (begun q))

on_test : (q : Qspi) → goes_on q ≡ true → not (eqb (entry_at q % 16) (endqp q.registers.spcr2)) || wren q.registers.spcr2 ≡ true
on_test q h = rw (entry_small q) h

-- What stands after edge 2n where the queue goes on.
module _ (q : Qspi) (pins : ℕ → Pins) (s : Starting q) (calm : Calm pins) (goes : goes_on q ≡ true) where
  pub field_on : {A : Type 0} (f : Qspi → A) (v : A) → f (wrapped (stored (at_end q pins))) ≡ v →
      f (advanced (stored (at_end q pins))) ≡ v → f (run pins (last_clock (begun q)) q) ≡ v
  field_on f v a c =
      ap f (last_edge_holds q pins s calm) ∙ completed_on f v (at_end q pins) (on_test q goes) a c

  pub after_spcr0 : (run pins (last_clock (begun q)) q).registers.spcr0 ≡ q.registers.spcr0
  after_spcr0 = field_on (λ r. r.registers.spcr0) q.registers.spcr0 refl refl

  pub after_spcr1 : (run pins (last_clock (begun q)) q).registers.spcr1 ≡ q.registers.spcr1
  after_spcr1 = field_on (λ r. r.registers.spcr1) q.registers.spcr1 refl refl

  pub after_spcr3 : (run pins (last_clock (begun q)) q).registers.spcr3 ≡ q.registers.spcr3
  after_spcr3 = field_on (λ r. r.registers.spcr3) q.registers.spcr3 refl refl

  after_left : (run pins (last_clock (begun q)) q).entry.left ≡ delay_in (begun q)
  after_left = field_on (λ r. r.entry.left) (delay_in (begun q)) refl refl

  after_on : spe (run pins (last_clock (begun q)) q).registers.spcr1 ≡ true
  after_on = ap spe after_spcr1 ∙ s.on

  shifted_calm : (c : ℕ) → Calm (λ k. pins (c + k))
  shifted_calm c k = calm (c + k)

  delay_here : (d : ℕ) → 0 < d → d < delay_in (begun q) →
      run pins (last_clock (begun q) + d) q ≡ waiting (run pins (last_clock (begun q)) q) (delay_in (begun q) - d)
  delay_here d pos less =
      run_add pins (last_clock (begun q)) d q
      ∙ waits (run pins (last_clock (begun q)) q) (λ k. pins (last_clock (begun q) + k)) after_on
      (field_on (λ r. r.entry.playing) false refl refl) (field_on (λ r. r.entry.delaying) true refl refl)
      (field_on (λ r. r.entry.selecting) true refl refl) (shifted_calm (last_clock (begun q))) d pos (rw after_left less)
      ∙ ap (λ l. waiting (run pins (last_clock (begun q)) q) (l - d)) after_left

  pub in_delay_holds : (d : ℕ) → d < delay_in (begun q) → (run pins (last_clock (begun q) + d) q).entry.delaying ≡ true
  in_delay_holds zero less =
      ap (λ k. (run pins k q).entry.delaying) (add-zero (last_clock (begun q)))
      ∙ field_on (λ r. r.entry.delaying) true refl refl
  in_delay_holds (suc d) less =
      ap (λ r. r.entry.delaying) (delay_here (suc d) (omega arith) less) ∙ field_on (λ r. r.entry.delaying) true refl refl

  module _ (clear : halt q.registers.spcr3 ≡ false) where
    pub over_here : run pins (length_in (begun q)) q ≡ waited (run pins (last_clock (begun q)) q)
    over_here =
        run_add pins (last_clock (begun q)) (delay_in (begun q)) q
        ∙ ap (λ l. run (λ k. pins (last_clock (begun q) + k)) l (run pins (last_clock (begun q)) q)) (sym after_left)
        ∙ waits_over (run pins (last_clock (begun q)) q) (λ k. pins (last_clock (begun q) + k)) after_on
        (field_on (λ r. r.entry.playing) false refl refl) (field_on (λ r. r.entry.delaying) true refl refl)
        (field_on (λ r. r.entry.selecting) true refl refl) (shifted_calm (last_clock (begun q)))
        (rw after_left (omega (arith, delay_pos q.registers.spcr1 (begun q).entry.command))) (ap halt after_spcr3 ∙ clear)

    next_here : Starting (run pins (length_in (begun q)) q)
    next_here =
        subst Starting (sym over_here)
        (record {
          on = after_on;
          not_playing = refl;
          not_delaying = refl;
          goes = rw after_spcr0 (rw (and_left (leb 2 (spbr_in q)) _ s.goes));
        })

  module _ (sets : halt q.registers.spcr3 ≡ true) where
    halted_here : run pins (length_in (begun q)) q ≡ stopped (run pins (last_clock (begun q)) q)
    halted_here =
        run_add pins (last_clock (begun q)) (delay_in (begun q)) q
        ∙ ap (λ l. run (λ k. pins (last_clock (begun q) + k)) l (run pins (last_clock (begun q)) q)) (sym after_left)
        ∙ waits_halted (run pins (last_clock (begun q)) q) (λ k. pins (last_clock (begun q) + k)) after_on
        (field_on (λ r. r.entry.playing) false refl refl) (field_on (λ r. r.entry.delaying) true refl refl)
        (field_on (λ r. r.entry.selecting) true refl refl) (shifted_calm (last_clock (begun q)))
        (rw after_left (omega (arith, delay_pos q.registers.spcr1 (begun q).entry.command))) (ap halt after_spcr3 ∙ sets)

    waits_here : Halted (run pins (length_in (begun q)) q)
    waits_here =
        subst Halted (sym halted_here)
        (record {
          on = after_on;
          not_playing = refl;
          not_delaying = refl;
          halted = refl;
          fast = ap (λ w. leb 2 (spbr w)) after_spcr0 ∙ and_left (leb 2 (spbr_in q)) _ s.goes;
        })

pub halt_comes : HaltComes
halt_comes q pins s calm goes sets = (halted_here q pins s calm goes sets, waits_here q pins s calm goes sets)

clock_halted : (q : Qspi) (pins : Pins) → Halted q → selected pins ≡ false → halt q.registers.spcr3 ≡ true → clock q pins ≡ q
unfolding clock queue_clock start_clock
clock_halted q pins h calm sets =
    rw (no_fault q pins calm, h.on, h.not_playing, h.not_delaying, h.fast, h.halted, sets)

pub halt_holds : HaltHolds
unfolding run
halt_holds q pins h calm sets zero = refl
halt_holds q pins h calm sets (suc d) =
    ap (λ r. clock r (pins (suc d))) (halt_holds q pins h calm sets d)
    ∙ clock_halted q (pins (suc d)) h (calm (suc d)) sets

-- HALT is bit 8 of the word at 1E.
cleared : (v : ℕ) → bit 8 v ≡ false → halt (v / 256 % 256 % 8) ≡ false
cleared v h =
    ne_eqb (v / 256 % 256 % 8 / 1 % 2) 1
    (λ e. eqb-false (v / 256 % 2) 1 h (omega (arith, div-one (v / 256 % 256 % 8))))

pub halt_releases : HaltReleases
halt_releases q v lower h clear =
    record {
      on = h.on;
      not_playing = h.not_playing;
      not_delaying = h.not_delaying;
      goes = rw (h.fast, h.halted, cleared v clear);
    }

pub delay_runs : DelayRuns
delay_runs q pins s calm goes d pos less = delay_here q pins s calm goes d pos less

pub next_starts : NextStarts
next_starts q pins s calm goes clear = (over_here q pins s calm goes clear, next_here q pins s calm goes clear)

off_test : (q : Qspi) → goes_on q ≡ false → not (eqb (entry_at q % 16) (endqp q.registers.spcr2)) || wren q.registers.spcr2 ≡ false
off_test q h = rw (entry_small q) h

pub no_spe : (w : ℕ) → spe (w % 32768) ≡ false
no_spe w = ne_eqb (w % 32768 / 32768 % 2) 1 (λ e. omega arith)

pub queue_ends : QueueEnds
queue_ends q pins s calm ends =
    let done : run pins (last_clock (begun q)) q ≡ finished (stored (at_end q pins)) =
    last_edge_holds q pins s calm ∙ completed_ends (at_end q pins) (off_test q ends) in
    (ap (λ r. spe r.registers.spcr1) done ∙ no_spe q.registers.spcr1, ap (λ r. r.spsr.flags.spif) done)

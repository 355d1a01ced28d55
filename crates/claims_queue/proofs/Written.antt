-- SPCR2, SPCR3 and what is pending, written in an entry: up to the last clock of its delay no clock minds them. Assumes nothing.
use mathlib.Core.Path.{◌≡◌, refl, sym, ap, subst, ◌∙◌}
use mathlib.Core.Bool.{Bool, true, false}
use Prim.Native.Nat.{ℕ, zero, suc, ◌+◌, ◌-◌, ◌*◌, ◌%◌, ◌≤◌, ◌<◌}
use native.Mathlib.Nat.{add-suc, add-zero}
use native.Mathlib.Omega.{arith}
use lib.Dec.{leb, ltb}
use borrow.Author.Tests.{lt-leb, ltb-true, ltb-false}
use Rattle.qspi.specs.model.Fields.{spe, bits_of}
use Rattle.qspi.specs.model.Parts.{with_entry}
use Rattle.qspi.specs.model.Entry.{edge_fallen}
use Rattle.qspi.specs.model.Queue.{clock, delay_clock, delayed, play_clock, counted, edge, judged, completed, is_last, wraps, followed, stored, begun, selected, miso_of}
use Rattle.qspi.specs.claims.Run.{run, bits_in, edge_clock, gap, last_clock, length_in, delay_in, waiting}
use Rattle.qspi.specs.claims.Laws.{Starting, Calm, goes_on}
use Rattle.qspi.specs.declared.Qspi.{Qspi}
use Rattle.qspi.specs.declared.Pins.{Pins}
use Rattle.qspi.proofs.Bounds.{delay_pos}
use Rattle.qspi.proofs.Delay.{delay_runs, field_on}
use Rattle.qspi.proofs.Edges.{next_edge, edges_fall, no_fault}
use Rattle.qspi.proofs.Mosi.{by_test}
use Rattle.qspi.proofs.Quiet.{clock_playing, clock_delaying}

abbrev pub holding : ℕ → ℕ → Bool → Qspi → Qspi
holding w3 w p q =
    record {
      registers = record { spcr0 = q.registers.spcr0; spcr1 = q.registers.spcr1; spcr2 = w; spcr3 = w3 };
      spsr = q.spsr;
      next = record { working = q.next.working; pointer = q.next.pointer; pending = p };
      entry = q.entry;
      ram = q.ram;
    }

module _ (w3 w : ℕ) (p : Bool) where
  followed_same : (last wrap : Bool) (q : Qspi) → followed last wrap (holding w3 w p q) ≡ holding w3 w p (followed last wrap q)
  followed_same true true q = refl
  followed_same true false q = refl
  followed_same false wrap q = refl

  judged_same : (b : Bool) (q : Qspi) → judged b (holding w3 w p q) ≡ holding w3 w p (judged b q)
  unfolding completed
  judged_same true q = followed_same (is_last q) (wraps q) (stored q)
  judged_same false q = refl

  counted_same : (b miso : Bool) (q : Qspi) → counted b miso (holding w3 w p q) ≡ holding w3 w p (counted b miso q)
  unfolding edge
  counted_same true miso q =
      judged_same (leb (bits_of q.registers.spcr0 q.entry.command * 2) (q.entry.edges % 32 + 1))
      (with_entry q (edge_fallen q.registers.spcr0 (q.entry.edges % 32 + 1) miso q.entry))
  counted_same false miso q = refl

  -- A clock of an entry before edge 2n, and one of its delay before the last.
  play_same : (q : Qspi) (pins : Pins) → spe q.registers.spcr1 ≡ true → q.entry.playing ≡ true → selected pins ≡ false →
      clock (holding w3 w p q) pins ≡ holding w3 w p (clock q pins)
  unfolding play_clock
  play_same q pins on plays calm =
      clock_playing (holding w3 w p q) pins on (no_fault (holding w3 w p q) pins calm) plays
      ∙ counted_same (leb q.entry.left 1) (miso_of pins) q
      ∙ ap (holding w3 w p) (sym (clock_playing q pins on (no_fault q pins calm) plays))

  wait_same : (q : Qspi) (pins : Pins) → spe q.registers.spcr1 ≡ true → q.entry.playing ≡ false → q.entry.delaying ≡ true →
      1 < q.entry.left → selected pins ≡ false → clock (holding w3 w p q) pins ≡ holding w3 w p (clock q pins)
  unfolding delay_clock
  wait_same q pins on plays waits more calm =
      let early : delayed (leb q.entry.left 1) (holding w3 w p q) ≡ holding w3 w p (delayed (leb q.entry.left 1) q) =
      rw (lt-leb q.entry.left 1 more) in
      clock_delaying (holding w3 w p q) pins on (no_fault (holding w3 w p q) pins calm) plays waits
      ∙ early
      ∙ ap (holding w3 w p) (sym (clock_delaying q pins on (no_fault q pins calm) plays waits))

-- Between which two edges a clock lies.
find : {A : Type 0} (e : Qspi) (m k : ℕ) → k < edge_clock e m →
    ((j d : ℕ) → j < m → d < gap e j → k ≡ edge_clock e j + d → A) → A
find e zero k less found = absurd (omega arith)
find e (suc m) k less found =
    by_test (ltb k (edge_clock e m))
    (λ h. find e m k (ltb-true k (edge_clock e m) h) (λ j d a b c. found j d (omega arith) b c))
    (λ h.
    let later : edge_clock e m + (k - edge_clock e m) ≡ k = omega (arith, ltb-false k (edge_clock e m) h) in
    found m (k - edge_clock e m) (omega arith) (omega (arith, next_edge e m, ltb-false k (edge_clock e m) h)) (sym later))

-- Before edge 2n.
record Plays (q r : Qspi) : Type 0 where
  on : spe r.registers.spcr1 ≡ true
  plays : r.entry.playing ≡ true
  pending : r.next.pending ≡ false
  spcr3 : r.registers.spcr3 ≡ q.registers.spcr3

-- In the delay, so many clocks after edge 2n.
record Delaying (q : Qspi) (d : ℕ) (r : Qspi) : Type 0 where
  on : spe r.registers.spcr1 ≡ true
  plays : r.entry.playing ≡ false
  waits : r.entry.delaying ≡ true
  count : r.entry.left ≡ delay_in (begun q) - d
  pending : r.next.pending ≡ false
  spcr3 : r.registers.spcr3 ≡ q.registers.spcr3

module _ (q : Qspi) (pins : ℕ → Pins) (s : Starting q) (calm : Calm pins) where
  plays_within : (k : ℕ) → 0 < k → k < last_clock (begun q) → Plays q (run pins k q)
  plays_within k pos less =
      find (begun q) (bits_in (begun q) * 2) k less
      (λ j d early within here.
      subst (Plays q) (sym (ap (λ c. run pins c q) here ∙ edges_fall q pins s calm j d early within (omega arith)))
      (record { on = s.on; plays = refl; pending = refl; spcr3 = refl }))

  -- Clocks that don't mind carry the change along.
  carried : (w3 w : ℕ) (p : Bool) (d c : ℕ) →
      ((k : ℕ) → k < c → clock (holding w3 w p (run pins (d + k) q)) (pins (d + suc k)) ≡ holding w3 w p (clock (run pins (d + k) q) (pins (d + suc k)))) →
      run (λ k. pins (d + k)) c (holding w3 w p (run pins d q)) ≡ holding w3 w p (run pins (d + c) q)
  unfolding run
  carried w3 w p d zero minds = ap (λ k. holding w3 w p (run pins k q)) (sym (add-zero d))
  carried w3 w p d (suc c) minds =
      ap (λ r. clock r (pins (d + suc c))) (carried w3 w p d c (λ k h. minds k (omega arith)))
      ∙ minds c (omega arith)
      ∙ ap (λ k. holding w3 w p (clock (run pins (d + c) q) (pins k))) (add-suc d c)
      ∙ ap (λ k. holding w3 w p (run pins k q)) (sym (add-suc d c))

  -- To edge 2n.
  pub to_last : (w3 w : ℕ) (p : Bool) (d : ℕ) → 0 < d → d < last_clock (begun q) →
      run (λ k. pins (d + k)) (last_clock (begun q) - d) (holding w3 w p (run pins d q)) ≡ holding w3 w p (run pins (last_clock (begun q)) q)
  to_last w3 w p d pos less =
      let whole : d + (last_clock (begun q) - d) ≡ last_clock (begun q) = omega arith in
      carried w3 w p d (last_clock (begun q) - d)
      (λ k h.
      let here : Plays q (run pins (d + k) q) = plays_within (d + k) (omega arith) (omega arith) in
      play_same w3 w p (run pins (d + k) q) (pins (d + suc k)) here.on here.plays (calm (d + suc k)))
      ∙ ap (λ k. holding w3 w p (run pins k q)) whole

  module _ (goes : goes_on q ≡ true) where
    abbrev left : Qspi
    left = run pins (last_clock (begun q)) q

    at_2n : Delaying q 0 left
    at_2n =
        record {
          on = field_on q pins s calm goes (λ r. spe r.registers.spcr1) true s.on s.on;
          plays = field_on q pins s calm goes (λ r. r.entry.playing) false refl refl;
          waits = field_on q pins s calm goes (λ r. r.entry.delaying) true refl refl;
          count = field_on q pins s calm goes (λ r. r.entry.left) (delay_in (begun q)) refl refl ∙ none (delay_in (begun q));
          pending = field_on q pins s calm goes (λ r. r.next.pending) false refl refl;
          spcr3 = field_on q pins s calm goes (λ r. r.registers.spcr3) q.registers.spcr3 refl refl;
        }
      where
        none : (x : ℕ) → x ≡ x - 0
        none x = omega arith

    delaying : (d : ℕ) → d < delay_in (begun q) → Delaying q d (run pins (last_clock (begun q) + d) q)
    delaying zero less = subst (λ k. Delaying q 0 (run pins k q)) (sym (add-zero (last_clock (begun q)))) at_2n
    delaying (suc d) less =
        subst (Delaying q (suc d)) (sym (delay_runs q pins s calm goes (suc d) (omega arith) less))
        (record {
          on = at_2n.on;
          plays = at_2n.plays;
          waits = at_2n.waits;
          count = refl;
          pending = at_2n.pending;
          spcr3 = at_2n.spcr3;
        })

    -- What is pending, and SPCR3, in an entry.
    pub inside : (d : ℕ) → 0 < d → d < length_in (begun q) →
        ((run pins d q).next.pending ≡ false) × ((run pins d q).registers.spcr3 ≡ q.registers.spcr3)
    inside d pos less =
        by_test (ltb d (last_clock (begun q)))
        (λ h.
        let here : Plays q (run pins d q) = plays_within d pos (ltb-true d (last_clock (begun q)) h) in
        (here.pending, here.spcr3))
        (λ h.
        let there : last_clock (begun q) + (d - last_clock (begun q)) ≡ d = omega (arith, ltb-false d (last_clock (begun q)) h) in
        let here : Delaying q (d - last_clock (begun q)) (run pins d q) =
        subst (λ c. Delaying q (d - last_clock (begun q)) (run pins c q)) there (delaying (d - last_clock (begun q)) (omega (arith, there))) in
        (here.pending, here.spcr3))

    minds_not : (w3 w : ℕ) (p : Bool) (k : ℕ) (ps : Pins) → 0 < k → k + 1 < length_in (begun q) → selected ps ≡ false →
        clock (holding w3 w p (run pins k q)) ps ≡ holding w3 w p (clock (run pins k q) ps)
    minds_not w3 w p k ps pos less safe =
        by_test (ltb k (last_clock (begun q)))
        (λ h.
        let here : Plays q (run pins k q) = plays_within k pos (ltb-true k (last_clock (begun q)) h) in
        play_same w3 w p (run pins k q) ps here.on here.plays safe)
        (λ h.
        let there : last_clock (begun q) + (k - last_clock (begun q)) ≡ k = omega (arith, ltb-false k (last_clock (begun q)) h) in
        let here : Delaying q (k - last_clock (begun q)) (run pins k q) =
        subst (λ c. Delaying q (k - last_clock (begun q)) (run pins c q)) there (delaying (k - last_clock (begun q)) (omega (arith, there))) in
        wait_same w3 w p (run pins k q) ps here.on here.plays here.waits (omega (arith, here.count, there)) safe)

    last_wait : run pins (length_in (begun q) - 1) q ≡ waiting left 1
    last_wait =
        let more : 17 ≤ delay_in (begun q) = delay_pos q.registers.spcr1 (begun q).entry.command in
        let here : length_in (begun q) - 1 ≡ last_clock (begun q) + (delay_in (begun q) - 1) = omega arith in
        let one : delay_in (begun q) - (delay_in (begun q) - 1) ≡ 1 = omega arith in
        ap (λ k. run pins k q) here ∙ delay_runs q pins s calm goes (delay_in (begun q) - 1) (omega arith) (omega arith)
        ∙ ap (waiting left) one

    -- To the end of the delay, in whose last clock HALT is asked.
    pub to_end : (w3 w : ℕ) (p : Bool) (d : ℕ) → 0 < d → d < length_in (begun q) →
        run (λ k. pins (d + k)) (length_in (begun q) - d) (holding w3 w p (run pins d q)) ≡ delayed true (holding w3 w p (waiting left 1))
    unfolding run delay_clock
    to_end w3 w p d pos less =
        let c : ℕ = length_in (begun q) - d - 1 in
        let full : length_in (begun q) - d ≡ suc c = omega arith in
        let before : d + c ≡ length_in (begun q) - 1 = omega arith in
        let there : run (λ k. pins (d + k)) c (holding w3 w p (run pins d q)) ≡ holding w3 w p (waiting left 1) =
        carried w3 w p d c (λ k h. minds_not w3 w p (d + k) (pins (d + suc k)) (omega arith) (omega arith) (calm (d + suc k)))
        ∙ ap (λ k. holding w3 w p (run pins k q)) before ∙ ap (holding w3 w p) last_wait in
        ap (λ k. run (λ i. pins (d + i)) k (holding w3 w p (run pins d q))) full
        ∙ ap (λ r. clock r (pins (d + suc c))) there
        ∙ clock_delaying (holding w3 w p (waiting left 1)) (pins (d + suc c)) at_2n.on
        (no_fault (holding w3 w p (waiting left 1)) (pins (d + suc c)) (calm (d + suc c))) at_2n.plays at_2n.waits

-- A clock of the queue goes by no data: of the masked queue it leaves the same but for what is masked. Assumes nothing.
use mathlib.Core.Path.{◌≡◌, refl, sym, ap, ◌∙◌}
use mathlib.Core.Bool.{Bool, true, false, cond, not, ◌&&◌}
use Prim.Native.Nat.{ℕ, ◌+◌, ◌*◌, ◌%◌}
use native.Mathlib.Omega.{arith}
use lib.Dec.{leb}
use lib.ListN.{set}
use Rattle.qspi.specs.model.Fields.{cpha, spe, bits_of}
use Rattle.qspi.specs.model.Parts.{with_entry}
use Rattle.qspi.specs.model.Entry.{collected_after, edge_fallen}
use Rattle.qspi.specs.model.Queue.{clock, delay_clock, delayed, play_clock, counted, edge, judged, completed, is_last, wraps, followed, stored, begun, entry_at, faulted, fault_now, miso_of, selected, ready}
use Rattle.qspi.proofs.Quiet.{clock_faults, clock_off, clock_playing, clock_delaying, clock_starts, clock_waiting}
use Rattle.qspi.specs.declared.Qspi.{Qspi}
use Rattle.qspi.specs.declared.Pins.{Pins}
use Rattle.claims_isolation.specs.Running.{runs_one_of}
use Rattle.claims_isolation.proofs.Blank.{blank, blank_twice, blank_set}
use Rattle.claims_isolation.proofs.Masked.{same, masked, masked_twice}

-- What an entry that plays has collected, by whose it is: with its MISO the same where it is none of these, it differs only under the mask.
stored_alike : (own plays cpha miso other : Bool) (j c : ℕ) → plays ≡ true → (own ≡ false → miso ≡ other) →
    cond own 0 (collected_after cpha j miso c) ≡ cond own 0 (collected_after cpha j other (cond (plays && not own) c 0))
stored_alike true plays cpha miso other j c p h = refl
stored_alike false plays cpha miso other j c p h = rw (p, h refl)

collected_alike : (own plays cpha miso other : Bool) (j c : ℕ) → plays ≡ true → (own ≡ false → miso ≡ other) →
    cond (plays && not own) (collected_after cpha j miso c) 0
    ≡ cond (plays && not own) (collected_after cpha j other (cond (plays && not own) c 0)) 0
collected_alike true plays cpha miso other j c p h = rw p
collected_alike false plays cpha miso other j c p h = rw (p, h refl)

-- The pointer that clock 1 takes is one of sixteen.
one_of_sixteen : (pending : Bool) (a b : ℕ) → cond pending (a % 16) (b % 16) % 16 ≡ cond pending (a % 16) (b % 16)
one_of_sixteen true a b = omega arith
one_of_sixteen false a b = omega arith

module _ (entries : ℕ → Bool) where
  -- The end of an entry looks at no data.
  followed_masked : (last wrap : Bool) (q : Qspi) → q.entry.playing ≡ false →
      masked entries (followed last wrap q) ≡ followed last wrap (masked entries q)
  followed_masked true true q idle = rw idle
  followed_masked true false q idle = rw idle
  followed_masked false wrap q idle = rw idle

  -- Nor does an edge.
  edge_masked : (last miso other : Bool) (j : ℕ) (q : Qspi) → q.entry.playing ≡ true →
      (entries (q.next.pointer % 16) ≡ false → miso ≡ other) →
      masked entries (judged last (with_entry q (edge_fallen q.registers.spcr0 j miso q.entry)))
      ≡ masked entries
      (judged last (with_entry (masked entries q) (edge_fallen q.registers.spcr0 j other (masked entries q).entry)))
  unfolding completed
  edge_masked true miso other j q plays h =
      let r : Qspi = masked entries q in
      let q' : Qspi = with_entry q (edge_fallen q.registers.spcr0 j miso q.entry) in
      let r' : Qspi = with_entry r (edge_fallen q.registers.spcr0 j other r.entry) in
      followed_masked (is_last q) (wraps q) (stored q') refl
      ∙ ap (followed (is_last q) (wraps q))
      (same (stored q') refl
      (blank_set entries q.ram.receive (q.next.pointer % 16) q'.entry.collected
      ∙ ap (set (blank entries q.ram.receive) (q.next.pointer % 16))
      (stored_alike (entries (q.next.pointer % 16)) q.entry.playing (cpha q.registers.spcr0) miso other j q.entry.collected plays h)
      ∙ ap (λ l. set l (q.next.pointer % 16) (cond (entries (q.next.pointer % 16)) 0 r'.entry.collected))
      (sym (blank_twice entries q.ram.receive))
      ∙ sym (blank_set entries r.ram.receive (q.next.pointer % 16) r'.entry.collected))
      (sym (blank_twice entries q.ram.transmit)))
      ∙ sym (followed_masked (is_last q) (wraps q) (stored r') refl)
  edge_masked false miso other j q plays h =
      same (with_entry q (edge_fallen q.registers.spcr0 j miso q.entry))
      (collected_alike (entries (q.next.pointer % 16)) q.entry.playing (cpha q.registers.spcr0) miso other j q.entry.collected plays h)
      (sym (blank_twice entries q.ram.receive))
      (sym (blank_twice entries q.ram.transmit))

  counted_masked : (falls miso other : Bool) (q : Qspi) → q.entry.playing ≡ true →
      (entries (q.next.pointer % 16) ≡ false → miso ≡ other) →
      masked entries (counted falls miso q) ≡ masked entries (counted falls other (masked entries q))
  unfolding edge
  counted_masked true miso other q plays h =
      edge_masked (leb (bits_of q.registers.spcr0 q.entry.command * 2) (q.entry.edges % 32 + 1)) miso other (q.entry.edges % 32 + 1)
      q plays h
  counted_masked false miso other q plays h = sym (masked_twice entries (counted false miso q))

  play_masked : (miso other : Bool) (q : Qspi) → q.entry.playing ≡ true →
      (entries (q.next.pointer % 16) ≡ false → miso ≡ other) →
      masked entries (play_clock miso q) ≡ masked entries (play_clock other (masked entries q))
  unfolding play_clock
  play_masked miso other q plays h = counted_masked (leb q.entry.left 1) miso other q plays h

  -- Nor a delay, nor a fault.
  delayed_masked : (over : Bool) (q : Qspi) → masked entries (delayed over q) ≡ masked entries (delayed over (masked entries q))
  delayed_masked true q = same (delayed true q) refl (sym (blank_twice entries q.ram.receive)) (sym (blank_twice entries q.ram.transmit))
  delayed_masked false q = sym (masked_twice entries (delayed false q))

  fault_masked : (due : Bool) (q : Qspi) → masked entries (faulted due q) ≡ masked entries (faulted due (masked entries q))
  fault_masked true q = same (faulted true q) refl (sym (blank_twice entries q.ram.receive)) (sym (blank_twice entries q.ram.transmit))
  fault_masked false q = sym (masked_twice entries q)

  -- Clock 1 takes a word that is masked from there on.
  begun_masked : (q : Qspi) → masked entries (begun q) ≡ masked entries (begun (masked entries q))
  begun_masked q = same (begun q) refl (sym (blank_twice entries q.ram.receive)) (sym (blank_twice entries q.ram.transmit))

  start_masked : (miso other : Bool) (q : Qspi) → (entries (entry_at q) ≡ false → miso ≡ other) →
      masked entries (play_clock miso (begun q)) ≡ masked entries (play_clock other (begun (masked entries q)))
  start_masked miso other q h =
      play_masked miso other (begun q) refl
      (λ e. h (ap entries (sym (one_of_sixteen q.next.pending q.registers.spcr2 q.next.pointer)) ∙ e))
      ∙ ap (λ r. masked entries (play_clock other r)) (begun_masked q)
      ∙ sym (play_masked other other (begun (masked entries q)) refl (λ e. refl))

  -- MISO may differ in a clock in which no entry runs but these.
  abbrev pub MisoServes : Bool → Bool → Qspi → Type 0
  MisoServes miso other q = runs_one_of (λ i. not (entries i)) q ≡ true → miso ≡ other

  by_place : (due on plays waits goes : Bool) (q : Qspi) (pins other : Pins) → selected other ≡ selected pins →
      MisoServes (miso_of pins) (miso_of other) q → fault_now q pins ≡ due → spe q.registers.spcr1 ≡ on →
      q.entry.playing ≡ plays → q.entry.delaying ≡ waits → ready q ≡ goes →
      masked entries (clock q pins) ≡ masked entries (clock (masked entries q) other)
  unfolding delay_clock
  by_place true on plays waits goes q pins other level h d o p w g =
      ap (masked entries) (clock_faults q pins d)
      ∙ fault_masked true q
      ∙ sym (ap (masked entries) (clock_faults (masked entries q) other (rw level d)))
  by_place false false plays waits goes q pins other level h d o p w g =
      ap (masked entries) (clock_off q pins o)
      ∙ sym (masked_twice entries q)
      ∙ sym (ap (masked entries) (clock_off (masked entries q) other o))
  by_place false true true waits goes q pins other level h d o p w g =
      ap (masked entries) (clock_playing q pins o d p)
      ∙ play_masked (miso_of pins) (miso_of other) q p (λ e. h (rw (o, p, e)))
      ∙ sym (ap (masked entries) (clock_playing (masked entries q) other o (rw level d) p))
  by_place false true false true goes q pins other level h d o p w g =
      ap (masked entries) (clock_delaying q pins o d p w)
      ∙ delayed_masked (leb q.entry.left 1) q
      ∙ sym (ap (masked entries) (clock_delaying (masked entries q) other o (rw level d) p w))
  by_place false true false false true q pins other level h d o p w g =
      ap (masked entries) (clock_starts q pins o d p w g)
      ∙ start_masked (miso_of pins) (miso_of other) q (λ e. h (rw (o, p, w, g, e)))
      ∙ sym (ap (masked entries) (clock_starts (masked entries q) other o (rw level d) p w g))
  by_place false true false false false q pins other level h d o p w g =
      ap (masked entries) (clock_waiting q pins o d p w g)
      ∙ sym (masked_twice entries q)
      ∙ sym (ap (masked entries) (clock_waiting (masked entries q) other o (rw level d) p w g))

  pub clock_masked : (q : Qspi) (pins other : Pins) → selected other ≡ selected pins → MisoServes (miso_of pins) (miso_of other) q →
      masked entries (clock q pins) ≡ masked entries (clock (masked entries q) other)
  clock_masked q pins other level h = by_place _ _ _ _ _ q pins other level h refl refl refl refl refl

  -- So of two that are alike, one clock leaves two that are alike.
  pub clock_alike : (q r : Qspi) (pins other : Pins) → selected other ≡ selected pins → MisoServes (miso_of pins) (miso_of other) q →
      masked entries q ≡ masked entries r → masked entries (clock q pins) ≡ masked entries (clock r other)
  clock_alike q r pins other level h e =
      clock_masked q pins other level h
      ∙ ap (λ s. masked entries (clock s other)) e
      ∙ sym (clock_masked r other other refl (λ runs. refl))

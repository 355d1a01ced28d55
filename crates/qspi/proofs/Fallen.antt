-- The edges of an entry up to one of them are the ones before it and the one itself. Assumes nothing.
use mathlib.Core.Path.{◌≡◌, refl, sym, ap, ◌∙◌}
use mathlib.Core.Bool.{Bool, true, false, not, ◌&&◌}
use Prim.Native.Nat.{ℕ, suc, ◌+◌, ◌-◌, ◌*◌, ◌/◌, ◌%◌, ◌≤◌, ◌<◌}
use native.Mathlib.Omega.{arith}
use lib.Dec.{leb, ltb}
use borrow.Author.Tests.{eq-eqb, eqb-true, eqb-false, le-leb, leb-true, lt-ltb, le-ltb, ltb-true, ltb-false}
use Rattle.steps.specs.Iterate.{iterate}
use Rattle.qspi.specs.model.Fields.{cpha, spbr, bits_of}
use Rattle.qspi.specs.model.Entry.{changes, mosi_after, pushed, collected_after, with_bits, edge_fallen}
use Rattle.qspi.specs.quick.Falls.{reads_by, mosi_since, collected_since, edges_fallen}
use Rattle.qspi.specs.model.Parts.{with_entry}
use Rattle.qspi.specs.model.Queue.{clock, miso_of}
use Rattle.qspi.specs.quick.Quiet.{plays, at_least_one, until_edge, edge_within}
use Rattle.qspi.specs.declared.Qspi.{Qspi}
use Rattle.qspi.specs.declared.Pins.{Pins}
use Rattle.qspi.specs.declared.entry.Entry.{Entry}
use Rattle.qspi.proofs.Mosi.{by_test}
use Rattle.qspi.proofs.Quiet.{and_parts, edge_turn}

-- MOSI changes on every other edge.
other : (j k : ℕ) → k < 2 → (suc j % 2 ≡ k → ⊥) → j % 2 ≡ k
other j k small isnt = omega arith

alternates : (c : Bool) (j : ℕ) → changes c (suc j) ≡ false → changes c j ≡ true
alternates true j h = eq-eqb (j % 2) 1 (other j 1 (omega arith) (eqb-false (suc j % 2) 1 h))
alternates false j h = eq-eqb (j % 2) 0 (other j 0 (omega arith) (eqb-false (suc j % 2) 0 h))

module _ (c : Bool) (n w from : ℕ) (m : Bool) where
  none_since : mosi_since c n w from from m ≡ m
  unfolding mosi_since
  none_since =
      by_test (changes c from) (λ h. rw (h, le-ltb from from (omega arith)))
      (λ h. rw (h, le-ltb from (from - 1) (omega arith)))

  mosi_step : (j : ℕ) → from ≤ j → suc j < n * 2 →
      mosi_after c n w (suc j) (mosi_since c n w from j m) ≡ mosi_since c n w from (suc j) m
  unfolding mosi_after mosi_since
  mosi_step j later early =
      let back : suc j - 1 ≡ j = omega arith in
      by_test (changes c (suc j))
      (λ h. rw (h, lt-ltb (suc j / 2) n (omega arith), lt-ltb from (suc j) (omega arith)))
      (λ h. rw (h, alternates c j h, back))

-- MISO is read on the others.
odd_again : (j : ℕ) → (suc j % 2 ≡ 0 → ⊥) → suc j / 2 ≡ j / 2
odd_again j isnt = omega arith

even_again : (j : ℕ) → (suc j % 2 ≡ 1 → ⊥) → (suc j + 1) / 2 ≡ (j + 1) / 2
even_again j isnt = omega arith

reads_same : (c : Bool) (j : ℕ) → changes (not c) (suc j) ≡ false → reads_by c (suc j) ≡ reads_by c j
reads_same true j h = odd_again j (eqb-false (suc j % 2) 0 h)
reads_same false j h = even_again j (eqb-false (suc j % 2) 1 h)

reads_more : (c : Bool) (from j : ℕ) → from ≤ j → changes (not c) (suc j) ≡ true →
    suc (reads_by c j - reads_by c from) ≡ reads_by c (suc j) - reads_by c from
reads_more true from j later h = omega (arith, eqb-true (suc j % 2) 0 h)
reads_more false from j later h = omega (arith, eqb-true (suc j % 2) 1 h)

module _ (c : Bool) (from : ℕ) (miso : Bool) (x : ℕ) where
  none_read : collected_since c from from miso x ≡ x
  unfolding collected_since iterate
  none_read =
      let none : reads_by c from - reads_by c from ≡ 0 = omega arith in
      ap (λ (k : ℕ). iterate k (λ b. pushed b miso) x) none

  read_step : (j : ℕ) → from ≤ j →
      collected_after c (suc j) miso (collected_since c from j miso x) ≡ collected_since c from (suc j) miso x
  unfolding collected_after collected_since iterate
  read_step j later =
      by_test (changes (not c) (suc j))
      (λ h. rw h (ap (λ (k : ℕ). iterate k (λ b. pushed b miso) x) (reads_more c from j later h)))
      (λ h. rw h (ap (λ (k : ℕ). iterate (k - reads_by c from) (λ b. pushed b miso) x) (sym (reads_same c j h))))

module _ (spcr0 : ℕ) (miso : Bool) (e : Entry) where
  pub none_fallen : edges_fallen spcr0 (e.edges % 32) miso e ≡ e
  unfolding edges_fallen
  none_fallen = rw (le-ltb (e.edges % 32) (e.edges % 32) (omega arith))

  same_fields : (j : ℕ) → e.edges % 32 ≤ j → j < 32 →
      ((edges_fallen spcr0 j miso e).edges % 32 ≡ j)
      × ((edges_fallen spcr0 j miso e).command ≡ e.command)
      × ((edges_fallen spcr0 j miso e).playing ≡ e.playing)
  unfolding edges_fallen
  same_fields j later few =
      by_test (ltb (e.edges % 32) j) (λ h. rw h (omega arith, refl, refl))
      (λ h. rw h (omega (arith, ltb-false (e.edges % 32) j h), refl, refl))

  pub fallen_until : (j : ℕ) → e.edges % 32 ≤ j → at_least_one (spbr spcr0) ≡ until_edge (edges_fallen spcr0 (j + 1) miso e)
  unfolding edges_fallen
  fallen_until j later = rw (lt-ltb (e.edges % 32) (j + 1) (omega arith))

  fallen_step : (j : ℕ) → e.edges % 32 ≤ j → suc j < bits_of spcr0 e.command * 2 →
      edge_fallen spcr0 (suc j) miso (edges_fallen spcr0 j miso e) ≡ edges_fallen spcr0 (suc j) miso e
  unfolding edges_fallen
  fallen_step j later early =
      let next : ltb (e.edges % 32) (suc j) ≡ true = lt-ltb (e.edges % 32) (suc j) (omega arith) in
      let mosi : _ = mosi_step (cpha spcr0) (bits_of spcr0 e.command) e.word (e.edges % 32) e.mosi j later early in
      let read : _ = read_step (cpha spcr0) (e.edges % 32) miso e.collected j later in
      by_test (ltb (e.edges % 32) j)
      (λ h. rw (h, next, mosi, read))
      (λ h.
      let here : j ≡ e.edges % 32 = omega (arith, ltb-false (e.edges % 32) j h) in
      let level : e.mosi ≡ mosi_since (cpha spcr0) (bits_of spcr0 e.command) e.word (e.edges % 32) j e.mosi =
      sym (ap (λ k. mosi_since (cpha spcr0) (bits_of spcr0 e.command) e.word (e.edges % 32) k e.mosi) here ∙ none_since _ _ _ _ _) in
      let bits : e.collected ≡ collected_since (cpha spcr0) (e.edges % 32) j miso e.collected =
      sym (ap (λ k. collected_since (cpha spcr0) (e.edges % 32) k miso e.collected) here ∙ none_read _ _ _ _) in
      rw (h, next)
      (ap (λ b. with_bits e (spbr spcr0) (suc j) b (collected_after (cpha spcr0) (suc j) miso e.collected))
      (ap (mosi_after (cpha spcr0) (bits_of spcr0 e.command) e.word (suc j)) level ∙ mosi)
      ∙ ap (with_bits e (spbr spcr0) (suc j) (mosi_since (cpha spcr0) (bits_of spcr0 e.command) e.word (e.edges % 32) (suc j) e.mosi))
      (ap (collected_after (cpha spcr0) (suc j) miso) bits ∙ read)))

-- The tests that there is such an edge.
pub both_tests : (until n j last : ℕ) → leb until n && ltb (j + 1) last ≡ true → (until ≤ n) × (j + 1 < last)
both_tests until n j last h =
    let parts : _ = and_parts (leb until n) (ltb (j + 1) last) h in
    (leb-true until n parts.0, ltb-true (j + 1) last parts.1)

-- A queue whose entry runs, from one such edge to the next.
pub fallen_turn : (n : ℕ) (q : Qspi) (pins : Pins) (until j last : ℕ) → plays q pins ≡ true → q.entry.edges % 32 ≤ j → j < 32 →
    until ≡ until_edge (edges_fallen q.registers.spcr0 j (miso_of pins) q.entry) →
    last ≡ bits_of q.registers.spcr0 q.entry.command * 2 → until ≤ n → j + 1 < last →
    iterate (n - until) (λ r. clock r pins) (with_entry q (edges_fallen q.registers.spcr0 (j + 1) (miso_of pins) q.entry))
    ≡ iterate n (λ r. clock r pins) (with_entry q (edges_fallen q.registers.spcr0 j (miso_of pins) q.entry))
fallen_turn n q pins until j last runs later few counted ended fits early =
    let spcr0 : ℕ = q.registers.spcr0 in
    let e : Entry = edges_fallen spcr0 j (miso_of pins) q.entry in
    let same : _ = same_fields spcr0 (miso_of pins) q.entry j later few in
    let suc-j : suc j ≡ j + 1 = omega arith in
    let within : edge_within spcr0 n e ≡ true =
    rw (same.0, same.1, sym counted, le-leb until n fits, lt-ltb (j + 1) (bits_of spcr0 q.entry.command * 2) (omega arith)) in
    let falls : edge_fallen spcr0 (e.edges % 32 + 1) (miso_of pins) e ≡ edges_fallen spcr0 (j + 1) (miso_of pins) q.entry =
    ap (λ k. edge_fallen spcr0 (k + 1) (miso_of pins) e) same.0
    ∙ ap (λ k. edge_fallen spcr0 k (miso_of pins) e) (sym suc-j)
    ∙ fallen_step spcr0 (miso_of pins) q.entry j later (omega arith)
    ∙ ap (λ k. edges_fallen spcr0 k (miso_of pins) q.entry) suc-j in
    ap (λ k. iterate (n - k) (λ r. clock r pins) (with_entry q (edges_fallen spcr0 (j + 1) (miso_of pins) q.entry))) counted
    ∙ ap (λ f. iterate (n - until_edge e) (λ r. clock r pins) (with_entry q f)) (sym falls)
    ∙ edge_turn n q e pins runs same.2 within

-- The word stored is the bits that stood on MISO at the reading edges. Assumes nothing.
use mathlib.Core.Path.{◌≡◌, refl, sym, ap, ◌∙◌}
use mathlib.Core.Bool.{Bool, true, false, cond}
use Prim.Native.Nat.{ℕ, zero, suc, ◌+◌, ◌-◌, ◌*◌, ◌/◌, ◌%◌, ◌^◌, ◌≤◌, ◌<◌}
use native.Mathlib.Nat.{mod-eq_of_lt, div-one, div-div-eq-div-mul, pow-suc, pow-succ', pow-le-pow_right}
use native.Mathlib.Omega.{arith}
use lib.Dec.{eqb}
use lib.ListN.{set}
use borrow.Author.Tests.{eq-eqb, ne_eqb, eqb-true, eqb-false}
use Rattle.steps.specs.Bits.{bit, digit}
use Rattle.qspi.specs.model.Fields.{cpha}
use Rattle.qspi.specs.model.Entry.{pushed, collected_after}
use Rattle.qspi.specs.model.Queue.{entry_at, begun, miso_of}
use Rattle.qspi.specs.claims.Run.{bits_in, edge_clock, collected_by, reading_edge, word_of, bits_read}
use Rattle.qspi.specs.claims.Laws.{WordStored, UnusedZero, BitsInOrder}
use Rattle.qspi.specs.declared.Qspi.{Qspi}
use Rattle.qspi.specs.declared.Pins.{Pins}
use Rattle.qspi.proofs.Bounds.{bits_small}
use Rattle.qspi.proofs.Completed.{completed_keeps}
use Rattle.qspi.proofs.Mosi.{by_test, by_parity}
use Rattle.qspi.proofs.Edges.{last_edge_holds}

pub digit_small : (b : Bool) → digit b ≤ 1
digit_small true = omega arith
digit_small false = omega arith

pub unused_zero : UnusedZero
unfolding word_of
unused_zero bits zero = omega arith
unused_zero bits (suc n) = omega (arith, unused_zero bits n, pow-suc 2 n, digit_small (bits n))

-- Below 2^15 for the first fifteen bits.
word_small : (bits : ℕ → Bool) (i : ℕ) → i ≤ 15 → word_of bits i < 32768
word_small bits i h =
    let most : 2 ^ i ≤ 2 ^ 15 = pow-le-pow_right (omega arith) h in
    omega (arith, unused_zero bits i, most)

module _ (m : Bool) (w : ℕ) where
  read_odd : (j : ℕ) → j % 2 ≡ 1 → collected_after false j m w ≡ pushed w m
  unfolding collected_after
  read_odd j h = rw (eq-eqb (j % 2) 1 h)

  keep_even : (j : ℕ) → j % 2 ≡ 0 → collected_after false j m w ≡ w
  unfolding collected_after
  keep_even j h = rw (ne_eqb (j % 2) 1 (omega arith))

  read_even : (j : ℕ) → j % 2 ≡ 0 → collected_after true j m w ≡ pushed w m
  unfolding collected_after
  read_even j h = rw (eq-eqb (j % 2) 0 h)

  keep_odd : (j : ℕ) → j % 2 ≡ 1 → collected_after true j m w ≡ w
  unfolding collected_after
  keep_odd j h = rw (ne_eqb (j % 2) 0 (omega arith))

pushed_word : (bits : ℕ → Bool) (i : ℕ) → i ≤ 15 → pushed (word_of bits i) (bits i) ≡ word_of bits (suc i)
unfolding word_of
pushed_word bits i h = ap (λ w. w * 2 + digit (bits i)) (mod-eq_of_lt (word_small bits i h))

-- A count of bits that goes so from edge to edge, `at j` being the level at edge j.
module _ (at : ℕ → Bool) (read : ℕ → ℕ) (base : read 0 ≡ 0) where
  odd_edges : ((j : ℕ) → read (suc j) ≡ collected_after false (suc j) (at (suc j)) (read j)) → (j : ℕ) → j ≤ 32 →
      read j ≡ word_of (λ i. at (i * 2 + 1)) ((j + 1) / 2)
  unfolding word_of
  odd_edges step zero less = base
  odd_edges step (suc j) less =
      by_parity (suc j)
      (λ h.
      let same : (j + 1) / 2 ≡ (suc j + 1) / 2 = omega arith in
      step j ∙ keep_even (at (suc j)) (read j) (suc j) h ∙ odd_edges step j (omega arith)
      ∙ ap (word_of (λ i. at (i * 2 + 1))) same)
      (λ h.
      let here : suc j ≡ (j + 1) / 2 * 2 + 1 = omega arith in
      let next : suc ((j + 1) / 2) ≡ (suc j + 1) / 2 = omega arith in
      step j ∙ read_odd (at (suc j)) (read j) (suc j) h
      ∙ ap (λ w. pushed w (at (suc j))) (odd_edges step j (omega arith))
      ∙ ap (λ k. pushed (word_of (λ i. at (i * 2 + 1)) ((j + 1) / 2)) (at k)) here
      ∙ pushed_word (λ i. at (i * 2 + 1)) ((j + 1) / 2) (omega arith)
      ∙ ap (word_of (λ i. at (i * 2 + 1))) next)

  even_edges : ((j : ℕ) → read (suc j) ≡ collected_after true (suc j) (at (suc j)) (read j)) → (j : ℕ) → j ≤ 32 →
      read j ≡ word_of (λ i. at (i * 2 + 2)) (j / 2)
  unfolding word_of
  even_edges step zero less = base
  even_edges step (suc j) less =
      by_parity (suc j)
      (λ h.
      let here : suc j ≡ j / 2 * 2 + 2 = omega arith in
      let next : suc (j / 2) ≡ suc j / 2 = omega arith in
      step j ∙ read_even (at (suc j)) (read j) (suc j) h
      ∙ ap (λ w. pushed w (at (suc j))) (even_edges step j (omega arith))
      ∙ ap (λ k. pushed (word_of (λ i. at (i * 2 + 2)) (j / 2)) (at k)) here
      ∙ pushed_word (λ i. at (i * 2 + 2)) (j / 2) (omega arith)
      ∙ ap (word_of (λ i. at (i * 2 + 2))) next)
      (λ h.
      let same : j / 2 ≡ suc j / 2 = omega arith in
      step j ∙ keep_odd (at (suc j)) (read j) (suc j) h ∙ even_edges step j (omega arith)
      ∙ ap (word_of (λ i. at (i * 2 + 2))) same)

-- All bits of an entry.
module _ (q : Qspi) (pins : ℕ → Pins) (few : bits_in (begun q) ≤ 16) where
  by_phase : (b : Bool) → cpha q.registers.spcr0 ≡ b →
      collected_by (begun q) pins (bits_in (begun q) * 2)
      ≡ word_of (λ i. miso_of (pins (edge_clock (begun q) (reading_edge b i)))) (bits_in (begun q))
  unfolding collected_by
  by_phase false h =
      let all : (bits_in (begun q) * 2 + 1) / 2 ≡ bits_in (begun q) = omega arith in
      odd_edges (λ j. miso_of (pins (edge_clock (begun q) j))) (collected_by (begun q) pins) refl
      (λ j. ap
      (λ b. collected_after b (suc j) (miso_of (pins (edge_clock (begun q) (suc j)))) (collected_by (begun q) pins j))
      h)
      (bits_in (begun q) * 2) (omega arith)
      ∙ ap (word_of (λ i. miso_of (pins (edge_clock (begun q) (i * 2 + 1))))) all
  by_phase true h =
      let all : bits_in (begun q) * 2 / 2 ≡ bits_in (begun q) = omega arith in
      even_edges (λ j. miso_of (pins (edge_clock (begun q) j))) (collected_by (begun q) pins) refl
      (λ j. ap
      (λ b. collected_after b (suc j) (miso_of (pins (edge_clock (begun q) (suc j)))) (collected_by (begun q) pins j))
      h)
      (bits_in (begun q) * 2) (omega arith)
      ∙ ap (word_of (λ i. miso_of (pins (edge_clock (begun q) (i * 2 + 2))))) all

  all_bits : collected_by (begun q) pins (bits_in (begun q) * 2) ≡ word_of (bits_read (begun q) pins) (bits_in (begun q))
  all_bits = by_phase (cpha q.registers.spcr0) refl

pub entry_small : (q : Qspi) → entry_at q % 16 ≡ entry_at q
entry_small q = by_pending q.next.pending
  where
    by_pending : (b : Bool) → cond b (q.registers.spcr2 % 16) (q.next.pointer % 16) % 16 ≡ cond b (q.registers.spcr2 % 16) (q.next.pointer % 16)
    by_pending true = omega arith
    by_pending false = omega arith

pub word_stored : WordStored
word_stored q pins s calm = (
  ap (λ r. r.ram.receive) (last_edge_holds q pins s calm) ∙ completed_keeps (λ r. r.ram.receive) _ refl refl refl
      ∙ ap (λ i. set q.ram.receive i (collected_by (begun q) pins (bits_in (begun q) * 2))) (entry_small q)
      ∙ ap (set q.ram.receive (entry_at q)) (all_bits q pins (bits_small _ _)),
  ap (λ r. r.spsr.cptqp) (last_edge_holds q pins s calm) ∙ completed_keeps (λ r. r.spsr.cptqp) _ refl refl refl
      ∙ entry_small q,
)

-- The last bit read stands lowest, and each one more moves the others up by one.
low_bit : (x : ℕ) (b : Bool) → bit 0 (x * 2 + digit b) ≡ b
low_bit x true = rw (div-one (x * 2 + 1), eq-eqb ((x * 2 + 1) % 2) 1 (omega arith))
low_bit x false = rw (div-one (x * 2 + 0), ne_eqb ((x * 2 + 0) % 2) 1 (omega arith))

high_bit : (k x : ℕ) (b : Bool) → bit (suc k) (x * 2 + digit b) ≡ bit k x
high_bit k x b =
    let half : (x * 2 + digit b) / 2 ≡ x = omega (arith, digit_small b) in
    ap (λ m. eqb ((x * 2 + digit b) / m % 2) 1) (pow-succ' 2 k)
    ∙ ap (λ m. eqb (m % 2) 1) (sym (div-div-eq-div-mul (x * 2 + digit b) 2 (2 ^ k)))
    ∙ ap (λ m. eqb (m / 2 ^ k % 2) 1) half

pub bits_in_order : BitsInOrder
unfolding word_of
bits_in_order bits zero i h = absurd (omega arith)
bits_in_order bits (suc n) i h =
    by_test (eqb i n)
    (λ e.
    let same : i ≡ n = eqb-true i n e in
    let low : suc n - 1 - i ≡ 0 = omega arith in
    ap (λ k. bit k (word_of bits n * 2 + digit (bits n))) low ∙ low_bit (word_of bits n) (bits n) ∙ ap bits (sym same))
    (λ e.
    let less : i < n = other i n h (eqb-false i n e) in
    let up : suc n - 1 - i ≡ suc (n - 1 - i) = omega arith in
    ap (λ k. bit k (word_of bits n * 2 + digit (bits n))) up
    ∙ high_bit (n - 1 - i) (word_of bits n) (bits n) ∙ bits_in_order bits n i less)
  where
    other : (i n : ℕ) → i < suc n → (i ≡ n → ⊥) → i < n
    other i n h e = omega arith

-- MOSI shows the low n bits of the word, highest first. Assumes nothing.
use mathlib.Core.Path.{◌≡◌, refl, sym, ap, ◌∙◌}
use mathlib.Core.Bool.{Bool, true, false}
use Prim.Native.Nat.{ℕ, zero, suc, ◌-◌, ◌*◌, ◌/◌, ◌%◌, ◌≤◌, ◌<◌}
use native.Mathlib.Nat.{mod-eq_of_lt}
use native.Mathlib.Omega.{arith}
use lib.Dec.{eqb}
use borrow.Author.Tests.{eq-eqb, ne_eqb, eqb-true, eqb-false, lt-ltb, le-ltb}
use Rattle.steps.specs.Bits.{bit}
use Rattle.qspi.specs.model.Fields.{cpha}
use Rattle.qspi.specs.model.Entry.{bit_out, mosi_after}
use Rattle.qspi.specs.model.Queue.{begun}
use Rattle.qspi.specs.claims.Run.{bits_in, mosi_by, bit_shown}
use Rattle.qspi.specs.claims.Laws.{MosiShows, MosiHolds}
use Rattle.qspi.specs.declared.Qspi.{Qspi}
use Rattle.qspi.proofs.Bounds.{bits_small, bits_pos}
use Rattle.qspi.proofs.Completed.{completed_keeps}
use Rattle.qspi.proofs.Edges.{edges_fall, last_edge_holds}

-- By cases on a test.
pub by_test : {A : Type 0} (b : Bool) → (b ≡ true → A) → (b ≡ false → A) → A
by_test true f g = f refl
by_test false f g = g refl

-- An even or an odd number.
pub by_parity : {A : Type 0} (j : ℕ) → (j % 2 ≡ 0 → A) → (j % 2 ≡ 1 → A) → A
by_parity j f g =
    by_test (eqb (j % 2) 0) (λ h. f (eqb-true (j % 2) 0 h))
    (λ h. g (let no0 : j % 2 ≡ 0 → ⊥ = eqb-false (j % 2) 0 h in odd_of j no0))
  where
    odd_of : (j : ℕ) → (j % 2 ≡ 0 → ⊥) → j % 2 ≡ 1
    odd_of j h = omega arith

-- What MOSI does at edge j, by its parity.
module _ (n w : ℕ) (m : Bool) where
  even_changes : (j : ℕ) → j % 2 ≡ 0 → j / 2 < n → mosi_after false n w j m ≡ bit_out w n (j / 2)
  unfolding mosi_after
  even_changes j h k = rw (eq-eqb (j % 2) 0 h, lt-ltb (j / 2) n k)

  odd_holds : (j : ℕ) → j % 2 ≡ 1 → mosi_after false n w j m ≡ m
  unfolding mosi_after
  odd_holds j h = rw (ne_eqb (j % 2) 0 (omega arith))

  end_holds : (j : ℕ) → j % 2 ≡ 0 → n ≤ j / 2 → mosi_after false n w j m ≡ m
  unfolding mosi_after
  end_holds j h k = rw (eq-eqb (j % 2) 0 h, le-ltb (j / 2) n k)

  odd_changes : (j : ℕ) → j % 2 ≡ 1 → j / 2 < n → mosi_after true n w j m ≡ bit_out w n (j / 2)
  unfolding mosi_after
  odd_changes j h k = rw (eq-eqb (j % 2) 1 h, lt-ltb (j / 2) n k)

  pub even_holds : (j : ℕ) → j % 2 ≡ 0 → mosi_after true n w j m ≡ m
  unfolding mosi_after
  even_holds j h = rw (ne_eqb (j % 2) 1 (omega arith))

-- A line that does so from edge to edge.
module _ (n w : ℕ) (line : ℕ → Bool) where
  first_phase : (line 0 ≡ bit_out w n 0) → ((j : ℕ) → line (suc j) ≡ mosi_after false n w (suc j) (line j)) →
      (j : ℕ) → j < n * 2 → line j ≡ bit_out w n (j / 2)
  first_phase base step zero less = base
  first_phase base step (suc j) less =
      by_parity (suc j) (λ h. step j ∙ even_changes n w (line j) (suc j) h (omega arith))
      (λ h.
      let same : j / 2 ≡ suc j / 2 = omega arith in
      step j ∙ odd_holds n w (line j) (suc j) h ∙ first_phase base step j (omega arith) ∙ ap (bit_out w n) same)

  second_phase : ((j : ℕ) → line (suc j) ≡ mosi_after true n w (suc j) (line j)) →
      (j : ℕ) → j < n * 2 → line (suc j) ≡ bit_out w n (j / 2)
  second_phase step zero less = step 0 ∙ odd_changes n w (line 0) 1 refl (omega arith)
  second_phase step (suc j) less =
      by_parity (suc (suc j))
      (λ h.
      let same : j / 2 ≡ suc j / 2 = omega arith in
      step (suc j) ∙ even_holds n w (line (suc j)) (suc (suc j)) h ∙ second_phase step j (omega arith)
      ∙ ap (bit_out w n) same)
      (λ h.
      let same : suc (suc j) / 2 ≡ suc j / 2 = omega arith in
      step (suc j) ∙ odd_changes n w (line (suc j)) (suc (suc j)) h (omega arith) ∙ ap (bit_out w n) same)

-- Among n bits of at most 16 none is out of range.
bit_out_holds : (w n i : ℕ) → n ≤ 16 → bit_out w n i ≡ bit (n - 1 - i) w
bit_out_holds w n i h = ap (λ k. bit k w) (let small : n - 1 - i < 16 = omega arith in mod-eq_of_lt small)

module _ (q : Qspi) (few : bits_in (begun q) ≤ 16) (some : 1 ≤ bits_in (begun q)) where
  shown_first : cpha q.registers.spcr0 ≡ false → (j : ℕ) → j < bits_in (begun q) * 2 →
      mosi_by (begun q) j ≡ bit_out (begun q).entry.word (bits_in (begun q)) (j / 2)
  unfolding mosi_by
  shown_first h j less =
      first_phase (bits_in (begun q)) (begun q).entry.word (mosi_by (begun q))
      (ap (λ b. mosi_after b (bits_in (begun q)) (begun q).entry.word 0 q.entry.mosi) h
      ∙ even_changes (bits_in (begun q)) (begun q).entry.word q.entry.mosi 0 refl some)
      (λ i. ap (λ b. mosi_after b (bits_in (begun q)) (begun q).entry.word (suc i) (mosi_by (begun q) i)) h)
      j less

  shown_second : cpha q.registers.spcr0 ≡ true → (j : ℕ) → j < bits_in (begun q) * 2 →
      mosi_by (begun q) (suc j) ≡ bit_out (begun q).entry.word (bits_in (begun q)) (j / 2)
  unfolding mosi_by
  shown_second h j less =
      second_phase (bits_in (begun q)) (begun q).entry.word (mosi_by (begun q))
      (λ i. ap (λ b. mosi_after b (bits_in (begun q)) (begun q).entry.word (suc i) (mosi_by (begun q) i)) h)
      j less

  shown_positive : cpha q.registers.spcr0 ≡ true → (j : ℕ) → 0 < j → j < bits_in (begun q) * 2 →
      mosi_by (begun q) j ≡ bit_out (begun q).entry.word (bits_in (begun q)) ((j - 1) / 2)
  shown_positive h zero pos less = absurd (omega arith)
  shown_positive h (suc j) pos less =
      let same : j ≡ suc j - 1 = omega arith in
      shown_second h j (omega arith) ∙ ap (λ i. bit_out (begun q).entry.word (bits_in (begun q)) (i / 2)) same

  shown : (j : ℕ) → j < bits_in (begun q) * 2 → (cpha q.registers.spcr0 ≡ true → 0 < j) →
      mosi_by (begun q) j ≡ bit_out (begun q).entry.word (bits_in (begun q)) (bit_shown (cpha q.registers.spcr0) j)
  shown j less pos =
      by_test (cpha q.registers.spcr0)
      (λ h. shown_positive h j (pos h) less
      ∙ ap (λ b. bit_out (begun q).entry.word (bits_in (begun q)) (bit_shown b j)) (sym h))
      (λ h. shown_first h j less
      ∙ ap (λ b. bit_out (begun q).entry.word (bits_in (begun q)) (bit_shown b j)) (sym h))

  -- At edge 2n the last bit still shows.
  held_first : cpha q.registers.spcr0 ≡ false → (j : ℕ) → suc j ≡ bits_in (begun q) * 2 →
      mosi_by (begun q) (suc j) ≡ bit_out (begun q).entry.word (bits_in (begun q)) (bits_in (begun q) - 1)
  unfolding mosi_by
  held_first h j e =
      let half : j / 2 ≡ bits_in (begun q) - 1 = omega arith in
      ap (λ b. mosi_after b (bits_in (begun q)) (begun q).entry.word (suc j) (mosi_by (begun q) j)) h
      ∙ end_holds (bits_in (begun q)) (begun q).entry.word (mosi_by (begun q) j) (suc j) (omega arith) (omega arith)
      ∙ shown_first h j (omega arith) ∙ ap (bit_out (begun q).entry.word (bits_in (begun q))) half

  held_second : cpha q.registers.spcr0 ≡ true → (j : ℕ) → suc j ≡ bits_in (begun q) * 2 →
      mosi_by (begun q) (suc j) ≡ bit_out (begun q).entry.word (bits_in (begun q)) (bits_in (begun q) - 1)
  held_second h j e =
      let half : j / 2 ≡ bits_in (begun q) - 1 = omega arith in
      shown_second h j (omega arith) ∙ ap (bit_out (begun q).entry.word (bits_in (begun q))) half

  held : mosi_by (begun q) (bits_in (begun q) * 2) ≡ bit 0 (begun q).entry.word
  held =
      let full : suc (bits_in (begun q) * 2 - 1) ≡ bits_in (begun q) * 2 = omega arith in
      let none : bits_in (begun q) - 1 - (bits_in (begun q) - 1) ≡ 0 = omega arith in
      ap (mosi_by (begun q)) (sym full)
      ∙ by_test (cpha q.registers.spcr0) (λ h. held_second h (bits_in (begun q) * 2 - 1) full)
      (λ h. held_first h (bits_in (begun q) * 2 - 1) full)
      ∙ bit_out_holds (begun q).entry.word (bits_in (begun q)) (bits_in (begun q) - 1) few
      ∙ ap (λ k. bit k (begun q).entry.word) none

pub mosi_shows : MosiShows
mosi_shows q pins s calm j d less within later pos =
    ap (λ r. r.entry.mosi) (edges_fall q pins s calm j d less within later)
    ∙ shown q (bits_small _ _) (bits_pos _ _) j less pos
    ∙ bit_out_holds (begun q).entry.word (bits_in (begun q)) (bit_shown (cpha q.registers.spcr0) j) (bits_small _ _)

pub mosi_holds : MosiHolds
mosi_holds q pins s calm =
    ap (λ r. r.entry.mosi) (last_edge_holds q pins s calm) ∙ completed_keeps (λ r. r.entry.mosi) _ refl refl refl ∙ held q (bits_small _ _) (bits_pos _ _)

-- What a driver reaches, by bytes: the words of the definition are the bytes of the law. Assumes nothing.
use mathlib.Core.Path.{◌≡◌, refl, sym, ap, ◌∙◌}
use mathlib.Core.Bool.{Bool, true, false, cond, ◌&&◌}
use Prim.Native.Nat.{ℕ, zero, suc, ◌+◌, ◌-◌, ◌*◌, ◌/◌, ◌%◌, ◌<◌, ◌≤◌}
use native.Mathlib.Omega.{arith}
use lib.Dec.{eqb, ltb}
use borrow.Author.Tests.{ltb-true, ltb-false, ne_eqb}
use Rattle.qspi.specs.declared.registers.Registers.{Registers}
use Rattle.qsm.specs.model.Map.{from, decode}
use Rattle.qsm.specs.declared.map.QueueWord.TheVariants.{Spcr0, Spcr1, Spcr2, Spcr3Spsr, Receive, Transmit, Command}
use Rattle.qsm.specs.declared.map.Place.{Place}
use Rattle.qsm.specs.declared.map.Place.TheVariants.{Own, Serial, Queue, Hole}
use Rattle.qsm.proofs.Ranges.{before, past, bounds, block_is, decode_word, by_words, at_word_holds, past_registers}
use Rattle.drivers.specs.State.{owns}
use Rattle.drivers.specs.Reach.{reaches_queue, reaches_word, writes_spcr1, writes_spcr2, writes_word}
use Rattle.drivers.specs.Claims.{reached}
use Rattle.drivers.specs.declared.state.Driver.{Driver}

pub and_true : (a : Bool) → a && true ≡ a
and_true true = refl
and_true false = refl

and_same : (a : Bool) → a ≡ a && a
and_same true = refl
and_same false = refl

module _ (s : ℕ) (who : Driver) (c : Bool) where
  -- A word is reached if its two bytes are.
  pub both_bytes : (p : Place) → reaches_word s who c p true true ≡ reaches_word s who c p true false && reaches_word s who c p false true
  both_bytes (Own w) = refl
  both_bytes (Serial w) = refl
  both_bytes (Queue Spcr0) = refl
  both_bytes (Queue Spcr1) = and_same (reaches_word s who c (Queue Spcr1) true true)
  both_bytes (Queue Spcr2) = and_same (reaches_word s who c (Queue Spcr2) true true)
  both_bytes (Queue Spcr3Spsr) = and_same (reaches_word s who c (Queue Spcr3Spsr) true true)
  both_bytes (Queue (Receive i)) = and_same (reaches_word s who c (Queue (Receive i)) true true)
  both_bytes (Queue (Transmit i)) = and_same (reaches_word s who c (Queue (Transmit i)) true true)
  both_bytes (Queue (Command i)) = ap (λ (x : Bool). x && owns s who (i * 2 + 1)) (sym (and_true (owns s who (i * 2))))
  both_bytes Hole = refl

  -- The registers: words 0 to 15.
  low : (k : ℕ) (u l : Bool) → k < 16 → reaches_word s who c (decode_word k) u l ≡ cond (from 13 15 k) c false
  low zero u l h = refl
  low (suc zero) u l h = refl
  low (suc (suc zero)) u l h = refl
  low (suc (suc (suc zero))) u l h = refl
  low (suc (suc (suc (suc zero)))) u l h = refl
  low (suc (suc (suc (suc (suc zero))))) u l h = refl
  low (suc (suc (suc (suc (suc (suc zero)))))) u l h = refl
  low (suc (suc (suc (suc (suc (suc (suc zero))))))) u l h = refl
  low (suc (suc (suc (suc (suc (suc (suc (suc zero)))))))) u l h = refl
  low (suc (suc (suc (suc (suc (suc (suc (suc (suc zero))))))))) u l h = refl
  low (suc (suc (suc (suc (suc (suc (suc (suc (suc (suc zero)))))))))) u l h = refl
  low (suc (suc (suc (suc (suc (suc (suc (suc (suc (suc (suc zero))))))))))) u l h = refl
  low (suc (suc (suc (suc (suc (suc (suc (suc (suc (suc (suc (suc zero)))))))))))) u l h = refl
  low (suc (suc (suc (suc (suc (suc (suc (suc (suc (suc (suc (suc (suc zero))))))))))))) u l h = refl
  low (suc (suc (suc (suc (suc (suc (suc (suc (suc (suc (suc (suc (suc (suc zero)))))))))))))) u l h = refl
  low (suc (suc (suc (suc (suc (suc (suc (suc (suc (suc (suc (suc (suc (suc (suc zero))))))))))))))) u l h = refl
  low (suc (suc (suc (suc (suc (suc (suc (suc (suc (suc (suc (suc (suc (suc (suc (suc k)))))))))))))))) u l h = absurd (omega arith)

  -- The RAM, whose command bytes stand two in a word.
  ram : (t₁ t₂ t₃ : Bool) (i j k e : ℕ) (u l : Bool) → (t₃ ≡ true → reaches_queue s who c (Command k) u l ≡ owns s who e) →
      reaches_word s who c (cond t₁ (Queue (Receive i)) (cond t₂ (Queue (Transmit j)) (cond t₃ (Queue (Command k)) Hole))) u l
      ≡ cond t₁ (owns s who i) (cond t₂ (owns s who j) (cond t₃ (owns s who e) false))
  ram true t₂ t₃ i j k e u l h = refl
  ram false true t₃ i j k e u l h = refl
  ram false false true i j k e u l h = h refl
  ram false false false i j k e u l h = refl

  by_byte : (t : Bool) (b : ℕ) (u l : Bool) → ltb b 32 ≡ t →
      (from 0x140 0x14F b ≡ true → reaches_queue s who c (Command ((b - 0x140) / 2)) u l ≡ owns s who (b - 0x140)) →
      reaches_word s who c (decode b) u l ≡ reached s who c b
  by_byte true b u l is h =
      let small : b < 32 = ltb-true b 32 is in
      let half : b / 2 < 16 = omega arith in
      rw (
        by_words b,
        low (b / 2) u l half,
        block_is 13 15 b,
        before 0x100 0x11F b (omega arith),
        before 0x120 0x13F b (omega arith),
        before 0x140 0x14F b (omega arith),
      )
  by_byte false b u l is h =
      let large : 32 ≤ b = ltb-false b 32 is in
      rw (past_registers b (omega arith), past 0x1A 0x1F b (omega arith))
      (ram (from 0x100 0x11F b) (from 0x120 0x13F b) (from 0x140 0x14F b) ((b - 0x100) / 2) ((b - 0x120) / 2) ((b - 0x140) / 2) (b - 0x140) u l h)

  pub even_byte : (b : ℕ) → b % 2 ≡ 0 → reaches_word s who c (decode b) true false ≡ reached s who c b
  even_byte b e =
      by_byte (ltb b 32) b true false refl
      (λ in_block.
      let at_least : 0x140 ≤ b = (bounds 0x140 0x14F b in_block).0 in
      let place : (b - 0x140) / 2 * 2 ≡ b - 0x140 = omega arith in
      and_true (owns s who ((b - 0x140) / 2 * 2)) ∙ ap (owns s who) place)

  pub odd_byte : (b : ℕ) → b % 2 ≡ 1 → reaches_word s who c (decode b) false true ≡ reached s who c b
  odd_byte b e =
      by_byte (ltb b 32) b false true refl
      (λ in_block.
      let at_least : 0x140 ≤ b = (bounds 0x140 0x14F b in_block).0 in
      let place : (b - 0x140) / 2 * 2 + 1 ≡ b - 0x140 = omega arith in
      ap (owns s who) place)

  -- The two bytes of a word.
  pub one_word : (b : ℕ) → b % 2 ≡ 0 → reaches_word s who c (decode b) true true ≡ reached s who c b && reached s who c (b + 1)
  one_word b e =
      let odd : (b + 1) % 2 ≡ 1 = omega arith in
      let half : (b + 1) / 2 ≡ b / 2 = omega arith in
      let beside : decode (b + 1) ≡ decode b = at_word_holds (b / 2) (b + 1) half ∙ sym (by_words b) in
      both_bytes (decode b)
      ∙ ap (λ (x : Bool). x && reaches_word s who c (decode b) false true) (even_byte b e)
      ∙ ap (λ (x : Bool). reached s who c b && x)
      (ap (λ (p : Place). reaches_word s who c p false true) (sym beside) ∙ odd_byte (b + 1) odd)

-- What a word written has to be, by its offset.
module _ (s : ℕ) (who : Driver) (r : Registers) (v : ℕ) (u l : Bool) where
  abbrev pub asked : ℕ → Bool
  asked k = cond (eqb k 13) (writes_spcr1 s who r v u l) (cond (eqb k 14) (writes_spcr2 s who r v u l) true)

  low_written : (k : ℕ) → k < 16 → writes_word s who r (decode_word k) v u l ≡ asked k
  low_written zero h = refl
  low_written (suc zero) h = refl
  low_written (suc (suc zero)) h = refl
  low_written (suc (suc (suc zero))) h = refl
  low_written (suc (suc (suc (suc zero)))) h = refl
  low_written (suc (suc (suc (suc (suc zero))))) h = refl
  low_written (suc (suc (suc (suc (suc (suc zero)))))) h = refl
  low_written (suc (suc (suc (suc (suc (suc (suc zero))))))) h = refl
  low_written (suc (suc (suc (suc (suc (suc (suc (suc zero)))))))) h = refl
  low_written (suc (suc (suc (suc (suc (suc (suc (suc (suc zero))))))))) h = refl
  low_written (suc (suc (suc (suc (suc (suc (suc (suc (suc (suc zero)))))))))) h = refl
  low_written (suc (suc (suc (suc (suc (suc (suc (suc (suc (suc (suc zero))))))))))) h = refl
  low_written (suc (suc (suc (suc (suc (suc (suc (suc (suc (suc (suc (suc zero)))))))))))) h = refl
  low_written (suc (suc (suc (suc (suc (suc (suc (suc (suc (suc (suc (suc (suc zero))))))))))))) h = refl
  low_written (suc (suc (suc (suc (suc (suc (suc (suc (suc (suc (suc (suc (suc (suc zero)))))))))))))) h = refl
  low_written (suc (suc (suc (suc (suc (suc (suc (suc (suc (suc (suc (suc (suc (suc (suc zero))))))))))))))) h = refl
  low_written (suc (suc (suc (suc (suc (suc (suc (suc (suc (suc (suc (suc (suc (suc (suc (suc k)))))))))))))))) h = absurd (omega arith)

  ram_written : (t₁ t₂ t₃ : Bool) (i j k : ℕ) →
      writes_word s who r (cond t₁ (Queue (Receive i)) (cond t₂ (Queue (Transmit j)) (cond t₃ (Queue (Command k)) Hole))) v u l ≡ true
  ram_written true t₂ t₃ i j k = refl
  ram_written false true t₃ i j k = refl
  ram_written false false true i j k = refl
  ram_written false false false i j k = refl

  written_by : (t : Bool) (b : ℕ) → ltb b 32 ≡ t → writes_word s who r (decode b) v u l ≡ asked (b / 2)
  written_by true b is =
      let small : b < 32 = ltb-true b 32 is in
      let half : b / 2 < 16 = omega arith in
      rw (by_words b) (low_written (b / 2) half)
  written_by false b is =
      let large : 32 ≤ b = ltb-false b 32 is in
      let no : (k : ℕ) → k < 16 → b / 2 ≡ k → ⊥ = λ k h e. absurd (omega arith) in
      rw (past_registers b (omega arith), ne_eqb (b / 2) 13 (no 13 (omega arith)), ne_eqb (b / 2) 14 (no 14 (omega arith)))
      (ram_written (from 0x100 0x11F b) (from 0x120 0x13F b) (from 0x140 0x14F b) ((b - 0x100) / 2) ((b - 0x120) / 2) ((b - 0x140) / 2))

  pub written_at : (b : ℕ) → writes_word s who r (decode b) v u l ≡ asked (b / 2)
  written_at b = written_by (ltb b 32) b refl

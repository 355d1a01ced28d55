-- The map by ranges of bytes, and the same by words, for proofs that go word by word. Assumes nothing.
use mathlib.Core.Path.{◌≡◌, refl, sym, ap, ◌∙◌}
use mathlib.Core.Bool.{Bool, true, false, cond, ◌&&◌, false≢true}
use Prim.Native.Nat.{ℕ, ◌+◌, ◌-◌, ◌*◌, ◌/◌, ◌<◌, ◌≤◌}
use native.Mathlib.Omega.{arith}
use lib.Dec.{eqb, ltb, leb}
use borrow.Author.Tests.{le-leb, lt-leb, leb-true, leb-false, ltb-true, ltb-false, eqb-true, eqb-false}
use Rattle.qsm.specs.model.Map.{from, decode}
use Rattle.qsm.specs.declared.map.OwnWord.TheVariants.{Qsmcr, QilrQivr, Portqs, PqsparDdrqs}
use Rattle.qsm.specs.declared.map.SerialWord.TheVariants.{Sccr0, Sccr1, Scsr, Scdr}
use Rattle.qsm.specs.declared.map.QueueWord.TheVariants.{Spcr0, Spcr1, Spcr2, Spcr3Spsr, Receive, Transmit, Command}
use Rattle.qsm.specs.declared.map.Place.{Place}
use Rattle.qsm.specs.declared.map.Place.TheVariants.{Own, Serial, Queue, Hole}

-- ---- a range

pub inside : (first last b : ℕ) → first ≤ b → b ≤ last → from first last b ≡ true
inside first last b h k = rw (le-leb first b h, le-leb b last k)

pub before : (first last b : ℕ) → b < first → from first last b ≡ false
before first last b h = rw (lt-leb first b h)

and_false : (t : Bool) → t && false ≡ false
and_false true = refl
and_false false = refl

pub past : (first last b : ℕ) → last < b → from first last b ≡ false
past first last b h = rw (lt-leb b last h) (and_false (leb first b))

bounds_by : (t u : Bool) (first last b : ℕ) → leb first b ≡ t → leb b last ≡ u → t && u ≡ true →
    (first ≤ b) × (b ≤ last)
bounds_by true true first last b p q h = (leb-true first b p, leb-true b last q)
bounds_by true false first last b p q h = absurd (false≢true h)
bounds_by false u first last b p q h = absurd (false≢true h)

pub bounds : (first last b : ℕ) → from first last b ≡ true → (first ≤ b) × (b ≤ last)
bounds first last b h = bounds_by (leb first b) (leb b last) first last b refl refl h

-- The two bytes of a word.
word_by : (t u : Bool) (k b : ℕ) → eqb (b / 2) k ≡ t → ltb (b / 2) k ≡ u → from (k * 2) (k * 2 + 1) b ≡ t
word_by true u k b e l =
    let is : b / 2 ≡ k = eqb-true (b / 2) k e in inside (k * 2) (k * 2 + 1) b (omega arith) (omega arith)
word_by false true k b e l =
    let less : b / 2 < k = ltb-true (b / 2) k l in before (k * 2) (k * 2 + 1) b (omega arith)
word_by false false k b e l =
    let isnt : b / 2 ≡ k → ⊥ = eqb-false (b / 2) k e in
    let more : k ≤ b / 2 = ltb-false (b / 2) k l in
    past (k * 2) (k * 2 + 1) b (omega (arith, isnt))

pub word_is : (k b : ℕ) → from (k * 2) (k * 2 + 1) b ≡ eqb (b / 2) k
word_is k b = word_by (eqb (b / 2) k) (ltb (b / 2) k) k b refl refl

-- The bytes of a block of words.
leb_same : (t : Bool) (a b c d : ℕ) → leb a b ≡ t → (a ≤ b → c ≤ d) → (b < a → d < c) → leb a b ≡ leb c d
leb_same true a b c d e f g = e ∙ sym (le-leb c d (f (leb-true a b e)))
leb_same false a b c d e f g = e ∙ sym (lt-leb c d (g (leb-false a b e)))

pub block_is : (j k b : ℕ) → from (j * 2) (k * 2 + 1) b ≡ from j k (b / 2)
block_is j k b =
    rw (
      leb_same (leb (j * 2) b) (j * 2) b j (b / 2) refl (λ h. omega arith) (λ h. omega arith),
      leb_same (leb b (k * 2 + 1)) b (k * 2 + 1) (b / 2) k refl (λ h. omega arith) (λ h. omega arith),
    )

-- ---- by words

abbrev pub ram_word : ℕ → Place
ram_word w =
    cond (from 128 143 w) (Queue (Receive (w - 128)))
    (cond (from 144 159 w) (Queue (Transmit (w - 144)))
    (cond (from 160 167 w) (Queue (Command (w - 160))) Hole))

abbrev pub decode_word : ℕ → Place
decode_word w =
    cond (eqb w 0) (Own Qsmcr)
    (cond (eqb w 2) (Own QilrQivr)
    (cond (eqb w 4) (Serial Sccr0)
    (cond (eqb w 5) (Serial Sccr1)
    (cond (eqb w 6) (Serial Scsr)
    (cond (eqb w 7) (Serial Scdr)
    (cond (eqb w 10) (Own Portqs)
    (cond (eqb w 11) (Own PqsparDdrqs)
    (cond (eqb w 12) (Queue Spcr0)
    (cond (eqb w 13) (Queue Spcr1)
    (cond (eqb w 14) (Queue Spcr2)
    (cond (eqb w 15) (Queue Spcr3Spsr) (ram_word w))))))))))))

-- The place of a byte is that of its word.
pub by_words : (b : ℕ) → decode b ≡ decode_word (b / 2)
unfolding decode
by_words b =
    let receive : (b - 0x100) / 2 ≡ b / 2 - 128 = omega arith in
    let transmit : (b - 0x120) / 2 ≡ b / 2 - 144 = omega arith in
    let command : (b - 0x140) / 2 ≡ b / 2 - 160 = omega arith in
    rw (
      word_is 0 b,
      word_is 2 b,
      word_is 4 b,
      word_is 5 b,
      word_is 6 b,
      word_is 7 b,
      word_is 10 b,
      word_is 11 b,
      word_is 12 b,
      word_is 13 b,
      word_is 14 b,
      word_is 15 b,
      block_is 128 143 b,
      block_is 144 159 b,
      block_is 160 167 b,
      receive,
      transmit,
      command,
    )

pub at_word_holds : (k b : ℕ) → b / 2 ≡ k → decode b ≡ decode_word k
at_word_holds k b e = by_words b ∙ ap decode_word e

-- ---- past the registers, and past the map

abbrev pub decode_ram : ℕ → Place
decode_ram b =
    cond (from 0x100 0x11F b) (Queue (Receive ((b - 0x100) / 2)))
    (cond (from 0x120 0x13F b) (Queue (Transmit ((b - 0x120) / 2)))
    (cond (from 0x140 0x14F b) (Queue (Command ((b - 0x140) / 2))) Hole))

pub past_registers : (b : ℕ) → 0x1F < b → decode b ≡ decode_ram b
unfolding decode
past_registers b h =
    rw (
      past 0x00 0x01 b (omega arith),
      past 0x04 0x05 b (omega arith),
      past 0x08 0x09 b (omega arith),
      past 0x0A 0x0B b (omega arith),
      past 0x0C 0x0D b (omega arith),
      past 0x0E 0x0F b (omega arith),
      past 0x14 0x15 b (omega arith),
      past 0x16 0x17 b (omega arith),
      past 0x18 0x19 b (omega arith),
      past 0x1A 0x1B b (omega arith),
      past 0x1C 0x1D b (omega arith),
      past 0x1E 0x1F b (omega arith),
    )

pub past_map : (b : ℕ) → 0x14F < b → decode b ≡ Hole
past_map b h =
    past_registers b (omega arith)
    ∙ rw (past 0x100 0x11F b (omega arith), past 0x120 0x13F b (omega arith), past 0x140 0x14F b (omega arith))

-- A place of the RAM reads what was written there, and what is written elsewhere leaves it. Assumes nothing.
use mathlib.Core.Path.{◌≡◌, refl, sym, ap, ◌∙◌}
use mathlib.Core.Bool.{Bool, true, false, cond}
use mathlib.Core.List.{List}
use Prim.Native.Nat.{ℕ, zero, suc, ◌+◌, ◌-◌, ◌*◌, ◌/◌, ◌%◌, ◌≤◌, ◌<◌}
use native.Mathlib.Omega.{arith}
use lib.Dec.{eqb, ltb}
use lib.ListN.{length, get_or, set, length-set}
use lib.Seq.{get_or-set_same, get_or-set_other}
use borrow.Author.Tests.{eqb-true, eqb-false, eq-eqb, ne_eqb, ltb-true, ltb-false}
use Rattle.steps.specs.Bits.{merge}
use Rattle.qsm.specs.model.Map.{decode}
use Rattle.qsm.specs.model.Queue.{peek_queue, put_queue, queue_unmodelled, queue_guarded}
use Rattle.qsm.specs.model.Word.{peek, put, unmodelled, guarded}
use Rattle.qsm.specs.claims.Registers.{writing, Sized, RamWrite, RamReadsBack}
use Rattle.qsm.specs.declared.state.Module.{Module}
use Rattle.qsm.specs.declared.map.QueueWord.TheVariants.{Receive, Transmit, Command}
use Rattle.qsm.specs.declared.map.Place.{Place}
use Rattle.qsm.specs.declared.map.Place.TheVariants.{Queue}
use Rattle.qsm.proofs.Booleans.{on}
use Rattle.qsm.proofs.Ranges.{inside, past, past_registers, decode_word, by_words}
use Rattle.qsm.proofs.Words.{word_read, byte_of, byte_read, Free, word_put, byte_put}

-- ---- the 40 words by their blocks

pub data Spot : ℕ → Place → Type 0 where
  receive : (i : ℕ) → i < 16 → Spot i (Queue (Receive i))
  transmit : (i : ℕ) → 16 ≤ i → i < 32 → Spot i (Queue (Transmit (i - 16)))
  command : (i : ℕ) → 32 ≤ i → i < 40 → Spot i (Queue (Command (i - 32)))

pub spot : (b i : ℕ) → b / 2 ≡ 128 + i → i < 40 → Spot i (decode b)
spot b i e h =
    on (ltb i 16)
    (λ t.
    let less : i < 16 = ltb-true i 16 t in
    let number : (b - 0x100) / 2 ≡ i = omega arith in
    rw (past_registers b (omega arith), inside 0x100 0x11F b (omega arith) (omega arith), number) (receive i less))
    (λ t.
    let more : 16 ≤ i = ltb-false i 16 t in
    on (ltb i 32)
    (λ u.
    let less : i < 32 = ltb-true i 32 u in
    let number : (b - 0x120) / 2 ≡ i - 16 = omega arith in
    rw (past_registers b (omega arith), past 0x100 0x11F b (omega arith), inside 0x120 0x13F b (omega arith) (omega arith), number)
    (transmit i more less))
    (λ u.
    let above : 32 ≤ i = ltb-false i 32 u in
    let number : (b - 0x140) / 2 ≡ i - 32 = omega arith in
    rw (
      past_registers b (omega arith),
      past 0x100 0x11F b (omega arith),
      past 0x120 0x13F b (omega arith),
      inside 0x140 0x14F b (omega arith) (omega arith),
      number,
    )
    (command i above h)))

-- Nothing refuses a write there.
free : (m : Module) {i : ℕ} {p : Place} → Spot i p → Free m p
unfolding unmodelled guarded queue_unmodelled queue_guarded
free m (receive i h) =
    record { mapped = refl; modelled = λ w upper lower. refl; unguarded = λ w upper lower. refl }
free m (transmit i g h) =
    record { mapped = refl; modelled = λ w upper lower. refl; unguarded = λ w upper lower. refl }
free m (command i g h) =
    record { mapped = refl; modelled = λ w upper lower. refl; unguarded = λ w upper lower. refl }

-- ---- one place of a list

one_set : (b : Bool) (l : List ℕ) (i j x : ℕ) → i < length l → eqb i j ≡ b → get_or (set l i x) j 0 ≡ cond b x (get_or l j 0)
one_set true l i j x h e = rw (← eqb-true i j e) (get_or-set_same l i x 0 h)
one_set false l i j x h e = get_or-set_other l i j x 0 (λ s. eqb-false i j e (sym s))

same_shift : (b : Bool) (k i j : ℕ) → k ≤ i → k ≤ j → eqb i j ≡ b → eqb (i - k) (j - k) ≡ b
same_shift true k i j g h e = let same : i ≡ j = eqb-true i j e in eq-eqb (i - k) (j - k) (omega arith)
same_shift false k i j g h e =
    let other : i ≡ j → ⊥ = eqb-false i j e in ne_eqb (i - k) (j - k) (λ s. other (omega arith))

merge_small : (upper lower : Bool) (old w : ℕ) → merge old w upper lower < 65536
merge_small true true old w = omega arith
merge_small true false old w = omega arith
merge_small false true old w = omega arith
merge_small false false old w = omega arith

-- Two bytes that are one word.
pair_set : (b : Bool) (l : List ℕ) (i j x : ℕ) → i * 2 + 1 < length l → x < 65536 → eqb i j ≡ b →
    get_or (set (set l (i * 2) (x / 256 % 256)) (i * 2 + 1) (x % 256)) (j * 2) 0 * 256
    + get_or (set (set l (i * 2) (x / 256 % 256)) (i * 2 + 1) (x % 256)) (j * 2 + 1) 0
    ≡ cond b x (get_or l (j * 2) 0 * 256 + get_or l (j * 2 + 1) 0)
pair_set true l i j x h small e =
    let fits : i * 2 + 1 < length (set l (i * 2) (x / 256 % 256)) = rw (length-set l (i * 2) (x / 256 % 256)) h in
    rw (
      ← eqb-true i j e,
      get_or-set_other (set l (i * 2) (x / 256 % 256)) (i * 2 + 1) (i * 2) (x % 256) 0 (λ s. omega arith),
      get_or-set_same l (i * 2) (x / 256 % 256) 0 (omega arith),
      get_or-set_same (set l (i * 2) (x / 256 % 256)) (i * 2 + 1) (x % 256) 0 fits,
    )
    (omega arith)
pair_set false l i j x h small e =
    let other : i ≡ j → ⊥ = eqb-false i j e in
    rw (
      get_or-set_other (set l (i * 2) (x / 256 % 256)) (i * 2 + 1) (j * 2) (x % 256) 0 (λ s. omega arith),
      get_or-set_other l (i * 2) (j * 2) (x / 256 % 256) 0 (λ s. other (omega arith)),
      get_or-set_other (set l (i * 2) (x / 256 % 256)) (i * 2 + 1) (j * 2 + 1) (x % 256) 0 (λ s. other (omega arith)),
      get_or-set_other l (i * 2) (j * 2 + 1) (x / 256 % 256) 0 (λ s. omega arith),
    )

-- ---- one word of the RAM

apart : (i j x y : ℕ) → (i ≡ j → ⊥) → y ≡ cond (eqb i j) x y
apart i j x y h = rw (ne_eqb i j h)

module _ (m : Module) (z : Sized m) (w : ℕ) (upper lower : Bool) where
  pub ram_word_holds : {i j : ℕ} {p q : Place} → Spot i p → Spot j q →
      peek (put m p w upper lower) q ≡ cond (eqb i j) (merge (peek m p) w upper lower) (peek m q)
  unfolding peek put peek_queue put_queue
  ram_word_holds (receive i g) (receive j h) =
      let it : i % 16 ≡ i = omega arith in
      let at : j % 16 ≡ j = omega arith in
      rw (it, at) (one_set (eqb i j) m.qspi.ram.receive i j (merge (get_or m.qspi.ram.receive i 0) w upper lower) (omega arith) refl)
  ram_word_holds (receive i g) (transmit j h k) = apart i j _ _ (λ e. omega arith)
  ram_word_holds (receive i g) (command j h k) = apart i j _ _ (λ e. omega arith)
  ram_word_holds (transmit i f g) (receive j h) = apart i j _ _ (λ e. omega arith)
  ram_word_holds (transmit i f g) (transmit j h k) =
      let it : (i - 16) % 16 ≡ i - 16 = omega arith in
      let at : (j - 16) % 16 ≡ j - 16 = omega arith in
      rw (it, at)
      (one_set (eqb i j) m.qspi.ram.transmit (i - 16) (j - 16)
      (merge (get_or m.qspi.ram.transmit (i - 16) 0) w upper lower) (omega arith) (same_shift (eqb i j) 16 i j f h refl))
  ram_word_holds (transmit i f g) (command j h k) = apart i j _ _ (λ e. omega arith)
  ram_word_holds (command i f g) (receive j h) = apart i j _ _ (λ e. omega arith)
  ram_word_holds (command i f g) (transmit j h k) = apart i j _ _ (λ e. omega arith)
  ram_word_holds (command i f g) (command j h k) =
      let it : (i - 32) % 8 ≡ i - 32 = omega arith in
      let at : (j - 32) % 8 ≡ j - 32 = omega arith in
      rw (it, at)
      (pair_set (eqb i j) m.qspi.ram.commands (i - 32) (j - 32) _ (omega arith) (merge_small upper lower _ w)
      (same_shift (eqb i j) 32 i j f h refl))

-- ---- words and bytes as a host writes and reads them

word_again : (m : Module) → Sized m → (i j v : ℕ) → i < 40 → j < 40 → v < 65536 → RamWrite m 2 i j v
word_again m z i j v g h k =
    let it = spot (0x100 + i * 2) i (omega arith) g in
    let at = spot (0x100 + j * 2) j (omega arith) h in
    let even : eqb ((0x100 + j * 2) % 2) 0 ≡ true = eq-eqb ((0x100 + j * 2) % 2) 0 (omega arith) in
    let whole : v / 256 % 256 * 256 + v % 256 ≡ v = omega arith in
    let done = word_put m (0x100 + i * 2) v k (eq-eqb ((0x100 + i * 2) % 2) 0 (omega arith)) (free m it) in
    record {
      refusal = done.refusal;
      value =
          word_read (writing m 2 (0x100 + i * 2) v).state (0x100 + j * 2) even (free m at).mapped
          ∙ rw (done.state, word_read m (0x100 + j * 2) even (free m at).mapped)
          (ram_word_holds m z v true true it at ∙ rw whole);
    }

upper_of : (h l : ℕ) → h < 256 → l < 256 → (h * 256 + l) / 256 % 256 ≡ h
upper_of h l f g = omega arith

-- A byte of a word that one byte was put into, by their places in it.
merged : (r s old v : ℕ) → r < 2 → s < 2 → v < 256 →
    byte_of (eqb s 0) (merge old (v * 257) (eqb r 0) (eqb r 1)) ≡ cond (eqb r s) v (byte_of (eqb s 0) old)
merged zero zero old v g h k = omega arith
merged zero (suc zero) old v g h k = omega arith
merged (suc zero) zero old v g h k = upper_of (old / 256 % 256) (v * 257 % 256) (omega arith) (omega arith)
merged (suc zero) (suc zero) old v g h k = omega arith
merged zero (suc (suc s)) old v g h k = absurd (omega arith)
merged (suc zero) (suc (suc s)) old v g h k = absurd (omega arith)
merged (suc (suc r)) s old v g h k = absurd (omega arith)

-- Two bytes of one word are the same if they stand at the same place in it.
same_byte : (b : Bool) (i j : ℕ) → i / 2 ≡ j / 2 → eqb i j ≡ b → eqb ((0x100 + i * 1) % 2) ((0x100 + j * 1) % 2) ≡ b
same_byte true i j h e =
    let same : i ≡ j = eqb-true i j e in eq-eqb ((0x100 + i * 1) % 2) ((0x100 + j * 1) % 2) (omega arith)
same_byte false i j h e =
    let other : i ≡ j → ⊥ = eqb-false i j e in
    ne_eqb ((0x100 + i * 1) % 2) ((0x100 + j * 1) % 2) (λ s. other (omega arith))

byte_case : (b : Bool) (i j old new v : ℕ) → eqb (i / 2) (j / 2) ≡ b → v < 256 → (i / 2 ≡ j / 2 → old ≡ new) →
    byte_of (eqb ((0x100 + j * 1) % 2) 0)
    (cond b (merge old (v * 257) (eqb ((0x100 + i * 1) % 2) 0) (eqb ((0x100 + i * 1) % 2) 1)) new)
    ≡ cond (eqb i j) v (byte_of (eqb ((0x100 + j * 1) % 2) 0) new)
byte_case true i j old new v e k same =
    let there : i / 2 ≡ j / 2 = eqb-true (i / 2) (j / 2) e in
    rw (same there)
    (merged ((0x100 + i * 1) % 2) ((0x100 + j * 1) % 2) new v (omega arith) (omega arith) k
    ∙ rw (same_byte (eqb i j) i j there refl))
byte_case false i j old new v e k same =
    apart i j v _ (λ s. eqb-false (i / 2) (j / 2) e (ap (λ (x : ℕ). x / 2) s))

byte_again : (m : Module) → Sized m → (i j v : ℕ) → i < 80 → j < 80 → v < 256 → RamWrite m 1 i j v
byte_again m z i j v g h k =
    let it = spot (0x100 + i * 1) (i / 2) (omega arith) (omega arith) in
    let at = spot (0x100 + j * 1) (j / 2) (omega arith) (omega arith) in
    let done = byte_put m (0x100 + i * 1) v k (free m it) in
    record {
      refusal = done.refusal;
      value =
          byte_read (writing m 1 (0x100 + i * 1) v).state (0x100 + j * 1) (free m at).mapped
          ∙ rw (done.state, byte_read m (0x100 + j * 1) (free m at).mapped, ram_word_holds m z (v * 257) (eqb ((0x100 + i * 1) % 2) 0) (eqb ((0x100 + i * 1) % 2) 1) it at)
          (byte_case (eqb (i / 2) (j / 2)) i j (peek m (decode (0x100 + i * 1))) (peek m (decode (0x100 + j * 1))) v refl k
          (λ e. ap (peek m) (by_words (0x100 + i * 1) ∙ ap decode_word (halved i j e) ∙ sym (by_words (0x100 + j * 1)))));
    }
  where
    halved : (i j : ℕ) → i / 2 ≡ j / 2 → (0x100 + i * 1) / 2 ≡ (0x100 + j * 1) / 2
    halved i j e = omega arith

pub ram_reads_back : RamReadsBack
ram_reads_back = record { words = word_again; bytes = byte_again }

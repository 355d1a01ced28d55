-- Each word of the map, written and not refused, reads back. Assumes nothing.
use mathlib.Core.Path.{◌≡◌, refl, ◌∙◌}
use mathlib.Core.Bool.{Bool, true, false, cond, ◌||◌}
use Prim.Native.Nat.{ℕ, ◌+◌, ◌*◌, ◌/◌, ◌%◌, ◌^◌, ◌<◌}
use native.Mathlib.Nat.{lt_of_le_of_lt}
use native.Mathlib.Omega.{arith}
use lib.Dec.{eqb}
use lib.Bits.{bit_and, bit_or, and_zero_r, or_zero_r, and_mask, or_shifted, or_lt, and_le_r}
use borrow.Author.Tests.{eqb-true, eqb-false}
use Rattle.steps.specs.Bits.{bit, digit}
use Rattle.sci.specs.model.Control.{RE, sccr1_bits}
use Rattle.sci.specs.model.Serial.{sccr1_word, sccr0_set, stopped, with_sccr1, wrote_sccr0, wrote_sccr1}
use Rattle.sci.specs.declared.serial.Sci.{Sci}
use Rattle.qspi.specs.model.Parts.{with_registers}
use Rattle.qspi.specs.model.Registers.{spcr1_word, with_spcr1, switched, write_spcr1}
use Rattle.qspi.specs.model.Spsr.{spsr_byte}
use Rattle.qspi.specs.declared.Qspi.{Qspi}
use Rattle.qspi.specs.declared.spsr.Spsr.{Spsr}
use Rattle.qsm.specs.model.Map.{decode}
use Rattle.qsm.specs.model.Pins.{outputs, without, mask, levels, portqs_read}
use Rattle.qsm.specs.model.Own.{peek_own, put_own}
use Rattle.qsm.specs.model.Serial.{peek_serial, put_serial}
use Rattle.qsm.specs.model.Queue.{peek_queue, put_queue, queue_unmodelled}
use Rattle.qsm.specs.model.Word.{peek, put, unmodelled}
use Rattle.qsm.specs.claims.Registers.{row, Sized, ReadBack, ReadsBack}
use Rattle.qsm.specs.declared.state.Module.{Module}
use Rattle.qsm.specs.declared.pins.Outputs.{Outputs}
use Rattle.qsm.specs.declared.map.OwnWord.TheVariants.{Portqs}
use Rattle.qsm.specs.declared.map.QueueWord.TheVariants.{Spcr3Spsr}
use Rattle.qsm.specs.declared.map.Place.TheVariants.{Own, Queue}
use Rattle.qsm.proofs.Masks.{mask_008F, mask_3FFE, mask_1FFE, mask_7BFF, mask_BFFF, mask_EF0F, mask_00EF, mask_0300}
use Rattle.qsm.proofs.Words.{word_written_holds, word_back}

-- Both bytes of a word.
whole : (v : ℕ) → v < 65536 → v / 256 % 256 * 256 + v % 256 ≡ v
whole v h = omega arith

-- What is read is known.
known : (x y w own : ℕ) → x ≡ y → y ≡ w + bit_and y own → x ≡ w + bit_and x own
known x y w own e h = rw e h

-- No bit has rules of its own; none reads one.
plain : (y v kept : ℕ) → y ≡ bit_and v kept → y ≡ bit_or (bit_and v kept) 0 + bit_and y 0
plain y v kept e = rw (and_zero_r y, or_zero_r (bit_and v kept)) (omega arith)

-- None is kept.
none : (y v own : ℕ) → y ≡ bit_and y own → y ≡ bit_or (bit_and v 0) 0 + bit_and y own
none y v own e = rw (and_zero_r v) (omega arith)

-- The pins are a byte.
four : (b : Bool) → cond b 4 0 < 2 ^ 8
four true = omega arith
four false = omega arith

top : (b : Bool) → cond b 128 0 < 2 ^ 8
top true = omega arith
top false = omega arith

less : (a b : ℕ) → a < 256 → without a b < 2 ^ 8
less a b h = omega arith

driven_small : (o : Outputs) → o.ddrqs < 256 → mask o < 256
unfolding mask
driven_small o h =
    or_lt 8 _ (cond o.driving 128 0)
    (or_lt 8 _ (cond o.spe 4 0) (less o.ddrqs (cond o.spe (bit_and o.pqspar 1) 0) h) (four o.spe)) (top o.driving)

pins_small : (o : Outputs) (inputs : ℕ) → o.ddrqs < 256 → inputs < 256 → portqs_read o inputs < 256
unfolding portqs_read
pins_small o inputs h k =
    or_lt 8 _ _ (lt_of_le_of_lt (and_le_r (levels o) (mask o)) (driven_small o h)) (less inputs (mask o) k)

-- SCCR1: RE clear or set, it reads the same; and its bits 12:2 with RWU.
stopped_word : (b : Bool) (s : Sci) → sccr1_word (stopped b s) ≡ sccr1_word s
stopped_word true s = refl
stopped_word false s = refl

with_sleep_holds : (b : Bool) (v : ℕ) → bit 1 v ≡ b → cond b (sccr1_bits (sccr1_bits v) + 2) (sccr1_bits (sccr1_bits v)) ≡ v / 2 % 4096 * 2
with_sleep_holds true v e = let one : v / 2 % 2 ≡ 1 = eqb-true (v / 2 % 2) 1 e in omega arith
with_sleep_holds false v e = let zero : v / 2 % 2 ≡ 1 → ⊥ = eqb-false (v / 2 % 2) 1 e in omega (arith, zero)

-- SPE before and after: SPCR1 is as written.
switched_word : (a b : Bool) (q : Qspi) → spcr1_word (switched a b q) ≡ spcr1_word q
switched_word true true q = refl
switched_word true false q = refl
switched_word false true q = refl
switched_word false false q = refl

sccr1_back : (s : Sci) (v : ℕ) → v < 65536 → sccr1_word (wrote_sccr1 s v true true) ≡ v / 2 % 4096 * 2
unfolding wrote_sccr1
sccr1_back s v h = rw (whole v h) (stopped_word (RE v) (with_sccr1 s v) ∙ with_sleep_holds (bit 1 v) v refl)

spcr1_back : (q : Qspi) (v : ℕ) → v < 65536 → spcr1_word (write_spcr1 q v true true) ≡ v
unfolding write_spcr1
spcr1_back q v h = rw (whole v h) (switched_word (bit 15 q.registers.spcr1) (bit 15 v) (with_registers q (with_spcr1 q.registers v)))

-- SCCR0: written anew, or as it was.
set_word : (b : Bool) (s : Sci) (v : ℕ) → eqb (v % 8192) s.sccr0 ≡ b → (sccr0_set b s (v % 8192)).sccr0 % 8192 ≡ v % 8192
set_word true s v e = let same : v % 8192 ≡ s.sccr0 = eqb-true (v % 8192) s.sccr0 e in omega arith
set_word false s v e = omega arith

sccr0_back : (s : Sci) (v : ℕ) → v < 65536 → (wrote_sccr0 s v true true).sccr0 % 8192 ≡ v % 8192
unfolding wrote_sccr0
sccr0_back s v h = rw (whole v h) (set_word (eqb (v % 8192) s.sccr0) s v refl)

or_left : (a b : Bool) → a || b ≡ false → a ≡ false
or_left false b h = refl
or_left true b h = h

-- SPCR0 without WOMQ.
spcr0_kept : (v : ℕ) → v < 65536 → bit 14 v ≡ false → v ≡ v / 32768 % 2 * 32768 + v % 16384
spcr0_kept v h e = let no : v / 16384 % 2 ≡ 1 → ⊥ = eqb-false (v / 16384 % 2) 1 e in omega (arith, no)

-- SPCR3 without LOOPQ, and SPSR.
digit_small : (b : Bool) → digit b < 2
digit_small true = omega arith
digit_small false = omega arith

spsr_own : (u a b c d : ℕ) → a < 2 → b < 2 → c < 2 →
    u * 256 + (a * 128 + b * 64 + c * 32 + d % 16)
    ≡ u * 256 + ((u * 256 + (a * 128 + b * 64 + c * 32 + d % 16)) / 32 % 8 * 32 + (u * 256 + (a * 128 + b * 64 + c * 32 + d % 16)) % 16)
spsr_own u a b c d g h i = omega arith

of_spsr : (u : ℕ) (s : Spsr) →
    u * 256 + spsr_byte s ≡ u * 256 + ((u * 256 + spsr_byte s) / 32 % 8 * 32 + (u * 256 + spsr_byte s) % 16)
of_spsr u s =
    spsr_own u (digit s.flags.spif) (digit s.flags.modf) (digit s.flags.halta) s.cptqp (digit_small s.flags.spif)
    (digit_small s.flags.modf) (digit_small s.flags.halta)

spcr3_kept : (v : ℕ) → bit 10 v ≡ false → v / 256 % 256 % 8 ≡ v / 256 % 4
spcr3_kept v e = let no : v / 1024 % 2 ≡ 1 → ⊥ = eqb-false (v / 1024 % 2) 1 e in omega (arith, no)

module _ (m : Module) (v : ℕ) where
  qsmcr : ReadBack m v (row 0x00 0x0080 0x008F 0 0)
  unfolding decode peek put peek_own put_own
  qsmcr r =
      let w = word_written_holds m 0x00 v refl refl r in
      known _ _ (bit_or (bit_and v 0x008F) 0) 0 (word_back m 0x00 v refl refl r)
      (plain _ v 0x008F (rw (whole v w.small, mask_008F v)))

  interrupts : ReadBack m v (row 0x04 0x000F 0x3FFE 1 0)
  unfolding decode peek put peek_own put_own
  interrupts r =
      let w = word_written_holds m 0x04 v refl refl r in
      known _ _ (bit_or (bit_and v 0x3FFE) 1) 0 (word_back m 0x04 v refl refl r)
      (rw (whole v w.small, and_zero_r, mask_3FFE v, or_shifted (v / 2 % 8192) 1 1 (omega arith)) (omega arith))

  directions : ReadBack m v (row 0x16 0x0000 0x7BFF 0 0)
  unfolding decode peek put peek_own put_own
  directions r =
      let w = word_written_holds m 0x16 v refl refl r in
      known _ _ (bit_or (bit_and v 0x7BFF) 0) 0 (word_back m 0x16 v refl refl r)
      (plain _ v 0x7BFF (rw (whole v w.small, mask_7BFF v) (omega arith)))

  sccr0 : ReadBack m v (row 0x08 0x0004 0x1FFF 0 0)
  unfolding decode peek put peek_serial put_serial wrote_sccr0
  sccr0 r =
      let w = word_written_holds m 0x08 v refl refl r in
      known _ _ (bit_or (bit_and v 0x1FFF) 0) 0 (word_back m 0x08 v refl refl r ∙ sccr0_back m.sci v w.small)
      (plain _ v 0x1FFF (rw (and_mask v 13)))

  sccr1 : ReadBack m v (row 0x0A 0x0000 0x1FFE 0 0)
  unfolding decode peek put peek_serial put_serial wrote_sccr1
  sccr1 r =
      let w = word_written_holds m 0x0A v refl refl r in
      known _ _ (bit_or (bit_and v 0x1FFE) 0) 0 (word_back m 0x0A v refl refl r ∙ sccr1_back m.sci v w.small)
      (plain _ v 0x1FFE (rw (mask_1FFE v)))

  scsr : ReadBack m v (row 0x0C 0x0180 0x0000 0 0x01FF)
  unfolding decode peek put peek_serial put_serial
  scsr r =
      known _ _ (bit_or (bit_and v 0) 0) 0x01FF (word_back m 0x0C v refl refl r)
      (none _ v 0x01FF (rw (and_mask _ 9) (omega arith)))

  scdr : ReadBack m v (row 0x0E 0x0000 0x0000 0 0x01FF)
  unfolding decode peek put peek_serial put_serial
  scdr r =
      known _ _ (bit_or (bit_and v 0) 0) 0x01FF (word_back m 0x0E v refl refl r)
      (none _ v 0x01FF (rw (and_mask _ 9) (omega arith)))

  portqs : Sized m → ReadBack m v (row 0x14 0x0000 0x0000 0 0x00FF)
  unfolding decode peek put peek_own put_own
  portqs z r =
      let it = pins_small (outputs (put m (Own Portqs) v true true)) m.inputs z.directions z.inputs in
      known _ _ (bit_or (bit_and v 0) 0) 0x00FF (word_back m 0x14 v refl refl r)
      (none _ v 0x00FF (rw (and_mask _ 8) (omega arith)))

  spcr0 : ReadBack m v (row 0x18 0x0104 0xBFFF 0 0)
  unfolding decode peek put unmodelled peek_queue put_queue queue_unmodelled
  spcr0 r =
      let w = word_written_holds m 0x18 v refl refl r in
      known _ _ (bit_or (bit_and v 0xBFFF) 0) 0 (word_back m 0x18 v refl refl r)
      (plain _ v 0xBFFF
      (rw (whole v w.small, mask_BFFF v) (spcr0_kept v w.small (or_left (bit 14 v) _ w.unmodelled))))

  spcr1 : ReadBack m v (row 0x1A 0x0404 0xFFFF 0 0)
  unfolding decode peek put peek_queue put_queue write_spcr1
  spcr1 r =
      let w = word_written_holds m 0x1A v refl refl r in
      known _ _ (bit_or (bit_and v 0xFFFF) 0) 0 (word_back m 0x1A v refl refl r ∙ spcr1_back m.qspi v w.small)
      (plain _ v 0xFFFF (rw (and_mask v 16) (omega arith)))

  spcr2 : ReadBack m v (row 0x1C 0x0000 0xEF0F 0 0)
  unfolding decode peek put peek_queue put_queue
  spcr2 r =
      let w = word_written_holds m 0x1C v refl refl r in
      known _ _ (bit_or (bit_and v 0xEF0F) 0) 0 (word_back m 0x1C v refl refl r)
      (plain _ v 0xEF0F (rw (whole v w.small, mask_EF0F v) (omega arith)))

  spcr3 : ReadBack m v (row 0x1E 0x0000 0x0300 0 0x00EF)
  unfolding decode peek put unmodelled peek_queue put_queue queue_unmodelled
  spcr3 r =
      let w = word_written_holds m 0x1E v refl refl r in
      known _ _ (bit_or (bit_and v 0x0300) 0) 0x00EF (word_back m 0x1E v refl refl r)
      (rw (or_zero_r (bit_and v 0x0300), mask_0300 v, spcr3_kept v w.unmodelled, mask_00EF) (of_spsr (v / 256 % 4) (put m (Queue Spcr3Spsr) v true true).qspi.spsr))

pub reads_back : ReadsBack
reads_back m z v =
    (qsmcr m v, (interrupts m v, (sccr0 m v, (sccr1 m v, (scsr m v, (scdr m v, (portqs m v z, (directions m v, (spcr0 m v, (spcr1 m v, (spcr2 m v, (spcr3 m v, tt))))))))))))

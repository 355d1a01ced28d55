-- Words put together from their bytes, and what the masks of the map keep of a byte. Assumes nothing.
use mathlib.Core.Path.{◌≡◌, sym, ap, ◌∙◌}
use Prim.Native.Nat.{ℕ, ◌+◌, ◌*◌, ◌/◌, ◌%◌, ◌<◌}
use native.Mathlib.Omega.{arith}

-- SPCR0, SPCR1: a word as it was merged.
pub merged_upper : (v b : ℕ) → b < 256 → v < 256 → (v * 256 + b) / 256 % 256 ≡ v
merged_upper v b h k = let top : (v * 256 + b) / 256 ≡ v = omega arith in rw top (omega arith)

pub merged_lower : (a b : ℕ) → b < 256 → (a * 256 + b) % 256 ≡ b
merged_lower a b h = omega arith

fields_64 : (v : ℕ) → v < 256 → v / 64 % 2 ≡ 0 → v / 128 % 2 * 128 + v % 64 ≡ v
fields_64 v h e =
    let high : v / 128 ≡ v / 64 / 2 = omega arith in
    let top : v / 128 % 2 ≡ v / 128 = omega arith in
    rw top (omega arith)

divided : (x y : ℕ) → (x * 32768 + y * 256) / 256 ≡ x * 128 + y
divided x y = omega arith

no_carry : (v : ℕ) → v < 256 → (v * 256 + v) / 16384 ≡ v / 64
no_carry v h = omega arith

twice : (v : ℕ) → v * 257 ≡ v * 256 + v
twice v = omega arith

top_bit : (v : ℕ) → v * 256 / 32768 ≡ v / 128
top_bit v = omega arith

rest_bits : (v : ℕ) → v * 256 % 16384 ≡ v % 64 * 256
rest_bits v = omega arith

pub womq : (v : ℕ) → v < 256 → (v * 257 / 16384 % 2 ≡ 1 → ⊥) → (v * 256 / 32768 % 2 * 32768 + v * 256 % 16384) / 256 ≡ v
womq v h never =
    rw (top_bit v, rest_bits v)
    (divided (v / 128 % 2) (v % 64) ∙ fields_64 v h (off v (λ e. never (ap (λ x. x / 16384 % 2) (twice v) ∙ ap (λ x. x % 2) (no_carry v h) ∙ e))))
  where
    off : (v : ℕ) → (v / 64 % 2 ≡ 1 → ⊥) → v / 64 % 2 ≡ 0
    off v h = omega arith

-- SPCR2.
abbrev pub spcr2 : ℕ → ℕ
spcr2 w = w / 8192 * 8192 + w / 256 % 16 * 256 + w % 16

pub spcr2_is : (a b : ℕ) → b < 256 → spcr2 (a * 256 + b) ≡ a / 32 * 8192 + a % 16 * 256 + b % 16
spcr2_is a b h =
    let top : (a * 256 + b) / 8192 ≡ a / 32 = omega arith in
    let middle : (a * 256 + b) / 256 ≡ a = omega arith in
    let lowest : (a * 256 + b) % 16 ≡ b % 16 = omega arith in
    rw (top, middle, lowest)

pub spcr2_lower : (h e l : ℕ) → l < 16 → (h * 8192 + e * 256 + l) % 256 ≡ l
spcr2_lower h e l k = omega arith

pub spcr2_upper : (h e l : ℕ) → l < 16 → (h * 8192 + e * 256 + l) / 256 ≡ h * 32 + e
spcr2_upper h e l k = omega arith

-- What the masks of the map keep of a byte.
pub vector_upper : (v : ℕ) → (v * 256 / 2 % 8192 * 2 + 1) / 256 ≡ v % 64
vector_upper v =
    let there : v * 256 / 2 ≡ v * 128 + 0 = omega arith in
    rw (there, wide v) (right (v % 64))
  where
    wide : (v : ℕ) → (v * 128 + 0) % 8192 ≡ v % 64 * 128 + 0
    wide v = omega arith

    right : (x : ℕ) → ((x * 128 + 0) * 2 + 1) / 256 ≡ x
    right x = omega arith

pub vector_lower : (v : ℕ) → v < 256 → (v / 2 % 8192 * 2 + 1) % 256 ≡ v / 2 * 2 + 1
vector_lower v h = omega arith

pub directions_upper : (v : ℕ) → (v * 256 / 2048 % 16 * 2048 + v * 256 % 1024) / 256 ≡ v / 8 % 16 * 8 + v % 4
directions_upper v = rw (eighth v, fourth v) (right (v / 8 % 16) (v % 4))
  where
    eighth : (v : ℕ) → v * 256 / 2048 ≡ v / 8
    eighth v = omega arith

    fourth : (v : ℕ) → v * 256 % 1024 ≡ v % 4 * 256
    fourth v = omega arith

    right : (x y : ℕ) → (x * 2048 + y * 256) / 256 ≡ x * 8 + y
    right x y = omega arith

pub directions_lower : (v : ℕ) → v < 256 → (v / 2048 % 16 * 2048 + v % 1024) % 256 ≡ v
directions_lower v h = omega arith

pub two_fields : (x y b : ℕ) → x < 16 → y < 4 → b < 256 → ((x * 8 + y) * 256 + b) / 256 % 256 ≡ x * 8 + y
two_fields x y b h k l = let top : ((x * 8 + y) * 256 + b) / 256 ≡ x * 8 + y = omega arith in rw top (omega arith)

pub byte_upper : (v : ℕ) → v < 256 → v * 256 % 65536 / 256 ≡ v
byte_upper v h = let whole : v * 256 % 65536 ≡ v * 256 = omega arith in rw whole (omega arith)

pub byte_lower : (v : ℕ) → v < 256 → v % 65536 % 256 ≡ v
byte_lower v h = omega arith

pub womq_lower : (v : ℕ) → v < 256 → (v / 32768 % 2 * 32768 + v % 16384) % 256 ≡ v
womq_lower v h = omega arith

pub spcr2_mask_upper : (v : ℕ) → v < 256 → (v * 256 / 8192 % 8 * 8192 + v * 256 / 256 % 16 * 256 + v * 256 % 16) / 256 ≡ v / 32 * 32 + v % 16
spcr2_mask_upper v h = rw (top v, middle v, lowest v) (right (v / 32) (v % 16) (omega arith))
  where
    top : (v : ℕ) → v * 256 / 8192 ≡ v / 32
    top v = omega arith

    middle : (v : ℕ) → v * 256 / 256 ≡ v
    middle v = omega arith

    lowest : (v : ℕ) → v * 256 % 16 ≡ 0
    lowest v = omega arith

    right : (x y : ℕ) → x < 8 → (x % 8 * 8192 + y * 256 + 0) / 256 ≡ x * 32 + y
    right x y h = let same : x % 8 ≡ x = omega arith in rw same (omega arith)

pub spcr2_mask_lower : (v : ℕ) → v < 256 → (v / 8192 % 8 * 8192 + v / 256 % 16 * 256 + v % 16) % 256 ≡ v % 16
spcr2_mask_lower v h = omega arith

pub spcr2_byte : (v : ℕ) → v < 256 → (v / 32 * 32 + v % 16) % 256 ≡ v / 32 * 32 + v % 16
spcr2_byte v h = omega arith

-- A word of SPCR2 in form, by its bytes.
pub spcr2_old_lower : (w : ℕ) → w ≡ spcr2 w → w % 256 % 16 ≡ w % 256
spcr2_old_lower w h = sym (ap (λ x. x % 256) h ∙ low (w / 8192) (w / 256 % 16) (w % 16) (omega arith) ∙ sym (mods w))
  where
    low : (x y z : ℕ) → z < 16 → (x * 8192 + y * 256 + z) % 256 ≡ z
    low x y z k = omega arith

    mods : (w : ℕ) → w % 256 % 16 ≡ w % 16
    mods w = omega arith

pub spcr2_old_upper : (w : ℕ) → w ≡ spcr2 w → w / 256 % 256 / 32 * 32 + w / 256 % 256 % 16 ≡ w / 256 % 256
spcr2_old_upper w h =
    let up = ap (λ x. x / 256) h ∙ high (w / 8192) (w / 256 % 16) (w % 16) (omega arith) in
    rw up (fields (w / 8192) (w / 256 % 16) (omega arith))
  where
    high : (x y z : ℕ) → z < 16 → (x * 8192 + y * 256 + z) / 256 ≡ x * 32 + y
    high x y z k = omega arith

    fields : (x y : ℕ) → y < 16 → (x * 32 + y) % 256 / 32 * 32 + (x * 32 + y) % 256 % 16 ≡ (x * 32 + y) % 256
    fields x y k =
        let whole : (x * 32 + y) % 256 ≡ x % 8 * 32 + y = omega arith in
        rw whole (omega arith)

-- LOOPQ is clear.
pub loopq : (v : ℕ) → v < 256 → (v * 257 / 1024 % 2 ≡ 1 → ⊥) → v % 8 ≡ v % 4
loopq v h never = fields v (off v (λ e. never (ap (λ x. x / 1024 % 2) (twice v) ∙ ap (λ x. x % 2) (carry v h) ∙ e)))
  where
    carry : (v : ℕ) → v < 256 → (v * 256 + v) / 1024 ≡ v / 4
    carry v h = omega arith

    off : (v : ℕ) → (v / 4 % 2 ≡ 1 → ⊥) → v / 4 % 2 ≡ 0
    off v h = omega arith

    fields : (v : ℕ) → v / 4 % 2 ≡ 0 → v % 8 ≡ v % 4
    fields v h = omega arith

pub shown_upper : (x y : ℕ) → x < 256 → y < 256 → (x * 256 + y) / 256 % 256 ≡ x
shown_upper x y h k = let top : (x * 256 + y) / 256 ≡ x = omega arith in rw top (omega arith)

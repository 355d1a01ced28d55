-- Bytes of register words as numbers: v is the byte written, the other byte is as it was. Assumes nothing.
use mathlib.Core.Path.{◌≡◌, sym, ap, ◌∙◌}
use Prim.Native.Nat.{ℕ, ◌+◌, ◌*◌, ◌/◌, ◌%◌, ◌<◌}
use native.Mathlib.Nat.{mod-lt}
use native.Mathlib.Omega.{arith}

-- A byte stands in both bytes of the word that is put.
pub up : (v : ℕ) → v < 256 → v * 257 / 256 % 256 ≡ v
up v h =
    let twice : v * 257 ≡ v * 256 + v = omega arith in
    let top : (v * 256 + v) / 256 ≡ v = omega arith in
    rw (twice, top) (omega arith)

pub down : (v : ℕ) → v < 256 → v * 257 % 256 ≡ v
down v h = omega arith

-- SPCR2: fields in their places are kept.
pub spcr2_parts : (h e l : ℕ) → e < 16 → l < 16 →
    (h * 8192 + e * 256 + l) / 8192 * 8192 + (h * 8192 + e * 256 + l) / 256 % 16 * 256 + (h * 8192 + e * 256 + l) % 16 ≡ h * 8192 + e * 256 + l
spcr2_parts h e l a b =
    let top : (h * 8192 + e * 256 + l) / 8192 ≡ h = omega arith in
    let middle : (h * 8192 + e * 256 + l) / 256 % 16 ≡ e = omega arith in
    let lowest : (h * 8192 + e * 256 + l) % 16 ≡ l = omega arith in
    rw (top, middle, lowest)

pub pqspar_parts : (h l : ℕ) → h < 16 → l < 4 → (h * 8 + l) / 8 % 16 * 8 + (h * 8 + l) % 4 ≡ h * 8 + l
pqspar_parts h l a b =
    let top : (h * 8 + l) / 8 % 16 ≡ h = omega arith in
    let lowest : (h * 8 + l) % 4 ≡ l = omega arith in
    rw (top, lowest)

-- QSMCR.
abbrev qsmcr : ℕ → ℕ
qsmcr w = w / 128 % 2 * 128 + w % 16

no_upper : (a b : ℕ) → (a % 2 * 128 + b % 16) / 256 ≡ 0
no_upper a b = omega arith

pub qsmcr_upper : (x y : ℕ) → qsmcr x / 256 % 256 ≡ qsmcr y / 256
qsmcr_upper x y = rw (no_upper (x / 128) x, no_upper (y / 128) y)

low_16 : (v x : ℕ) → (v * 256 + x) % 16 ≡ x % 16
low_16 v x = omega arith

bit_7 : (v x : ℕ) → x < 256 → (v * 256 + x) / 128 % 2 ≡ x / 128
bit_7 v x h = let there : (v * 256 + x) / 128 ≡ v * 2 + x / 128 = omega arith in rw there (omega arith)

byte_7 : (old : ℕ) → old % 256 / 128 ≡ old / 128 % 2
byte_7 old = omega arith

byte_16 : (old : ℕ) → old % 256 % 16 ≡ old % 16
byte_16 old = omega arith

small : (old : ℕ) → old % 256 < 256
small old = omega arith

pub qsmcr_upper_other : (old v : ℕ) → old ≡ qsmcr old → qsmcr (v * 256 + old % 256) % 256 ≡ old % 256
qsmcr_upper_other old v h =
    rw (bit_7 v (old % 256) (small old), low_16 v (old % 256), byte_7 old, byte_16 old) (ap (λ x. x % 256) (sym h))

pub qsmcr_lower : (old v : ℕ) → v < 256 → qsmcr (old / 256 % 256 * 256 + v) % 256 ≡ qsmcr v % 256
qsmcr_lower old v less =
    let s : (old / 256 % 256 * 256 + v) / 128 % 2 ≡ v / 128 % 2 = omega arith in
    let i : (old / 256 % 256 * 256 + v) % 16 ≡ v % 16 = omega arith in
    rw (s, i)

pub qsmcr_lower_other : (old x : ℕ) → old ≡ qsmcr old → qsmcr x / 256 % 256 ≡ old / 256 % 256
qsmcr_lower_other old x h = rw (no_upper (x / 128) x) (sym (ap (λ n. n / 256 % 256) h ∙ rw (no_upper (old / 128) old)))

-- QILR and QIVR: a and b as they stand.
pub interrupts_upper : (b v : ℕ) → b < 256 → v < 256 → ((v * 256 + b) / 256 % 64 * 256 + ((v * 256 + b) % 256 / 2 * 2 + 1)) / 256 % 256 ≡ v % 64
interrupts_upper b v h k =
    let top : (v * 256 + b) / 256 ≡ v = omega arith in
    let low : (v * 256 + b) % 256 ≡ b = omega arith in
    rw (top, low) (omega arith)

pub interrupts_lower : (a v : ℕ) → v < 256 → ((a * 256 + v) / 256 % 64 * 256 + ((a * 256 + v) % 256 / 2 * 2 + 1)) % 256 ≡ v / 2 * 2 + 1
interrupts_lower a v k =
    let low : (a * 256 + v) % 256 ≡ v = omega arith in
    rw low (omega arith)

pub interrupts_upper_other : (b v : ℕ) → b < 256 → b % 2 ≡ 1 → ((v * 256 + b) / 256 % 64 * 256 + ((v * 256 + b) % 256 / 2 * 2 + 1)) % 256 ≡ b
interrupts_upper_other b v h o =
    let low : (v * 256 + b) % 256 ≡ b = omega arith in
    rw low (omega arith)

pub interrupts_lower_other : (a v : ℕ) → a < 64 → v < 256 → ((a * 256 + v) / 256 % 64 * 256 + ((a * 256 + v) % 256 / 2 * 2 + 1)) / 256 % 256 ≡ a
interrupts_lower_other a v h k =
    let top : (a * 256 + v) / 256 ≡ a = omega arith in
    let low : (a * 256 + v) % 256 ≡ v = omega arith in
    rw (top, low) (omega arith)

-- PQSPAR and DDRQS.
abbrev pub pqspar : ℕ → ℕ
pqspar w = w / 0x800 % 16 * 8 + w / 256 % 4

pub directions_at : (a b : ℕ) → b < 256 → pqspar (a * 256 + b) ≡ a / 8 % 16 * 8 + a % 4
directions_at a b h =
    let top : (a * 256 + b) / 0x800 ≡ a / 8 = omega arith in
    let low : (a * 256 + b) / 256 ≡ a = omega arith in
    rw (top, low)

pub directions_same : (a : ℕ) → a ≡ a / 8 % 16 * 8 + a % 4 → (b : ℕ) → b < 256 → (a * 256 + b) / 256 % 256 ≡ a
directions_same a f b h =
    let top : (a * 256 + b) / 256 ≡ a = omega arith in
    let small : a / 8 % 16 * 8 + a % 4 < 256 = omega arith in
    rw top (omega arith)

-- SCCR0.
mod_8192 : (v b : ℕ) → b < 256 → (v * 256 + b) % 8192 ≡ v % 32 * 256 + b
mod_8192 v b h = omega arith

mod_4096 : (v b : ℕ) → b < 128 → (v * 128 + b) % 4096 ≡ v % 32 * 128 + b
mod_4096 v b h = omega arith

none : (x : ℕ) → x ≡ x + 0
none x = omega arith

pub sccr0_upper : (v b : ℕ) → b < 256 → (v * 256 + b) % 8192 / 256 % 256 ≡ v * 256 % 8192 / 256
sccr0_upper v b h =
    rw (mod_8192 v b h)
    (left (v % 32) b h (mod-lt v (omega arith)) ∙ sym (ap (λ x. x % 8192 / 256) (none (v * 256)) ∙ ap (λ x. x / 256) (mod_8192 v 0 (omega arith)) ∙ right (v % 32)))
  where
    left : (x b : ℕ) → b < 256 → x < 32 → (x * 256 + b) / 256 % 256 ≡ x
    left x b h k = let top : (x * 256 + b) / 256 ≡ x = omega arith in rw top (omega arith)

    right : (x : ℕ) → (x * 256 + 0) / 256 ≡ x
    right x = omega arith

pub sccr0_upper_other : (v old : ℕ) → (v * 256 + old % 256) % 8192 % 256 ≡ old % 8192 % 256
sccr0_upper_other v old = omega arith

pub sccr0_lower : (a v : ℕ) → v < 256 → (a * 256 + v) % 8192 % 256 ≡ v % 8192 % 256
sccr0_lower a v h = omega arith

pub sccr0_lower_other : (old v : ℕ) → v < 256 → (old / 256 % 256 * 256 + v) % 8192 / 256 % 256 ≡ old % 8192 / 256 % 256
sccr0_lower_other old v h =
    let left : (old / 256 % 256 * 256 + v) % 8192 ≡ old / 256 % 32 * 256 + v = omega arith in
    let right : old % 8192 / 256 ≡ old / 256 % 32 = omega arith in
    rw (left, right) (omega arith)

-- SCCR1, W as it reads: RWU and the others have bits 12:1.
half : (v b : ℕ) → (v * 256 + b) / 2 ≡ v * 128 + b / 2
half v b = omega arith

pub sccr1_upper : (v b : ℕ) → b < 256 → (v * 256 + b) / 2 % 4096 * 2 / 256 % 256 ≡ v * 256 / 2 % 4096 * 2 / 256
sccr1_upper v b h =
    rw (half v b, mod_4096 v (b / 2) (omega arith))
    (left (v % 32) (b / 2) (omega arith) (mod-lt v (omega arith))
    ∙ sym (ap (λ x. x / 2 % 4096 * 2 / 256) (none (v * 256)) ∙ ap (λ x. x % 4096 * 2 / 256) (half v 0) ∙ ap (λ x. x * 2 / 256) (mod_4096 v 0 (omega arith)) ∙ right (v % 32)))
  where
    left : (x b : ℕ) → b < 128 → x < 32 → (x * 128 + b) * 2 / 256 % 256 ≡ x
    left x b h k = let top : (x * 128 + b) * 2 / 256 ≡ x = omega arith in rw top (omega arith)

    right : (x : ℕ) → (x * 128 + 0) * 2 / 256 ≡ x
    right x = omega arith

pub sccr1_upper_other : (v w : ℕ) → w % 2 ≡ 0 → (v * 256 + w % 256) / 2 % 4096 * 2 % 256 ≡ w % 256
sccr1_upper_other v w e =
    let left : (v * 256 + w % 256) / 2 ≡ v * 128 + w % 256 / 2 = omega arith in
    let whole : (v * 128 + w % 256 / 2) % 4096 ≡ v % 32 * 128 + w % 256 / 2 = omega arith in
    rw (left, whole) (omega arith)

pub sccr1_lower : (a v : ℕ) → v < 256 → (a * 256 + v) / 2 % 4096 * 2 % 256 ≡ v / 2 % 4096 * 2 % 256
sccr1_lower a v h =
    let left : (a * 256 + v) / 2 ≡ a * 128 + v / 2 = omega arith in
    let whole : (a * 128 + v / 2) % 4096 ≡ a % 32 * 128 + v / 2 = omega arith in
    rw (left, whole) (omega arith)

pub sccr1_lower_other : (w v : ℕ) → w < 8192 → v < 256 → (w / 256 % 256 * 256 + v) / 2 % 4096 * 2 / 256 % 256 ≡ w / 256 % 256
sccr1_lower_other w v h k =
    let left : (w / 256 % 256 * 256 + v) / 2 ≡ w / 256 % 256 * 128 + v / 2 = omega arith in
    let whole : (w / 256 % 256 * 128 + v / 2) % 4096 ≡ w / 256 % 256 * 128 + v / 2 = omega arith in
    rw (left, whole) (omega arith)

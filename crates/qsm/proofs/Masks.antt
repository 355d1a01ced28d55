-- The bits of a number that a mask keeps, as quotients and remainders. Assumes nothing.
use mathlib.Core.Path.{◌≡◌, refl, sym, ap₂, ◌∙◌}
use Prim.Native.Nat.{ℕ, ◌+◌, ◌*◌, ◌/◌, ◌%◌, ◌^◌, ◌<◌}
use native.Mathlib.Nat.{mod-lt}
use native.Mathlib.Omega.{arith}
use lib.Bits.{bit_and, and_block, and_mask, and_high}
use lib.Pow.{pow_pos, split}

-- A mask of two parts works on each apart.
pub and_parts : (k x h l : ℕ) → l < 2 ^ k → bit_and x (h * 2 ^ k + l) ≡ bit_and (x / 2 ^ k) h * 2 ^ k + bit_and (x % 2 ^ k) l
and_parts k x h l less =
    ap₂ bit_and (sym (split x k)) refl ∙ and_block k (x / 2 ^ k) h (x % 2 ^ k) l (mod-lt x (pow_pos k)) less

-- 008F: SUPV 7, IARB 3:0.
pub mask_008F : (x : ℕ) → bit_and x 0x008F ≡ x / 128 % 2 * 128 + x % 16
mask_008F x = and_parts 7 x 1 15 (omega arith) ∙ rw (and_mask (x / 128) 1, and_mask (x % 128) 4) (omega arith)

-- 3FFE and 1FFE: all but bit 0.
pub mask_3FFE : (x : ℕ) → bit_and x 0x3FFE ≡ x / 2 % 8192 * 2
mask_3FFE x = and_high x 13 1

pub mask_1FFE : (x : ℕ) → bit_and x 0x1FFE ≡ x / 2 % 4096 * 2
mask_1FFE x = and_high x 12 1

-- 7BFF: PQSPAR 6:3 and 1:0, DDRQS.
pub mask_7BFF : (x : ℕ) → bit_and x 0x7BFF ≡ x / 2048 % 16 * 2048 + x % 1024
mask_7BFF x = and_parts 11 x 15 0x3FF (omega arith) ∙ rw (and_mask (x / 2048) 4, and_mask (x % 2048) 10) (omega arith)

-- BFFF: all but WOMQ, bit 14.
pub mask_BFFF : (x : ℕ) → bit_and x 0xBFFF ≡ x / 32768 % 2 * 32768 + x % 16384
mask_BFFF x = and_parts 15 x 1 0x3FFF (omega arith) ∙ rw (and_mask (x / 32768) 1, and_mask (x % 32768) 14) (omega arith)

-- EF0F: SPCR2.
pub mask_EF0F : (x : ℕ) → bit_and x 0xEF0F ≡ x / 8192 % 8 * 8192 + x / 256 % 16 * 256 + x % 16
mask_EF0F x =
    let middle : x % 8192 / 256 % 16 ≡ x / 256 % 16 = omega arith in
    let lowest : x % 8192 % 256 % 16 ≡ x % 16 = omega arith in
    and_parts 13 x 7 0x0F0F (omega arith)
    ∙ rw (and_mask (x / 8192) 3, and_parts 8 (x % 8192) 15 15 (omega arith), and_mask (x % 8192 / 256) 4, and_mask (x % 8192 % 256) 4, middle, lowest)
    (omega arith)

-- 00EF: SPSR.
pub mask_00EF : (x : ℕ) → bit_and x 0x00EF ≡ x / 32 % 8 * 32 + x % 16
mask_00EF x = and_parts 5 x 7 15 (omega arith) ∙ rw (and_mask (x / 32) 3, and_mask (x % 32) 4) (omega arith)

pub mask_0300 : (x : ℕ) → bit_and x 0x0300 ≡ x / 256 % 4 * 256
mask_0300 x = and_high x 2 8

-- 6001: LOOPS, WOMS and SBK.
pub mask_6001 : (x : ℕ) → bit_and x 0x6001 ≡ x / 8192 % 4 * 8192 + x % 2
mask_6001 x = and_parts 13 x 3 1 (omega arith) ∙ rw (and_mask (x / 8192) 2, and_mask (x % 8192) 1) (omega arith)

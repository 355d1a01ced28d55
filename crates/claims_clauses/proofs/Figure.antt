-- The noise figure of a frame so far, in its start bit and past it. Assumes nothing.
use mathlib.Core.Path.{◌≡◌, refl}
use mathlib.Core.Bool.{Bool, true, false, cond, ◌&&◌}
use Prim.Native.Nat.{ℕ, ◌+◌, ◌-◌, ◌≤◌, min}
use native.Mathlib.Omega.{arith}
use lib.Dec.{leb}
use Rattle.steps.specs.Bits.{digit}
use Rattle.sci.specs.model.Bits.{vote}
use Rattle.sci.specs.declared.framer.Framer.{Framer}
use Rattle.claims_clauses.specs.Noise.{disagree}

pub digit_small : (b : Bool) → digit b ≤ 1
digit_small true = omega arith
digit_small false = omega arith

pub disagrees : (a b c : Bool) → (vote a b c).disagreed ≡ disagree a b c
disagrees true true true = refl
disagrees true true false = refl
disagrees true false true = refl
disagrees true false false = refl
disagrees false true true = refl
disagrees false true false = refl
disagrees false false true = refl
disagrees false false false = refl

pub disagree_small : (a b c : Bool) → disagree a b c ≤ 1
disagree_small true true true = omega arith
disagree_small true true false = omega arith
disagree_small true false true = omega arith
disagree_small true false false = omega arith
disagree_small false true true = omega arith
disagree_small false true false = omega arith
disagree_small false false true = omega arith
disagree_small false false false = omega arith

-- A frame's bit: all but `framing`.
abbrev pub made : Bool → ℕ → ℕ → Bool → Bool → ℕ → Bool → ℕ → Framer
made starting left rt first second noise moved shift =
    record { framing = true; starting = starting; left = left; rt = rt; first = first; second = second; noise = noise; moved = moved; shift = shift }

-- One vote is still to come in the bit, or not.
abbrev pub voted : ℕ → ℕ
voted rt = cond (leb 10 rt && leb rt 15) 1 0

-- In the start bit the ones at 3 and 5 wait for RT7.
abbrev pub pending : ℕ → Bool → Bool → ℕ
pending rt a b = cond (leb rt 2) 0 (cond (leb rt 4) (digit a) (cond (leb rt 6) (digit a + digit b) 0))

abbrev pub most : ℕ → ℕ
most rt = cond (leb rt 6) 0 (min (rt - 6) 4)

pub record InStart (n : ℕ) (f : Framer) (sum : ℕ) : Type 0 where
  pub low : 1 ≤ f.rt
  pub high : f.rt ≤ 15
  pub left : f.left ≡ n
  pub so_far : sum ≡ f.noise + pending f.rt f.first f.second
  pub bound : f.noise ≤ most f.rt

-- Past the start bit; l1 and l2 are the last two samples.
pub record InBits (n : ℕ) (f : Framer) (l1 l2 : Bool) (sum : ℕ) : Type 0 where
  pub high : f.rt ≤ 16
  pub so_far : sum ≡ f.noise
  pub bound : f.noise + f.left ≤ n + 4 + voted f.rt
  pub stop : f.left ≡ 0 → voted f.rt ≡ 0
  pub at_8 : f.rt ≡ 8 → f.first ≡ l1
  pub at_9 : f.rt ≡ 9 → (f.first ≡ l2) × (f.second ≡ l1)

pub data Going (n : ℕ) (f : Framer) (l1 l2 : Bool) (sum : ℕ) : Type 0 where
  start : f.starting ≡ true → InStart n f sum → Going n f l1 l2 sum
  bits : f.starting ≡ false → InBits n f l1 l2 sum → Going n f l1 l2 sum

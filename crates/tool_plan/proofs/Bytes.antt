-- A command byte written: it alone changes. Assumes nothing.
use mathlib.Core.Path.{◌≡◌, sym, subst, ◌∙◌}
use mathlib.Core.Bool.{Bool, true, false}
use mathlib.Core.List.{List}
use Prim.Native.Nat.{ℕ, ◌+◌, ◌*◌, ◌/◌, ◌%◌, ◌<◌}
use native.Mathlib.Omega.{arith}
use lib.Dec.{eqb}
use lib.ListN.{get_or, set, length, length-set}
use lib.Seq.{get_or-set_same, get_or-set_other}
use borrow.Author.Tests.{eqb-true, eqb-false}
use Rattle.steps.specs.Bits.{word, merge, upper_byte, lower_byte}
use Rattle.qsm.proofs.Booleans.{on}

-- Byte i of a list replaced: the rest is as it was.
pub record Replaced (cs ds : List ℕ) (i v : ℕ) : Type 0 where
  pub here : get_or ds i 0 ≡ v
  pub others : (j : ℕ) → (j ≡ i → ⊥) → get_or ds j 0 ≡ get_or cs j 0
  pub long : length ds ≡ length cs

-- Two stores, of which the one at j puts back what is there.
module _ (cs : List ℕ) (i j v : ℕ) (differ : i ≡ j → ⊥) (less : i < length cs) (less' : j < length cs) where
  pub first_new : Replaced cs (set (set cs i v) j (get_or cs j 0)) i v
  first_new =
      record {
        here = get_or-set_other (set cs i v) j i (get_or cs j 0) 0 differ ∙ get_or-set_same cs i v 0 less;
        others =
            λ k other.
            on (eqb k j)
            (λ e.
            subst (λ (x : ℕ). get_or (set (set cs i v) j (get_or cs j 0)) x 0 ≡ get_or cs x 0) (sym (eqb-true k j e))
            (get_or-set_same (set cs i v) j (get_or cs j 0) 0 (subst (λ (n : ℕ). j < n) (sym (length-set cs i v)) less')))
            (λ e.
            get_or-set_other (set cs i v) j k (get_or cs j 0) 0 (eqb-false k j e) ∙ get_or-set_other cs i k v 0 other);
        long = length-set (set cs i v) j (get_or cs j 0) ∙ length-set cs i v;
      }

  pub second_new : Replaced cs (set (set cs j (get_or cs j 0)) i v) i v
  second_new =
      record {
        here =
            get_or-set_same (set cs j (get_or cs j 0)) i v 0
            (subst (λ (n : ℕ). i < n) (sym (length-set cs j (get_or cs j 0))) less);
        others =
            λ k other.
            get_or-set_other (set cs j (get_or cs j 0)) i k v 0 other
            ∙ on (eqb k j)
            (λ e.
            subst (λ (x : ℕ). get_or (set cs j (get_or cs j 0)) x 0 ≡ get_or cs x 0) (sym (eqb-true k j e))
            (get_or-set_same cs j (get_or cs j 0) 0 less'))
            (λ e. get_or-set_other cs j k (get_or cs j 0) 0 (eqb-false k j e));
        long = length-set (set cs j (get_or cs j 0)) i v ∙ length-set cs j (get_or cs j 0);
      }

-- The commands of word x after a write of the byte v to one of its lanes, from the bytes that it has.
abbrev pub laid : List ℕ → ℕ → ℕ → Bool → Bool → List ℕ
laid cs x v upper lower =
    let w = merge (word (get_or cs (x * 2) 0) (get_or cs (x * 2 + 1) 0)) (v * 257) upper lower in
    set (set cs (x * 2) (upper_byte w)) (x * 2 + 1) (lower_byte w)

upper_of : (a b : ℕ) → a < 256 → b < 256 → upper_byte (word a b) ≡ a
upper_of a b h k = omega arith

lower_of : (a b : ℕ) → b < 256 → lower_byte (word a b) ≡ b
lower_of a b h = omega arith

low_257 : (v : ℕ) → v < 256 → v * 257 % 256 ≡ v
low_257 v small = omega arith

module _ (cs : List ℕ) (long : length cs ≡ 16) (bytes : (i : ℕ) → get_or cs i 0 < 256) (v : ℕ) (small : v < 256) (x : ℕ) (few : x < 8) where
  to_upper : Replaced cs (laid cs x v true false) (x * 2) v
  to_upper =
      let a : ℕ = get_or cs (x * 2) 0 in
      let b : ℕ = get_or cs (x * 2 + 1) 0 in
      let lb : b < 256 = bytes (x * 2 + 1) in
      let hi : upper_byte (word (upper_byte (v * 257)) (lower_byte (word a b))) ≡ v = omega arith in
      let lo : lower_byte (word (upper_byte (v * 257)) (lower_byte (word a b))) ≡ b = omega arith in
      rw (hi, lo) (first_new cs (x * 2) (x * 2 + 1) v (λ e. omega arith) (omega (arith, long)) (omega (arith, long)))

  to_lower : Replaced cs (laid cs x v false true) (x * 2 + 1) v
  to_lower =
      let a : ℕ = get_or cs (x * 2) 0 in
      let b : ℕ = get_or cs (x * 2 + 1) 0 in
      let la : a < 256 = bytes (x * 2) in
      let lb : b < 256 = bytes (x * 2 + 1) in
      rw (upper_of a b la lb, low_257 v small, upper_of a v la small, lower_of a v small) (second_new cs (x * 2 + 1) (x * 2) v (λ e. omega arith) (omega (arith, long)) (omega (arith, long)))

-- Byte i, whose lane is its parity.
pub byte_laid : (cs : List ℕ) → length cs ≡ 16 → ((i : ℕ) → get_or cs i 0 < 256) → (i v : ℕ) → i < 16 → v < 256 →
    Replaced cs (laid cs (i / 2 % 8) v (eqb (i % 2) 0) (eqb (i % 2) 1)) i v
byte_laid cs long bytes i v less small =
    on (eqb (i % 2) 0)
    (λ e.
    let even : i % 2 ≡ 0 = eqb-true (i % 2) 0 e in
    let at : i / 2 % 8 * 2 ≡ i = omega arith in
    rw even (subst (λ (n : ℕ). Replaced cs (laid cs (i / 2 % 8) v true false) n v) at (to_upper cs long bytes v small (i / 2 % 8) (omega arith))))
    (λ e.
    let not-even : i % 2 ≡ 0 → ⊥ = eqb-false (i % 2) 0 e in
    let odd : i % 2 ≡ 1 = omega arith in
    let at : i / 2 % 8 * 2 + 1 ≡ i = omega arith in
    rw odd (subst (λ (n : ℕ). Replaced cs (laid cs (i / 2 % 8) v false true) n v) at (to_lower cs long bytes v small (i / 2 % 8) (omega arith))))

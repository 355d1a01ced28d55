-- The table of parity: antt computes it from its rule, so that the rule holds at each of its places; and a word's parity by two entries.
use mathlib.Core.Path.{◌≡◌, refl, sym, ap, ◌∙◌}
use mathlib.Core.List.{List, [], ◌∷◌}
use mathlib.Core.Bool.{not, beq}
use Prim.Native.Nat.{ℕ, zero, suc, ◌+◌, ◌*◌, ◌/◌, ◌%◌, ◌^◌, ◌<◌}
use native.Mathlib.Nat.{add-zero, zero-add, suc-add, add-suc, add-mod}
use native.Mathlib.Omega.{arith}
use lib.Count.{ones, ones_cat}
use lib.Dec.{eqb}
use lib.ListN.{get_or}
use Rattle.sci.specs.model.Bits.{odd}

-- n entries by a rule, from place i on.
abbrev pub entries : (ℕ → ℕ) → ℕ → ℕ → List ℕ
entries rule i zero = []
entries rule i (suc n) = rule i ∷ entries rule (suc i) n

entry_at : (rule : ℕ → ℕ) (i n k : ℕ) → k < n → get_or (entries rule i n) k 0 ≡ rule (i + k)
entry_at rule i zero k h = absurd (omega arith)
entry_at rule i (suc n) zero h = rw add-zero
entry_at rule i (suc n) (suc k) h = entry_at rule (suc i) n k (omega arith) ∙ rw (suc-add, add-suc)

-- The rule: 1 for an odd number of ones, else 0.
unfoldable pub parity_of : ℕ → ℕ
unfolding ones
parity_of k = ones k % 2

pub by_table : (n k : ℕ) → k < n → eqb (get_or (entries parity_of 0 n) k 0) 1 ≡ odd k
unfolding parity_of
by_table n k h = rw (entry_at parity_of 0 n k h, zero-add)

-- A sum of two digits is odd where just one of them is.
one_of_two : (x y : ℕ) → x < 2 → y < 2 → eqb ((x + y) % 2) 1 ≡ not (beq (eqb y 1) (eqb x 1))
one_of_two zero zero p q = refl
one_of_two zero (suc zero) p q = refl
one_of_two (suc zero) zero p q = refl
one_of_two (suc zero) (suc zero) p q = refl
one_of_two (suc (suc x)) y p q = absurd (omega arith)
one_of_two zero (suc (suc y)) p q = absurd (omega arith)
one_of_two (suc zero) (suc (suc y)) p q = absurd (omega arith)

pub by_two : (w : ℕ) → w < 65536 → not (beq (odd (w % 512)) (odd (w / 512 % 512))) ≡ odd w
by_two w h =
    let above : w / 512 % 512 ≡ w / 512 = omega arith in
    let parts : w ≡ w / 512 * 2 ^ 9 + w % 512 = omega arith in
    let sum : ones w ≡ ones (w / 512) + ones (w % 512) = ap ones parts ∙ ones_cat 9 (w / 512) (w % 512) (omega arith) in
    rw (above, sum, add-mod) (sym (one_of_two (ones (w / 512) % 2) (ones (w % 512) % 2) (omega arith) (omega arith)))

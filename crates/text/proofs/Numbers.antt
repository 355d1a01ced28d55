-- Digits read one by one, and a number read back from its digits. Assumes nothing.
use mathlib.Core.Path.{◌≡◌, refl, ◌∙◌}
use mathlib.Core.Bool.{Bool, true, false}
use mathlib.Core.List.{List, [], ◌∷◌, ◌++◌}
use Prim.Native.Nat.{ℕ, zero, suc, ◌+◌, ◌-◌, ◌*◌, ◌/◌, ◌%◌, ◌^◌, ◌<◌, ◌≤◌}
use native.Mathlib.Nat.{pow-suc}
use native.Mathlib.Numerals.{add-one}
use native.Mathlib.Omega.{arith}
use lib.Dec.{ltb}
use lib.ListN.{length, drop, get_or, length-append}
use lib.Seq.{drop-cons}
use borrow.Author.Tests.{lt-ltb, le-ltb, ltb-true, ltb-false}
use Rattle.std.specs.Prelude.{Option, Some, None}
use Rattle.std.proofs.lemmas.List.{drop_all}
use Rattle.text.specs.Digits.{decimal, decimal_digit}
use Rattle.text.specs.Number.{more, next, after, number_of}
use Rattle.text.specs.Claims.{NumbersGiveBack}
use Rattle.text.proofs.Decimal.{decimal_none, decimal_one, decimal_more}

pub after_none : (n : Option ℕ) → after n [] ≡ n
unfolding after
after_none n = refl

after_append : (n : Option ℕ) (s : List ℕ) (b : ℕ) → after n (s ++ (b ∷ [])) ≡ next (after n s) b
unfolding after
after_append n [] b = refl
after_append n (a ∷ s) b = after_append (next n a) s b

-- No number stays none.
pub after_none_none : (t : List ℕ) → after None t ≡ None
unfolding after next
after_none_none [] = refl
after_none_none (b ∷ t) = after_none_none t

-- One byte more of a word.
pub after_more : (n : ℕ) (t : List ℕ) (i : ℕ) → i < length t → after (Some n) (drop i t) ≡ after (more n (get_or t i 0)) (drop (i + 1) t)
unfolding after next
after_more n t i h = rw (add-one, drop-cons t i 0 h)

pub after_all : (n : Option ℕ) (t : List ℕ) (i : ℕ) → length t ≤ i → after n (drop i t) ≡ n
after_all n t i h = rw (drop_all i t h, after_none)

pub number_none : (t : List ℕ) → length t ≡ 0 → number_of t ≡ None
unfolding number_of
number_none [] h = refl
number_none (b ∷ t) h = absurd (omega arith)

pub number_some : (t : List ℕ) → 0 < length t → number_of t ≡ after (Some 0) t
unfolding number_of
number_some [] h = absurd (omega arith)
number_some (b ∷ t) h = refl

-- ---- a number in decimal

next_digit : (m n : ℕ) → m * 10 + n % 10 ≡ n → n < 2 ^ 64 → next (Some m) (decimal_digit n) ≡ Some n
unfolding next
next_digit m n is small =
    let digit : 48 + n % 10 - 48 ≡ n % 10 = omega arith in
    rw (le-ltb (48 + n % 10) 48 (omega arith), lt-ltb (48 + n % 10) 58 (omega arith), digit, is, lt-ltb n (2 ^ 64) small)

-- One digit more, whether it is the first or not.
one_more : (digits n : ℕ) (first : Bool) → ltb n 10 ≡ first → n < 2 ^ 64 → after (Some 0) (decimal digits (n / 10)) ≡ Some (n / 10)
    → after (Some 0) (decimal (suc digits) n) ≡ Some n
one_more digits n true is small before =
    let few : n < 10 = ltb-true n 10 is in
    rw (decimal_one (suc digits) n (omega arith) few, after_append (Some 0) [] (decimal_digit n), after_none) (next_digit 0 n (omega arith) small)
one_more digits n false is small before =
    let many : 10 ≤ n = ltb-false n 10 is in
    let less : suc digits - 1 ≡ digits = omega arith in
    rw (decimal_more (suc digits) n (omega arith) many, after_append, less, before) (next_digit (n / 10) n (omega arith) small)

read_back : (digits n : ℕ) → n < 10 ^ digits → n < 2 ^ 64 → after (Some 0) (decimal digits n) ≡ Some n
read_back zero n h small = let none : n ≡ 0 = omega arith in rw (decimal_none, after_none, none)
read_back (suc digits) n h small =
    let ten : 10 ^ suc digits ≡ 10 ^ digits * 10 = pow-suc 10 digits in
    one_more digits n (ltb n 10) refl small (read_back digits (n / 10) (omega arith) (omega arith))

some_digit : (n : ℕ) (first : Bool) → ltb n 10 ≡ first → 0 < length (decimal 20 n)
some_digit n true is = rw (decimal_one 20 n (omega arith) (ltb-true n 10 is)) (omega arith)
some_digit n false is = rw (decimal_more 20 n (omega arith) (ltb-false n 10 is)) (simp length-append (omega arith))

pub numbers_give_back : NumbersGiveBack
numbers_give_back n small = number_some (decimal 20 n) (some_digit n (ltb n 10) refl) ∙ read_back 20 n (omega arith) small

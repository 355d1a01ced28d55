-- A time by its seconds and the rest: the quotients add up, and so do the digits. Assumes nothing.
use mathlib.Core.Path.{◌≡◌, sym, ap, ◌∙◌}
use mathlib.Core.List.{List, [], ◌∷◌, ◌++◌, append_assoc}
use Prim.Native.Nat.{ℕ, suc, ◌+◌, ◌-◌, ◌*◌, ◌/◌, ◌%◌, ◌<◌, ◌≤◌}
use native.Mathlib.Nat.{mul_assoc, div-add-mod, mul-add-div, mod-lt, div-lt_iff_lt-mul}
use native.Mathlib.Omega.{arith}
use Rattle.text.specs.Digits.{decimal, decimal_digit}
use Rattle.text.proofs.Decimal.{decimal_more}
use Rattle.tool_wave.specs.Vcd.{nine}

-- ---- the quotients

pub parts : (h n : ℕ) → 0 < h → n / h * 1000000000 + n % h * 1000000000 / h ≡ n * 1000000000 / h
parts h n pos =
    let split : h * (n / h * 1000000000) + n % h * 1000000000 ≡ n * 1000000000 =
    omega (arith, div-add-mod n h, mul_assoc h (n / h) 1000000000) in
    sym (mul-add-div pos (n / h * 1000000000) (n % h * 1000000000)) ∙ ap (λ (x : ℕ). x / h) split

pub rest_few : (h n : ℕ) → 0 < h → n % h * 1000000000 / h < 1000000000
rest_few h n pos =
    (div-lt_iff_lt-mul {k = h} {x = n % h * 1000000000} {y = 1000000000} pos).1 (omega (arith, mod-lt n pos))

-- ---- the digits

-- The last digit, and those before it.
last : (d n m r : ℕ) → 10 ≤ n → n / 10 ≡ m → decimal_digit n ≡ decimal_digit r → decimal (suc d) n ≡ decimal d m ++ (decimal_digit r ∷ [])
last d n m r many before same =
    let less : suc d - 1 ≡ d = omega arith in
    decimal_more (suc d) n (omega arith) many ∙ rw (less, before, same)

abbrev ended : ℕ → List ℕ → List ℕ
ended r ds = ds ++ (decimal_digit r ∷ [])

pub joined : (s r : ℕ) → 0 < s → r < 1000000000 → decimal 29 (s * 1000000000 + r) ≡ decimal 20 s ++ nine r
unfolding nine
joined s r pos few =
    last 28 (s * 1000000000 + r) (s * 100000000 + r / 10) r (omega arith) (omega arith) (omega arith)
    ∙ ap (ended r)
    (last 27 (s * 100000000 + r / 10) (s * 10000000 + r / 100) (r / 10) (omega arith) (omega arith) (omega arith)
    ∙ ap (ended (r / 10))
    (last 26 (s * 10000000 + r / 100) (s * 1000000 + r / 1000) (r / 100) (omega arith) (omega arith) (omega arith)
    ∙ ap (ended (r / 100))
    (last 25 (s * 1000000 + r / 1000) (s * 100000 + r / 10000) (r / 1000) (omega arith) (omega arith) (omega arith)
    ∙ ap (ended (r / 1000))
    (last 24 (s * 100000 + r / 10000) (s * 10000 + r / 100000) (r / 10000) (omega arith) (omega arith) (omega arith)
    ∙ ap (ended (r / 10000))
    (last 23 (s * 10000 + r / 100000) (s * 1000 + r / 1000000) (r / 100000) (omega arith) (omega arith) (omega arith)
    ∙ ap (ended (r / 100000))
    (last 22 (s * 1000 + r / 1000000) (s * 100 + r / 10000000) (r / 1000000) (omega arith) (omega arith) (omega arith)
    ∙ ap (ended (r / 1000000))
    (last 21 (s * 100 + r / 10000000) (s * 10 + r / 100000000) (r / 10000000) (omega arith) (omega arith) (omega arith)
    ∙ ap (ended (r / 10000000))
    (last 20 (s * 10 + r / 100000000) s (r / 100000000) (omega arith) (omega arith) (omega arith)))))))))
    ∙ simp append_assoc

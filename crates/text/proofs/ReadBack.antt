-- An answer is read back from its bytes, of either kind. Assumes nothing.
use mathlib.Core.Path.{◌≡◌, refl}
use mathlib.Core.Logic.{inl, inr}
use mathlib.Core.Bool.{Bool, true, false, cond, not, ◌&&◌}
use mathlib.Core.List.{List, ◌∷◌, ◌++◌}
use Prim.Native.Nat.{ℕ, ◌+◌, ◌*◌, ◌/◌, ◌%◌, ◌^◌, ◌≤◌, ◌<◌}
use native.Mathlib.Nat.{div-div-eq-div-mul}
use native.Mathlib.Omega.{arith}
use lib.Dec.{eqb}
use lib.ListN.{length, length-append}
use borrow.Author.Tests.{le-ltb, eq-eqb, ne_eqb}
use Rattle.answers.specs.Answer.{plain, clocked, length_of, clock_bytes}
use Rattle.trace.specs.Trace.{answer_body, answer_bytes, long_at}
use Rattle.trace.proofs.LongHolds.{four_bytes}
use Rattle.text.specs.Log.{wide, other_kind}
use Rattle.text.specs.Claims.{Behind, BytesGiveBack, PlainGiveBack, KindsApart}

at_least : (t : Bool) → 10 ≤ cond t 18 10
at_least true = omega arith
at_least false = omega arith

pub size_least : (kind : ℕ) → 10 ≤ length_of kind
size_least kind = at_least (eqb kind clocked)

pub size_clocked : {kind : ℕ} → kind ≡ clocked → length_of kind ≡ 18
size_clocked {kind} e = rw (eq-eqb kind clocked e)

-- Behind nothing, or answers of its kind, an answer is of no other.
not_both : (p q : Bool) → q ≡ true → not p && not q ≡ false
not_both true q e = refl
not_both false q e = rw e

not_other : (kind before : ℕ) → Behind kind before → other_kind before kind ≡ false
not_other kind before (inl e) = rw e
not_other kind before (inr e) = not_both (eqb before 0) (eqb before kind) (eq-eqb before kind e)

-- The lower four of eight bytes.
low_four : (n : ℕ) → (n / 16777216 % 256 * 256 + n / 65536 % 256) * 65536 + (n / 256 % 256 * 256 + n % 256) ≡ n % 4294967296
low_four n = rw (first n, second n, third n, fourth n) (four_bytes (n % 4294967296) (omega arith))
  where
    first : (n : ℕ) → n / 16777216 % 256 ≡ n % 4294967296 / 16777216 % 256
    first n = omega arith

    second : (n : ℕ) → n / 65536 % 256 ≡ n % 4294967296 / 65536 % 256
    second n = omega arith

    third : (n : ℕ) → n / 256 % 256 ≡ n % 4294967296 / 256 % 256
    third n = omega arith

    fourth : (n : ℕ) → n % 256 ≡ n % 4294967296 % 256
    fourth n = omega arith

-- The upper four are those of n / 2 ^ 32.
eight_bytes : (n : ℕ) → n < 2 ^ 64 → wide (long_at (clock_bytes n) 0) (long_at (clock_bytes n) 4) ≡ n
eight_bytes n h =
    rw (
      ← div-div-eq-div-mul n 4294967296 16777216,
      ← div-div-eq-div-mul n 4294967296 65536,
      ← div-div-eq-div-mul n 4294967296 256,
      four_bytes (n / 4294967296) (omega arith),
      low_four n,
    ) (omega arith)

there : (t : List ℕ) → 0 < length t → eqb (length t) 0 ≡ false
there t h = ne_eqb (length t) 0 (λ e. omega arith)

pub bytes_give_back : BytesGiveBack
bytes_give_back before a t behind given =
    let long : 18 ≤ length (answer_bytes a ++ t) = simp length-append (omega arith) in
    rw (
      there (answer_bytes a ++ t) (omega arith),
      not_other clocked before behind,
      le-ltb (length (answer_bytes a ++ t)) 18 long,
      given.refusal,
      eq-eqb _ _ given.driven,
      four_bytes a.value given.value,
      eight_bytes a.clock given.clock,
    )

pub plain_give_back : PlainGiveBack
plain_give_back before a t behind given none =
    let long : 10 ≤ length ((plain ∷ answer_body a) ++ t) = simp length-append (omega arith) in
    rw (
      there ((plain ∷ answer_body a) ++ t) (omega arith),
      not_other plain before behind,
      le-ltb (length ((plain ∷ answer_body a) ++ t)) 10 long,
      given.refusal,
      eq-eqb _ _ given.driven,
      four_bytes a.value given.value,
      none,
    )

pub kinds_apart : KindsApart
kinds_apart a t = (rw (there (answer_bytes a ++ t) (omega arith)), rw (there ((plain ∷ answer_body a) ++ t) (omega arith)))

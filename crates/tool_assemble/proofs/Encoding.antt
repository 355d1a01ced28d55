-- The bytes of a long, as the library gives them. Assumes nothing.
use Rattle.std.proofs.Common.{◌≡◌, ℕ, ◌<◌, ◌^◌, ◌/◌, ◌%◌, arith, w32}
use Rattle.std.specs.Int.{to_be_bytes}
use Rattle.tool_assemble.specs.Encode.{long_bytes}

pub long_is : (n : ℕ) → n < 2 ^ 32 → to_be_bytes w32 n ≡ long_bytes n
long_is n small = rw (first n small, second n small, third n, fourth n)
  where
    first : (n : ℕ) → n < 2 ^ 32 → n / 16777216 % 256 ≡ n / 65536 % 65536 / 256 % 256
    first n small = omega arith

    second : (n : ℕ) → n < 2 ^ 32 → n / 65536 % 256 ≡ n / 65536 % 65536 % 256
    second n small = omega arith

    third : (n : ℕ) → n / 256 % 256 ≡ n % 65536 / 256 % 256
    third n = omega arith

    fourth : (n : ℕ) → n % 256 ≡ n % 65536 % 256
    fourth n = omega arith

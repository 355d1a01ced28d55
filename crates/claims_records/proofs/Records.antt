-- Records from their bytes. Assumes nothing.
use mathlib.Core.Path.{◌≡◌, refl, ◌∙◌}
use mathlib.Core.Bool.{Bool, true, false}
use mathlib.Core.List.{List, ◌∷◌}
use Prim.Native.Nat.{ℕ, ◌+◌, ◌*◌, ◌/◌, ◌%◌, ◌≤◌, ◌<◌}
use native.Mathlib.Omega.{arith}
use lib.Dec.{leb}
use lib.ListN.{length}
use borrow.Author.Tests.{ne_eqb, le-ltb, le-leb, lt-leb}
use Rattle.steps.specs.Bits.{digit}
use Rattle.qsm.specs.declared.event.Event.{Event}
use Rattle.trace.specs.Trace.{by_kind, whole, parsed}
use Rattle.trace.specs.declared.Parsed.TheVariants.{Record}
use Rattle.claims_records.specs.Records.{Resets, Holds, Reads, Writes, LongHolds, Answers, Claims}

-- A record with a first byte is read by its kind, and one of n bytes or more is whole.
by_first : (k : ℕ) (t : List ℕ) → parsed (k ∷ t) ≡ by_kind k (k ∷ t)
by_first k t = rw (ne_eqb (length (k ∷ t)) 0 (λ e. omega arith))

is_whole : (t : List ℕ) (n : ℕ) (e : Event) → n ≤ length t → whole t n e ≡ Record e n
is_whole t n e fits = rw (le-ltb (length t) n fits)

resets : Resets
resets t = by_first 0x01 t

holds : Holds
holds pins rxd n t small =
    let count : n / 256 * 256 + n % 256 ≡ n = omega arith in
    by_first 0x02 (pins ∷ rxd ∷ n / 256 ∷ n % 256 ∷ t) ∙ is_whole (0x02 ∷ pins ∷ rxd ∷ n / 256 ∷ n % 256 ∷ t) 5 _ (omega arith) ∙ rw count

-- Bit 7 and the bits below it.
supervisor : (s : Bool) (w : ℕ) → w < 128 → leb 128 (digit s * 128 + w) ≡ s
supervisor true w small = le-leb 128 (1 * 128 + w) (omega arith)
supervisor false w small = lt-leb 128 (0 * 128 + w) (omega arith)

width : (s : Bool) (w : ℕ) → w < 128 → (digit s * 128 + w) % 128 ≡ w
width true w small = omega arith
width false w small = omega arith

reads : Reads
reads s w o t narrow small =
    let place : o / 256 * 256 + o % 256 ≡ o = omega arith in
    by_first 0x03 ((digit s * 128 + w) ∷ o / 256 ∷ o % 256 ∷ t)
    ∙ is_whole (0x03 ∷ (digit s * 128 + w) ∷ o / 256 ∷ o % 256 ∷ t) 4 _ (omega arith) ∙ rw (place, supervisor s w narrow, width s w narrow)

four : (v : ℕ) → v < 4294967296 →
    (v / 16777216 * 256 + v / 65536 % 256) * 65536 + (v / 256 % 256 * 256 + v % 256) ≡ v
four v small = omega arith

writes : Writes
writes s w o v t narrow small fits =
    let place : o / 256 * 256 + o % 256 ≡ o = omega arith in
    by_first 0x04 ((digit s * 128 + w) ∷ o / 256 ∷ o % 256 ∷ v / 16777216 ∷ v / 65536 % 256 ∷ v / 256 % 256 ∷ v % 256 ∷ t)
    ∙ is_whole (0x04 ∷ (digit s * 128 + w) ∷ o / 256 ∷ o % 256 ∷ v / 16777216 ∷ v / 65536 % 256 ∷ v / 256 % 256 ∷ v % 256 ∷ t) 8 _ (omega arith)
    ∙ rw (place, supervisor s w narrow, width s w narrow, four v fits)

long_holds : LongHolds
long_holds pins rxd n t small =
    by_first 0x05 (pins ∷ rxd ∷ n / 16777216 ∷ n / 65536 % 256 ∷ n / 256 % 256 ∷ n % 256 ∷ t)
    ∙ is_whole (0x05 ∷ pins ∷ rxd ∷ n / 16777216 ∷ n / 65536 % 256 ∷ n / 256 % 256 ∷ n % 256 ∷ t) 7 _ (omega arith)
    ∙ rw (four n small)

answers : Answers
answers a = refl

pub claims : Claims
claims =
    record { resets = resets; holds = holds; reads = reads; writes = writes; long_holds = long_holds; answers = answers }

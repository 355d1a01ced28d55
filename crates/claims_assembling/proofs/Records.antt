-- A record's line gives the record back, and so do its bytes. Assumes nothing.
use mathlib.Core.Path.{◌≡◌, refl}
use mathlib.Core.Logic.{inl, inr}
use mathlib.Core.Bool.{Bool, true, false, not}
use mathlib.Core.List.{List, [], ◌∷◌, ◌++◌}
use Prim.Native.Nat.{ℕ, ◌+◌, ◌*◌, ◌/◌, ◌%◌, ◌<◌}
use native.Mathlib.Omega.{arith}
use lib.Dec.{eqb, ltb, leb}
use lib.ListN.{length, length-append}
use borrow.Author.Tests.{le-ltb, ne_eqb, le-leb, lt-leb}
use Rattle.qsm.specs.declared.event.Access.TheVariants.{Read, Write}
use Rattle.qsm.specs.declared.event.Event.TheVariants.{Reset, Hold}
use Rattle.qsm.specs.declared.event.Event.TheVariants as events
use Rattle.steps.specs.Bits.{digit}
use Rattle.trace.specs.Trace.{reset_kind, hold_kind, read_kind, write_kind, long_hold_kind, parsed}
use Rattle.trace.specs.declared.Parsed.TheVariants as traced
use Rattle.tool_assemble.specs.Encode.{width_byte, word_bytes, long_bytes, hold_bytes, long_hold_bytes, read_bytes, write_bytes}
use Rattle.claims_assembling.specs.Laws.{LinesGiveBack, BytesGiveBack}
use Rattle.claims_assembling.proofs.Holds.{resets_give_back, holds_give_back}
use Rattle.claims_assembling.proofs.Accesses.{reads_give_back, writes_give_back}

pub lines_give_back : LinesGiveBack
lines_give_back n kind Reset is = rw is (resets_give_back n)
lines_give_back n kind (Hold pins rxd clocks) fits = holds_give_back n kind pins rxd clocks fits
lines_give_back n kind (events.Access (Read supervisor width offset)) (is, few, small) = rw is (reads_give_back n supervisor width offset few small)
lines_give_back n kind (events.Access (Write supervisor width offset value)) (is, few, small, fits) =
    rw is (writes_give_back n supervisor width offset value few small fits)

-- ---- the bytes

word_back : (n : ℕ) → n < 65536 → n / 256 % 256 * 256 + n % 256 ≡ n
word_back n h = omega arith

rxd_back : (rxd : Bool) → not (eqb (digit rxd) 0) ≡ rxd
rxd_back true = refl
rxd_back false = refl

who_back : (supervisor : Bool) (width : ℕ) → width < 128 → leb 128 (width_byte supervisor width) ≡ supervisor
who_back true width few = le-leb 128 (128 + width % 128) (omega arith)
who_back false width few = lt-leb 128 (width % 128) (omega arith)

width_back : (supervisor : Bool) (width : ℕ) → width < 128 → width_byte supervisor width % 128 ≡ width
width_back true width few = omega arith
width_back false width few = omega arith

-- So many bytes are there.
long_enough : (x t : List ℕ) → ltb (length (x ++ t)) (length x) ≡ false
long_enough x t = le-ltb (length (x ++ t)) (length x) (simp length-append (omega arith))

there : (b : ℕ) (x t : List ℕ) → eqb (length ((b ∷ x) ++ t)) 0 ≡ false
there b x t = ne_eqb (length ((b ∷ x) ++ t)) 0 (λ e. omega arith)

hold_bytes_holds : (pins : ℕ) (rxd : Bool) (clocks : ℕ) (t : List ℕ) → clocks < 65536 →
    parsed (hold_bytes pins rxd clocks ++ t) ≡ traced.Record (Hold pins rxd clocks) 5
hold_bytes_holds pins rxd clocks t small =
    let same : clocks % 65536 ≡ clocks = omega arith in
    rw (there hold_kind (pins ∷ digit rxd ∷ word_bytes (clocks % 65536)) t, long_enough (hold_bytes pins rxd clocks) t, rxd_back rxd, same, word_back clocks small)

long_bytes_holds : (pins : ℕ) (rxd : Bool) (clocks : ℕ) (t : List ℕ) → clocks < 4294967296 →
    parsed (long_hold_bytes pins rxd clocks ++ t) ≡ traced.Record (Hold pins rxd clocks) 7
long_bytes_holds pins rxd clocks t small =
    let both : clocks / 65536 % 65536 * 65536 + clocks % 65536 ≡ clocks = omega arith in
    rw (
      there long_hold_kind (pins ∷ digit rxd ∷ long_bytes clocks) t,
      long_enough (long_hold_bytes pins rxd clocks) t,
      rxd_back rxd,
      word_back (clocks / 65536 % 65536) (omega arith),
      word_back (clocks % 65536) (omega arith),
      both,
    )

read_bytes_holds : (supervisor : Bool) (width offset : ℕ) (t : List ℕ) → width < 128 → offset < 65536 →
    parsed (read_bytes supervisor width offset ++ t) ≡ traced.Record (events.Access (Read supervisor width offset)) 4
read_bytes_holds supervisor width offset t few small =
    rw (
      there read_kind (width_byte supervisor width ∷ word_bytes offset) t,
      long_enough (read_bytes supervisor width offset) t,
      who_back supervisor width few,
      width_back supervisor width few,
      word_back offset small,
    )

bytes_of_write : (supervisor : Bool) (width offset value : ℕ) (t : List ℕ) → width < 128 → offset < 65536 → value < 4294967296 →
    parsed (write_bytes supervisor width offset value ++ t) ≡ traced.Record (events.Access (Write supervisor width offset value)) 8
bytes_of_write supervisor width offset value t few small fits =
    let both : value / 65536 % 65536 * 65536 + value % 65536 ≡ value = omega arith in
    rw (
      there write_kind (width_byte supervisor width ∷ word_bytes offset ++ long_bytes value) t,
      long_enough (write_bytes supervisor width offset value) t,
      who_back supervisor width few,
      width_back supervisor width few,
      word_back offset small,
      word_back (value / 65536 % 65536) (omega arith),
      word_back (value % 65536) (omega arith),
      both,
    )

pub bytes_give_back : BytesGiveBack
bytes_give_back kind Reset t is = rw is (rw (there reset_kind [] t), refl)
bytes_give_back kind (Hold pins rxd clocks) t (byte, inl (is, small)) = rw is (hold_bytes_holds pins rxd clocks t small, refl)
bytes_give_back kind (Hold pins rxd clocks) t (byte, inr (is, small)) = rw is (long_bytes_holds pins rxd clocks t small, refl)
bytes_give_back kind (events.Access (Read supervisor width offset)) t (is, few, small) = rw is (read_bytes_holds supervisor width offset t few small, refl)
bytes_give_back kind (events.Access (Write supervisor width offset value)) t (is, few, small, fits) =
    rw is (bytes_of_write supervisor width offset value t few small fits, refl)

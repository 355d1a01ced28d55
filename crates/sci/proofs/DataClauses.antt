-- The clauses on reads and writes of SCDR.
-- Assumes nothing.
use mathlib.Core.Path.{◌≡◌, refl, ap, ◌∙◌}
use mathlib.Core.Bool.{Bool, true, false, cond, not, ◌&&◌}
use Prim.Native.Nat.{ℕ, zero, suc, ◌/◌, ◌%◌, ◌^◌, ◌≤◌, ◌<◌}
use native.Mathlib.Omega.{arith}
use native.Mathlib.Nat.{div-eq_of_lt}
use lib.Dec.{eqb}
use lib.Pow.{pow_mono}
use borrow.Author.Tests.{ne_eqb, lt-leb}
use Rattle.steps.specs.Bits.{bit, merge}
use Rattle.sci.specs.model.Flags.{receive_flags, transmit_flags}
use Rattle.sci.specs.claims.Members.{member}
use Rattle.sci.specs.model.Status.{fall_seen}
use Rattle.sci.specs.model.Serial.{data_written}
use Rattle.sci.specs.claims.DataClauses.{receive_flag, transmit_flag, Fall, WriteClauses, DataClauses}
use Rattle.sci.specs.declared.flags.Flags.{Flags}
use Rattle.sci.specs.declared.serial.Sci.{Sci}
use Rattle.sci.proofs.Flagged.{is_set, is_marked, set_fallSeen, marked_fallSeen}

each_flag : (P : ℕ → Type 0) → P 0 → P 1 → P 2 → P 3 → P 4 → P 5 → P 6 → P 7 → P 8 → ((k : ℕ) → 8 < k → P k) → (k : ℕ) → P k
each_flag P a b c d e f g h i more zero = a
each_flag P a b c d e f g h i more (suc zero) = b
each_flag P a b c d e f g h i more (suc (suc zero)) = c
each_flag P a b c d e f g h i more (suc (suc (suc zero))) = d
each_flag P a b c d e f g h i more (suc (suc (suc (suc zero)))) = e
each_flag P a b c d e f g h i more (suc (suc (suc (suc (suc zero))))) = f
each_flag P a b c d e f g h i more (suc (suc (suc (suc (suc (suc zero)))))) = g
each_flag P a b c d e f g h i more (suc (suc (suc (suc (suc (suc (suc zero))))))) = h
each_flag P a b c d e f g h i more (suc (suc (suc (suc (suc (suc (suc (suc zero)))))))) = i
each_flag P a b c d e f g h i more (suc (suc (suc (suc (suc (suc (suc (suc (suc k))))))))) =
    more (suc (suc (suc (suc (suc (suc (suc (suc (suc k))))))))) (omega arith)

-- A word of nine bits has no bit above 8.
above : (w k : ℕ) → w < 2 ^ 9 → 8 < k → bit k w ≡ false
above w k small more =
    let big : 2 ^ 9 ≤ 2 ^ k = pow_mono {i = 9} (omega arith) in
    let none : w / 2 ^ k ≡ 0 = div-eq_of_lt (omega arith) in
    rw none

receives : (k : ℕ) → member k receive_flags ≡ receive_flag k
unfolding member
receives =
    each_flag (λ (k : ℕ). bit k 95 ≡ receive_flag k) refl refl refl refl refl refl refl refl refl
    (λ k more. above 95 k (omega arith) more ∙ rw (ne_eqb k 6 (λ e. omega arith), lt-leb k 4 (omega arith)))

transmits : (k : ℕ) → member k transmit_flags ≡ transmit_flag k
unfolding member
transmits =
    each_flag (λ (k : ℕ). bit k 384 ≡ transmit_flag k) refl refl refl refl refl refl refl refl refl
    (λ k more. above 384 k (omega arith) more ∙ rw (ne_eqb k 8 (λ e. omega arith), ne_eqb k 7 (λ e. omega arith)))

-- A flag x with its mark m, in a group or not.
flag_falls : (x m g : Bool) → x && not (x && m && g) ≡ x && not (m && g)
flag_falls true m g = refl
flag_falls false m g = refl

mark_falls : (x m g : Bool) → m && not (x && m && g) ≡ m && not (x && g)
mark_falls true true g = refl
mark_falls false true g = refl
mark_falls x false g = refl

module _ (s r : Sci) (f : Flags) (group : ℕ → Bool) (e : (k : ℕ) → member k f ≡ group k) where
  falls : r.status ≡ fall_seen s.status f → Fall group s r
  falls same =
      record {
        flags =
            λ k.
            ap (is_set k) same ∙ set_fallSeen k s.status f
            ∙ rw (e k) (flag_falls (is_set k s.status) (is_marked k s.status) (group k));
        marks =
            λ k.
            ap (is_marked k) same ∙ marked_fallSeen k s.status f
            ∙ rw (e k) (mark_falls (is_set k s.status) (is_marked k s.status) (group k));
      }

-- Bit 8 of the data register.
eighth : (old v : ℕ) (upper : Bool) → bit 8 (merge old v upper true % 512) ≡ cond upper (bit 8 v) (bit 8 old)
eighth old v true =
    let e : merge old v true true % 512 / 2 ^ 8 % 2 ≡ v / 2 ^ 8 % 2 = omega arith in
    ap (λ (d : ℕ). eqb d 1) e
eighth old v false =
    let e : merge old v false true % 512 / 2 ^ 8 % 2 ≡ old / 2 ^ 8 % 2 = omega arith in
    ap (λ (d : ℕ). eqb d 1) e

writes : (s : Sci) (v : ℕ) (upper : Bool) → WriteClauses s v upper
writes s v upper =
    record {
      low = omega arith;
      bit_8 = eighth s.transmitter.scdr v upper;
      nine = omega arith;
      loads = record { preamble = refl; left = refl; shift = refl };
      fall = falls s (data_written true s v upper) transmit_flags transmit_flag transmits refl;
      receiver = refl;
    }

pub data_clauses : DataClauses
data_clauses =
    record {
      reads =
          λ s.
          record { fall = falls s _ receive_flags receive_flag receives refl; receiver = refl; transmitter = refl };
      writes = writes;
      alone = λ s v upper. refl;
    }

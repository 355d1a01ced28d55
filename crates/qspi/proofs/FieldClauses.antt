-- The queue's fields by their places, and what they mean. Assumes nothing.
use mathlib.Core.Path.{◌≡◌, refl, ap, ◌∙◌}
use mathlib.Core.Bool.{Bool, true, false}
use Prim.Native.Nat.{ℕ, zero, suc, ◌+◌, ◌*◌, ◌/◌, ◌%◌, ◌^◌}
use native.Mathlib.Omega.{arith}
use lib.Dec.{eqb}
use borrow.Author.Tests.{eq-eqb, ne_eqb, lt-leb}
use Rattle.steps.specs.Bits.{digit}
use Rattle.qspi.specs.model.Fields.{bits_field, dsckl, dtl, bits_of, pre_delay, delay_after}
use Rattle.qspi.specs.model.Queue.{clock, ready}
use Rattle.qspi.specs.claims.Run.{run, spbr_in}
use Rattle.qspi.specs.claims.FieldClauses.{Placed, Meant, NoneStarts, FieldClauses}
use Rattle.qspi.proofs.Edges.{no_fault}
use Rattle.qspi.proofs.Quiet.{clock_waiting}

-- A bit is a bool where its digit is.
bit_is : (digits : Bool → ℕ) → digits true ≡ 1 → digits false ≡ 0 → (value : Bool) → eqb (digits value) 1 ≡ value
bit_is digits one none true = eq-eqb (digits true) 1 one
bit_is digits one none false = ne_eqb (digits false) 1 (λ e. omega arith)

placed : Placed
placed =
    record {
      MSTR = λ a v b h. bit_is (λ (x : Bool). ((a * 2 + digit x) * 2 ^ 15 + b) / 2 ^ 15 % 2) (omega arith) (omega arith) v;
      BITS = λ a v b h l. omega arith;
      CPOL = λ a v b h. bit_is (λ (x : Bool). ((a * 2 + digit x) * 2 ^ 9 + b) / 2 ^ 9 % 2) (omega arith) (omega arith) v;
      CPHA = λ a v b h. bit_is (λ (x : Bool). ((a * 2 + digit x) * 2 ^ 8 + b) / 2 ^ 8 % 2) (omega arith) (omega arith) v;
      SPBR = λ a v b h l. omega arith;
      SPE = λ a v b h. bit_is (λ (x : Bool). ((a * 2 + digit x) * 2 ^ 15 + b) / 2 ^ 15 % 2) (omega arith) (omega arith) v;
      DSCKL = λ a v b h l. omega arith;
      DTL = λ a v b h l. omega arith;
      SPIFIE = λ a v b h. bit_is (λ (x : Bool). ((a * 2 + digit x) * 2 ^ 15 + b) / 2 ^ 15 % 2) (omega arith) (omega arith) v;
      WREN = λ a v b h. bit_is (λ (x : Bool). ((a * 2 + digit x) * 2 ^ 14 + b) / 2 ^ 14 % 2) (omega arith) (omega arith) v;
      WRTO = λ a v b h. bit_is (λ (x : Bool). ((a * 2 + digit x) * 2 ^ 13 + b) / 2 ^ 13 % 2) (omega arith) (omega arith) v;
      ENDQP = λ a v b h l. omega arith;
      NEWQP = λ a v b h l. omega arith;
      HMIE = λ a v b h. bit_is (λ (x : Bool). ((a * 2 + digit x) * 2 ^ 1 + b) / 2 ^ 1 % 2) (omega arith) (omega arith) v;
      HALT = λ a v b h. bit_is (λ (x : Bool). ((a * 2 + digit x) * 2 ^ 0 + b) / 2 ^ 0 % 2) (omega arith) (omega arith) v;
      CONT = λ a v b h. bit_is (λ (x : Bool). ((a * 2 + digit x) * 2 ^ 7 + b) / 2 ^ 7 % 2) (omega arith) (omega arith) v;
      BITSE = λ a v b h. bit_is (λ (x : Bool). ((a * 2 + digit x) * 2 ^ 6 + b) / 2 ^ 6 % 2) (omega arith) (omega arith) v;
      DT = λ a v b h. bit_is (λ (x : Bool). ((a * 2 + digit x) * 2 ^ 5 + b) / 2 ^ 5 % 2) (omega arith) (omega arith) v;
      DSCK = λ a v b h. bit_is (λ (x : Bool). ((a * 2 + digit x) * 2 ^ 4 + b) / 2 ^ 4 % 2) (omega arith) (omega arith) v;
      Pcs = λ a v b h l. omega arith;
    }

meant : (spcr0 spcr1 command : ℕ) → Meant spcr0 spcr1 command
unfolding bits_of pre_delay delay_after
meant spcr0 spcr1 command =
    record {
      bits = λ e. rw e;
      bits_set = λ e h. rw (e, ne_eqb (bits_field spcr0) 0 (λ z. omega arith));
      bits_zero = λ e z. rw (e, eq-eqb (bits_field spcr0) 0 z);
      pre = λ e. rw e;
      pre_set = λ e h. rw (e, ne_eqb (dsckl spcr1) 0 (λ z. omega arith));
      pre_zero = λ e z. rw (e, eq-eqb (dsckl spcr1) 0 z);
      delay = λ e. rw e;
      delay_set = λ e h. rw (e, ne_eqb (32 * dtl spcr1) 0 (λ z. omega arith));
      delay_zero = λ e z. rw (e, eq-eqb (32 * dtl spcr1) 0 (omega arith));
    }

none_starts : NoneStarts
unfolding run
none_starts q pins on p d slow calm zero = refl
none_starts q pins on p d slow calm (suc c) =
    let waits : ready q ≡ false = rw (lt-leb 2 (spbr_in q) slow) in
    ap (λ r. clock r (pins (suc c))) (none_starts q pins on p d slow calm c)
    ∙ clock_waiting q (pins (suc c)) on (no_fault q (pins (suc c)) (calm (suc c))) p d waits

pub field_clauses : FieldClauses
field_clauses = record { placed = placed; meant = meant; none_starts = none_starts }

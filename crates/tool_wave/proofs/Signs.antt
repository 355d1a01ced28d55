-- The lines of a change: one more of them, and how long they can be. Assumes nothing.
use mathlib.Core.Path.{◌≡◌}
use mathlib.Core.List.{List, [], ◌∷◌, ◌++◌, append_assoc}
use Prim.Native.Nat.{ℕ, zero, suc, ◌+◌, ◌-◌, ◌*◌, ◌%◌, ◌<◌, ◌≤◌}
use native.Mathlib.Omega.{arith}
use lib.Dec.{eqb}
use lib.ListN.{length, length-append}
use Rattle.text.specs.Line.{room, empty, puts}
use Rattle.text.specs.declared.line.Line.{Line}
use Rattle.text.proofs.Puts.{puts_none, puts_append}
use Rattle.text.proofs.Lengths.{either, decimal_length}
use Rattle.tool_wave.specs.Vcd.{time, time_text, sign, halved, value, values, outputs, inputs, rxd, level, vector, step_text}
use Rattle.tool_wave.specs.declared.vcd.Bits.{Bits}
use Rattle.tool_wave.specs.declared.Step.{Step}

-- One line, and those after it.
pub values_first : (l : Line) (n id : ℕ) (a b : Bits) → 0 < n →
    puts l (values n id a b) ≡ puts (puts l (value id (sign a) (sign b))) (values (n - 1) (id + 1) (halved a) (halved b))
unfolding values
values_first l zero id a b some = absurd (omega arith)
values_first l (suc n) id a b some =
    let less : suc n - 1 ≡ n = omega arith in
    rw (less, puts_append l (value id (sign a) (sign b)) (values n (id + 1) (halved a) (halved b)))

pub values_none : (l : Line) (id : ℕ) (a b : Bits) → puts l (values 0 id a b) ≡ l
unfolding values
values_none l id a b = puts_none l

-- ---- lengths

values_length : (n id : ℕ) (a b : Bits) → length (values n id a b) ≤ n * 3
unfolding values
values_length zero id a b = omega arith
values_length (suc n) id a b =
    simp length-append
    (omega (
      arith,
      either (eqb (sign a) (sign b)) [] (sign b ∷ id ∷ 10 ∷ []) 3 (omega arith) (omega arith),
      values_length n (id + 1) (halved a) (halved b),
    ))

pub time_length : (hz n : ℕ) → length (time_text hz n) ≤ 31
time_length hz n = simp length-append (omega (arith, decimal_length 29 (time hz n)))

pub step_fits : (hz : ℕ) (s : Step) → length (step_text hz s) ≤ room
step_fits hz s =
    simp length-append
    (omega (
      arith,
      decimal_length 29 (time hz s.clock),
      values_length 8 97 (outputs s.before) (outputs s.after),
      values_length 8 65 (inputs s.before) (inputs s.after),
      values_length 1 73 (rxd s.before) (rxd s.after),
      values_length 3 105 (level s.before) (level s.after),
      values_length 8 108 (vector s.before) (vector s.after),
      either (eqb s.refusal 0) [] (49 ∷ (48 + s.refusal % 10) ∷ 10 ∷ []) 3 (omega arith) (omega arith),
    ))

-- ---- the parts of a change's text

pub together : (t o i x l v r : List ℕ) →
    puts (puts (puts (puts (puts empty t) o) (i ++ x)) (l ++ v)) r ≡ puts empty (t ++ o ++ i ++ x ++ l ++ v ++ r)
together t o i x l v r = simp (puts_append, append_assoc)

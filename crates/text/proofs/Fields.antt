-- How long the lines of a comparison, of noise figures and of an account can be: each has room. Assumes nothing.
use mathlib.Core.Bool.{Bool, not}
use Prim.Native.Nat.{ℕ, ◌≤◌}
use native.Mathlib.Omega.{arith}
use lib.Dec.{eqb, ltb}
use lib.Bits.{bit_and}
use lib.ListN.{length, length-append}
use Rattle.steps.specs.Bits.{digit}
use Rattle.qsm.specs.declared.event.Answer.{Answer}
use Rattle.text.specs.Line.{room}
use Rattle.text.specs.Log.{foreign_kind}
use Rattle.text.specs.Answer.{unnamed}
use Rattle.text.specs.Difference.{field_name, kind_text, refusal_text, pins_text, level_text, field_text, difference_line}
use Rattle.text.specs.Verdict.{equal_line, more, differ_line, why, refused_line, expected, other_line}
use Rattle.text.specs.Noise.{noise_line, tally_line, line_noise}
use Rattle.text.specs.Account.{account_line}
use Rattle.answers.specs.declared.Field.{Field}
use Rattle.answers.specs.declared.Field.TheVariants.{Kind, Refusal, Value, Levels, Mask, Level, Vector, Clock}
use Rattle.text.specs.declared.log.Logged.{Logged}
use Rattle.text.proofs.Lengths.{either, decimal_length, refusal_length, pins_length}

name_length_holds : (f : Field) → length (field_name f) ≤ 7
name_length_holds Kind = omega arith
name_length_holds Refusal = omega arith
name_length_holds Value = omega arith
name_length_holds Levels = omega arith
name_length_holds Mask = omega arith
name_length_holds Level = omega arith
name_length_holds Vector = omega arith
name_length_holds Clock = omega arith

kind_length : (k : ℕ) → length (kind_text k) ≤ 58
kind_length k = either (foreign_kind k) _ _ 58 (omega arith) (omega arith)

refusal_text_length : (n : ℕ) → length (refusal_text n) ≤ 58
refusal_text_length n = either (unnamed n) _ _ 58 (omega arith) (omega (arith, refusal_length n))

pins_text_length : (b : ℕ) (a : Answer) → length (pins_text b a) ≤ 58
pins_text_length b a =
    either (not (eqb (bit_and a.levels a.mask) a.levels)) _ _ 58 (omega arith) (pins_length a.mask a.levels)

level_length : (n : ℕ) → length (level_text n) ≤ 58
level_length n = either (ltb 7 n) _ _ 58 (omega arith) (omega (arith, decimal_length 3 n))

text_length : (f : Field) (l : Logged) → length (field_text f l) ≤ 58
unfolding field_text
text_length Kind l = kind_length l.kind
text_length Refusal l = refusal_text_length l.answer.refusal
text_length Value l = omega arith
text_length Levels l = pins_text_length l.answer.levels l.answer
text_length Mask l = pins_text_length l.answer.mask l.answer
text_length Level l = level_length l.answer.level
text_length Vector l = omega arith
text_length Clock l = omega (arith, decimal_length 20 l.answer.clock)

pub difference_fits : (n : ℕ) (f : Field) (x y : Logged) → length (difference_line n f x y) ≤ room
difference_fits n f x y =
    simp length-append (omega (arith, decimal_length 20 n, name_length_holds f, text_length f x, text_length f y))

-- ---- the line that says how two logs compare

more_length : (letter n : ℕ) → length (more letter n) ≤ 33
unfolding more
more_length letter n = either (eqb n 0) _ _ 33 (omega arith) (simp length-append (omega (arith, decimal_length 20 n)))

why_length : (refusal : ℕ) → length (why refusal) ≤ 29
unfolding why
why_length refusal = either (eqb refusal 6) _ _ 29 (omega arith) (either (eqb refusal 7) _ _ 29 (omega arith) (omega arith))

pub equal_fits : (answers : ℕ) → length (equal_line answers) ≤ room
equal_fits answers = simp length-append (omega (arith, decimal_length 20 answers))

pub differ_fits : (differing answers first second : ℕ) → length (differ_line differing answers first second) ≤ room
differ_fits differing answers first second =
    simp length-append
    (omega (arith, decimal_length 20 differing, decimal_length 20 answers, more_length 65 first, more_length 66 second))

pub refused_fits : (refusal : ℕ) → length (refused_line refusal) ≤ room
refused_fits refusal = simp length-append (omega (arith, decimal_length 3 refusal, why_length refusal))

expected_length : (kind : ℕ) → length (expected kind) ≤ 8
unfolding expected
expected_length kind = either (foreign_kind kind) _ _ 8 (omega arith) (omega arith)

pub other_fits : (letter answer place byte kind : ℕ) → length (other_line letter answer place byte kind) ≤ room
other_fits letter answer place byte kind =
    simp length-append (omega (arith, decimal_length 20 answer, decimal_length 20 place, expected_length kind))

-- ---- the noise figures

pub noise_fits : (n figure : ℕ) → length (noise_line n figure) ≤ room
noise_fits n figure = simp length-append (omega (arith, decimal_length 20 n, decimal_length 3 figure))

pub tally_fits : (words noisy worst : ℕ) → length (tally_line words noisy worst) ≤ room
tally_fits words noisy worst =
    simp length-append (omega (arith, decimal_length 20 words, decimal_length 20 noisy, decimal_length 3 worst))

pub line_noise_fits : (number total worst : ℕ) → length (line_noise number total worst) ≤ room
line_noise_fits number total worst =
    simp length-append (omega (arith, decimal_length 20 number, decimal_length 20 total, decimal_length 3 worst))

-- ---- the account

pub account_fits : (taken lost : ℕ) (waiting : Bool) → length (account_line taken lost waiting) ≤ room
account_fits taken lost waiting =
    simp length-append (omega (arith, decimal_length 10 taken, decimal_length 10 lost, decimal_length 1 (digit waiting)))

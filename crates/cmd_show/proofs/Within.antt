-- What is shown has at least one byte and is within the bytes there. Assumes nothing.
use mathlib.Core.Path.{◌≡◌, refl, subst}
use mathlib.Core.Bool.{Bool, true, false, cond, not}
use mathlib.Core.List.{List}
use Prim.Native.Nat.{ℕ, ◌<◌, ◌≤◌}
use native.Mathlib.Omega.{arith}
use lib.Dec.{eqb, ltb}
use lib.Bits.{bit_and}
use lib.ListN.{length}
use borrow.Author.Tests.{ltb-false}
use Rattle.answers.specs.Answer.{clocked, length_of}
use Rattle.trace.specs.Trace.{byte_at, parsed}
use Rattle.trace.specs.declared.Parsed.{Parsed}
use Rattle.trace.specs.declared.Parsed.TheVariants.{Record, Unknown, Cut}
use Rattle.trace.proofs.Playing.{record_within}
use Rattle.text.specs.Answer.{unnamed}
use Rattle.text.specs.Log.{logged_at, foreign_kind, other_kind, entry}
use Rattle.std.specs.Prelude.{Result, Ok, Err}
use Rattle.text.specs.declared.log.Logged.{Logged}
use Rattle.text.specs.declared.message.Fault.{Fault}
use Rattle.text.specs.declared.message.Fault.TheVariants as fault
use Rattle.cmd_show.specs.Item.{answer_item, record_item, item}
use Rattle.cmd_show.specs.declared.item.What.{What}
use Rattle.cmd_show.specs.declared.item.What.TheVariants as what

-- Of what is shown.
abbrev pub Fits : List ℕ → What → ℕ → Type 0
Fits t what.Shown size = (0 < size) × (size ≤ length t)
Fits t what.More size = Unit {0}
Fits t (what.Bad f) size = Unit {0}

-- Either case of a test, of what it shows.
by_test : {A : Type 0} (P : A → Type 0) (b : Bool) (x y : A) → P x → (b ≡ false → P y) → P (cond b x y)
by_test P true x y h i = h
by_test P false x y h i = i refl

some : (t : Bool) → 0 < cond t 18 10
some true = omega arith
some false = omega arith

abbrev Answered : List ℕ → Result Logged Fault → Type 0
Answered t e = Fits t (answer_item 0 e).what (answer_item 0 e).size

answered : (kind : ℕ) (t : List ℕ) → Answered t (entry kind t)
answered kind t =
    by_test (Answered t) (eqb (length t) 0) _ _ tt (λ _.
    by_test (Answered t) (foreign_kind (byte_at t 0)) _ _ tt (λ _.
    by_test (Answered t) (other_kind kind (byte_at t 0)) _ _ tt (λ _.
    by_test (Answered t) (ltb (length t) (length_of (byte_at t 0))) _ _ tt (λ long.
    by_test (Answered t) (unnamed (logged_at t).answer.refusal) _ _ tt (λ _.
    by_test (Answered t) (not (eqb (bit_and (logged_at t).answer.levels (logged_at t).answer.mask) (logged_at t).answer.levels)) _ _ tt (λ _.
    rw long (some (eqb (byte_at t 0) clocked), ltb-false (length t) (length_of (byte_at t 0)) long)))))))

-- The line doesn't matter.
by_entry : (n : ℕ) (t : List ℕ) (e : Result Logged Fault) → Answered t e → Fits t (answer_item n e).what (answer_item n e).size
by_entry n t (Ok l) h = h
by_entry n t (Err fault.NoAnswer) h = tt
by_entry n t (Err fault.OtherKind) h = tt
by_entry n t (Err fault.NoRefusal) h = tt
by_entry n t (Err fault.NotDriven) h = tt
by_entry n t (Err fault.NoRecord) h = tt
by_entry n t (Err fault.Cut) h = tt

by_record : (n kind : ℕ) (t : List ℕ) (p : Parsed) → parsed t ≡ p → Fits t (record_item n kind p).what (record_item n kind p).size
by_record n kind t (Record e size) is = record_within t is
by_record n kind t Unknown is = tt
by_record n kind t Cut is = tt

pub within : (traces : Bool) (kind n : ℕ) (t : List ℕ) → Fits t (item traces kind n t).what (item traces kind n t).size
within true kind n t = by_record n (byte_at t 0) t (parsed t) refl
within false kind n t = by_entry n t (entry kind t) (answered kind t)

pub shown_within : (traces : Bool) (kind n : ℕ) (t : List ℕ) → (item traces kind n t).what ≡ what.Shown
    → (0 < (item traces kind n t).size) × ((item traces kind n t).size ≤ length t)
shown_within traces kind n t is = subst (λ (w : What). Fits t w (item traces kind n t).size) is (within traces kind n t)

-- The number and the field of a verdict, by the bytes. Assumes nothing.
use mathlib.Core.Path.{◌≡◌, refl, sym, ap, subst, ◌∙◌}
use mathlib.Core.Logic.{◌⊎◌, inl, inr}
use mathlib.Core.Bool.{Bool, true, false, true≢false, ◌||◌}
use mathlib.Core.List.{List, ◌++◌}
use Prim.Native.Nat.{ℕ, suc, ◌+◌, ◌*◌, ◌%◌, ◌<◌, ◌≤◌}
use native.Mathlib.Omega.{arith}
use lib.Dec.{eqb}
use lib.ListN.{length, take, drop}
use lib.Seq.{take-take, take-add}
use borrow.Author.Tests.{eqb-false, lt-ltb, le-ltb}
use Rattle.qsm.specs.model.State.{reset_module}
use Rattle.trace.specs.Play.{Outcome}
use Rattle.answers.specs.Field.{start_of, size_of, field_at}
use Rattle.answers.specs.Claims.{Within}
use Rattle.answers.specs.declared.Field.{Field}
use Rattle.answers.specs.declared.Field.TheVariants.{Kind, Refusal, Value, Levels, Mask, Level, Vector, Clock}
use Rattle.tool_judge.specs.Verdict.{alike, first_wrong, short, wrong_in, verdict}
use Rattle.tool_judge.specs.Judge.{enough, expected}
use Rattle.tool_judge.specs.Verdict.{Verdict, accept, reject}
use Rattle.std.specs.Prelude.{Ok, Err}
use Rattle.tool_judge.proofs.Beginnings.{alike_self}
use Rattle.tool_judge.proofs.Laws.{answer_in, any_room, same_start, further_on, judging}
use Rattle.answers.proofs.Laws.{laws}
use Rattle.trace.specs.Trace.{answer_length}
use Rattle.tool_judge.proofs.Walking.{drop_take}
use Rattle.claims_judging.specs.Verdicts.{right, answer, Accepts, start, bytes, field, WrongAt, FirstWrong}

-- ---- what a verdict says

abbrev good : Verdict → Bool
good (Ok x) = true
good (Err w) = false

abbrev field_in : Verdict → Field
field_in (Ok x) = Kind
field_in (Err w) = w.field

record Says (x y : List ℕ) (k : ℕ) (f : Field) : Type 0 where
  number : k ≡ first_wrong x y
  field_is : f ≡ wrong_in x y k
  unequal : x ≡ y → ⊥

said : (x y : List ℕ) (k : ℕ) (f : Field) → reject (first_wrong x y) (wrong_in x y (first_wrong x y)) ≡ reject k f → (x ≡ y → ⊥) → Says x y k f
said x y k f is ne =
    let number : first_wrong x y ≡ k = ap answer_in is in
    let first : wrong_in x y (first_wrong x y) ≡ f = ap field_in is in
    record { number = sym number; field_is = sym first ∙ ap (wrong_in x y) number; unequal = ne }

says : (x y : List ℕ) (k : ℕ) (f : Field) (s t : Bool) → eqb (alike x y) (length x) ≡ s → eqb (alike x y) (length y) ≡ t → verdict x y ≡ reject k f → Says x y k f
unfolding verdict
says x y k f true true p q e = let no : accept ≡ reject k f = rw (p, q) at e in absurd (true≢false (ap good no))
says x y k f true false p q e =
    said x y k f (rw (p, q) at e) (λ h. eqb-false _ _ q (sym (ap (alike x) h) ∙ alike_self x ∙ ap length h))
says x y k f false t p q e = said x y k f (rw p at e) (λ h. eqb-false _ _ p (sym (ap (alike x) h) ∙ alike_self x))

-- ---- the field by its bytes

-- The byte at a place lies in the field that is named for it.
record Lies (f : Field) (i : ℕ) : Type 0 where
  from : start f ≤ i
  to : i < start f + bytes f
  fits : start f + bytes f ≤ 18

table : (f : Field) → (start f ≡ start_of f) × (bytes f ≡ size_of f) × (start f + bytes f ≤ 18)
table Kind = (refl, refl, omega arith)
table Refusal = (refl, refl, omega arith)
table Value = (refl, refl, omega arith)
table Levels = (refl, refl, omega arith)
table Mask = (refl, refl, omega arith)
table Level = (refl, refl, omega arith)
table Vector = (refl, refl, omega arith)
table Clock = (refl, refl, omega arith)

lies_within : (f : Field) (i : ℕ) → Within f i → Lies f i
lies_within f i w =
    let t = table f in
    record { from = omega (arith, t.0, w.from); to = omega (arith, t.0, t.1, w.to); fits = t.2 }

lies : (i : ℕ) → i < 18 → Lies (field_at i) i
lies i h = lies_within (field_at i) i (laws.covering i h)

or_true : (b : Bool) → b || true ≡ true
or_true true = refl
or_true false = refl

-- ---- the answer by its bytes

module _ (x y : List ℕ) (k : ℕ) (f : Field) (s : Says x y k f) where
  abbrev same : ℕ
  same = alike x y

  starts : 18 * k ≤ same
  starts = omega (arith, s.number)

  ends : same < 18 * k + 18
  ends = omega (arith, s.number)

  -- Of answer k so many bytes.
  part : (n : ℕ) → n ≤ 18 → (l : List ℕ) → take n (answer l k) ≡ drop (18 * k) (take (18 * k + n) l)
  part n h l = take-take n 18 (drop (18 * k) l) h ∙ sym (drop_take (18 * k) n l)

  up_to : (n : ℕ) → n ≤ 18 → (l : List ℕ) → take (18 * k + n) l ≡ take (18 * k) l ++ take n (answer l k)
  up_to n h l = take-add (18 * k) n l ∙ ap (λ (r : List ℕ). take (18 * k) l ++ r) (sym (take-take n 18 (drop (18 * k) l) h))

  before : take (18 * k) y ≡ take (18 * k) x
  before = sym (same_start (18 * k) x y starts)

  -- Where so many bytes of both answers are the same, the logs are alike so far.
  by_either : (n : ℕ) → (n ≤ same) ⊎ (x ≡ y) → n ≤ same
  by_either n (inl h) = h
  by_either n (inr e) = absurd (s.unequal e)

  reaches : (n : ℕ) → n ≤ 18 → take n (answer y k) ≡ take n (answer x k) → 18 * k + n ≤ same
  reaches n h e =
      let both : take (18 * k + n) x ≡ take (18 * k + n) y =
      up_to n h x ∙ ap (λ (r : List ℕ). r ++ take n (answer x k)) (sym before) ∙ ap (λ (r : List ℕ). take (18 * k) y ++ r) (sym e) ∙ sym (up_to n h y) in
      by_either (18 * k + n) (further_on (18 * k + n) x y both)

  differs : answer y k ≡ answer x k → ⊥
  differs e = omega (arith, reaches 18 (omega arith) (ap (take 18) e), ends)

  cut : length y < 18 * k + 18 → f ≡ Kind
  cut h = s.field_is ∙ rw (lt-ltb (length y) (answer_length * suc k) (omega (arith, h)), or_true (short x k))

  surplus : length x < 18 * k + 18 → f ≡ Kind
  surplus h = s.field_is ∙ rw (lt-ltb (length x) (answer_length * suc k) (omega (arith, h)))

  module _ (has : 18 * k + 18 ≤ length y) (have : 18 * k + 18 ≤ length x) where
    place : ℕ
    place = same % 18

    named : f ≡ field_at place
    unfolding place
    named =
        s.field_is
        ∙ rw (le-ltb (length x) (answer_length * suc k) (omega (arith, have)), le-ltb (length y) (answer_length * suc k) (omega (arith, has)))

    at_place : same ≡ 18 * k + place
    unfolding place
    at_place = omega (arith, starts, ends)

    inside : Lies f place
    unfolding place
    inside = rw named (lies place (omega arith))

    fields_before : take (start f) (answer y k) ≡ take (start f) (answer x k)
    fields_before =
        let short-of : start f ≤ 18 = omega (arith, inside.fits) in
        part (start f) short-of y ∙ ap (drop (18 * k)) (sym (same_start (18 * k + start f) x y (omega (arith, at_place, inside.from)))) ∙ sym (part (start f) short-of x)

    field_differs : field f (answer y k) ≡ field f (answer x k) → ⊥
    field_differs e =
        let both : take (start f + bytes f) (answer y k) ≡ take (start f + bytes f) (answer x k) =
        take-add (start f) (bytes f) (answer y k) ∙ ap (λ (r : List ℕ). r ++ field f (answer y k)) fields_before
        ∙ ap (λ (r : List ℕ). take (start f) (answer x k) ++ r) e ∙ sym (take-add (start f) (bytes f) (answer x k)) in
        omega (arith, reaches (start f + bytes f) inside.fits both, at_place, inside.to)

  wrong_at : WrongAt x y k f
  wrong_at =
      record { before = before; differs = differs; cut = cut; surplus = surplus; fields_before = fields_before; field_differs = field_differs }

pub first_wrong_holds : FirstWrong
first_wrong_holds t log room k f h e =
    let x = (expected t).answers in
    let ours : x ≡ right t room = ap (λ (o : Outcome). o.answers) (any_room reset_module t (enough t) room (omega arith) h) in
    subst (λ (l : List ℕ). WrongAt l log k f) ours
    (wrong_at x log k f (says x log k f (eqb (alike x log) (length x)) (eqb (alike x log) (length log)) refl refl e))

pub accepts : Accepts
accepts t log room h = (judging.accepted_equal t log room h, λ e. rw e (judging.own_accepted t room h))

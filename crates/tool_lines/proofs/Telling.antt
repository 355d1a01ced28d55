-- What a call tells, by the outcome's case, and what it leaves of the lent buffer. Assumes nothing.
use mathlib.Core.Path.{◌≡◌, refl, sym, ap, ◌∙◌}
use mathlib.Core.Bool.{Bool, true, false, ◌||◌}
use mathlib.Core.List.{List, [], ◌∷◌, ◌++◌}
use mathlib.Core.Logic.{inl, inr}
use Prim.Native.Nat.{ℕ, ◌≤◌, min}
use native.Mathlib.Omega.{arith}
use lib.Dec.{eqb, ltb}
use lib.ListN.{length, take, drop}
use lib.Seq.{take_all}
use borrow.Author.Tests.{le-ltb, ltb-true, ltb-false}
use types.Run.{OneOf}
use denote.Enum.Declared.{tag_of}
use Rattle.tool_lines.specs.Gather.{most}
use Rattle.tool_lines.specs.Call.{nothing, handed_in, go_on, called, Calls}
use Rattle.tool_lines.specs.declared.line.Line.{Line}
use Rattle.tool_lines.specs.declared.line.Outcome.{Outcome}
use Rattle.tool_lines.specs.declared.line.Outcome.TheVariants.{Nothing, Handed, Dropped, Stopped, Ended, Refused}
use Rattle.tool_lines.specs.declared.Lines.{Lines}
use Rattle.tool_lines.specs.declared.Turned.{Turned}
use Rattle.tool_lines.specs.contracts.line.Outcome as O

pub tells : (o : Outcome) → OneOf (1 ∷ 2 ∷ 3 ∷ 4 ∷ 5 ∷ []) (tag_of O.the_type o) → nothing o ≡ false
tells Nothing (inl h) = absurd (omega arith)
tells Nothing (inr (inl h)) = absurd (omega arith)
tells Nothing (inr (inr (inl h))) = absurd (omega arith)
tells Nothing (inr (inr (inr (inl h)))) = absurd (omega arith)
tells Nothing (inr (inr (inr (inr h)))) = absurd (omega arith)
tells (Handed number n) h = refl
tells (Dropped number cause) h = refl
tells (Stopped why) h = refl
tells Ended h = refl
tells (Refused why) h = refl

pub not_handed : (l : Line) (o : Outcome) (lent : List ℕ) → OneOf (0 ∷ 2 ∷ 3 ∷ 4 ∷ 5 ∷ []) (tag_of O.the_type o) → handed_in l o lent ≡ lent
not_handed l (Handed number n) lent (inl h) = absurd (omega arith)
not_handed l (Handed number n) lent (inr (inl h)) = absurd (omega arith)
not_handed l (Handed number n) lent (inr (inr (inl h))) = absurd (omega arith)
not_handed l (Handed number n) lent (inr (inr (inr (inl h)))) = absurd (omega arith)
not_handed l (Handed number n) lent (inr (inr (inr (inr h)))) = absurd (omega arith)
not_handed l Nothing lent h = refl
not_handed l (Dropped number cause) lent h = refl
not_handed l (Stopped why) lent h = refl
not_handed l Ended lent h = refl
not_handed l (Refused why) lent h = refl

-- A call that is not refused.
passes : (period : ℕ) (t : List ℕ) (room : ℕ) (s : Lines) → eqb period 0 || ltb 65535 period ≡ false → most ≤ room
    → called period t room s ≡ go_on period t s
passes period t room s fits has = rw (fits, le-ltb room most has)

pub went : (period : ℕ) (t lent : List ℕ) (s : Lines) → eqb period 0 || ltb 65535 period ≡ false → most ≤ length lent
    → (p : ℕ) → p ≡ period → (r : Turned) → r ≡ go_on p t s → (left : List ℕ) → left ≡ handed_in r.state.line r.outcome lent
    → Calls (called period t (length lent) s) lent r left
went period t lent s fits has p same r is left wrote =
    let gone : r ≡ go_on period t s = is ∙ ap (λ (k : ℕ). go_on k t s) same in
    rw (passes period t (length lent) s fits has)
    (record { answer = gone; buffer = wrote ∙ ap (λ (o : Turned). handed_in o.state.line o.outcome lent) gone })

-- The first n of 128 characters, copied to the start of a buffer.
take_most : (n : ℕ) (cs : List ℕ) → length cs ≡ most → (fewer : Bool) → ltb n most ≡ fewer → take (min n most) cs ≡ take n cs
take_most n cs is true lt = let all : min n most ≡ n = omega (arith, ltb-true n most lt) in ap (λ (k : ℕ). take k cs) all
take_most n cs is false ge =
    take_all (min n most) cs (omega (arith, ltb-false n most ge)) ∙ sym (take_all n cs (omega (arith, ltb-false n most ge)))

pub first_copied : (n : ℕ) (cs lent left : List ℕ) (m : ℕ) → m ≡ min n most → length cs ≡ most
    → left ≡ take (length (take m cs)) (take m cs) ++ drop (length (take m cs)) lent
    → left ≡ take n cs ++ drop (length (take n cs)) lent
first_copied n cs lent left m is full wrote =
    let same : take m cs ≡ take n cs = ap (λ (k : ℕ). take k cs) is ∙ take_most n cs full (ltb n most) refl in
    wrote ∙ ap (λ (xs : List ℕ). take (length xs) xs ++ drop (length xs) lent) same
    ∙ ap (λ (xs : List ℕ). xs ++ drop (length (take n cs)) lent) (take_all (length (take n cs)) (take n cs) (omega arith))

-- Whether a record is there, where a walk up to it has come. Assumes nothing.
use mathlib.Core.Path.{◌≡◌, refl, sym, ap, ◌∙◌}
use mathlib.Core.Bool.{Bool, true, false, ◌&&◌}
use mathlib.Core.List.{List}
use Prim.Native.Nat.{ℕ, ◌+◌, ◌-◌, ◌<◌, ◌≤◌}
use native.Mathlib.Omega.{arith}
use lib.Dec.{eqb, ltb}
use lib.ListN.{length, take, drop, length-drop, length-take}
use borrow.Author.Tests.{eq-eqb, lt-ltb, le-ltb, ltb-true, ltb-false}
use Rattle.trace.specs.Trace.{parsed}
use Rattle.trace.specs.declared.Parsed.{Parsed}
use Rattle.trace.specs.declared.Parsed.TheVariants.{Record, Unknown, Cut}
use Rattle.tool_index.specs.Records.{Item, items_by, records}
use Rattle.tool_index.specs.Walk.{walked}
use Rattle.tool_index.specs.Find.{is_record, found_from}
use Rattle.tool_index.specs.declared.walk.Position.{Position}
use Rattle.tool_index.specs.declared.walk.Walked.{Walked}
use Rattle.tool_index.proofs.Items.{unroll}
use Rattle.tool_index.proofs.Walking.{Walking, lent, number_is, came}

never : (b : Bool) → b && false ≡ false
never true = refl
never false = refl

some_by : (f : List ℕ → List Item) (t : List ℕ) (p : Parsed) → is_record p ≡ ltb 0 (length (items_by f t p))
some_by f t (Record e n) = sym (lt-ltb 0 (length (items_by f t (Record e n))) (omega arith))
some_by f t Unknown = refl
some_by f t Cut = refl

some_record : (t : List ℕ) → is_record (parsed t) ≡ ltb 0 (length (records t))
some_record t = some_by records t (parsed t) ∙ ap (λ (l : List Item). ltb 0 (length l)) (sym (unroll t))

module _ (p : Position) (t : List ℕ) (n : ℕ) (le : p.number ≤ n) where
  abbrev q : Position
  q = (walked p t n).at

  abbrev w : Walking p t n q (walked p t n).read
  w = came p t n

  left : length (records (drop (walked p t n).read t)) ≡ length (records t) - w.passed
  left = ap length (sym w.left) ∙ length-drop w.passed (records t)

  by_order : (b : Bool) → ltb n (p.number + length (records t)) ≡ b → (eqb q.number n && ltb 0 (length (records (drop (walked p t n).read t)))) ≡ b
  by_order true h =
      let lt = ltb-true n (p.number + length (records t)) h in
      let e : q.number ≡ n = omega (arith, length-take (n - p.number) (records t)) in
      let some : 0 < length (records (drop (walked p t n).read t)) = omega (arith, left, number_is w) in
      rw (eq-eqb q.number n e, lt-ltb 0 (length (records (drop (walked p t n).read t))) some)
  by_order false h =
      let none : length (records (drop (walked p t n).read t)) ≤ 0 =
      omega (arith, left, number_is w, ltb-false n (p.number + length (records t)) h, length-take (n - p.number) (records t)) in
      rw (le-ltb 0 (length (records (drop (walked p t n).read t))) none) (never (eqb q.number n))

  pub there_is : (eqb q.number n && is_record (parsed (drop (walked p t n).read t))) ≡ ltb n (p.number + length (records t))
  there_is = ap (λ (b : Bool). eqb q.number n && b) (some_record (drop (walked p t n).read t)) ∙ by_order (ltb n (p.number + length (records t))) refl

-- What the walk gave, what the parser said of what it left, and whether that is a record.
module _ (p : Position) (t : List ℕ) (n : ℕ) (le : p.number ≤ n) {v : Walked} (v-is : v ≡ walked p t n) where
  pub read_within : v.read ≤ length t
  read_within = rw v-is (came p t n).within

  pub not_back : p.number ≤ v.at.number
  not_back = rw v-is (omega arith)

  module _ {x : Parsed} {there : Bool} (x-is : x ≡ parsed (take (length t - v.read) (drop v.read t))) (there-def : there ≡ is_record x) where
    test : (eqb v.at.number n && there) ≡ ltb n (p.number + length (records t))
    test =
        let e : there ≡ is_record (parsed (drop v.read t)) = there-def ∙ ap is_record (x-is ∙ ap parsed (lent t v.read)) in
        ap (λ (b : Bool). eqb v.at.number n && b) e
        ∙ ap (λ (u : Walked). eqb u.at.number n && is_record (parsed (drop u.read t))) v-is ∙ there_is p t n le

    pub is_there : (eqb v.at.number n && there) ≡ true
        → record { place = v.at.place; resets = v.at.resets; walked = v.at.number - p.number; refusal = 0 } ≡ found_from p t n
    is_there h = rw (sym test ∙ h, v-is)

    pub not_there : (eqb v.at.number n && there) ≡ false
        → record { place = 0; resets = 0; walked = v.at.number - p.number; refusal = 2 } ≡ found_from p t n
    not_there h = rw (sym test ∙ h, v-is)

-- The records of a buffer that are in order, one by one. Assumes nothing.
use mathlib.Core.Path.{◌≡◌, refl, sym, ap, ◌∙◌}
use mathlib.Core.Bool.{Bool, true, false, cond, not, ◌&&◌}
use mathlib.Core.List.{List, [], ◌∷◌, ◌++◌, append_assoc, append-nil}
use Prim.Native.Nat.{ℕ, zero, suc, ◌+◌, ◌-◌, ◌<◌, ◌≤◌}
use native.Mathlib.Omega.{arith}
use native.Mathlib.Nat.{zero-add}
use lib.Dec.{eqb, ltb, leb}
use lib.ListN.{length, take, drop, length-drop, length-append, drop_of_length-le}
use lib.Seq.{drop-drop}
use borrow.Author.Tests.{ne_eqb, ltb-true}
use Rattle.tool_editions.specs.Records.{size_of, parsed, first}
use Rattle.tool_editions.specs.Rules.{latest, last_after, last_from, unmodelled, ranked, judge, refusal_of}
use Rattle.tool_editions.specs.Refusals.{broken_by}
use Rattle.tool_editions.specs.Contents.{Reading, holds, refuses, turn, read_for, read_all, held}
use Rattle.tool_editions.specs.declared.contents.Held.{Held}
use Rattle.tool_editions.specs.declared.records.Record.{Record}
use Rattle.tool_editions.specs.declared.records.Record.TheVariants.{Added, Withdrawn}
use Rattle.tool_editions.specs.declared.records.Unreadable.{Unreadable}
use Rattle.tool_editions.specs.declared.records.Unreadable.TheVariants.{Unknown, Cut}
use Rattle.tool_editions.specs.declared.refusals.Refusal.{Refusal}
use Rattle.tool_editions.specs.declared.refusals.Refusal.TheVariants.{BadRecord}
use Rattle.std.specs.Prelude.{Result, Ok, Err}
use Rattle.tool_editions.proofs.Shapes.{size_positive}
use Rattle.tool_editions.proofs.Walking.{one_less, here, fits, next}

-- What no refusal says of the tests.
pub no_refusal : (three eight room : Bool) → ranked three eight room ≡ 0 → (three ≡ false) × (eight ≡ false) × (room ≡ true)
no_refusal true eight room e = absurd (omega arith)
no_refusal false true room e = absurd (omega arith)
no_refusal false false true e = (refl, refl, refl)
no_refusal false false false e = absurd (omega arith)

and_right : (a b : Bool) → a && b ≡ true → b ≡ true
and_right true b e = e
and_right false b e = let z : b ≡ true = cc in z

pub few : (last count : ℕ) (rs : List Record) (room : Bool) (r : Record) → judge last count rs room r ≡ 0 → count < 64
few last count rs room (Added e) h =
    ltb-true count 64 (and_right room (ltb count 64) (no_refusal (unmodelled e) (leb e.number last) (room && ltb count 64) h).2)
few last count rs room (Withdrawn n) h =
    ltb-true count 64 (and_right room (ltb count 64) (no_refusal false (not (eqb (latest false n rs).refusal 0)) (room && ltb count 64) h).2)

pub last_behind : (l : ℕ) (rs : List Record) (r : Record) → last_from l (rs ++ (r ∷ [])) ≡ last_after (last_from l rs) r
unfolding last_from
last_behind l [] r = refl
last_behind l (s ∷ rs) r = last_behind (last_after l s) rs r

pub read_none : (k : ℕ) (rs : List Record) → read_for k rs [] ≡ holds rs
unfolding read_for
read_none zero rs = refl
read_none (suc k) rs = refl

-- The loop at a place: the records before it are in order.
pub record Going (v : List ℕ) (last count at : ℕ) : Type 0 where
  pub before : List Record
  pub fuel : ℕ
  pub inside : at ≤ length v
  pub enough : length v ≤ at + fuel
  pub last_is : last ≡ last_from 0 before
  pub count_is : count ≡ length before
  pub passed : (k : ℕ) → first (count + k) v ≡ before ++ first k (drop at v)
  pub going : read_all v ≡ read_for fuel before (drop at v)

pub starts : (v : List ℕ) → Going v 0 0 0
unfolding last_from
starts v =
    record {
      before = [];
      fuel = length v;
      inside = omega arith;
      enough = omega arith;
      last_is = refl;
      count_is = refl;
      passed = λ k. rw zero-add;
      going = refl;
    }

module _ (v : List ℕ) {last count at : ℕ} (g : Going v last count at) where
  pub at_end_holds : length v ≤ at → ◌≡◌ {A = Result Held Refusal} (Ok (record { last = last; count = count })) (held (read_all v))
  at_end_holds h =
      rw (g.going, drop_of_length-le v {i = at} h, read_none g.fuel g.before, g.last_is, g.count_is)

  -- The records so far are the first ones.
  pub so_far : first count v ≡ g.before
  unfolding first
  so_far = let all : count ≡ count + 0 = omega arith in ap (λ (k : ℕ). first k v) all ∙ g.passed 0 ∙ append-nil g.before

  module _ (lt : at < length v) {p : Result Record Unreadable} (p-is : p ≡ parsed (take (length v - at) (drop at v))) where
    unroll : (k : ℕ) → length v ≤ at + k → read_for k g.before (drop at v) ≡ turn (read_for (k - 1)) g.before (drop at v) p
    unfolding read_for
    unroll zero h = absurd (omega arith)
    unroll (suc k) h =
        let some : length (drop at v) ≡ 0 → ⊥ = λ z. omega (arith, length-drop at v, z) in
        rw (ne_eqb (length (drop at v)) 0 some, here v at p-is, one_less k)

    broken : (on : List Record → List ℕ → Reading) (rs : List Record) (t : List ℕ) (u : Unreadable) → turn on rs t (Err u) ≡ refuses (broken_by u)
    broken on rs t Unknown = refl
    broken on rs t Cut = refl

    pub at_broken : {u : Unreadable} → p ≡ Err u → ◌≡◌ {A = Result Held Refusal} (Err (broken_by u)) (held (read_all v))
    at_broken {u} is =
        let t : turn (read_for (g.fuel - 1)) g.before (drop at v) p ≡ refuses (broken_by u) = rw is (broken (read_for (g.fuel - 1)) g.before (drop at v) u) in
        sym (ap held (g.going ∙ unroll g.fuel g.enough ∙ t))

    module _ {r : Record} (whole : p ≡ Ok r) {x : ℕ} (x-is : x ≡ judge last count (first count v) true r) where
      judged : refusal_of g.before true r ≡ x
      judged = sym (x-is ∙ rw (so_far, g.last_is, g.count_is))

      turned : read_all v ≡ cond (eqb x 0) (read_for (g.fuel - 1) (g.before ++ (r ∷ [])) (drop (size_of r) (drop at v))) (refuses BadRecord)
      turned = g.going ∙ unroll g.fuel g.enough ∙ rw (whole, judged)

      pub at_refused : (x ≡ 0 → ⊥) → ◌≡◌ {A = Result Held Refusal} (Err BadRecord) (held (read_all v))
      at_refused ne =
          let is : read_all v ≡ refuses BadRecord = turned ∙ rw (ne_eqb x 0 ne) in
          sym (ap held is)

      pub goes_on : x ≡ 0 → {l size : ℕ} → l ≡ last_after last r → size ≡ size_of r → Going v l (count + 1) (at + size)
      goes_on ok {l} {size} l-is size_is =
          rw (l-is, size_is)
          (record {
            before = g.before ++ (r ∷ []);
            fuel = g.fuel - 1;
            inside = fits v at p-is whole g.inside;
            enough = omega (arith, g.enough, size_positive r);
            last_is = rw g.last_is (sym (last_behind 0 g.before r));
            count_is = simp (length-append) (omega (arith, g.count_is));
            passed =
                λ k. let all : count + 1 + k ≡ count + (1 + k) = omega arith in
                let less : 1 + k - 1 ≡ k = omega arith in
                ap (λ (n : ℕ). first n v) all ∙ g.passed (1 + k)
                ∙ ap (λ (l : List Record). g.before ++ l) (next v at p-is whole (1 + k) (omega arith)) ∙ rw less (sym (append_assoc g.before (r ∷ []) _));
            going = turned ∙ rw (ok, drop-drop (size_of r) at v);
          })

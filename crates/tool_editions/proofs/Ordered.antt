-- Records in order, as a relation between a buffer and its records. Assumes nothing.
use mathlib.Core.Path.{◌≡◌, refl, sym, ◌∙◌}
use mathlib.Core.Bool.{Bool, true, false, cond}
use mathlib.Core.List.{List, [], ◌∷◌, ◌++◌, append_assoc, append-nil}
use Prim.Native.Nat.{ℕ, zero, suc, ◌≤◌}
use native.Mathlib.Omega.{arith}
use lib.Dec.{eqb}
use lib.ListN.{length, drop, length-drop}
use lib.Seq.{drop-append-le}
use borrow.Author.Tests.{eqb-true, ne_eqb}
use Rattle.tool_editions.specs.Records.{size_of, parsed, first}
use Rattle.tool_editions.specs.Rules.{refusal_of}
use Rattle.tool_editions.specs.Contents.{holds, refuses, turn, read_for, read_all}
use Rattle.tool_editions.specs.declared.records.Record.{Record}
use Rattle.tool_editions.specs.declared.records.Unreadable.{Unreadable}
use Rattle.tool_editions.specs.declared.records.Unreadable.TheVariants.{Unknown, Cut}
use Rattle.tool_editions.specs.declared.refusals.Refusal.{Refusal}
use Rattle.tool_editions.specs.declared.refusals.Refusal.TheVariants.{BadRecord}
use Rattle.std.specs.Prelude.{Result, Ok, Err}
use Rattle.tool_editions.proofs.Shapes.{shaped, parsed_of, size_within, size_positive, extended}
use Rattle.tool_editions.proofs.Accepting.{read_none}

-- Behind the records rs, those of v make them ts.
pub data Reads : List Record → List ℕ → List Record → Type 0 where
  none : {rs : List Record} {v : List ℕ} {ts : List Record} → v ≡ [] → rs ≡ ts → Reads rs v ts
  more : {rs : List Record} {v : List ℕ} {ts : List Record} (r : Record) → parsed v ≡ Ok r → refusal_of rs true r ≡ 0
      → Reads (rs ++ (r ∷ [])) (drop (size_of r) v) ts → Reads rs v ts

holds_same : {rs ts : List Record} → holds rs ≡ holds ts → rs ≡ ts
holds_same e = cc

never : {why : Refusal} {ts : List Record} → refuses why ≡ holds ts → ⊥
never e = let z : ◌≡◌ {A = ℕ} 0 1 = cc in omega arith

empty : (v : List ℕ) → length v ≡ 0 → v ≡ []
empty [] h = refl
empty (x ∷ v) h = absurd (omega arith)

-- ---- from the reading to the relation

module _ (k : ℕ) (on : (rs : List Record) (v : List ℕ) (ts : List Record) → length v ≤ k → read_for k rs v ≡ holds ts → Reads rs v ts)
    (rs : List Record) (v : List ℕ) (ts : List Record) (enough : length v ≤ suc k) where
  by_refusal : (r : Record) → parsed v ≡ Ok r → (t : Bool) → eqb (refusal_of rs true r) 0 ≡ t
      → cond t (read_for k (rs ++ (r ∷ [])) (drop (size_of r) v)) (refuses BadRecord) ≡ holds ts → Reads rs v ts
  by_refusal r is true ok e =
      let shorter : length (drop (size_of r) v) ≤ k = simp length-drop (omega (arith, size_positive r)) in
      more r is (eqb-true _ _ ok) (on (rs ++ (r ∷ [])) (drop (size_of r) v) ts shorter e)
  by_refusal r is false ok e = absurd (never e)

  by_parsed : (p : Result Record Unreadable) → parsed v ≡ p → turn (read_for k) rs v p ≡ holds ts → Reads rs v ts
  by_parsed (Ok r) is e = by_refusal r is (eqb (refusal_of rs true r) 0) refl e
  by_parsed (Err Unknown) is e = absurd (never e)
  by_parsed (Err Cut) is e = absurd (never e)

  by_length : (t : Bool) → eqb (length v) 0 ≡ t → cond t (holds rs) (turn (read_for k) rs v (parsed v)) ≡ holds ts → Reads rs v ts
  by_length true is e = none (empty v (eqb-true _ _ is)) (holds_same e)
  by_length false is e = by_parsed (parsed v) refl e

reads_for : (k : ℕ) (rs : List Record) (v : List ℕ) (ts : List Record) → length v ≤ k → read_for k rs v ≡ holds ts → Reads rs v ts
unfolding read_for
reads_for zero rs v ts enough e = none (empty v (omega arith)) (holds_same e)
reads_for (suc k) rs v ts enough e = by_length k (reads_for k) rs v ts enough (eqb (length v) 0) refl e

pub reads_of : (v : List ℕ) {ts : List Record} → read_all v ≡ holds ts → Reads [] v ts
reads_of v {ts} e = reads_for (length v) [] v ts (omega arith) e

-- ---- and back

pub read_back : {rs : List Record} {v : List ℕ} {ts : List Record} → Reads rs v ts → (k : ℕ) → length v ≤ k → read_for k rs v ≡ holds ts
unfolding read_for
read_back {rs} {v} {ts} (none is same) k enough = rw (is, same) (read_none k ts)
read_back {rs} {v} {ts} (more r is ok after) zero enough = absurd (omega (arith, size_positive r, size_within v (shaped v is)))
read_back {rs} {v} {ts} (more r is ok after) (suc k) enough =
    let some : length v ≡ 0 → ⊥ = λ z. omega (arith, size_positive r, size_within v (shaped v is)) in
    let shorter : length (drop (size_of r) v) ≤ k = simp length-drop (omega (arith, size_positive r)) in
    rw (ne_eqb (length v) 0 some, is, ok) (read_back after k shorter)

-- ---- the records are the first ones

pub record Firsts (rs : List Record) (v : List ℕ) (ts : List Record) : Type 0 where
  pub own : List Record
  pub behind : ts ≡ rs ++ own
  pub are : first (length own) v ≡ own

firsts : {rs : List Record} {v : List ℕ} {ts : List Record} → Reads rs v ts → Firsts rs v ts
unfolding first
firsts {rs} {v} {ts} (none is same) = record { own = []; behind = sym same ∙ sym (append-nil rs); are = refl }
firsts {rs} {v} {ts} (more r is ok after) =
    let f = firsts after in
    record {
      own = r ∷ f.own;
      behind = f.behind ∙ append_assoc rs (r ∷ []) f.own;
      are = rw (is, f.are);
    }

pub first_of : (v : List ℕ) {ts : List Record} → read_all v ≡ holds ts → first (length ts) v ≡ ts
first_of v {ts} e = let f = firsts (reads_of v e) in rw f.behind f.are

-- ---- one part and then the next

pub reads_on : {rs : List Record} {v : List ℕ} {ts : List Record} (w : List ℕ) {us : List Record} → Reads rs v ts → Reads ts w us → Reads rs (v ++ w) us
reads_on {rs} {v} {ts} w {us} (none is same) next = rw (is, same) next
reads_on {rs} {v} {ts} w {us} (more r is ok after) next =
    let shape = shaped v is in
    more {ts = us} r (parsed_of (v ++ w) (extended v w shape)) ok
    (rw (drop-append-le (size_of r) v w (size_within v shape)) (reads_on w after next))

-- A call and what it leaves, by what the buffer comes to. Assumes nothing.
use mathlib.Core.Path.{◌≡◌, refl, ap}
use mathlib.Core.Bool.{Bool, true, false, cond}
use mathlib.Core.List.{List, [], ◌∷◌, ◌++◌}
use Prim.Native.Nat.{ℕ, zero, suc, ◌+◌, ◌≤◌}
use native.Mathlib.Omega.{arith}
use lib.Dec.{eqb, ltb, leb}
use lib.ListN.{length, take, drop}
use borrow.Author.Tests.{eqb-true, eqb-false, leb-true}
use Rattle.tool_editions.specs.Records.{size_of, parsed}
use Rattle.tool_editions.specs.Refusals.{number}
use Rattle.tool_editions.specs.Rules.{last_from, refusal_of}
use Rattle.tool_editions.specs.Contents.{Reading, holds, refuses, turn, read_for, read_all, past_end, contents}
use Rattle.tool_editions.specs.Editions.{Outcome, refused, put, decided, changed_by, changed}
use Rattle.tool_editions.specs.Laws.{Kept, answer, RefusalChangesNothing}
use Rattle.tool_editions.specs.declared.records.Record.{Record}
use Rattle.tool_editions.specs.declared.records.Unreadable.{Unreadable}
use Rattle.tool_editions.specs.declared.records.Unreadable.TheVariants.{Unknown, Cut}
use Rattle.tool_editions.specs.declared.refusals.Refusal.TheVariants.{BadRecord}
use Rattle.std.specs.Prelude.{Result, Ok, Err}
use Rattle.tool_editions.proofs.Ways.{by_record}

-- ---- a buffer that is refused is refused 5 or 6

abbrev pub Broken : Reading → Type 0
Broken (holds rs) = Unit {0}
Broken (refuses why) = (5 ≤ number why) × (number why ≤ 6)

module _ (k : ℕ) (on : (rs : List Record) (v : List ℕ) → Broken (read_for k rs v)) (rs : List Record) (v : List ℕ) where
  broken_refusal : (r : Record) (t : Bool) → Broken (cond t (read_for k (rs ++ (r ∷ [])) (drop (size_of r) v)) (refuses BadRecord))
  broken_refusal r true = on (rs ++ (r ∷ [])) (drop (size_of r) v)
  broken_refusal r false = (omega arith, omega arith)

  broken_parsed : (p : Result Record Unreadable) → Broken (turn (read_for k) rs v p)
  broken_parsed (Ok r) = broken_refusal r (eqb (refusal_of rs true r) 0)
  broken_parsed (Err Unknown) = (omega arith, omega arith)
  broken_parsed (Err Cut) = (omega arith, omega arith)

  broken_length : (t : Bool) → Broken (cond t (holds rs) (turn (read_for k) rs v (parsed v)))
  broken_length true = tt
  broken_length false = broken_parsed (parsed v)

broken_for : (k : ℕ) (rs : List Record) (v : List ℕ) → Broken (read_for k rs v)
unfolding read_for
broken_for zero rs v = tt
broken_for (suc k) rs v = broken_length k (broken_for k) rs v (eqb (length v) 0)

broken_past : (c : Reading) → Broken c → Broken (refuses (past_end c))
broken_past (holds rs) b = (omega arith, omega arith)
broken_past (refuses why) b = b

broken_contents : (b : List ℕ) (used : ℕ) (t : Bool) → Broken (cond t (refuses (past_end (read_all b))) (read_all (take used b)))
broken_contents b used true = broken_past (read_all b) (broken_for (length b) [] b)
broken_contents b used false = broken_for (length (take used b)) [] (take used b)

pub broken : (b : List ℕ) (used : ℕ) → Broken (contents b used)
unfolding contents
broken b used = broken_contents b used (ltb (length b) used)

-- ---- a refusal changes nothing

same_kept : (b : List ℕ) (used : ℕ) (o : Outcome) → o.buffer ≡ b → o.used ≡ used
    → ◌≡◌ {A = Kept} (record { buffer = o.buffer; used = o.used }) (record { buffer = b; used = used })
same_kept b used o e f = rw (e, f)

decided_not : (b : List ℕ) (used : ℕ) (r : Record) (why : ℕ) (t : Bool) → eqb why 0 ≡ t → ((decided b used r why).refusal ≡ 0 → ⊥)
    → decided b used r why ≡ refused b used why
decided_not b used r why true is ne = absurd (ne (rw is))
decided_not b used r why false is ne = rw is

changed_not : (b : List ℕ) (used : ℕ) (r : Record) (c : Reading) → ((changed_by b used r c).refusal ≡ 0 → ⊥)
    → ((changed_by b used r c).buffer ≡ b) × ((changed_by b used r c).used ≡ used)
changed_not b used r (holds rs) ne =
    let why = refusal_of rs (leb (used + size_of r) (length b)) r in
    let same = decided_not b used r why (eqb why 0) refl ne in
    (ap (λ (o : Outcome). o.buffer) same, ap (λ (o : Outcome). o.used) same)
changed_not b used r (refuses why) ne = (refl, refl)

pub refusal_changes_nothing : RefusalChangesNothing
unfolding changed
refusal_changes_nothing k r ne =
    let same = changed_not k.buffer k.used r (contents k.buffer k.used) ne in
    same_kept k.buffer k.used (changed k.buffer k.used r) same.0 same.1

-- ---- a record that is let

true_not_false : false ≡ true → ⊥
true_not_false e = let z : ◌≡◌ {A = ℕ} 0 1 = cc in omega arith

-- The records that the buffer holds, the room for this one, and that it is put.
pub record Let (k : Kept) (r : Record) : Type 0 where
  pub records : List Record
  pub held : contents k.buffer k.used ≡ holds records
  pub right : refusal_of records true r ≡ 0
  pub room : k.used + size_of r ≤ length k.buffer
  pub is : changed k.buffer k.used r ≡ put k.buffer k.used r

module _ (k : Kept) (r : Record) where
  let_record : (rs : List Record) → contents k.buffer k.used ≡ holds rs → (fits : Bool) → leb (k.used + size_of r) (length k.buffer) ≡ fits
      → (t : Bool) → eqb (refusal_of rs fits r) 0 ≡ t → (decided k.buffer k.used r (refusal_of rs fits r)).refusal ≡ 0 → Let k r
  unfolding changed
  let_record rs held true fits true is ok =
      record { records = rs; held = held; right = eqb-true _ _ is; room = leb-true _ _ fits; is = rw (held, fits, is) }
  let_record rs held false fits true is ok =
      let no : false ≡ true = by_record (last_from 0 rs) (length rs) rs false r (eqb-true _ _ is) in
      absurd (true_not_false no)
  let_record rs held fit fits false is ok = absurd (eqb-false _ _ is (rw is at ok))

  let_by : (c : Reading) → contents k.buffer k.used ≡ c → Broken c → (changed_by k.buffer k.used r c).refusal ≡ 0 → Let k r
  let_by (holds rs) held b ok = let_record rs held (leb (k.used + size_of r) (length k.buffer)) refl (eqb (refusal_of rs (leb (k.used + size_of r) (length k.buffer)) r) 0) refl ok
  let_by (refuses why) held b ok = absurd (omega (arith, b.0, ok))

  pub let_of : answer k r ≡ 0 → Let k r
  unfolding changed
  let_of ok = let_by (contents k.buffer k.used) refl (broken k.buffer k.used) ok

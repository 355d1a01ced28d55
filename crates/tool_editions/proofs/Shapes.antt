-- A record that was parsed, by the bytes that it was parsed from. Assumes nothing.
use mathlib.Core.Path.{◌≡◌, refl, ◌∙◌}
use mathlib.Core.Bool.{Bool, true, false, cond}
use mathlib.Core.List.{List, ◌++◌}
use Prim.Native.Nat.{ℕ, ◌<◌, ◌≤◌}
use native.Mathlib.Omega.{arith}
use lib.Dec.{eqb, ltb}
use lib.ListN.{length, get_or, length-append, get_or-append}
use borrow.Author.Tests.{eqb-true, ltb-false, ne_eqb, le-ltb}
use Rattle.tool_editions.specs.Records.{size_of, word_at, edition_at, parsed}
use Rattle.tool_editions.specs.declared.records.Record.{Record}
use Rattle.tool_editions.specs.declared.records.Record.TheVariants.{Added, Withdrawn}
use Rattle.tool_editions.specs.declared.records.Unreadable.{Unreadable}
use Rattle.tool_editions.specs.declared.records.Unreadable.TheVariants.{Unknown, Cut}
use Rattle.std.specs.Prelude.{Result, Ok, Err}

-- The record at the start of t: its kind and its bytes are there.
pub data Shape (t : List ℕ) (r : Record) : Type 0 where
  added : r ≡ Added (edition_at t) → get_or t 0 0 ≡ 0x21 → 11 ≤ length t → Shape t r
  withdrawn : r ≡ Withdrawn (word_at t 1) → get_or t 0 0 ≡ 0x22 → 3 ≤ length t → Shape t r

cut_never : {r : Record} → ◌≡◌ {A = Result Record Unreadable} (Err Cut) (Ok r) → ⊥
cut_never e = let z : ◌≡◌ {A = ℕ} 0 1 = cc in omega arith

unknown_never : {r : Record} → ◌≡◌ {A = Result Record Unreadable} (Err Unknown) (Ok r) → ⊥
unknown_never e = let z : ◌≡◌ {A = ℕ} 0 1 = cc in omega arith

same_record : {r s : Record} → ◌≡◌ {A = Result Record Unreadable} (Ok s) (Ok r) → r ≡ s
same_record e = cc

by_tests : (t : List ℕ) (r : Record) (none isAdded short isWithdrawn shorter : Bool)
    → eqb (get_or t 0 0) 0x21 ≡ isAdded → ltb (length t) 11 ≡ short → eqb (get_or t 0 0) 0x22 ≡ isWithdrawn → ltb (length t) 3 ≡ shorter
    → cond none (Err Cut) (cond isAdded (cond short (Err Cut) (Ok (Added (edition_at t)))) (cond isWithdrawn (cond shorter (Err Cut) (Ok (Withdrawn (word_at t 1)))) (Err Unknown))) ≡ Ok r
    → Shape t r
by_tests t r true a s w u ea es ew eu e = absurd (cut_never e)
by_tests t r false true true w u ea es ew eu e = absurd (cut_never e)
by_tests t r false true false w u ea es ew eu e = added (same_record e) (eqb-true _ _ ea) (ltb-false _ _ es)
by_tests t r false false s true true ea es ew eu e = absurd (cut_never e)
by_tests t r false false s true false ea es ew eu e = withdrawn (same_record e) (eqb-true _ _ ew) (ltb-false _ _ eu)
by_tests t r false false s false u ea es ew eu e = absurd (unknown_never e)

pub shaped : (t : List ℕ) {r : Record} → parsed t ≡ Ok r → Shape t r
unfolding parsed
shaped t {r} e =
    by_tests t r (eqb (length t) 0) (eqb (get_or t 0 0) 0x21) (ltb (length t) 11) (eqb (get_or t 0 0) 0x22) (ltb (length t) 3) refl refl refl refl e

pub parsed_of : (t : List ℕ) {r : Record} → Shape t r → parsed t ≡ Ok r
unfolding parsed
parsed_of t (added is kind long) =
    rw (is, ne_eqb (length t) 0 (λ z. omega arith), kind, le-ltb (length t) 11 long)
parsed_of t (withdrawn is kind long) =
    rw (is, ne_eqb (length t) 0 (λ z. omega arith), kind, le-ltb (length t) 3 long)

pub size_within : (t : List ℕ) {r : Record} → Shape t r → size_of r ≤ length t
size_within t (added is kind long) = rw is long
size_within t (withdrawn is kind long) = rw is long

pub size_positive : (r : Record) → 0 < size_of r
size_positive (Added e) = omega arith
size_positive (Withdrawn n) = omega arith

-- What follows changes nothing.
module _ (t y : List ℕ) where
  at : (i : ℕ) → i < length t → get_or (t ++ y) i 0 ≡ get_or t i 0
  at i h = get_or-append t y 0 i h

  pub extended : {r : Record} → Shape t r → Shape (t ++ y) r
  extended (added is kind long) =
      added
      (is ∙ rw (at 1 (omega arith), at 2 (omega arith), at 3 (omega arith), at 4 (omega arith), at 5 (omega arith), at 6 (omega arith), at 7 (omega arith), at 8 (omega arith), at 9 (omega arith), at 10 (omega arith)))
      (rw (at 0 (omega arith)) kind)
      (simp length-append (omega arith))
  extended (withdrawn is kind long) =
      withdrawn (is ∙ rw (at 1 (omega arith), at 2 (omega arith))) (rw (at 0 (omega arith)) kind) (simp length-append (omega arith))

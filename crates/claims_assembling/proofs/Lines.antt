-- The number in front of a record is passed over. Assumes nothing.
use mathlib.Core.Path.{◌≡◌, refl, ap, ◌∙◌}
use mathlib.Core.Bool.{true}
use mathlib.Core.List.{List, [], ◌∷◌, ◌++◌, append_assoc}
use Prim.Native.Nat.{ℕ, suc, ◌+◌, ◌<◌, ◌≤◌}
use native.Mathlib.Omega.{arith}
use lib.Dec.{eqb}
use lib.ListN.{length, drop, get_or}
use Rattle.trace.specs.Trace.{long_hold_kind}
use Rattle.text.specs.Record.{long, event}
use Rattle.claims_assembling.specs.Laws.{printed}
use lib.Seq.{drop-append-add}
use borrow.Author.Tests.{lt-ltb}
use Rattle.std.specs.Prelude.{Result, Ok, Err, is_err}
use Rattle.text.specs.Digits.{decimal, number}
use Rattle.qsm.specs.declared.event.Event.{Event}
use Rattle.tool_assemble.specs.Scan.{blanks_from}
use Rattle.tool_assemble.specs.Item.{better, fronted_from, entries, body_item, said, unblanked, item}
use Rattle.tool_assemble.specs.declared.item.Item.{Item}
use Rattle.tool_assemble.specs.declared.item.Item.TheVariants.{Record}
use Rattle.tool_assemble.specs.declared.item.Wrong.{Wrong}
use Rattle.claims_assembling.proofs.Digits.{decimal_first, decimal_some, front_read}
use Rattle.claims_assembling.proofs.Steps.{solid, not_closed}

module _ (n : ℕ) (body : List ℕ) (begun : 33 ≤ get_or body 0 0) where
  abbrev text : List ℕ
  text = decimal 20 n ++ (58 ∷ 32 ∷ body)

  first : 48 ≤ get_or text 0 0
  first = (decimal_first 20 n (58 ∷ 32 ∷ body) (omega arith)).0

  front : fronted_from 0 text ≡ length (decimal 20 n) + 1
  unfolding fronted_from
  front =
      let there : 0 < length (decimal 20 n) = decimal_some 19 n in
      let last : suc (0 + length (decimal 20 n)) ≡ length (decimal 20 n) + 1 = omega arith in
      rw (front_read 20 n 0 (58 ∷ 32 ∷ body), lt-ltb 0 (0 + length (decimal 20 n)) (omega arith)) last

  behind : drop (length (decimal 20 n) + 1) text ≡ 32 ∷ body
  behind = drop-append-add (decimal 20 n) (58 ∷ 32 ∷ body) 1

  whole : item text ≡ unblanked text
  unfolding item
  whole = let some : 33 ≤ get_or text 0 0 = omega (arith, first) in rw (solid 0 text some)

  passed : unblanked text ≡ said (body_item (32 ∷ body))
  unfolding unblanked
  passed = let some : 33 ≤ get_or text 0 0 = omega (arith, first) in rw (solid 0 text some, not_closed 0 text first, front, behind)

  entered : body_item (32 ∷ body) ≡ entries body
  unfolding body_item blanks_from
  entered = rw (solid 1 body begun)

  pub numbered : item (number n ++ body) ≡ said (entries body)
  numbered = rw (append_assoc (decimal 20 n) (58 ∷ 32 ∷ []) body) (whole ∙ passed ∙ ap said entered)

pub printed_is : (n kind : ℕ) (e : Event) → printed n kind e ≡ number n ++ (long (eqb kind long_hold_kind) ++ event e)
printed_is n kind e = append_assoc (number n) (long (eqb kind long_hold_kind)) (event e)

-- ---- the first that is not wrong

pub past : (x : Result Item Wrong) (k : ℕ) (e : Event) → is_err x ≡ true → better x (Ok (Record k e)) ≡ Ok (Record k e)
past (Ok y) k e h = let z : ◌≡◌ {A = ℕ} 0 1 = cc in absurd (omega arith)
past (Err w) k e h = refl

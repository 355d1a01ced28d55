-- A buffer made by calls alone is never refused for itself. Assumes nothing.
use mathlib.Core.Path.{◌≡◌, refl, sym, subst}
use mathlib.Core.Bool.{Bool, true, false, cond, not, ◌&&◌, ◌||◌}
use mathlib.Core.List.{List, [], ◌∷◌}
use Prim.Native.Nat.{ℕ, ◌+◌}
use native.Mathlib.Omega.{arith}
use lib.Dec.{eqb, ltb, leb}
use lib.ListN.{length}
use borrow.Author.Tests.{le-ltb}
use Rattle.tool_editions.specs.Records.{number_of, size_of}
use Rattle.tool_editions.specs.Rules.{given, missing, later, latest_from, withdrawn, latest, last_from, unmodelled, ranked, refusal_of}
use Rattle.tool_editions.specs.Contents.{Reading, holds, read_for, contents}
use Rattle.tool_editions.specs.Editions.{decided, changed_by, changed, asked}
use Rattle.tool_editions.specs.Laws.{Kept, after_all, Fits, fresh, InOrder, MadeInOrder}
use Rattle.tool_editions.specs.declared.Given.{Given}
use Rattle.tool_editions.specs.declared.records.Edition.{Edition}
use Rattle.tool_editions.specs.declared.records.Record.{Record}
use Rattle.tool_editions.specs.declared.records.Record.TheVariants.{Added, Withdrawn}
use Rattle.tool_editions.proofs.Inductions.{through}

-- A refusal that is not the buffer's.
abbrev Own : ℕ → Type 0
Own why = (why ≡ 5 → ⊥) × (why ≡ 6 → ⊥)

own_ranked : (three eight room : Bool) → Own (ranked three eight room)
own_ranked true eight room = (λ z. omega (arith, z), λ z. omega (arith, z))
own_ranked false true room = (λ z. omega (arith, z), λ z. omega (arith, z))
own_ranked false false true = (λ z. omega (arith, z), λ z. omega (arith, z))
own_ranked false false false = (λ z. omega (arith, z), λ z. omega (arith, z))

own_refusal : (rs : List Record) (fits : Bool) (r : Record) → Own (refusal_of rs fits r)
own_refusal rs fits (Added e) = own_ranked (unmodelled e) (leb e.number (last_from 0 rs)) (fits && ltb (length rs) 64)
own_refusal rs fits (Withdrawn n) = own_ranked false (not (eqb (latest false n rs).refusal 0)) (fits && ltb (length rs) 64)

own_decided : (b : List ℕ) (used : ℕ) (r : Record) (why : ℕ) (t : Bool) → eqb why 0 ≡ t → Own why → Own (decided b used r why).refusal
own_decided b used r why true is o = rw is (λ z. omega (arith, z), λ z. omega (arith, z))
own_decided b used r why false is o = rw is o

own_found : (g : Given) (asked : Bool) (e : Edition) → Own g.refusal → Own (cond asked (given e) g).refusal
own_found g true e o = (λ z. omega (arith, z), λ z. omega (arith, z))
own_found g false e o = o

own_later : (g : Given) (any : Bool) (n : ℕ) (r : Record) (gone : Bool) → Own g.refusal → Own (later g any n r gone).refusal
own_later g any n (Added e) true o = o
own_later g any n (Added e) false o = own_found g (any || eqb e.number n) e o
own_later g any n (Withdrawn m) gone o = o

own_latest : (g : Given) (any : Bool) (n : ℕ) (rs : List Record) → Own g.refusal → Own (latest_from g any n rs).refusal
unfolding latest_from
own_latest g any n [] o = o
own_latest g any n (r ∷ rs) o =
    own_latest (later g any n r (withdrawn (number_of r) rs)) any n rs (own_later g any n r (withdrawn (number_of r) rs) o)

none_there : Own (missing 8).refusal
none_there = (λ z. omega (arith, z), λ z. omega (arith, z))

in_order : (k : Kept) {rs : List Record} → contents k.buffer k.used ≡ holds rs → InOrder k
unfolding changed asked
in_order k {rs} held =
    record {
      changes = λ r.
          let why = refusal_of rs (leb (k.used + size_of r) (length k.buffer)) r in
          subst (λ (c : Reading). Own (changed_by k.buffer k.used r c).refusal) (sym held)
          (own_decided k.buffer k.used r why (eqb why 0) refl (own_refusal rs (leb (k.used + size_of r) (length k.buffer)) r));
      gets = λ n. rw held (own_latest (missing 8) false n rs none_there);
      newests = rw held (own_latest (missing 8) true 0 rs none_there);
    }

-- Nothing used holds no record.
fresh_holds : (b : List ℕ) → contents b 0 ≡ holds []
unfolding contents read_for
fresh_holds b = rw (le-ltb (length b) 0 (omega arith))

pub made_in_order : MadeInOrder
made_in_order b rs fits =
    let h = through (λ ts. Unit {0}) Fits (λ ts r p q ok. tt) (fresh b) rs fits fits (record { records = []; held = fresh_holds b; have = tt }) in
    in_order (after_all (fresh b) rs) h.held

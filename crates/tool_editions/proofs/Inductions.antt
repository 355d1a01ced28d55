-- What holds of the records of a buffer through any number of calls. Assumes nothing.
use mathlib.Core.Path.{◌≡◌, refl, sym, subst}
use mathlib.Core.Bool.{Bool, true, false}
use mathlib.Core.List.{List, [], ◌∷◌, ◌++◌}
use lib.Dec.{eqb}
use borrow.Author.Tests.{eqb-true, eqb-false}
use Rattle.tool_editions.specs.Rules.{refusal_of}
use Rattle.tool_editions.specs.Contents.{Reading, holds, contents}
use Rattle.tool_editions.specs.Laws.{Kept, answer, after, after_all, Fits, Each}
use Rattle.tool_editions.specs.declared.records.Record.{Record}
use Rattle.tool_editions.proofs.Calls.{let_of, refusal_changes_nothing}
use Rattle.tool_editions.proofs.Putting.{after_is}

-- The buffer's records are in order, and P holds of them.
pub record Holding (P : List Record → Type 0) (k : Kept) : Type 0 where
  pub records : List Record
  pub held : contents k.buffer k.used ≡ holds records
  pub have : P records

pub same_records : {c : Reading} {rs ts : List Record} → c ≡ holds rs → c ≡ holds ts → rs ≡ ts
same_records e f = cc

module _ (P : List Record → Type 0) (Q : Record → Type 0)
    (step : (rs : List Record) (r : Record) → P rs → Q r → refusal_of rs true r ≡ 0 → P (rs ++ (r ∷ []))) where
  pub after_let : (k : Kept) (r : Record) → Fits r → Q r → Holding P k → answer k r ≡ 0 → Holding P (after k r)
  after_let k r fits q h ok =
      let l = let_of k r ok in
      let same : l.records ≡ h.records = same_records l.held h.held in
      record {
        records = l.records ++ (r ∷ []);
        held = after_is k r fits l;
        have = step l.records r (subst P (sym same) h.have) q l.right;
      }

  by_answer : (k : Kept) (r : Record) → Fits r → Q r → Holding P k → (t : Bool) → eqb (answer k r) 0 ≡ t → Holding P (after k r)
  by_answer k r fits q h true is = after_let k r fits q h (eqb-true _ _ is)
  by_answer k r fits q h false is = subst (Holding P) (sym (refusal_changes_nothing k r (eqb-false _ _ is))) h

  pub through : (k : Kept) (rs : List Record) → Each Fits rs → Each Q rs → Holding P k → Holding P (after_all k rs)
  through k [] fits qs h = h
  through k (r ∷ rs) fits qs h = through (after k r) rs fits.1 qs.1 (by_answer k r fits.0 qs.0 h (eqb (answer k r) 0) refl)

-- A buffer after any calls: its records are those that were answered 0, and its bytes theirs. Assumes nothing.
use mathlib.Core.Path.{◌≡◌, refl, sym, ap, subst, ◌∙◌}
use mathlib.Core.Bool.{Bool, true, false, cond}
use mathlib.Core.List.{List, [], ◌∷◌, ◌++◌, append_assoc, append-nil}
use Prim.Native.Nat.{ℕ, ◌/◌, ◌%◌, ◌<◌}
use native.Mathlib.Omega.{arith}
use lib.Dec.{eqb}
use lib.ListN.{length, take, length-append}
use borrow.Author.Tests.{eqb-true, eqb-false, le-ltb}
use Rattle.tool_editions.specs.Records.{size_of, bytes_of}
use Rattle.tool_editions.specs.Contents.{holds, read_for, contents}
use Rattle.tool_editions.specs.Laws.{Kept, answer, after, after_all, fresh, Fits, Each}
use Rattle.tool_editions.specs.declared.records.Record.{Record}
use Rattle.tool_editions.specs.declared.records.Record.TheVariants.{Added, Withdrawn}
use Rattle.tool_editions.proofs.Calls.{Let, let_of, refusal_changes_nothing}
use Rattle.tool_editions.proofs.Putting.{after_is, put_front}
use Rattle.tool_editions.proofs.Inductions.{same_records}
use Rattle.claims_editions.specs.History.{taken, layout, laid}
use Rattle.claims_editions.proofs.Facts.{Facts, nothing_yet, facts_behind}

pub record Running (ps : List Record) (k : Kept) : Type 0 where
  pub held : contents k.buffer k.used ≡ holds ps
  pub facts : Facts ps
  pub used : k.used ≡ length (laid ps)
  pub bytes : take k.used k.buffer ≡ laid ps

-- ---- bytes

upper : (n : ℕ) → n < 65536 → n / 256 % 256 ≡ n / 256
upper n h = omega arith

pub bytes_are : (r : Record) → Fits r → bytes_of r ≡ layout r
bytes_are (Added e) w = rw (upper e.number w.number, upper e.sccr0 w.sccr0, upper e.sccr1 w.sccr1, upper e.spcr0 w.spcr0, upper e.spcr1 w.spcr1)
bytes_are (Withdrawn n) w = rw (upper n w)

pub layout_length : (r : Record) → length (layout r) ≡ size_of r
layout_length (Added e) = refl
layout_length (Withdrawn n) = refl

laid_behind : (ps : List Record) (r : Record) → laid (ps ++ (r ∷ [])) ≡ laid ps ++ layout r
laid_behind [] r = append-nil (layout r)
laid_behind (p ∷ ps) r = ap (λ (l : List ℕ). layout p ++ l) (laid_behind ps r) ∙ sym (append_assoc (layout p) (laid ps) (layout r))

-- ---- a call

module _ (ps : List Record) (k : Kept) (r : Record) (fits : Fits r) (g : Running ps k) where
  let_on : Let k r → Running (ps ++ (r ∷ [])) (after k r)
  let_on l =
      let same : l.records ≡ ps = same_records l.held g.held in
      record {
        held = after_is k r fits l ∙ ap (λ (x : List Record). holds (x ++ (r ∷ []))) same;
        facts = facts_behind ps r g.facts (rw same at l.right);
        used = rw (l.is, laid_behind ps r) (simp (length-append, layout_length r, ← g.used));
        bytes =
            rw (l.is, laid_behind ps r)
            (put_front k.buffer k.used r l.room ∙ rw (g.bytes, bytes_are r fits));
      }

  let_in : answer k r ≡ 0 → Running (ps ++ (r ∷ [])) (after k r)
  let_in ok = let_on (let_of k r ok)

  left_out : (answer k r ≡ 0 → ⊥) → Running ps (after k r)
  left_out ne = subst (Running ps) (sym (refusal_changes_nothing k r ne)) g

-- Behind a call, by its answer.
module _ (ps : List Record) (k : Kept) (r : Record) (rs : List Record) (fits : Fits r) (g : Running ps k)
    (on : (qs : List Record) → Running qs (after k r) → Running (qs ++ taken (after k r) rs) (after_all (after k r) rs)) where
  by_answer : (t : Bool) → eqb (answer k r) 0 ≡ t → Running (ps ++ cond t (r ∷ taken (after k r) rs) (taken (after k r) rs)) (after_all (after k r) rs)
  by_answer true is =
      rw (append_assoc ps (r ∷ []) (taken (after k r) rs)) at (on (ps ++ (r ∷ [])) (let_in ps k r fits g (eqb-true _ _ is)))
  by_answer false is = on ps (left_out ps k r fits g (eqb-false _ _ is))

run : (ps : List Record) (k : Kept) (rs : List Record) → Each Fits rs → Running ps k → Running (ps ++ taken k rs) (after_all k rs)
run ps k [] fits g = rw (append-nil ps) g
run ps k (r ∷ rs) fits g =
    by_answer ps k r rs fits.0 g (λ qs h. run qs (after k r) rs fits.1 h) (eqb (answer k r) 0) refl

starts : (b : List ℕ) → Running [] (fresh b)
unfolding contents read_for
starts b = record { held = rw (le-ltb (length b) 0 (omega arith)); facts = nothing_yet; used = refl; bytes = refl }

pub running : (b : List ℕ) (rs : List Record) → Each Fits rs → Running (taken (fresh b) rs) (after_all (fresh b) rs)
running b rs fits = run [] (fresh b) rs fits (starts b)

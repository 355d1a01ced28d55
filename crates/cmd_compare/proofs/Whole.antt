-- The laws of specs/Whole. Assumes nothing.
use mathlib.Core.Path.{◌≡◌, refl, sym, ap, ◌∙◌}
use mathlib.Core.Bool.{Bool, true, false}
use mathlib.Core.List.{List, [], ◌∷◌, ◌++◌}
use Prim.Native.Nat.{ℕ}
use native.Mathlib.Omega.{arith}
use lib.ListN.{length, take, length-append}
use lib.Seq.{length-take-le}
use borrow.Author.Tests.{eq-eqb, eqb-true}
use Rattle.answers.specs.Answer.{fields_of}
use Rattle.tool_compare.specs.Compare.{Outcome, compared_as}
use Rattle.tool_compare.specs.Laws.{Tells}
use Rattle.tool_compare.proofs.Alike.{both}
use Rattle.tool_compare.proofs.ByKind.{in_pieces, tells_all}
use Rattle.cmd_compare.specs.Whole.{PiecesTally, EqualExactly, Claims}

pieces_tally : PiecesTally
pieces_tally kind n a b c d l m lent t first second h q room few one two =
    let j = in_pieces kind a b c d l m lent n first second h.accepted q room in
    record {
      accepted = j.refusal;
      differing = omega (arith, h.differing, j.count, room, few);
      first = omega (arith, h.first, one, length-append a c);
      second = omega (arith, h.second, two, length-append b d);
      uncut = rw (h.uncut, q);
    }

none : (l : List ℕ) → length l ≡ 0 → l ≡ []
none [] h = refl
none (x ∷ l) h = absurd (omega arith)

-- What follows a beginning that is the whole is nothing.
nothing_over : (x y s : List ℕ) → length x ≡ length y → take (length y) x ++ s ≡ x → s ≡ []
nothing_over x y s same is =
    none s (omega (arith, ap length is, length-append (take (length y) x) s, length-take-le (length y) x (omega arith)))

module _ (a b : List ℕ) (o : Outcome) (fs : List ℕ) (tells : Tells fs a b o) (same : length a ≡ length b) where
  by_side : (second : Bool) → o.second ≡ second → o.surplus ≡ []
  by_side true is =
      nothing_over b a o.surplus (sym same) (rw (tells.common_end_holds, is) at tells.stretch)
  by_side false is =
      nothing_over a b o.surplus same (rw (tells.common_end_holds, is) at tells.stretch)

  no_surplus : o.surplus ≡ []
  no_surplus = by_side o.second refl

equal_exactly : EqualExactly
equal_exactly kind a b lent t h =
    let tells = tells_all kind a b lent h.accepted in
    record {
      only =
          λ e.
          let tests = both _ _ e in
          let lengths = sym h.first ∙ eqb-true _ _ tests.1 ∙ h.second in
          tells.only_equal (sym h.differing ∙ eqb-true _ _ tests.0) (no_surplus a b (compared_as kind a b lent) (fields_of kind) tells lengths);
      always =
          λ is.
          let count : t.differing ≡ 0 = h.differing ∙ (tells.equal is).0 in
          let lengths : t.first ≡ t.second = h.first ∙ ap length is ∙ sym h.second in
          rw (eq-eqb t.differing 0 count, eq-eqb t.first t.second lengths);
    }

pub claims : Claims
claims = record { pieces_tally = pieces_tally; equal_exactly = equal_exactly }

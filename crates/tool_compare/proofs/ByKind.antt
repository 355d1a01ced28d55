-- The laws of comparing logs of a kind, from those of answers with such fields. Assumes nothing.
use mathlib.Core.Path.{◌≡◌, refl, sym, ◌∙◌}
use mathlib.Core.Logic.{◌⊎◌, inl, inr, ⊎_elim}
use mathlib.Core.Bool.{Bool, true, false, cond, ◌||◌, or-false, false≢true}
use mathlib.Core.List.{List, [], ◌++◌}
use Prim.Native.Nat.{ℕ, ◌*◌, ◌/◌}
use native.Mathlib.Nat.{div-add-mod', mul-mod_left}
use native.Mathlib.Omega.{arith}
use lib.Dec.{ltb}
use lib.ListN.{length}
use Rattle.answers.specs.Answer.{fields_of, stride, stride_of}
use Rattle.tool_compare.specs.Kind.{mixed}
use Rattle.tool_compare.specs.Compare.{cut, refused, reported, compared, compared_as}
use Rattle.tool_compare.specs.Laws.{Leaves, TellsAll, LeavesTheRest}
use Rattle.tool_compare.specs.Pieces.{InPieces, OtherPiece, CutPiece, MoreOfOne, MoreOfCut}
use Rattle.tool_compare.proofs.Accepted.{others, accepted, neither}
use Rattle.tool_compare.proofs.Ways.{other_kind_holds, one_kind}
use Rattle.tool_compare.proofs.Beginning.{stride_positive}
use Rattle.tool_compare.proofs.OfKind.{unmixed_nothing, mixed_more}
use Rattle.tool_compare.proofs.Told.{tells_by_fields}
use Rattle.tool_compare.proofs.Rest.{of_refused, leaves_by_fields}
use Rattle.tool_compare.proofs.Joining.{joins_by_fields, cut_tells, cut_by_fields, longer_by_fields}

-- By fields alone there is no refusal 5.
no_five : (fs a b lent : List ℕ) → (compared fs a b lent).refusal ≡ 5 → ⊥
unfolding compared
no_five fs a b lent e = by_tests (cut (stride fs) a || cut (stride fs) b) (ltb (length lent) (2 * length (others fs a b))) e
  where
    by_tests : (bad short : Bool)
        → (cond bad (refused a b lent 6) (cond short (refused a b lent 7) (reported fs a b lent (others fs a b)))).refusal ≡ 5 → ⊥
    by_tests true short e = omega arith
    by_tests false true e = omega arith
    by_tests false false e = omega arith

module _ (kind : ℕ) (a b lent : List ℕ) where
  by_five : (t : Bool) → mixed kind a || mixed kind b ≡ t → (compared_as kind a b lent).refusal ≡ 5 → mixed kind a || mixed kind b ≡ true
  by_five true e f = e
  by_five false e f = absurd (no_five (fields_of kind) a b lent (rw (one_kind kind a b lent e) at f))

  pub five_is : (compared_as kind a b lent).refusal ≡ 5 → mixed kind a || mixed kind b ≡ true
  five_is f = by_five (mixed kind a || mixed kind b) refl f

  pub is_five : mixed kind a || mixed kind b ≡ true → (compared_as kind a b lent).refusal ≡ 5
  is_five e = rw (other_kind_holds kind a b lent e)

  by_none : (t : Bool) → mixed kind a || mixed kind b ≡ t → ((compared_as kind a b lent).refusal ≡ 5 → ⊥) → mixed kind a || mixed kind b ≡ false
  by_none true e ne = absurd (ne (is_five e))
  by_none false e ne = e

  pub not_five : ((compared_as kind a b lent).refusal ≡ 5 → ⊥) → mixed kind a || mixed kind b ≡ false
  not_five ne = by_none (mixed kind a || mixed kind b) refl ne

  -- Another refusal, or none, is that of the fields.
  module _ {r : ℕ} (z : (compared_as kind a b lent).refusal ≡ r) (other : r ≡ 5 → ⊥) where
    pub unmixed_both : mixed kind a || mixed kind b ≡ false
    unmixed_both = not_five (λ e. other (sym z ∙ e))

    pub is_by_fields : compared_as kind a b lent ≡ compared (fields_of kind) a b lent
    is_by_fields = one_kind kind a b lent unmixed_both

    pub by_fields : (compared (fields_of kind) a b lent).refusal ≡ r
    by_fields = rw is_by_fields at z

pub tells_all : TellsAll
tells_all kind a b lent z =
    rw (is_by_fields kind a b lent z (λ e. omega arith))
    (tells_by_fields (fields_of kind) a b lent (stride_positive kind) (by_fields kind a b lent z (λ e. omega arith)))

leaves_by : (kind : ℕ) (a b lent : List ℕ) (t : Bool) → Leaves lent (cond t (refused a b lent 5) (compared (fields_of kind) a b lent))
leaves_by kind a b lent true = of_refused (fields_of kind) a b lent 5
leaves_by kind a b lent false = leaves_by_fields (fields_of kind) a b lent

pub leaves_the_rest : LeavesTheRest
unfolding compared_as
leaves_the_rest kind a b lent = leaves_by kind a b lent (mixed kind a || mixed kind b)

-- ---- pieces

either_mixed : (x y u v : Bool) → (x || y ≡ true) ⊎ (u || v ≡ true) → (x || u) || (y || v) ≡ true
either_mixed true y u v h = refl
either_mixed false true true v h = refl
either_mixed false true false v h = refl
either_mixed false false true v h = refl
either_mixed false false false true h = refl
either_mixed false false false false (inl h) = absurd (false≢true h)
either_mixed false false false false (inr h) = absurd (false≢true h)

none_mixed : (x y u v : Bool) → x || y ≡ false → u || v ≡ false → (x || u) || (y || v) ≡ false
none_mixed x y u v e f =
    let h = neither x y e in
    let i = neither u v f in
    rw (h.0, h.1, i.0, i.1)

module _ (kind : ℕ) (a b c d : List ℕ) (n : ℕ) (first : length a ≡ n * stride_of kind) (second : length b ≡ n * stride_of kind) where
  whole_mixed : mixed kind (a ++ c) || mixed kind (b ++ d) ≡ (mixed kind a || mixed kind c) || (mixed kind b || mixed kind d)
  whole_mixed = rw (mixed_more kind a c n first, mixed_more kind b d n second)

  none : mixed kind a || mixed kind b ≡ false → mixed kind c || mixed kind d ≡ false → mixed kind (a ++ c) || mixed kind (b ++ d) ≡ false
  none e f = whole_mixed ∙ none_mixed (mixed kind a) (mixed kind b) (mixed kind c) (mixed kind d) e f

pub in_pieces : InPieces
in_pieces kind a b c d l m lent n first second p q room =
    let x = is_by_fields kind a b l p (λ e. omega arith) in
    let y = is_by_fields kind c d m q (λ e. omega arith) in
    let clean = none kind a b c d n first second (unmixed_both kind a b l p (λ e. omega arith)) (unmixed_both kind c d m q (λ e. omega arith)) in
    let r = rw (x, y) at room in
    rw (x, y, one_kind kind (a ++ c) (b ++ d) lent clean)
    (joins_by_fields (fields_of kind) a b c d l m lent n (stride_positive kind) first second (by_fields kind a b l p (λ e. omega arith)) (by_fields kind c d m q (λ e. omega arith)) r)

pub other_piece : OtherPiece
other_piece kind a b c d l m lent n first second h =
    is_five kind (a ++ c) (b ++ d) lent
    (whole_mixed kind a b c d n first second
    ∙ either_mixed (mixed kind a) (mixed kind b) (mixed kind c) (mixed kind d)
    (⊎_elim (λ e. inl (five_is kind a b l e)) (λ e. inr (five_is kind c d m e)) h))

pub cut_piece : CutPiece
cut_piece kind a b c d l m lent n first second ne z =
    let clean = none kind a b c d n first second (not_five kind a b l ne) (unmixed_both kind c d m z (λ e. omega arith)) in
    rw (one_kind kind (a ++ c) (b ++ d) lent clean)
    (cut_by_fields (fields_of kind) a b c d m lent n first second (by_fields kind c d m z (λ e. omega arith)))

-- More of the second log.
module _ (kind : ℕ) (a b c : List ℕ) (n : ℕ) (long : length b ≡ n * stride_of kind) (e : mixed kind a || mixed kind b ≡ false) where
  more_mixed : mixed kind a || mixed kind (b ++ c) ≡ mixed kind [] || mixed kind c
  more_mixed =
      let h = neither (mixed kind a) (mixed kind b) e in
      rw (mixed_more kind b c n long, h.0, h.1, unmixed_nothing kind)

pub more_of_one : MoreOfOne
more_of_one kind a b c m lent shorter z w =
    let x = by_fields kind a b lent z (λ e. omega arith) in
    let y = by_fields kind [] c m w (λ e. omega arith) in
    let long : length b ≡ length b / stride_of kind * stride_of kind =
    omega (arith, div-add-mod' (length b) (stride_of kind), (accepted (fields_of kind) a b lent x).second) in
    let clean = more_mixed kind a b c (length b / stride_of kind) long (unmixed_both kind a b lent z (λ e. omega arith)) ∙ unmixed_both kind [] c m w (λ e. omega arith) in
    rw (is_by_fields kind a b lent z (λ e. omega arith), one_kind kind a (b ++ c) lent clean)
    (longer_by_fields (fields_of kind) a b c lent (stride_positive kind) shorter (accepted (fields_of kind) [] c m y).second x)

-- Of two logs the first is the cut one.
module _ (fs a b c l lent : List ℕ) (n : ℕ) (long : length b ≡ n * stride fs) where
  still_cut : (compared fs a b l).refusal ≡ 6 → (compared fs a (b ++ c) lent).refusal ≡ 6
  unfolding compared
  still_cut z =
      let whole : cut (stride fs) b ≡ false = rw (long, mul-mod_left n (stride fs)) in
      let bad : cut (stride fs) a ≡ true = sym (rw (whole, or-false)) ∙ cut_tells fs a b l z in
      rw bad

pub more_of_cut : MoreOfCut
more_of_cut kind a b c l m lent n long z =
    let mix = more_mixed kind a b c n long (unmixed_both kind a b l z (λ e. omega arith)) in (
      λ ne.
          rw (one_kind kind a (b ++ c) lent (mix ∙ not_five kind [] c m ne))
          (still_cut (fields_of kind) a b c l lent n long (by_fields kind a b l z (λ e. omega arith))),
      λ e. is_five kind a (b ++ c) lent (mix ∙ five_is kind [] c m e),
    )

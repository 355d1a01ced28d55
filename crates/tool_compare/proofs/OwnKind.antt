-- The kind that two logs have by themselves: refusal 5 exactly unless all answers begin with one, and the logs exchanged. Assumes nothing.
use mathlib.Core.Path.{◌≡◌, refl, sym, ◌∙◌}
use mathlib.Core.Logic.{◌⊎◌, inl, inr}
use mathlib.Core.Bool.{Bool, true, false, cond, ◌||◌, or_comm, false≢true}
use mathlib.Core.List.{List}
use Prim.Native.Nat.{ℕ, ◌*◌, ◌<◌}
use native.Mathlib.Nat.{zero-mul, pos_of_ne-zero}
use native.Mathlib.Omega.{arith}
use lib.Dec.{eqb}
use lib.ListN.{length, get_or}
use borrow.Author.Tests.{eq-eqb, eqb-true, eqb-false}
use Rattle.answers.specs.Answer.{plain, clocked, fields_of, stride_of}
use Rattle.tool_compare.specs.Kind.{kind_of, mixed}
use Rattle.tool_compare.specs.Compare.{refused, compared, compared_as}
use Rattle.tool_compare.specs.Laws.{Alike, Exchanged, OneKind, FiveExactly}
use Rattle.tool_compare.proofs.Alike.{both}
use Rattle.tool_compare.proofs.Accepted.{neither}
use Rattle.tool_compare.proofs.OfKind.{Clean, clean, unmixed}
use Rattle.tool_compare.proofs.Ways.{other_kind_holds}
use Rattle.tool_compare.proofs.Rest.{alike_by_fields}
use Rattle.tool_compare.proofs.ByKind.{five_is, not_five}

-- What an answer's test says.
known_is : (kind : ℕ) → (kind ≡ plain) ⊎ (kind ≡ clocked) → eqb kind plain || eqb kind clocked ≡ true
known_is kind (inl e) = rw (eq-eqb kind plain e)
known_is kind (inr e) = rw (e)

is_known : (kind : ℕ) (t : Bool) → eqb kind plain ≡ t → eqb kind plain || eqb kind clocked ≡ true → (kind ≡ plain) ⊎ (kind ≡ clocked)
is_known kind true e h = inl (eqb-true kind plain e)
is_known kind false e h = inr (eqb-true kind clocked (rw e at h))

module _ (kind : ℕ) (log : List ℕ) where
  pub begun_with : Clean kind log → (i : ℕ) → i * stride_of kind < length log → get_or log (i * stride_of kind) 0 ≡ kind
  begun_with c i h =
      eqb-true (get_or log (i * stride_of kind) 0) kind (both (eqb kind plain || eqb kind clocked) (eqb (get_or log (i * stride_of kind) 0) kind) (c i h)).1

  known_by : Clean kind log → 0 < length log → (kind ≡ plain) ⊎ (kind ≡ clocked)
  known_by c h = is_known kind (eqb kind plain) refl (both _ _ (c 0 (rw zero-mul h))).0

  clean_by : (kind ≡ plain) ⊎ (kind ≡ clocked) → ((i : ℕ) → i * stride_of kind < length log → get_or log (i * stride_of kind) 0 ≡ kind) → Clean kind log
  clean_by k f i h = rw (known_is kind k, eq-eqb (get_or log (i * stride_of kind) 0) kind (f i h))

-- The kind of logs, by which of them are empty.
module _ (a b : List ℕ) where
  of_first : eqb (length a) 0 ≡ false → kind_of a b ≡ get_or a 0 0
  of_first e = rw e

  of_second : eqb (length a) 0 ≡ true → eqb (length b) 0 ≡ false → kind_of a b ≡ get_or b 0 0
  of_second e f = rw (e, f)

  of_none : eqb (length a) 0 ≡ true → eqb (length b) 0 ≡ true → kind_of a b ≡ plain
  of_none e f = rw (e, f)

some : (log : List ℕ) → eqb (length log) 0 ≡ false → 0 < length log
some log e = pos_of_ne-zero (eqb-false (length log) 0 e)

none : (kind : ℕ) (log : List ℕ) → eqb (length log) 0 ≡ true → Clean kind log
none kind log e i h = absurd (omega (arith, eqb-true (length log) 0 e))

-- ---- refusal 5

module _ (a b : List ℕ) where
  module _ (o : OneKind a b) where
    of_kind : (kind : ℕ) → kind ≡ o.kind → Clean kind a × Clean kind b
    of_kind kind e = rw e (clean_by o.kind a o.known o.first, clean_by o.kind b o.known o.second)

    clean_both : (x y : Bool) → eqb (length a) 0 ≡ x → eqb (length b) 0 ≡ y → Clean (kind_of a b) a × Clean (kind_of a b) b
    clean_both false y e f = of_kind (kind_of a b) (of_first a b e ∙ (rw zero-mul at (o.first 0 (rw zero-mul (some a e)))))
    clean_both true false e f = of_kind (kind_of a b) (of_second a b e f ∙ (rw zero-mul at (o.second 0 (rw zero-mul (some b f)))))
    clean_both true true e f = (none (kind_of a b) a e, none (kind_of a b) b f)

  known_of : Clean (kind_of a b) a → Clean (kind_of a b) b → (x y : Bool) → eqb (length a) 0 ≡ x → eqb (length b) 0 ≡ y
      → (kind_of a b ≡ plain) ⊎ (kind_of a b ≡ clocked)
  known_of c d false y e f = known_by (kind_of a b) a c (some a e)
  known_of c d true false e f = known_by (kind_of a b) b d (some b f)
  known_of c d true true e f = inl (of_none a b e f)

pub five_exactly : FiveExactly
five_exactly a b lent =
    let k = kind_of a b in
    record {
      never = λ o f.
          let c = clean_both a b o (eqb (length a) 0) (eqb (length b) 0) refl refl in
          let m : mixed k a || mixed k b ≡ false = rw (unmixed k a c.0, unmixed k b c.1) in
          false≢true (sym m ∙ five_is k a b lent f);
      else = λ ne.
          let m = neither (mixed k a) (mixed k b) (not_five k a b lent ne) in
          let c = clean k a m.0 in
          let d = clean k b m.1 in
          record {
            kind = k;
            known = known_of a b c d (eqb (length a) 0) (eqb (length b) 0) refl refl;
            first = begun_with k a c;
            second = begun_with k b d;
          };
    }

-- ---- the logs exchanged

module _ (a b lent : List ℕ) where
  alike_by : (kind : ℕ) (t : Bool)
      → Alike (cond t (refused a b lent 5) (compared (fields_of kind) a b lent)) (cond t (refused b a lent 5) (compared (fields_of kind) b a lent))
  alike_by kind true = record { list = refl; count = refl; refusal = refl; surplus = refl }
  alike_by kind false = alike_by_fields (fields_of kind) a b lent

  of_one_kind : (kind : ℕ) → Alike (compared_as kind a b lent) (compared_as kind b a lent)
  unfolding compared_as
  of_one_kind kind = rw (or_comm (mixed kind b) (mixed kind a)) (alike_by kind (mixed kind a || mixed kind b))

  of_two_kinds : (j k : ℕ) → mixed j a || mixed j b ≡ true → mixed k b || mixed k a ≡ true → Alike (compared_as j a b lent) (compared_as k b a lent)
  of_two_kinds j k e f =
      rw (other_kind_holds j a b lent e, other_kind_holds k b a lent f) (record { list = refl; count = refl; refusal = refl; surplus = refl })

-- A first byte that is not the kind.
by_mixed : (kind : ℕ) (log : List ℕ) (t : Bool) → mixed kind log ≡ t → 0 < length log → (get_or log 0 0 ≡ kind → ⊥) → mixed kind log ≡ true
by_mixed kind log true e h ne = e
by_mixed kind log false e h ne = absurd (ne (rw zero-mul at (begun_with kind log (clean kind log e) 0 (rw zero-mul h))))

other_first : (kind : ℕ) (log : List ℕ) → 0 < length log → (get_or log 0 0 ≡ kind → ⊥) → (t : Bool) → t || mixed kind log ≡ true
other_first kind log h ne true = refl
other_first kind log h ne false = by_mixed kind log (mixed kind log) refl h ne

module _ (a b lent : List ℕ) where
  exchanged_by : (same x y : Bool) → eqb (kind_of a b) (kind_of b a) ≡ same → eqb (length a) 0 ≡ x → eqb (length b) 0 ≡ y
      → Alike (compared_as (kind_of a b) a b lent) (compared_as (kind_of b a) b a lent)
  exchanged_by true x y s e f = rw (sym (eqb-true (kind_of a b) (kind_of b a) s)) (of_one_kind a b lent (kind_of a b))
  exchanged_by false true true s e f = absurd (eqb-false (kind_of a b) (kind_of b a) s (of_none a b e f ∙ sym (of_none b a f e)))
  exchanged_by false true false s e f = absurd (eqb-false (kind_of a b) (kind_of b a) s (of_second a b e f ∙ sym (of_first b a f)))
  exchanged_by false false true s e f = absurd (eqb-false (kind_of a b) (kind_of b a) s (of_first a b e ∙ sym (of_second b a f e)))
  exchanged_by false false false s e f =
      let ne = eqb-false (kind_of a b) (kind_of b a) s in
      of_two_kinds a b lent (kind_of a b) (kind_of b a)
      (other_first (kind_of a b) b (some b f) (λ q. ne (sym (of_first b a f ∙ q))) (mixed (kind_of a b) a))
      (other_first (kind_of b a) a (some a e) (λ q. ne (of_first a b e ∙ q)) (mixed (kind_of b a) b))

pub exchanged : Exchanged
exchanged a b lent = exchanged_by a b lent (eqb (kind_of a b) (kind_of b a)) (eqb (length a) 0) (eqb (length b) 0) refl refl refl

-- The walk by lengths and the records of a trace. Assumes nothing.
use mathlib.Core.Path.{◌≡◌, refl, ap, ◌∙◌}
use mathlib.Core.Bool.{Bool, true, false, cond}
use mathlib.Core.List.{List, [], ◌∷◌}
use Prim.Native.Nat.{ℕ, zero, suc, ◌+◌, ◌<◌, ◌≤◌}
use native.Mathlib.Omega.{arith}
use lib.Dec.{eqb, ltb}
use lib.ListN.{length, take, drop}
use borrow.Author.Tests.{lt-ltb, le-ltb, ltb-true, ltb-false, le-leb, lt-leb, ne_eqb}
use Rattle.qsm.specs.declared.event.Event.{Event}
use Rattle.qsm.specs.declared.event.Event.TheVariants.{Reset}
use Rattle.trace.specs.Trace.{parsed}
use Rattle.trace.specs.declared.Parsed.{Parsed}
use Rattle.trace.specs.declared.Parsed.TheVariants.{Record, Unknown, Cut}
use Rattle.tool_index.specs.Records.{Item, items_by, records, bytes_of, reset_of, resets_in}
use Rattle.tool_index.proofs.Items.{unroll}
use Rattle.claims_index.specs.Walk.{size, reset, kind, stands, Place, there, nowhere, walk}

-- ---- the record at the start

-- What is parsed of n bytes, by the length and the resets of its kind.
data Parses (p : Parsed) (n bytes resets : ℕ) : Type 0 where
  stood : (e : Event) → p ≡ Record e bytes → reset_of e ≡ resets → 0 < bytes → bytes ≤ n → Parses p n bytes resets
  strange : p ≡ Unknown → bytes ≡ 0 → Parses p n bytes resets
  short : p ≡ Cut → n < bytes → Parses p n bytes resets

by_length : (n bytes resets : ℕ) (e : Event) → reset_of e ≡ resets → 0 < bytes → (t : Bool) → ltb n bytes ≡ t → Parses (cond t Cut (Record e bytes)) n bytes resets
by_length n bytes resets e same some true is = short refl (ltb-true n bytes is)
by_length n bytes resets e same some false is = stood e refl same some (ltb-false n bytes is)

abbrev chain : Bool → Bool → Bool → Bool → Bool → ℕ → Event → Event → Event → Event → Parsed
chain a b c d l n e f g h =
    cond a (Record Reset 1)
    (cond b (cond (ltb n 5) Cut (Record e 5))
    (cond c (cond (ltb n 4) Cut (Record f 4))
    (cond d (cond (ltb n 8) Cut (Record g 8)) (cond l (cond (ltb n 7) Cut (Record h 7)) Unknown))))

by_each_kind : (a b c d l : Bool) (n : ℕ) (e f g h : Event) → 0 < n → reset_of e ≡ 0 → reset_of f ≡ 0 → reset_of g ≡ 0 → reset_of h ≡ 0
    → Parses (chain a b c d l n e f g h) n (cond a 1 (cond b 5 (cond c 4 (cond d 8 (cond l 7 0))))) (cond a 1 0)
by_each_kind true b c d l n e f g h some i j k m = stood Reset refl refl (omega arith) (omega arith)
by_each_kind false true c d l n e f g h some i j k m = by_length n 5 0 e i (omega arith) (ltb n 5) refl
by_each_kind false false true d l n e f g h some i j k m = by_length n 4 0 f j (omega arith) (ltb n 4) refl
by_each_kind false false false true l n e f g h some i j k m = by_length n 8 0 g k (omega arith) (ltb n 8) refl
by_each_kind false false false false true n e f g h some i j k m = by_length n 7 0 h m (omega arith) (ltb n 7) refl
by_each_kind false false false false false n e f g h some i j k m = strange refl refl

parses : (x : ℕ) (l : List ℕ) → Parses (parsed (x ∷ l)) (length (x ∷ l)) (size x) (reset x)
parses x l =
    rw (ne_eqb (length (x ∷ l)) 0 (λ z. omega (arith, z)))
    (by_each_kind (eqb x 1) (eqb x 2) (eqb x 3) (eqb x 4) (eqb x 5) (length (x ∷ l)) _ _ _ _ (omega arith) refl refl refl refl)

-- ---- the records

-- What the first of some records gives, and those behind it.
pub data Starts (t : List ℕ) : Type 0 where
  with_one : (i : Item) → stands t ≡ true → records t ≡ i ∷ records (drop (size (kind t)) t) → i.size ≡ size (kind t) → reset_of i.event ≡ reset (kind t) → Starts t
  with_none : stands t ≡ false → records t ≡ [] → Starts t

by_parsed : (x : ℕ) (l : List ℕ) → Parses (parsed (x ∷ l)) (length (x ∷ l)) (size x) (reset x) → Starts (x ∷ l)
by_parsed x l (stood e is same some fits) =
    with_one (record { event = e; size = size x }) (rw (lt-ltb 0 (size x) some, le-leb (size x) (length (x ∷ l)) fits))
    (unroll (x ∷ l) ∙ ap (items_by records (x ∷ l)) is) refl same
by_parsed x l (strange is none) = with_none (rw none) (unroll (x ∷ l) ∙ ap (items_by records (x ∷ l)) is)
by_parsed x l (short is less) =
    with_none (rw (lt-ltb 0 (size x) (omega arith), lt-leb (size x) (length (x ∷ l)) less)) (unroll (x ∷ l) ∙ ap (items_by records (x ∷ l)) is)

pub starts : (t : List ℕ) → Starts t
starts [] = with_none refl (unroll [])
starts (x ∷ l) = by_parsed x l (parses x l)

-- ---- the walk

abbrev pub placed : List Item → ℕ → ℕ → ℕ → Place
placed rs n place resets = cond (ltb n (length rs)) (there (place + bytes_of (take n rs)) (resets + resets_in (take n rs))) nowhere

same_there : {p q r s : ℕ} → p ≡ q → r ≡ s → there p r ≡ there q s
same_there e f = rw (e, f)

next_less : (n m : ℕ) (t : Bool) → ltb n m ≡ t → ltb (suc n) (suc m) ≡ t
next_less n m true is = lt-ltb (suc n) (suc m) (omega (arith, ltb-true n m is))
next_less n m false is = le-ltb (suc n) (suc m) (omega (arith, ltb-false n m is))

at_first : (t : List ℕ) (place resets : ℕ) → Starts t → walk 0 t place resets ≡ placed (records t) 0 place resets
unfolding bytes_of resets_in
at_first t place resets (with_one i is rs bytes one) =
    rw (is, rs, lt-ltb 0 (length (i ∷ records (drop (size (kind t)) t))) (omega arith)) (same_there (omega arith) (omega arith))
at_first t place resets (with_none is rs) = rw (is, rs)

module _ (n : ℕ) (t : List ℕ) (place resets : ℕ)
    (on : (u : List ℕ) (p r : ℕ) → walk n u p r ≡ placed (records u) n p r) where
  at_next : Starts t → walk (suc n) t place resets ≡ placed (records t) (suc n) place resets
  unfolding bytes_of resets_in
  at_next (with_one i is rs bytes one) =
      let u = drop (size (kind t)) t in
      let sum : (p r : ℕ) → there (place + size (kind t) + p) (resets + reset (kind t) + r) ≡ there (place + (i.size + p)) (resets + (reset_of i.event + r)) =
      λ p r. same_there (omega (arith, bytes)) (omega (arith, one)) in
      rw (is, rs, next_less n (length (records u)) (ltb n (length (records u))) refl)
      (on u (place + size (kind t)) (resets + reset (kind t))
      ∙ ap (λ (x : Place). cond (ltb n (length (records u))) x nowhere) (sum (bytes_of (take n (records u))) (resets_in (take n (records u)))))
  at_next (with_none is rs) = rw (is, rs, le-ltb (suc n) 0 (omega arith))

pub walk_is : (n : ℕ) (t : List ℕ) (place resets : ℕ) → walk n t place resets ≡ placed (records t) n place resets
walk_is zero t place resets = at_first t place resets (starts t)
walk_is (suc n) t place resets = at_next n t place resets (walk_is n) (starts t)

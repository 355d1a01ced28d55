-- The records of a trace: one record on, their bytes, and a trace that goes on. Assumes nothing.
use mathlib.Core.Path.{◌≡◌, refl, sym, ap, ◌∙◌}
use mathlib.Core.List.{List, [], ◌∷◌, ◌++◌}
use Prim.Native.Nat.{ℕ, zero, suc, ◌+◌, ◌<◌, ◌≤◌}
use native.Mathlib.Omega.{arith}
use native.Mathlib.Nat.{add_assoc}
use lib.ListN.{length, drop, length-drop}
use lib.Seq.{drop-append-le, drop-drop}
use borrow.Author.Tests.{eq-eqb}
use Rattle.qsm.specs.declared.event.Event.{Event}
use Rattle.qsm.specs.declared.event.Event.TheVariants.{Reset, Hold}
use Rattle.qsm.specs.declared.event.Event.TheVariants as event
use Rattle.trace.specs.Trace.{parsed}
use Rattle.trace.specs.declared.Parsed.{Parsed}
use Rattle.trace.specs.declared.Parsed.TheVariants.{Record, Unknown, Cut}
use Rattle.trace.proofs.Playing.{record_within, record_kept}
use Rattle.tool_index.specs.Records.{Item, items_by, records_for, records, bytes_of, reset_of, resets_in, rest}

abbrev pub item : Event → ℕ → Item
item e n = record { event = e; size = n }

-- ---- the count of records never runs out

items_same : (f g : List ℕ → List Item) (t : List ℕ) (p : Parsed) → parsed t ≡ p
    → ((n : ℕ) → 0 < n → n ≤ length t → f (drop n t) ≡ g (drop n t)) → items_by f t p ≡ items_by g t p
items_same f g t (Record e n) is h = let w = record_within t is in ap (λ (l : List Item). item e n ∷ l) (h n w.0 w.1)
items_same f g t Unknown is h = refl
items_same f g t Cut is h = refl

enough : (k j : ℕ) (t : List ℕ) → length t ≤ k → length t ≤ j → records_for k t ≡ records_for j t
unfolding records_for
enough zero zero t h i = refl
enough zero (suc j) t h i = simp (eq-eqb (length t) 0 (omega arith))
enough (suc k) zero t h i = simp (eq-eqb (length t) 0 (omega arith))
enough (suc k) (suc j) t h i =
    items_same (records_for k) (records_for j) t (parsed t) refl
    (λ n pos le. enough k j (drop n t) (simp length-drop (omega arith)) (simp length-drop (omega arith)))

unrolled : (k : ℕ) (t : List ℕ) → length t ≤ k → records_for k t ≡ items_by records t (parsed t)
unfolding records_for
unrolled zero t h = simp (eq-eqb (length t) 0 (omega arith))
unrolled (suc k) t h =
    items_same (records_for k) records t (parsed t) refl
    (λ n pos le. enough k (length (drop n t)) (drop n t) (simp length-drop (omega arith)) (omega arith))

-- One record on.
pub unroll : (t : List ℕ) → records t ≡ items_by records t (parsed t)
unroll t = unrolled (length t) t (omega arith)

pub one_on : (t : List ℕ) {e : Event} {n : ℕ} → parsed t ≡ Record e n → records t ≡ item e n ∷ records (drop n t)
one_on t is = unroll t ∙ ap (items_by records t) is

-- Nothing follows what is no record, or is cut.
none_by : (t : List ℕ) (p : Parsed) → ((e : Event) (n : ℕ) → p ≡ Record e n → ⊥) → items_by records t p ≡ []
none_by t (Record e n) other = absurd (other e n refl)
none_by t Unknown other = refl
none_by t Cut other = refl

pub none_on : (t : List ℕ) (p : Parsed) → p ≡ parsed t → ((e : Event) (n : ℕ) → p ≡ Record e n → ⊥) → records t ≡ []
none_on t p is other = unroll t ∙ ap (items_by records t) (sym is) ∙ none_by t p other

-- ---- induction over the records

module _ (P : List ℕ → List Item → Type 0)
    (ends : (t : List ℕ) → P t [])
    (goes : (t : List ℕ) (e : Event) (n : ℕ) (rs : List Item) → parsed t ≡ Record e n → 0 < n → n ≤ length t → P (drop n t) rs → P t (item e n ∷ rs)) where
  by_record : (f : List ℕ → List Item) (t : List ℕ) (p : Parsed) → parsed t ≡ p → ((n : ℕ) → P (drop n t) (f (drop n t))) → P t (items_by f t p)
  by_record f t (Record e n) is h = let w = record_within t is in goes t e n _ is w.0 w.1 (h n)
  by_record f t Unknown is h = ends t
  by_record f t Cut is h = ends t

  by_count : (k : ℕ) (t : List ℕ) → P t (records_for k t)
  unfolding records_for
  by_count zero t = ends t
  by_count (suc k) t = by_record (records_for k) t (parsed t) refl (λ n. by_count k (drop n t))

  pub each_record : (t : List ℕ) → P t (records t)
  each_record t = by_count (length t) t

-- ---- sums

pub bytes_append : (rs ss : List Item) → bytes_of (rs ++ ss) ≡ bytes_of rs + bytes_of ss
unfolding bytes_of
bytes_append [] ss = omega arith
bytes_append (r ∷ rs) ss = ap (λ (n : ℕ). r.size + n) (bytes_append rs ss) ∙ sym (add_assoc r.size (bytes_of rs) (bytes_of ss))

pub resets_append : (rs ss : List Item) → resets_in (rs ++ ss) ≡ resets_in rs + resets_in ss
unfolding resets_in
resets_append [] ss = omega arith
resets_append (r ∷ rs) ss =
    ap (λ (n : ℕ). reset_of r.event + n) (resets_append rs ss) ∙ sym (add_assoc (reset_of r.event) (resets_in rs) (resets_in ss))

pub one_reset : (e : Event) → reset_of e ≤ 1
one_reset Reset = omega arith
one_reset (Hold pins rxd n) = omega arith
one_reset (event.Access a) = omega arith

pub resets_few : (rs : List Item) → resets_in rs ≤ length rs
unfolding resets_in
resets_few [] = omega arith
resets_few (r ∷ rs) = omega (arith, resets_few rs, one_reset r.event)

pub records_within : (t : List ℕ) → bytes_of (records t) ≤ length t
unfolding bytes_of
records_within = each_record (λ t rs. bytes_of rs ≤ length t) (λ t. omega arith) (λ t e n rs is pos le h. omega (arith, h, length-drop n t))

pub bytes_each : (t : List ℕ) → length (records t) ≤ bytes_of (records t)
unfolding bytes_of
bytes_each = each_record (λ t rs. length rs ≤ bytes_of rs) (λ t. omega arith) (λ t e n rs is pos le h. omega (arith, h))

-- ---- a trace that goes on

-- The records of a trace that goes on are those of its beginning, and then those of what they left with what follows.
pub goes_on : (t u : List ℕ) → records (t ++ u) ≡ records t ++ records (rest t ++ u)
unfolding bytes_of
goes_on t u =
    each_record (λ t rs. records (t ++ u) ≡ rs ++ records (drop (bytes_of rs) t ++ u)) (λ t. refl)
    (λ t e n rs is pos le h.
    one_on (t ++ u) (record_kept t u is) ∙ ap (λ (l : List ℕ). item e n ∷ records l) (drop-append-le n t u le)
    ∙ ap (λ (l : List Item). item e n ∷ l) h ∙ ap (λ (l : List ℕ). (item e n ∷ rs) ++ records (l ++ u)) (drop-drop (bytes_of rs) n t))
    t

-- A walk under way, and how it ends. Assumes nothing.
use mathlib.Core.Path.{◌≡◌, refl, sym, ap, ◌∙◌}
use mathlib.Core.Bool.{Bool, true, false}
use mathlib.Core.List.{List, [], ◌∷◌, ◌++◌}
use Prim.Native.Nat.{ℕ, zero, suc, ◌+◌, ◌-◌, ◌<◌, ◌≤◌}
use native.Mathlib.Omega.{arith}
use native.Mathlib.Nat.{add_assoc, add-zero}
use lib.Dec.{leb}
use borrow.Author.Tests.{leb-true, leb-false}
use lib.ListN.{length, take, drop, length-append, length-drop, length-take}
use lib.Seq.{take-add, take_all, drop-drop, length-take-le}
use Rattle.qsm.specs.declared.event.Event.{Event}
use Rattle.trace.specs.Trace.{parsed}
use Rattle.trace.specs.declared.Parsed.{Parsed}
use Rattle.trace.specs.declared.Parsed.TheVariants.{Record}
use Rattle.trace.proofs.Playing.{record_within}
use Rattle.tool_index.specs.Records.{Item, records, bytes_of, resets_in}
use Rattle.tool_index.specs.Walk.{past, up_to, walked, largest, Sound}
use Rattle.tool_index.specs.declared.walk.Position.{Position}
use Rattle.tool_index.proofs.Items.{item, one_on, none_on, each_record, bytes_append, resets_append, resets_few, bytes_each, records_within}

pub past_append : (p : Position) (rs ss : List Item) → past p (rs ++ ss) ≡ past (past p rs) ss
past_append p rs ss =
    simp (length-append, bytes_append, resets_append, ← add_assoc)

nothing_past : (p : Position) → past p [] ≡ p
unfolding bytes_of resets_in
nothing_past p = simp add-zero

-- A walk from p up to record n, that has come to q and read so many bytes.
pub record Walking (p : Position) (t : List ℕ) (n : ℕ) (q : Position) (read : ℕ) : Type 0 where
  pub passed : ℕ
  pub few : passed ≤ n - p.number
  pub there : passed ≤ length (records t)
  pub at_is : q ≡ past p (take passed (records t))
  pub read_is : read ≡ bytes_of (take passed (records t))
  pub within : read ≤ length t
  pub each : passed ≤ read
  pub left : drop passed (records t) ≡ records (drop read t)

pub starts : (p : Position) (t : List ℕ) (n : ℕ) → Walking p t n p 0
unfolding bytes_of resets_in
starts p t n =
    record {
      passed = 0;
      few = omega arith;
      there = omega arith;
      at_is = sym (nothing_past p);
      read_is = refl;
      within = omega arith;
      each = omega arith;
      left = refl;
    }

-- What of the trace a walk has left is what it lends to the parser.
pub lent : (t : List ℕ) (read : ℕ) → take (length t - read) (drop read t) ≡ drop read t
lent t read = take_all (length t - read) (drop read t) (simp length-drop (omega arith))

module _ {p : Position} {t : List ℕ} {n : ℕ} {q : Position} {read : ℕ} (w : Walking p t n q read) where
  pub number_is : q.number ≡ p.number + w.passed
  number_is = ap (λ (x : Position). x.number) w.at_is ∙ ap (λ (k : ℕ). p.number + k) (length-take-le w.passed (records t) w.there)

  pub place_is : q.place ≡ p.place + read
  place_is = ap (λ (x : Position). x.place) w.at_is ∙ ap (λ (k : ℕ). p.place + k) (sym w.read_is)

  pub resets_below : q.resets ≤ p.resets + w.passed
  resets_below =
      omega (arith, ap (λ (x : Position). x.resets) w.at_is, resets_few (take w.passed (records t)), length-take-le w.passed (records t) w.there)

  -- Nothing further is walked.
  done : take w.passed (records t) ≡ up_to p t n → walked p t n ≡ record { at = q; read = read }
  done e = rw (← e, ← w.at_is, ← w.read_is)

  ends : records (drop read t) ≡ [] → walked p t n ≡ record { at = q; read = read }
  ends none =
      let all : length (records t) ≤ w.passed = omega (arith, ap length (w.left ∙ none), length-drop w.passed (records t)) in
      done (take_all w.passed (records t) all ∙ sym (take_all (n - p.number) (records t) (omega (arith, w.few))))

  -- What the parser says of what is left.
  module _ (x : Parsed) (told : x ≡ parsed (take (length t - read) (drop read t))) where
    pub stops : ((e : Event) (s : ℕ) → x ≡ Record e s → ⊥) → walked p t n ≡ record { at = q; read = read }
    stops other = ends (none_on (drop read t) x (told ∙ ap parsed (lent t read)) other)

  pub reaches : n ≤ q.number → walked p t n ≡ record { at = q; read = read }
  reaches h =
      let e : w.passed ≡ n - p.number = omega (arith, number_is, w.few) in
      done (ap (λ (k : ℕ). take k (records t)) e)

  -- The bytes that are left, from a sound position.
  pub still_sound : Sound p (length t) → Sound q (length (drop read t))
  still_sound s = (
    omega (arith, number_is, resets_below, s.0),
    omega (arith, number_is, place_is, w.each, s.1),
    omega (arith, place_is, length-drop read t, w.within, s.2),
  )

  -- A walk further on, from where this one stands.
  module _ (m : ℕ) (le : n ≤ m) where
    abbrev more : ℕ
    more = m - p.number - w.passed

    more_is : up_to q (drop read t) m ≡ take more (drop w.passed (records t))
    more_is = let e : m - q.number ≡ more = omega (arith, number_is) in rw (e, ← w.left)

    joined : take w.passed (records t) ++ up_to q (drop read t) m ≡ up_to p t m
    joined =
        let all : w.passed + more ≡ m - p.number = omega (arith, w.few) in
        ap (λ (l : List Item). take w.passed (records t) ++ l) more_is ∙ sym (take-add w.passed more (records t)) ∙ ap (λ (k : ℕ). take k (records t)) all

    pub walks_on : (walked q (drop read t) m).at ≡ (walked p t m).at
    walks_on =
        ap (λ (x : Position). past x (up_to q (drop read t) m)) w.at_is ∙ sym (past_append p (take w.passed (records t)) (up_to q (drop read t) m)) ∙ ap (past p) joined

    pub reads_on : read + (walked q (drop read t) m).read ≡ (walked p t m).read
    reads_on =
        ap (λ (k : ℕ). k + bytes_of (up_to q (drop read t) m)) w.read_is ∙ sym (bytes_append (take w.passed (records t)) (up_to q (drop read t) m)) ∙ ap bytes_of joined

  -- Past one record.
  module _ (x : Parsed) {e : Event} {s : ℕ} (told : x ≡ parsed (take (length t - read) (drop read t))) (whole : x ≡ Record e s) where
    is : parsed (drop read t) ≡ Record e s
    is = ap parsed (sym (lent t read)) ∙ sym told ∙ whole

    size : (0 < s) × (read + s ≤ length t)
    size = let h = record_within (drop read t) is in (h.0, omega (arith, h.1, length-drop read t))

    next : drop w.passed (records t) ≡ item e s ∷ records (drop (read + s) t)
    next = w.left ∙ one_on (drop read t) is ∙ ap (λ (l : List ℕ). item e s ∷ records l) (drop-drop s read t)

    one_more : take (w.passed + 1) (records t) ≡ take w.passed (records t) ++ (item e s ∷ [])
    one_more = take-add w.passed 1 (records t) ∙ ap (λ (l : List Item). take w.passed (records t) ++ take 1 l) next

    pub fits : Sound p (length t) → (q.number < largest) × (q.place + s ≤ largest) × (q.resets < largest)
    fits b =
        let d = size in
        (omega (arith, number_is, w.each, b), omega (arith, place_is, b), omega (arith, resets_below, w.each, b))

    pub moves : (0 < s) × (read + s ≤ length t)
    moves = size

    pub passes : q.number < n → Walking p t n (past q (item e s ∷ [])) (read + s)
    unfolding bytes_of
    passes lt =
        let d = size in
        record {
          passed = w.passed + 1;
          few = omega (arith, number_is);
          there = omega (arith, ap length next, length-drop w.passed (records t));
          at_is = sym (ap (past p) one_more ∙ past_append p (take w.passed (records t)) (item e s ∷ []) ∙ ap (λ (x : Position). past x (item e s ∷ [])) (sym w.at_is));
          read_is = omega (arith, w.read_is, ap bytes_of one_more, bytes_append (take w.passed (records t)) (item e s ∷ []));
          within = d.1;
          each = omega (arith, w.each);
          left = sym (drop-drop 1 w.passed (records t)) ∙ ap (drop 1) next;
        }

-- A walk that is done is one under way that has come there.
take_exact : {A : Type 0} (k : ℕ) (l : List A) → take (length (take k l)) l ≡ take k l
take_exact k l = by_order (leb k (length l)) refl
  where
    by_order : (b : Bool) → leb k (length l) ≡ b → take (length (take k l)) l ≡ take k l
    by_order true h = ap (λ (i : ℕ). take i l) (length-take-le k l (leb-true k (length l) h))
    by_order false h = take_all (length (take k l)) l (omega (arith, length-take k l, leb-false k (length l) h)) ∙ sym (take_all k l (omega (arith, leb-false k (length l) h)))

-- The first k records of a trace: their bytes, and what they leave.
pub record Split (t : List ℕ) (rs : List Item) (k : ℕ) : Type 0 where
  pub each : k ≤ bytes_of (take k rs)
  pub within : bytes_of (take k rs) ≤ length t
  pub left : drop k rs ≡ records (drop (bytes_of (take k rs)) t)

splits_next : (t : List ℕ) (e : Event) (n : ℕ) (rs : List Item) → 0 < n → n ≤ length t → item e n ∷ rs ≡ records t → ((k : ℕ) → k ≤ length rs → Split (drop n t) rs k)
    → (k : ℕ) → k ≤ suc (length rs) → Split t (item e n ∷ rs) k
unfolding bytes_of
splits_next t e n rs pos le is h zero some = record { each = omega arith; within = omega arith; left = is }
splits_next t e n rs pos le is h (suc k) some =
    let s = h k (omega arith) in
    record {
      each = omega (arith, s.each);
      within = omega (arith, s.within, length-drop n t);
      left = s.left ∙ ap records (drop-drop (bytes_of (take k rs)) n t);
    }

none_splits : (t : List ℕ) → [] ≡ records t → (k : ℕ) → k ≤ 0 → Split t [] k
unfolding bytes_of
none_splits t is zero le = record { each = omega arith; within = omega arith; left = is }
none_splits t is (suc k) le = absurd (omega arith)

tail_is : {a b : Item} {rs ss : List Item} → a ∷ rs ≡ b ∷ ss → rs ≡ ss
tail_is e = cc

splits : (t : List ℕ) → records t ≡ records t → (k : ℕ) → k ≤ length (records t) → Split t (records t) k
unfolding bytes_of
splits =
    each_record (λ t rs. rs ≡ records t → (k : ℕ) → k ≤ length rs → Split t rs k)
    none_splits
    (λ t e n rs is pos le h whole. splits_next t e n rs pos le whole (h (tail_is (whole ∙ one_on t is))))

pub came : (p : Position) (t : List ℕ) (n : ℕ) → Walking p t n (walked p t n).at (walked p t n).read
came p t n =
    let gone = length (up_to p t n) in
    let e : take gone (records t) ≡ up_to p t n = take_exact (n - p.number) (records t) in
    let some : gone ≤ length (records t) = omega (arith, length-take (n - p.number) (records t)) in
    let b = splits t refl gone some in
    record {
      passed = gone;
      few = omega (arith, length-take (n - p.number) (records t));
      there = some;
      at_is = ap (past p) (sym e);
      read_is = ap bytes_of (sym e);
      within = rw e at b.within;
      each = rw e at b.each;
      left = rw e at b.left;
    }

-- A walk up to the largest number comes to the end.
pub to_the_end : (p : Position) (t : List ℕ) → Sound p (length t) → walked p t largest ≡ record { at = past p (records t); read = bytes_of (records t) }
to_the_end p t s =
    let all : up_to p t largest ≡ records t = take_all (largest - p.number) (records t) (omega (arith, bytes_each t, records_within t, s)) in
    rw all

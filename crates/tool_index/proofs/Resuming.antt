-- An index that is resumed from a position of the walk, with the marks up to there, comes out as the whole. Assumes nothing.
use mathlib.Core.Path.{◌≡◌, refl, sym, ap, ◌∙◌}
use mathlib.Core.Bool.{Bool, true, false}
use mathlib.Core.List.{List, [], ◌∷◌, ◌++◌, append_assoc, append-nil}
use Prim.Native.Nat.{ℕ, zero, suc, ◌+◌, ◌-◌, ◌*◌, ◌/◌, ◌<◌, ◌≤◌, min}
use native.Mathlib.Omega.{arith}
use native.Mathlib.Nat.{add-zero, add-suc, add_assoc}
use lib.Dec.{ltb}
use lib.ListN.{length, take, drop, take-append-drop, length-append}
use lib.Seq.{drop-drop, take-append-le}
use Rattle.tool_index.specs.Records.{Item, records, bytes_of, rest, refusal_at, stop_of}
use Rattle.tool_index.specs.Walk.{past, up_to, walked}
use Rattle.tool_index.specs.Marks.{spacing, marks_for, mark, marks_from, room, fresh, report, grown, indexed_from}
use Rattle.tool_index.specs.declared.walk.Position.{Position}
use Rattle.tool_index.specs.declared.index.Indexed.{Indexed}
use Rattle.tool_index.proofs.Items.{bytes_append, goes_on}
use Rattle.tool_index.proofs.Walking.{Walking, past_append, walks_on}

-- ---- rows of marks

pub marks_append : (p : Position) (t : List ℕ) (k i j : ℕ) → marks_from p t k (i + j) ≡ marks_from p t k i ++ marks_from p t (k + i) j
unfolding marks_from
marks_append p t k i zero = rw add-zero (sym (append-nil (marks_from p t k i)))
marks_append p t k i (suc j) =
    rw (add-suc, marks_append p t k i j, ← add_assoc k i j) (append_assoc (marks_from p t k i) (marks_from p t (k + i) j) (mark p t (k + i + j)))

pub marks_same : (p q : Position) (t u : List ℕ) (k j : ℕ) → ((i : ℕ) → i < j → mark p t (k + i) ≡ mark q u (k + i)) → marks_from p t k j ≡ marks_from q u k j
unfolding marks_from
marks_same p q t u k zero h = refl
marks_same p q t u k (suc j) h = rw (marks_same p q t u k j (λ i lt. h i (omega arith)), h j (omega arith))

abbrev made : Position → ℕ → ℕ → ℕ → Indexed
made e n stop why = record { marks = n; records = e.number; place = e.place; resets = e.resets; stop = stop; refusal = why }

-- ---- the walk that is resumed where a walk from p up to record m stands

module _ {p : Position} {t : List ℕ} {m : ℕ} {r : Position} {read : ℕ} (w : Walking p t m r read) where
  pub same_end : past r (records (drop read t)) ≡ past p (records t)
  same_end =
      ap (λ (x : Position). past x (records (drop read t))) w.at_is ∙ ap (past (past p (take w.passed (records t)))) (sym w.left)
      ∙ sym (past_append p (take w.passed (records t)) (drop w.passed (records t))) ∙ ap (past p) (take-append-drop w.passed (records t))

  same_stop : stop_of (drop read t) ≡ stop_of t
  same_stop =
      let bytes : read + bytes_of (records (drop read t)) ≡ bytes_of (records t) =
      ap (λ (n : ℕ). n + bytes_of (records (drop read t))) w.read_is ∙ ap (λ (l : List Item). bytes_of (take w.passed (records t)) + bytes_of l) (sym w.left)
      ∙ sym (bytes_append (take w.passed (records t)) (drop w.passed (records t))) ∙ ap bytes_of (take-append-drop w.passed (records t)) in
      ap refusal_at (drop-drop (bytes_of (records (drop read t))) read t ∙ ap (λ (n : ℕ). drop n t) bytes)

  module _ (list₀ list : List ℕ) (c k : ℕ) (below : m ≤ spacing * k) (more : c ≤ k) (few : k ≤ c + fresh p t c)
      (front : take (2 * k) list ≡ take (2 * c) list₀ ++ marks_from p t c (k - c)) (back : drop (2 * k) list ≡ drop (2 * k) list₀) (long : length list ≡ length list₀) where
    abbrev u : List ℕ
    u = drop read t

    same_new : fresh r u k ≡ marks_for (past p (records t)).number - k
    same_new = ap (λ (x : Position). marks_for x.number - k) same_end

    same_count : k + fresh r u k ≡ c + fresh p t c
    same_count = omega (arith, same_new)

    same_report : (why : ℕ) → report r u k why ≡ report p t c why
    same_report why =
        ap (λ (e : Position). made e (k + fresh r u k) (stop_of u) why) same_end ∙ ap (λ (n : ℕ). made (past p (records t)) n (stop_of u) why) same_count
        ∙ ap (λ (s : ℕ). made (past p (records t)) (c + fresh p t c) s why) same_stop

    same_marks : marks_from r u k (fresh r u k) ≡ marks_from p t k (fresh r u k)
    same_marks = marks_same r p u t k (fresh r u k) (λ i lt. ap (λ (x : Position). x.place ∷ x.resets ∷ []) (walks_on w (spacing * (k + i)) (omega arith)))

    same_back : drop (2 * (k + fresh r u k)) list ≡ drop (2 * (k + fresh r u k)) list₀
    same_back =
        let e : 2 * k + 2 * fresh r u k ≡ 2 * (k + fresh r u k) = omega arith in
        ap (λ (n : ℕ). drop n list) (sym e) ∙ sym (drop-drop (2 * fresh r u k) (2 * k) list) ∙ ap (drop (2 * fresh r u k)) back
        ∙ drop-drop (2 * fresh r u k) (2 * k) list₀ ∙ ap (λ (n : ℕ). drop n list₀) e

    pub same_grown : grown r u list k ≡ grown p t list₀ c
    same_grown =
        let f = fresh r u k in
        let head = take (2 * c) list₀ in
        let ms = marks_from p t c (k - c) in
        let tail = drop (2 * (k + f)) list₀ in
        let at : c + (k - c) ≡ k = omega arith in
        let all : (k - c) + f ≡ fresh p t c = omega (arith, same_count) in
        ap (λ (l : List ℕ). l ++ (marks_from r u k f ++ drop (2 * (k + f)) list)) front
        ∙ ap (λ (l : List ℕ). (head ++ ms) ++ (l ++ drop (2 * (k + f)) list)) same_marks
        ∙ ap (λ (l : List ℕ). (head ++ ms) ++ (marks_from p t k f ++ l)) same_back
        ∙ append_assoc head ms (marks_from p t k f ++ tail)
        ∙ ap (λ (l : List ℕ). head ++ l) (sym (append_assoc ms (marks_from p t k f) tail))
        ∙ ap (λ (n : ℕ). head ++ ((ms ++ marks_from p t n f) ++ tail)) (sym at)
        ∙ ap (λ (l : List ℕ). head ++ (l ++ tail)) (sym (marks_append p t c (k - c) f))
        ∙ ap (λ (n : ℕ). head ++ (marks_from p t c n ++ tail)) all
        ∙ ap (λ (n : ℕ). head ++ (marks_from p t c (fresh p t c) ++ drop (2 * n) list₀)) same_count

    by_room : (b : Bool) → ltb (room list) (k + fresh r u k) ≡ b → ltb (room list₀) (c + fresh p t c) ≡ b →
        ((indexed_from r u list k).given ≡ (indexed_from p t list₀ c).given) × ((indexed_from p t list₀ c).given.refusal ≡ 0 → (indexed_from r u list k).list ≡ (indexed_from p t list₀ c).list)
        × (list ≡ list₀ → (indexed_from r u list k).list ≡ (indexed_from p t list₀ c).list)
    by_room true e f = rw (e, f) (same_report 7, (λ z. absurd (omega arith)), λ z. z)
    by_room false e f = rw (e, f) (same_report 0, (λ z. same_grown), λ z. same_grown)

    pub resumed : ((indexed_from r u list k).given ≡ (indexed_from p t list₀ c).given) × ((indexed_from p t list₀ c).given.refusal ≡ 0 → (indexed_from r u list k).list ≡ (indexed_from p t list₀ c).list)
        × (list ≡ list₀ → (indexed_from r u list k).list ≡ (indexed_from p t list₀ c).list)
    resumed =
        by_room (ltb (room list) (k + fresh r u k)) refl
        (ap (λ (n : ℕ). ltb (min (n / 2) 4096) (c + fresh p t c)) (sym long) ∙ ap (ltb (room list)) (sym same_count))

-- ---- a trace that goes on

-- A walk over no more records than t has is the same where more follows t.
pub same_walk : (p : Position) (t u : List ℕ) (n : ℕ) → n - p.number ≤ length (records t) → walked p (t ++ u) n ≡ walked p t n
same_walk p t u n le =
    let e : up_to p (t ++ u) n ≡ up_to p t n =
    ap (take (n - p.number)) (goes_on t u) ∙ take-append-le (n - p.number) (records t) (records (rest t ++ u)) le in
    rw e

pub more_records : (t u : List ℕ) → length (records t) ≤ length (records (t ++ u))
more_records t u = omega (arith, ap length (goes_on t u), length-append (records t) (records (rest t ++ u)))

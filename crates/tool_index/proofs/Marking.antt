-- Marks written in a walk. Assumes nothing.
use mathlib.Core.Path.{◌≡◌, refl, sym, ap, ◌∙◌}
use mathlib.Core.List.{List, [], ◌∷◌, ◌++◌, append_assoc}
use Prim.Native.Nat.{ℕ, zero, suc, ◌+◌, ◌-◌, ◌*◌, ◌<◌, ◌≤◌}
use native.Mathlib.Omega.{arith}
use native.Mathlib.Numerals.{add-one}
use native.Mathlib.Nat.{add-zero}
use lib.ListN.{length, set, take, drop, take-append-drop, length-append, length-drop}
use lib.Seq.{sets-eq, take_at, drop_at, drop-drop, length-take-le}
use Rattle.tool_index.specs.Walk.{walked, Sound}
use Rattle.tool_index.specs.Marks.{spacing, most, mark, marks_from}
use Rattle.tool_index.specs.declared.walk.Position.{Position}
use Rattle.tool_index.specs.declared.walk.Walked.{Walked}
use Rattle.tool_index.proofs.Walking.{Walking, starts, lent, still_sound, walks_on, reads_on, came}

pub marks_length : (p : Position) (t : List ℕ) (k j : ℕ) → length (marks_from p t k j) ≡ 2 * j
unfolding marks_from
marks_length p t k zero = refl
marks_length p t k (suc j) = simp length-append (omega (arith, marks_length p t k j))

-- The marks from `count` on, j of them written; the other numbers are as they were.
abbrev pub written : Position → List ℕ → ℕ → ℕ → List ℕ → List ℕ
written p t count j list = take (2 * count) list ++ (marks_from p t count j ++ drop (2 * (count + j)) list)

module _ (p : Position) (t : List ℕ) (count j : ℕ) (list : List ℕ) (long : 2 * (count + j) ≤ length list) where
  front : length (take (2 * count) list ++ marks_from p t count j) ≡ 2 * (count + j)
  front = simp (length-append, marks_length, length-take-le (2 * count) list (omega arith)) (omega arith)

  parted : written p t count j list ≡ (take (2 * count) list ++ marks_from p t count j) ++ drop (2 * (count + j)) list
  parted = sym (append_assoc (take (2 * count) list) (marks_from p t count j) (drop (2 * (count + j)) list))

  pub written_length : length (written p t count j list) ≡ length list
  written_length =
      ap length parted ∙ length-append (take (2 * count) list ++ marks_from p t count j) (drop (2 * (count + j)) list) ∙ omega (arith, front, length-drop (2 * (count + j)) list)

  pub written_take : take (2 * (count + j)) (written p t count j list) ≡ take (2 * count) list ++ marks_from p t count j
  written_take = ap (take (2 * (count + j))) parted ∙ take_at (take (2 * count) list ++ marks_from p t count j) (drop (2 * (count + j)) list) (2 * (count + j)) front

  pub written_drop : drop (2 * (count + j)) (written p t count j list) ≡ drop (2 * (count + j)) list
  written_drop = ap (drop (2 * (count + j))) parted ∙ drop_at (take (2 * count) list ++ marks_from p t count j) (drop (2 * (count + j)) list) (2 * (count + j)) front

-- One mark more.
module _ (p : Position) (t : List ℕ) (count j : ℕ) (list : List ℕ) (long : 2 * (count + (j + 1)) ≤ length list) where
  pub marked : {a b : ℕ} → a ∷ b ∷ [] ≡ mark p t (count + j)
      → set (set (written p t count j list) (2 * (count + j)) a) (2 * (count + j) + 1) b ≡ written p t count (j + 1) list
  unfolding marks_from
  marked {a} {b} is =
      let put = 2 * (count + j) in
      let w = written p t count j list in
      let short : 2 * (count + j) ≤ length list = omega arith in
      let stored : set (set w put a) (suc put) b ≡ take put w ++ (a ∷ b ∷ []) ++ drop (put + 2) w =
      sets-eq (a ∷ b ∷ []) w put (omega (arith, written_length p t count j list short)) in
      let after : put + 2 ≡ 2 * (count + (j + 1)) = omega arith in
      let past-it : drop (put + 2) w ≡ drop (2 * (count + (j + 1))) list =
      sym (drop-drop 2 put w) ∙ ap (drop 2) (written_drop p t count j list short) ∙ drop-drop 2 put list ∙ ap (λ (k : ℕ). drop k list) after in
      let head = take (2 * count) list in
      let ms = marks_from p t count j in
      let tail = drop (2 * (count + suc j)) list in
      rw (add-one put, stored, written_take p t count j list short, past-it, is, add-one j)
      (append_assoc (head ++ ms) (mark p t (count + j)) tail ∙ append_assoc head ms (mark p t (count + j) ++ tail) ∙ ap (λ (l : List ℕ). head ++ l) (sym (append_assoc ms (mark p t (count + j)) tail)))

-- The loop at mark count + j: the walk has come as far as record `upto`.
pub record Marking (p : Position) (t list₀ : List ℕ) (count fresh : ℕ) (list : List ℕ) (at : Position) (read j : ℕ) : Type 0 where
  pub upto : ℕ
  pub sound : Sound p (length t)
  pub few : count + fresh ≤ most
  pub long : 2 * (count + fresh) ≤ length list₀
  pub inside : j ≤ fresh
  pub below : upto ≤ spacing * (count + j)
  pub walking : Walking p t upto at read
  pub list_is : list ≡ written p t count j list₀

pub marking_starts : (p : Position) (t list : List ℕ) (count fresh : ℕ) → Sound p (length t) → count + fresh ≤ most → 2 * (count + fresh) ≤ length list
    → Marking p t list count fresh list p 0 0
unfolding marks_from
marking_starts p t list count fresh s few long =
    record {
      upto = 0;
      sound = s;
      few = few;
      long = long;
      inside = omega arith;
      below = omega arith;
      walking = starts p t 0;
      list_is = rw add-zero (sym (take-append-drop (2 * count) list));
    }

module _ {p : Position} {t list₀ : List ℕ} {count fresh : ℕ} {list : List ℕ} {at : Position} {read j : ℕ} (m : Marking p t list₀ count fresh list at read j) where
  pub length_is : length list ≡ length list₀
  length_is = ap length m.list_is ∙ written_length p t count j list₀ (omega (arith, m.inside, m.long))

  pub lent_sound : Sound at (length (take (length t - read) (drop read t)))
  lent_sound = rw (lent t read) (still_sound m.walking m.sound)

  module _ (lt : j < fresh) {w : Walked} (is : w ≡ walked at (take (length t - read) (drop read t)) (spacing * (count + j))) where
    here : (w.at ≡ (walked p t (spacing * (count + j))).at) × (read + w.read ≡ (walked p t (spacing * (count + j))).read)
    here =
        let e : w ≡ walked at (drop read t) (spacing * (count + j)) = is ∙ ap (λ (l : List ℕ). walked at l (spacing * (count + j))) (lent t read) in (
          ap (λ (x : Walked). x.at) e ∙ walks_on m.walking (spacing * (count + j)) m.below,
          ap (λ (x : Walked). read + x.read) e ∙ reads_on m.walking (spacing * (count + j)) m.below,
        )

    pub read_within : read + w.read ≤ length t
    read_within = rw here.1 (came p t (spacing * (count + j))).within

    pub marks_one : Marking p t list₀ count fresh (set (set list (2 * (count + j)) w.at.place) (2 * (count + j) + 1) w.at.resets) w.at (read + w.read) (j + 1)
    marks_one =
        record {
          upto = spacing * (count + j);
          sound = m.sound;
          few = m.few;
          long = m.long;
          inside = omega arith;
          below = omega arith;
          walking = rw (here.0, here.1) (came p t (spacing * (count + j)));
          list_is = rw m.list_is (marked p t count j list₀ (omega (arith, m.long)) (rw here.0));
        }

-- Answers, numbers and sums of two logs that go on. Assumes nothing.
use mathlib.Core.Path.{◌≡◌, refl, sym, ap, ◌∙◌}
use mathlib.Core.Bool.{Bool, true, false, cond}
use mathlib.Core.List.{List, [], ◌∷◌, ◌++◌, map, append-nil, append_assoc}
use Prim.Native.Nat.{ℕ, zero, suc, ◌+◌, ◌*◌, ◌/◌, ◌%◌, ◌<◌, ◌≤◌, min}
use native.Mathlib.Nat.{add-zero, add-suc, suc-mul, add-mul, mul-le-mul_right, mul-add-div_right, mul-add-mod_self_right}
use native.Mathlib.Omega.{arith}
use lib.Dec.{ltb}
use lib.ListN.{length, get_or, take, drop, length-append, length-drop, drop_of_length-le}
use lib.Seq.{take-append-le, drop-append-le, drop-append-add}
use borrow.Author.Tests.{lt-ltb, le-ltb, ltb-true, ltb-false}
use Rattle.answers.specs.Answer.{stride}
use Rattle.tool_compare.specs.Answer.{same}
use Rattle.tool_compare.specs.Compare.{answer, differing, common, cut, surplus_of}
use Rattle.tool_compare.proofs.Accepted.{sums_of}

-- An answer within the beginning, and one behind its n answers.
module _ (bytes : ℕ) (log more : List ℕ) where
  answer_old : (k : ℕ) → k * bytes + bytes ≤ length log → answer bytes (log ++ more) k ≡ answer bytes log k
  answer_old k h =
      ap (take bytes) (drop-append-le (k * bytes) log more (omega arith)) ∙ take-append-le bytes (drop (k * bytes) log) more (simp length-drop (omega arith))

  module _ (n : ℕ) (long : length log ≡ n * bytes) where
    answer_new : (m : ℕ) → answer bytes (log ++ more) (n + m) ≡ answer bytes more m
    answer_new m = rw (add-mul n m bytes, ← long, drop-append-add log more (m * bytes))

    pub cut_more : cut bytes (log ++ more) ≡ cut bytes more
    cut_more = rw (length-append log more, long, mul-add-mod_self_right n bytes (length more))

    pub whole_more : length more % bytes ≡ 0 → length (log ++ more) % bytes ≡ 0
    whole_more h = rw (length-append log more, long, mul-add-mod_self_right n bytes (length more)) h

    pub answers_more : 0 < bytes → length (log ++ more) / bytes ≡ n + length more / bytes
    answers_more pos = rw (length-append log more, long, mul-add-div_right pos n (length more))

shifted : (n m : ℕ) (alike : Bool) → map (λ (k : ℕ). n + k) (cond alike [] (m ∷ [])) ≡ cond alike [] ((n + m) ∷ [])
shifted n m true = refl
shifted n m false = refl

map_append : (f : ℕ → ℕ) (xs ys : List ℕ) → map f (xs ++ ys) ≡ map f xs ++ map f ys
map_append f [] ys = refl
map_append f (x ∷ xs) ys = ap (λ (l : List ℕ). f x ∷ l) (map_append f xs ys)

module _ (bytes : ℕ) (a b c d : List ℕ) where
  pub differing_old : (k : ℕ) → k * bytes ≤ length a → k * bytes ≤ length b → differing bytes (a ++ c) (b ++ d) k ≡ differing bytes a b k
  unfolding differing
  differing_old zero p q = refl
  differing_old (suc k) p q =
      let e = suc-mul k bytes in
      rw (answer_old bytes a c k (omega arith), answer_old bytes b d k (omega arith), differing_old k (omega arith) (omega arith))

  module _ (n : ℕ) (first : length a ≡ n * bytes) (second : length b ≡ n * bytes) where
    pub differing_new : (m : ℕ)
        → differing bytes (a ++ c) (b ++ d) (n + m) ≡ differing bytes a b n ++ map (λ (k : ℕ). n + k) (differing bytes c d m)
    unfolding differing
    differing_new zero = rw (add-zero, append-nil) (differing_old n (omega arith) (omega arith))
    differing_new (suc m) =
        rw (add-suc, differing_new m, answer_new bytes a c n first m, answer_new bytes b d n second m, map_append, shifted n m (same (answer bytes c m) (answer bytes d m)), append_assoc)

    pub common_more : 0 < bytes → common bytes (a ++ c) (b ++ d) ≡ n + common bytes c d
    common_more pos = rw (answers_more bytes a c n first pos, answers_more bytes b d n second pos) (least n (length c / bytes) (length d / bytes))
      where
        least : (n x y : ℕ) → min (n + x) (n + y) ≡ n + min x y
        least n x y = omega arith

module _ (fs a b : List ℕ) where
  pub sums_append : (ks ls : List ℕ) → sums_of fs a b (ks ++ ls) ≡ sums_of fs a b ks ++ sums_of fs a b ls
  sums_append [] ls = refl
  sums_append (k ∷ ks) ls = rw (sums_append ks ls)

  module _ (c d : List ℕ) (n : ℕ) where
    pub sums_old : n * stride fs ≤ length a → n * stride fs ≤ length b → (ks : List ℕ) → ((i : ℕ) → i < length ks → get_or ks i 0 < n) → sums_of fs (a ++ c) (b ++ d) ks ≡ sums_of fs a b ks
    sums_old u v [] h = refl
    sums_old u v (k ∷ ks) h =
        let p : suc k * stride fs ≤ n * stride fs = mul-le-mul_right (stride fs) (h 0 (omega arith)) in
        let e = suc-mul k (stride fs) in
        rw (answer_old (stride fs) a c k (omega arith), answer_old (stride fs) b d k (omega arith), sums_old u v ks (λ i l. h (suc i) (omega arith)))

    pub sums_new : length a ≡ n * stride fs → length b ≡ n * stride fs → (ks : List ℕ) → sums_of fs (a ++ c) (b ++ d) (map (λ (k : ℕ). n + k) ks) ≡ sums_of fs c d ks
    sums_new u v [] = refl
    sums_new u v (k ∷ ks) = rw (answer_new (stride fs) a c n u k, answer_new (stride fs) b d n v k, sums_new u v ks)

-- The lengths in order, and the surplus, of logs whose beginnings are equally long.
shift_order : (m x y : ℕ) (t : Bool) → ltb x y ≡ t → ltb (m + x) (m + y) ≡ t
shift_order m x y true e = lt-ltb (m + x) (m + y) (omega (arith, ltb-true x y e))
shift_order m x y false e = le-ltb (m + x) (m + y) (omega (arith, ltb-false x y e))

module _ (a b c d : List ℕ) (even : length a ≡ length b) where
  pub order_more : ltb (length (a ++ c)) (length (b ++ d)) ≡ ltb (length c) (length d)
  order_more = rw (length-append a c, length-append b d, even) (shift_order (length b) (length c) (length d) (ltb (length c) (length d)) refl)

  pub surplus_more : surplus_of (a ++ c) (b ++ d) ≡ surplus_of c d
  surplus_more =
      let p : drop (length (a ++ c)) (b ++ d) ≡ drop (length c) d = rw (length-append a c, even) (drop-append-add b d (length c)) in
      let q : drop (length (b ++ d)) (a ++ c) ≡ drop (length d) c = rw (length-append b d, ← even) (drop-append-add a c (length d)) in
      rw (order_more, p, q)

-- Of a second log that is no shorter the surplus is what follows the first one's end.
by_order : (a b : List ℕ) (t : Bool) → ltb (length a) (length b) ≡ t → length a ≤ length b → cond t (drop (length a) b) (drop (length b) a) ≡ drop (length a) b
by_order a b true e h = refl
by_order a b false e h =
    let p = ltb-false (length a) (length b) e in
    drop_of_length-le a {i = length b} (omega arith) ∙ sym (drop_of_length-le b {i = length a} (omega arith))

pub surplus_second : (a b : List ℕ) → length a ≤ length b → surplus_of a b ≡ drop (length a) b
surplus_second a b h = by_order a b (ltb (length a) (length b)) refl h

pub surplus_grows : (a b c : List ℕ) → length a ≤ length b → surplus_of a (b ++ c) ≡ surplus_of a b ++ c
surplus_grows a b c h =
    let p : length a ≤ length (b ++ c) = simp length-append (omega arith) in
    rw (surplus_second a (b ++ c) p, surplus_second a b h) (drop-append-le (length a) b c h)

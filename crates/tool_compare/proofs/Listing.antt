-- The second pass: the numbers and sums of the differing answers, written to the front of a list. Assumes nothing.
use mathlib.Core.Path.{◌≡◌, refl, sym, ap, ◌∙◌}
use mathlib.Core.Bool.{Bool, true, false}
use mathlib.Core.List.{List, [], ◌∷◌, ◌++◌, append_assoc}
use Prim.Native.Nat.{ℕ, suc, ◌+◌, ◌-◌, ◌*◌, ◌<◌, ◌≤◌}
use native.Mathlib.Numerals.{add-one}
use native.Mathlib.Omega.{arith}
use lib.ListN.{length, set, take, drop, length-append, length-drop}
use lib.Seq.{sets-eq, take_at, drop_at, drop-drop}
use Rattle.answers.specs.Answer.{stride}
use Rattle.tool_compare.specs.Answer.{same, sum_of}
use Rattle.tool_compare.specs.Compare.{answer, differing, listed}
use Rattle.tool_compare.proofs.Differing.{Passing, passes, passing_starts, part, fewer, skipped, counted, counted_length}

module _ (fs a b : List ℕ) where
  pub listed_append : (ks ls : List ℕ) → listed fs a b (ks ++ ls) ≡ listed fs a b ks ++ listed fs a b ls
  listed_append [] ls = refl
  listed_append (k ∷ ks) ls =
      ap (λ (l : List ℕ). k ∷ sum_of fs (answer (stride fs) a k) (answer (stride fs) b k) ∷ l) (listed_append ks ls)

  pub listed_length : (ks : List ℕ) → length (listed fs a b ks) ≡ 2 * length ks
  listed_length [] = refl
  listed_length (k ∷ ks) = omega (arith, listed_length ks)

-- The pass at answer i: the differing answers before it stand at the front of the list, the rest of the list is as it was.
pub record Listing (fs : List ℕ) (bytes : ℕ) (a b : List ℕ) (n : ℕ) (list₀ list : List ℕ) (put at i : ℕ) : Type 0 where
  pub bytes_is : bytes ≡ stride fs
  pub room : 2 * length (differing bytes a b n) ≤ length list₀
  pub passing : Passing bytes a b n at i
  pub put_is : put ≡ 2 * length (differing bytes a b i)
  pub list_is : list ≡ listed fs a b (differing bytes a b i) ++ drop put list₀

pub listing_starts : (fs : List ℕ) (bytes : ℕ) (a b : List ℕ) (n : ℕ) (list₀ : List ℕ) → bytes ≡ stride fs
    → 2 * length (differing bytes a b n) ≤ length list₀ → n * bytes ≤ length a → n * bytes ≤ length b
    → Listing fs bytes a b n list₀ list₀ 0 0 0
unfolding differing
listing_starts fs bytes a b n list₀ e room p q =
    record { bytes_is = e; room = room; passing = passing_starts bytes a b n p q; put_is = refl; list_is = refl }

module _ {fs : List ℕ} {bytes : ℕ} {a b : List ℕ} {n : ℕ} {list₀ list : List ℕ} {put at i : ℕ} (g : Listing fs bytes a b n list₀ list put at i) where
  pub length_is : length list ≡ length list₀
  length_is =
      ap length g.list_is ∙ simp (length-append, length-drop, listed_length)
      (omega (arith, g.put_is, g.room, fewer bytes a b i n g.passing.inside))

  module _ (lt : i < n) {alike : Bool} (is : alike ≡ same (take (at + bytes - at) (drop at a)) (take (at + bytes - at) (drop at b))) where
    pub skips : alike ≡ true → Listing fs bytes a b n list₀ list put (at + bytes) (i + 1)
    skips e =
        let d = skipped g.passing lt is e in
        record {
          bytes_is = g.bytes_is;
          room = g.room;
          passing = passes g.passing lt;
          put_is = rw d g.put_is;
          list_is = rw d g.list_is;
        }

    pub fits : alike ≡ false → (put + 2 ≤ length list) × (length list ≡ length list₀)
    fits e = (omega (arith, length_is, g.put_is, g.room, counted_length g.passing lt is e, fewer bytes a b (i + 1) n (omega arith)), length_is)

    module _ {s : ℕ} (s-is : s ≡ sum_of fs (take (at + bytes - at) (drop at a)) (take (at + bytes - at) (drop at b))) where
      of_answers : s ≡ sum_of fs (answer (stride fs) a i) (answer (stride fs) b i)
      of_answers = s-is ∙ rw (part bytes a at i g.passing.at_is, part bytes b at i g.passing.at_is, g.bytes_is)

      pub puts : alike ≡ false → Listing fs bytes a b n list₀ (set (set list put i) (put + 1) s) (put + 2) (at + bytes) (i + 1)
      puts e =
          let ks = differing bytes a b i in
          let front : length (listed fs a b ks) ≡ put = listed_length fs a b ks ∙ sym g.put_is in
          let stored : set (set list put i) (suc put) s ≡ take put list ++ (i ∷ s ∷ []) ++ drop (put + 2) list = sets-eq (i ∷ s ∷ []) list put (fits e).0 in
          let kept : take put list ≡ listed fs a b ks = ap (take put) g.list_is ∙ take_at (listed fs a b ks) (drop put list₀) put front in
          let rest : drop (put + 2) list ≡ drop (put + 2) list₀ =
          sym (drop-drop 2 put list) ∙ ap (λ (l : List ℕ). drop 2 (drop put l)) g.list_is ∙ ap (drop 2) (drop_at (listed fs a b ks) (drop put list₀) put front) ∙ drop-drop 2 put list₀ in
          record {
            bytes_is = g.bytes_is;
            room = g.room;
            passing = passes g.passing lt;
            put_is = omega (arith, g.put_is, counted_length g.passing lt is e);
            list_is = rw (add-one put, stored, kept, rest, counted g.passing lt is e, listed_append, of_answers, append_assoc);
          }

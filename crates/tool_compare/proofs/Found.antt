-- The numbers of the differing answers are those of the answers that differ and no others, in order. Assumes nothing.
use mathlib.Core.Path.{◌≡◌, refl, sym, ◌∙◌}
use mathlib.Core.Bool.{Bool, true, false, cond}
use mathlib.Core.List.{List, [], ◌∷◌, ◌++◌, append-nil}
use mathlib.Core.Logic.{◌⊎◌, inl, inr, ⊎_elim}
use Prim.Native.Nat.{ℕ, zero, suc, ◌+◌, ◌<◌}
use native.Mathlib.Omega.{arith}
use lib.ListN.{length, get_or, length-append, get_or-append}
use lib.Seq.{get_or_at}
use lib.Dec.{ltb}
use borrow.Author.Tests.{ltb-true, ltb-false}
use Rattle.tool_compare.specs.Answer.{same}
use Rattle.tool_compare.specs.Compare.{answer, differing}
use Rattle.tool_compare.proofs.Alike.{same_equal, same_other}

by_order : (i n : ℕ) (t : Bool) → ltb i n ≡ t → i < suc n → (i < n) ⊎ (i ≡ n)
by_order i n true e h = inl (ltb-true i n e)
by_order i n false e h = inr (omega (arith, ltb-false i n e))

pub below_or_last : (i n : ℕ) → i < suc n → (i < n) ⊎ (i ≡ n)
below_or_last i n h = by_order i n (ltb i n) refl h

module _ (bytes : ℕ) (a b : List ℕ) where
  abbrev Other : ℕ → Type 0
  Other k = answer bytes a k ≡ answer bytes b k → ⊥

  -- What holds of a number found among the first n.
  pub record Found (n : ℕ) (ks : List ℕ) : Type 0 where
    pub each : (i : ℕ) → i < length ks → (get_or ks i 0 < n) × Other (get_or ks i 0)
    pub every : (k : ℕ) → k < n → Other k → (i : ℕ) × (i < length ks) × (get_or ks i 0 ≡ k)
    pub rising : (i j : ℕ) → i < j → j < length ks → get_or ks i 0 < get_or ks j 0

  module _ (ks : List ℕ) (n : ℕ) (f : Found n ks) where
    longer : length (ks ++ (n ∷ [])) ≡ length ks + 1
    longer = rw length-append

    old : (i : ℕ) → i < length ks → get_or (ks ++ (n ∷ [])) i 0 ≡ get_or ks i 0
    old i h = get_or-append ks (n ∷ []) 0 i h

    new : (i : ℕ) → i ≡ length ks → get_or (ks ++ (n ∷ [])) i 0 ≡ n
    new i e = get_or_at ks n [] 0 i (sym e)

    one_more : Other n → Found (suc n) (ks ++ (n ∷ []))
    one_more o =
        record {
          each = λ i h.
              ⊎_elim (λ l. let g = f.each i l in rw (old i l) (omega (arith, g.0), g.1))
              (λ e. rw (new i e) (omega arith, o)) (below_or_last i (length ks) (omega (arith, longer)));
          every = λ k h d.
              ⊎_elim (λ l. let g = f.every k l d in (g.0, omega (arith, g.1, longer), old g.0 g.1 ∙ g.2))
              (λ e. (length ks, omega (arith, longer), new (length ks) refl ∙ sym e)) (below_or_last k n h);
          rising = λ i j lt h.
              ⊎_elim (λ l. let p : i < length ks = omega arith in rw (old i p, old j l) (f.rising i j lt l))
              (λ e. let p : i < length ks = omega arith in rw (old i p, new j e) (f.each i p).0)
              (below_or_last j (length ks) (omega (arith, longer)));
        }

    no_more : answer bytes a n ≡ answer bytes b n → Found (suc n) ks
    no_more e =
        record {
          each = λ i h. let g = f.each i h in (omega (arith, g.0), g.1);
          every = λ k h d. ⊎_elim (λ l. f.every k l d) (λ q. absurd (d (rw q e))) (below_or_last k n h);
          rising = f.rising;
        }

  by_test : (ks : List ℕ) (n : ℕ) → Found n ks → (t : Bool) → same (answer bytes a n) (answer bytes b n) ≡ t → Found (suc n) (ks ++ cond t [] (n ∷ []))
  by_test ks n f true e = rw append-nil (no_more ks n f (same_equal _ _ e))
  by_test ks n f false e = one_more ks n f (same_other _ _ e)

  pub found : (n : ℕ) → Found n (differing bytes a b n)
  unfolding differing
  found zero = record { each = λ i h. absurd (omega arith); every = λ k h o. absurd (omega arith); rising = λ i j h l. absurd (omega arith) }
  found (suc n) = by_test (differing bytes a b n) n (found n) (same (answer bytes a n) (answer bytes b n)) refl

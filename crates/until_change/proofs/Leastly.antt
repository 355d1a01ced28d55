-- What `first_of` finds is so, and nothing before it is. Assumes nothing.
use mathlib.Core.Bool.{Bool, true, false, cond, false≢true}
use mathlib.Core.Path.{◌≡◌, refl, sym, ap, ◌∙◌}
use Prim.Native.Nat.{ℕ, zero, suc, ◌+◌, ◌-◌, ◌<◌, ◌≤◌}
use native.Mathlib.Omega.{arith}
use Rattle.std.specs.Prelude.{Option, Some, None}
use Rattle.qsm.specs.model.Event.{holds, does, step, clock_limit, answer_of}
use Rattle.qsm.proofs.Limit.{is_room}
use Rattle.until_change.specs.Change.{number, first_of, until_change, differs}
use Rattle.until_change.specs.Claims.{OfAHold, Least}

-- No number of none.
abbrev some : Option ℕ → Bool
some (Some n) = true
some None = false

record Found (p : ℕ → Bool) (k n found : ℕ) : Type 0 where
  is : p found ≡ true
  from : n ≤ found
  within : found < n + k
  first : (i : ℕ) → n ≤ i → i < found → p i ≡ false

module _ (p : ℕ → Bool) where
  -- By whether it is the first of them or a later one.
  at_or_after : (n i : ℕ) → n ≤ i → p n ≡ false → (n + 1 ≤ i → p i ≡ false) → p i ≡ false
  at_or_after n i low e later = go (i - n) refl
    where
      go : (d : ℕ) → i - n ≡ d → p i ≡ false
      go zero z = let here : i ≡ n = omega arith in ap p here ∙ e
      go (suc d) z = later (omega arith)

  found_least : (k n found : ℕ) → first_of p k n ≡ Some found → Found p k n found
  unfolding first_of
  found_least zero n found h = absurd (false≢true (ap some h))
  found_least (suc k) n found h = go (p n) refl h (found_least k (n + 1) found)
    where
      go : (b : Bool) → p n ≡ b → cond b (Some n) (first_of p k (n + 1)) ≡ Some found →
          (first_of p k (n + 1) ≡ Some found → Found p k (n + 1) found) → Found p (suc k) n found
      go true e h on =
          let same : n ≡ found = ap number h in
          record {
            is = sym (ap p same) ∙ e;
            from = omega arith;
            within = omega arith;
            first = λ i low high. absurd (omega arith);
          }
      go false e h on =
          let later : Found p k (n + 1) found = on h in
          record {
            is = later.is;
            from = omega (arith, later.from);
            within = omega (arith, later.within);
            first = λ i low high. at_or_after n i low e (λ past. later.first i past high);
          }

  pub none_found : (k n : ℕ) → first_of p k n ≡ None → (i : ℕ) → n ≤ i → i < n + k → p i ≡ false
  unfolding first_of
  none_found zero n h i low high = absurd (omega arith)
  none_found (suc k) n h i low high = go (p n) refl h (λ rest past. none_found k (n + 1) rest i past (omega arith))
    where
      go : (b : Bool) → p n ≡ b → cond b (Some n) (first_of p k (n + 1)) ≡ None →
          (first_of p k (n + 1) ≡ None → n + 1 ≤ i → p i ≡ false) → p i ≡ false
      go true e h on = absurd (false≢true (sym (ap some h)))
      go false e h on = at_or_after n i low e (on h)

pub least : Least
unfolding until_change
least m pins rxd n h =
    let f : Found (differs m pins rxd) (clock_limit - m.clock) 1 n = found_least (differs m pins rxd) (clock_limit - m.clock) 1 n h in
    (f.is, f.from, is_room m n (omega (arith, f.within, f.from)), f.first)

pub of_a_hold : OfAHold
unfolding step does holds answer_of
of_a_hold m pins rxd n lets = rw lets

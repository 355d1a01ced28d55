-- The last slash of a path. Assumes nothing.
use mathlib.Core.Path.{◌≡◌, refl, ap, ◌∙◌}
use mathlib.Core.List.{List}
use Prim.Native.Nat.{ℕ, suc, ◌+◌, ◌-◌, ◌≤◌, ◌<◌}
use native.Mathlib.Omega.{arith}
use lib.ListN.{get_or}
use borrow.Author.Tests.{eq-eqb, ne_eqb}
use Rattle.shell.specs.Folder.{folder_of}

none : (path : List ℕ) → folder_of 0 path ≡ 0
unfolding folder_of
none path = refl

pub empty : (n : ℕ) (path : List ℕ) → n ≤ 0 → folder_of n path ≡ 0
empty n path over = let zero_is : n ≡ 0 = omega (arith, over) in ap (λ (k : ℕ). folder_of k path) zero_is ∙ none path

slash : (m : ℕ) (path : List ℕ) → get_or path m 0 ≡ 47 → folder_of (suc m) path ≡ m + 1
unfolding folder_of
slash m path is = rw (eq-eqb _ _ is)

other : (m : ℕ) (path : List ℕ) → (get_or path m 0 ≡ 47 → ⊥) → folder_of (suc m) path ≡ folder_of m path
unfolding folder_of
other m path is = rw (ne_eqb _ _ is)

module _ (n : ℕ) (path : List ℕ) (some : 0 < n) where
  last : n ≡ suc (n - 1)
  last = omega (arith, some)

  pub stands : get_or path (n - 1) 0 ≡ 47 → folder_of n path ≡ n - 1 + 1
  stands is = ap (λ (k : ℕ). folder_of k path) last ∙ slash (n - 1) path is

  pub passes : (get_or path (n - 1) 0 ≡ 47 → ⊥) → folder_of n path ≡ folder_of (n - 1) path
  passes is = ap (λ (k : ℕ). folder_of k path) last ∙ other (n - 1) path is

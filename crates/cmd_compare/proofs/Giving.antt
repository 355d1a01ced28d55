-- Lines of text given to an output one after the other. Assumes nothing.
use mathlib.Core.Path.{◌≡◌, refl, ap, subst, ◌∙◌}
use mathlib.Core.List.{List, [], ◌∷◌, ◌++◌, append-nil, append_assoc}
use Prim.Native.Nat.{ℕ, ◌+◌, ◌*◌}
use native.Mathlib.Numerals.{add-one}
use native.Mathlib.Omega.{arith}
use lib.ListN.{get_or}
use Rattle.answers.specs.Field.{in_their_order}
use Rattle.answers.specs.declared.Field.{Field}
use Rattle.text.specs.Line.{Shows, empty}
use Rattle.text.specs.declared.log.Logged.{Logged}
use Rattle.console.specs.Output.{Gives}
use Rattle.console.specs.declared.output.Out.{Out}
use Rattle.console.proofs.Giving.{both}
use Rattle.console.proofs.Lines.{nothing}
use Rattle.cmd_compare.specs.Lines.{field_line, answer_lines, first_half, second_half, pair_lines, list_lines}

regroup : (a b c d : List ℕ) → ((a ++ b) ++ c) ++ d ≡ a ++ (b ++ (c ++ (d ++ [])))
regroup a b c d = simp (append_assoc, append-nil)

pub four : (o : Out) (buf a : List ℕ) (o₁ : Out) (buf₁ b : List ℕ) (o₂ : Out) (buf₂ c : List ℕ) (o₃ : Out) (buf₃ d : List ℕ) (o₄ : Out) (buf₄ : List ℕ)
    → Gives o buf a o₁ buf₁ → Gives o₁ buf₁ b o₂ buf₂ → Gives o₂ buf₂ c o₃ buf₃ → Gives o₃ buf₃ d o₄ buf₄
    → Gives o buf (a ++ (b ++ (c ++ (d ++ [])))) o₄ buf₄
four o buf a o₁ buf₁ b o₂ buf₂ c o₃ buf₃ d o₄ buf₄ g h i j =
    subst (λ (t : List ℕ). Gives o buf t o₄ buf₄) (regroup a b c d)
    (both o buf ((a ++ b) ++ c) o₃ buf₃ d o₄ buf₄ (both o buf (a ++ b) o₂ buf₂ c o₃ buf₃ (both o buf a o₁ buf₁ b o₂ buf₂ g h) i) j)

-- The lines of some fields and then of others.
pub lines_append : (n sum : ℕ) (x y : Logged) (fs gs : List Field)
    → answer_lines n sum x y fs ++ answer_lines n sum x y gs ≡ answer_lines n sum x y (fs ++ gs)
lines_append n sum x y [] gs = refl
lines_append n sum x y (f ∷ fs) gs =
    append_assoc (field_line n sum x y f) (answer_lines n sum x y fs) (answer_lines n sum x y gs)
    ∙ ap (λ (l : List ℕ). field_line n sum x y f ++ l) (lines_append n sum x y fs gs)

pub halves : (n sum : ℕ) (x y : Logged) (o : Out) (buf : List ℕ) (o₁ : Out) (buf₁ : List ℕ) (o₂ : Out) (buf₂ : List ℕ)
    → Gives o buf (answer_lines n sum x y first_half) o₁ buf₁ → Gives o₁ buf₁ (answer_lines n sum x y second_half) o₂ buf₂
    → Gives o buf (answer_lines n sum x y in_their_order) o₂ buf₂
halves n sum x y o buf o₁ buf₁ o₂ buf₂ g h =
    subst (λ (t : List ℕ). Gives o buf t o₂ buf₂) (lines_append n sum x y first_half second_half)
    (both o buf (answer_lines n sum x y first_half) o₁ buf₁ (answer_lines n sum x y second_half) o₂ buf₂ g h)

pub none_shown : Shows empty []
none_shown = record { line = refl; fits = omega arith }

-- The lines of a list, one pair after the other.
module _ (kind first : ℕ) (a b list : List ℕ) where
  pub starts : (o : Out) (buf : List ℕ) → Gives o buf (list_lines kind first a b list 0) o buf
  unfolding list_lines
  starts o buf = nothing o buf

  pub goes : (o : Out) (buf : List ℕ) (o₁ : Out) (buf₁ : List ℕ) (o₂ : Out) (buf₂ : List ℕ) (i : ℕ) → Gives o buf (list_lines kind first a b list i) o₁ buf₁
      → Gives o₁ buf₁ (pair_lines kind first a b (get_or list (2 * i) 0) (get_or list (2 * i + 1) 0)) o₂ buf₂
      → Gives o buf (list_lines kind first a b list (i + 1)) o₂ buf₂
  unfolding list_lines
  goes o buf o₁ buf₁ o₂ buf₂ i g h = rw (add-one i) (both o buf (list_lines kind first a b list i) o₁ buf₁ _ o₂ buf₂ g h)

-- A line with one text more and then another, and what it shows. Assumes nothing.
use mathlib.Core.Path.{◌≡◌, refl, ap, ◌∙◌}
use mathlib.Core.List.{List, [], ◌∷◌, ◌++◌, append-nil, append_assoc}
use Prim.Native.Nat.{ℕ, suc, ◌+◌, ◌-◌, ◌<◌, ◌≤◌}
use native.Mathlib.Numerals.{add-one}
use native.Mathlib.Omega.{arith}
use lib.ListN.{length, take, get_or, replicate, length-append}
use lib.Seq.{take-suc, set-append_seam}
use borrow.Author.Tests.{lt-ltb}
use Rattle.text.specs.Line.{room, empty, put, puts, Shows}
use Rattle.text.specs.declared.line.Line.{Line}

pub puts_none : (l : Line) → puts l [] ≡ l
unfolding puts
puts_none l = refl

puts_first : (l : Line) (b : ℕ) (t : List ℕ) → puts l (b ∷ t) ≡ puts (put l b) t
unfolding puts
puts_first l b t = refl

pub put_puts : (l : Line) (b : ℕ) → put l b ≡ puts l (b ∷ [])
unfolding puts
put_puts l b = refl

pub puts_append : (l : Line) (s t : List ℕ) → puts (puts l s) t ≡ puts l (s ++ t)
unfolding puts
puts_append l [] t = refl
puts_append l (b ∷ s) t = puts_append (put l b) s t

-- One byte more of a text.
pub puts_more : (l : Line) (t : List ℕ) (i : ℕ) → i < length t → put (puts l (take i t)) (get_or t i 0) ≡ puts l (take (i + 1) t)
puts_more l t i h = rw (put_puts, puts_append, add-one, take-suc t i 0 h)

-- ---- a text that fits is shown whole

-- A line of a text, with so many zeros behind it.
abbrev filled : List ℕ → ℕ → Line
filled s left = record { bytes = s ++ replicate left 0; length = length s }

put_filled : (s : List ℕ) (left b : ℕ) → length s < room → put (filled s (suc left)) b ≡ filled (s ++ (b ∷ [])) left
unfolding put
put_filled s left b h =
    rw (lt-ltb (length s) room h, set-append_seam s 0 (replicate left 0) b, append_assoc s (b ∷ []) (replicate left 0), length-append s (b ∷ []))

puts_filled : (s t : List ℕ) (left : ℕ) → length s + (length t + left) ≡ room → puts (filled s (length t + left)) t ≡ filled (s ++ t) left
puts_filled s [] left all = let none : 0 + left ≡ left = omega arith in rw (none, puts_none, append-nil)
puts_filled s (b ∷ t) left all =
    let more : suc (length t) + left ≡ suc (length t + left) = omega arith in
    rw (more, puts_first, put_filled s (length t + left) b (omega arith), puts_filled (s ++ (b ∷ [])) t left (simp length-append (omega arith)), append_assoc s (b ∷ []) t)

pub shows : (t : List ℕ) → length t ≤ room → Shows (puts empty t) t
shows t fits =
    let all : room ≡ length t + (room - length t) = omega arith in
    record { line = ap (λ (n : ℕ). puts (filled [] n) t) all ∙ puts_filled [] t (room - length t) (omega arith); fits = fits }

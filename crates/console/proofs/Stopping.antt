-- The line of a trace that stopped fits. Assumes nothing.
use mathlib.Core.Path.{◌≡◌, sym, ap, ◌∙◌}
use mathlib.Core.List.{List, [], ◌∷◌, ◌++◌, append_assoc}
use Prim.Native.Nat.{ℕ, ◌≤◌}
use native.Mathlib.Omega.{arith}
use lib.Dec.{eqb}
use lib.ListN.{length, length-append}
use Rattle.text.specs.Digits.{ascii, decimal}
use Rattle.text.specs.Line.{empty, puts, Shows}
use Rattle.text.specs.declared.line.Line.{Line}
use Rattle.text.proofs.Lengths.{either, decimal_length}
use Rattle.text.proofs.Puts.{puts_append, shows}
use Rattle.console.specs.Stop.{numbered, stop_words, at_byte, stop_line}

pub words_length : (why : ℕ) → length (stop_words why) ≤ 34
words_length why =
    either (eqb why 5) _ _ 34 (omega arith) (either (eqb why 6) _ _ 34 (omega arith) (omega arith))

module _ (words : List ℕ) (why place : ℕ) where
  made : puts (puts (puts empty (numbered why)) words) (at_byte place) ≡ puts empty (stop_line words why place)
  made =
      let before : List ℕ = numbered why ++ words in
      let middle : List ℕ = ascii ": record at byte " in
      let number : List ℕ = decimal 20 place in
      let end : List ℕ = 10 ∷ [] in
      ap (λ (l : Line). puts l (at_byte place)) (puts_append empty (numbered why) words) ∙ puts_append empty before (at_byte place)
      ∙ ap (puts empty) (sym (append_assoc before (middle ++ number) end))
      ∙ ap (λ (t : List ℕ). puts empty (t ++ end)) (sym (append_assoc before middle number))

  pub shown : length words ≤ 34 → Shows (puts (puts (puts empty (numbered why)) words) (at_byte place)) (stop_line words why place)
  shown short =
      rw made
      (shows (stop_line words why place) (simp length-append (omega (arith, decimal_length 3 why, short, decimal_length 20 place))))

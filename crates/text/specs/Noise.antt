-- Document 02, L1: the line of a word that enters SCDR, `3: noise 5`, and the line at the end, `words 12, noisy 2, worst 5`; and with L8 that of a line of
-- words, `line 7: noise total 9, worst 5`.
use Rattle.std.specs.Prelude.{List, [], ◌∷◌, ◌++◌, ℕ}
use Rattle.text.specs.Digits.{ascii, decimal, number}

abbrev pub noise_line : ℕ → ℕ → List ℕ
noise_line n figure = number n ++ ascii "noise " ++ decimal 3 figure ++ (10 ∷ [])

abbrev pub tally_line : ℕ → ℕ → ℕ → List ℕ
tally_line words noisy worst =
    ascii "words " ++ decimal 20 words ++ ascii ", noisy " ++ decimal 20 noisy ++ ascii ", worst " ++ decimal 3 worst ++ (10 ∷ [])

abbrev pub line_noise : ℕ → ℕ → ℕ → List ℕ
line_noise number total worst =
    ascii "line " ++ decimal 20 number ++ ascii ": noise total " ++ decimal 20 total ++ ascii ", worst " ++ decimal 3 worst ++ (10 ∷ [])

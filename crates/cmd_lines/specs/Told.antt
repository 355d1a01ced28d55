-- What a call told, as text: a line that is handed over; `lines: line 2 dropped: OR`; with --noise `line 2: noise total 5, worst 3` for each that ended.
use Rattle.std.specs.Prelude.{Bool, true, false, cond, List, [], ◌∷◌, ◌++◌, ℕ, eqb, take}
use Rattle.text.specs.Digits.{ascii, decimal}
use Rattle.text.specs.Noise.{line_noise}
use Rattle.tool_lines.specs.declared.line.Outcome.{Outcome}
use Rattle.tool_lines.specs.declared.line.Outcome.TheVariants.{Nothing, Handed, Dropped, Stopped, Ended, Refused}
use Rattle.tool_lines.specs.declared.noise.Noise.{Noise}

-- The first cause to drop a line.
abbrev pub cause_words : ℕ → List ℕ
cause_words cause =
    cond (eqb cause 1) (ascii "FE") (cond (eqb cause 2) (ascii "PF") (cond (eqb cause 3) (ascii "NF") (cond (eqb cause 4) (ascii "length") (ascii "OR"))))

abbrev pub drop_line : ℕ → ℕ → List ℕ
drop_line number cause = ascii "lines: line " ++ decimal 20 number ++ ascii " dropped: " ++ cause_words cause ++ (10 ∷ [])

-- The noise of a line that ended, if it is asked for.
abbrev pub noise_told : Bool → ℕ → Noise → List ℕ
noise_told true number noise = line_noise number noise.total noise.worst
noise_told false number noise = []

-- On standard output: a line's characters, and its end.
abbrev pub line_told : Outcome → List ℕ → List ℕ
line_told Nothing characters = []
line_told (Handed number n) characters = take n characters ++ (10 ∷ [])
line_told (Dropped number cause) characters = []
line_told (Stopped why) characters = []
line_told Ended characters = []
line_told (Refused why) characters = []

-- On standard error.
abbrev pub words_told : Bool → Outcome → Noise → List ℕ
words_told wanted Nothing noise = []
words_told wanted (Handed number n) noise = noise_told wanted number noise
words_told wanted (Dropped number cause) noise = drop_line number cause ++ noise_told wanted number noise
words_told wanted (Stopped why) noise = []
words_told wanted Ended noise = []
words_told wanted (Refused why) noise = []

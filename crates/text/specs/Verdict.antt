-- The line that says how two logs compare: `differ: 3 of 104 answers; B has 5 more`.
use Rattle.std.specs.Prelude.{cond, List, [], ◌∷◌, ◌++◌, ℕ, eqb}
use Rattle.text.specs.Digits.{ascii, decimal, hex_byte}
use Rattle.text.specs.Log.{foreign_kind}
use Rattle.text.specs.Message.{located}

abbrev pub equal_line : ℕ → List ℕ
equal_line answers = ascii "equal: " ++ decimal 20 answers ++ ascii " answers" ++ (10 ∷ [])

-- How many answers the log with that letter has more.
unfoldable pub more : ℕ → ℕ → List ℕ
more letter n = cond (eqb n 0) [] (ascii "; " ++ (letter ∷ []) ++ ascii " has " ++ decimal 20 n ++ ascii " more")

-- So many of the answers that both have differ, and one may have more.
abbrev pub differ_line : ℕ → ℕ → ℕ → ℕ → List ℕ
differ_line differing answers first second =
    ascii "differ: " ++ decimal 20 differing ++ ascii " of " ++ decimal 20 answers ++ ascii " answers" ++ more 65 first ++ more 66 second ++ (10 ∷ [])

-- Document 02, L2 and L9: 6 for a length that is no multiple of an answer's, 7 for a list that is too short.
unfoldable pub why : ℕ → List ℕ
why refusal =
    cond (eqb refusal 6) (ascii ", a log ends within an answer")
    (cond (eqb refusal 7) (ascii ", the list is too short") [])

abbrev pub refused_line : ℕ → List ℕ
refused_line refusal = ascii "refused: refusal " ++ decimal 3 refusal ++ why refusal ++ (10 ∷ [])

-- Document 02, L9: refusal 5, with the answer that does not begin with the logs' kind: which log's, where it stands, and what it begins with.
unfoldable pub expected : ℕ → List ℕ
expected kind = cond (foreign_kind kind) (ascii "10 or 11") (hex_byte kind)

abbrev pub other_line : ℕ → ℕ → ℕ → ℕ → ℕ → List ℕ
other_line letter answer place byte kind =
    ascii "refused: refusal 5, "
    ++ (letter ∷ [])
    ++ ascii ": "
    ++ located (ascii "answer ") answer place
    ++ ascii " begins with hex "
    ++ hex_byte byte
    ++ ascii ", not hex "
    ++ expected kind
    ++ (10 ∷ [])

-- What is said of a trace that stopped: `refusal 5, unknown record kind: record at byte 8`.
use Rattle.std.specs.Prelude.{cond, List, [], ◌∷◌, ◌++◌, ℕ, eqb}
use Rattle.trace.specs.declared.Stop.TheVariants as stop
use Rattle.text.specs.Digits.{ascii, decimal}
use Rattle.text.specs.Message as message

abbrev pub numbered : ℕ → List ℕ
numbered why = ascii "refusal " ++ decimal 3 why ++ ascii ", "

abbrev pub stop_words : ℕ → List ℕ
stop_words why =
    cond (eqb why 5) (message.stop_words stop.UnknownKind)
    (cond (eqb why 6) (message.stop_words stop.CutRecord) (message.stop_words stop.ClockLimit))

abbrev pub at_byte : ℕ → List ℕ
at_byte place = ascii ": record at byte " ++ decimal 20 place ++ (10 ∷ [])

-- The whole line, by the words that say why.
abbrev pub stop_line : List ℕ → ℕ → ℕ → List ℕ
stop_line words why place =
    ascii "refusal " ++ decimal 3 why ++ ascii ", " ++ words ++ ascii ": record at byte " ++ decimal 20 place ++ (10 ∷ [])

-- The words of a command, and a name made of two texts.
use Rattle.std.specs.Prelude.{Bool, true, false, cond, ◌&&◌, List, [], ◌∷◌, ◌++◌, ℕ, ◌+◌, ◌≤◌, eqb, ltb, length, get_or, drop}
use Rattle.files.specs.declared.words.Word.{Word}
use Rattle.files.specs.declared.words.Word.TheVariants.{Help, Version, First, Second, Unknown, Plain}

-- Two words have the same bytes.
unfoldable pub same : List ℕ → List ℕ → Bool
same [] [] = true
same [] (b ∷ t) = false
same (a ∷ s) [] = false
same (a ∷ s) (b ∷ t) = eqb a b && same s t

-- An option begins with a minus sign; that sign alone is none.
unfoldable pub is_option : List ℕ → Bool
is_option word = cond (ltb (length word) 2) false (eqb (get_or word 0 0) 45)

-- What a word is: the first of these that it is the same as; an option that is none of them is not known.
abbrev pub kind : List ℕ → List ℕ → List ℕ → List ℕ → List ℕ → Word
kind word help version first second =
    cond
    (is_option word)
    (cond
    (same word help)
    Help
    (cond (same word version) Version (cond (same word first) First (cond (same word second) Second Unknown))))
    Plain

-- A program goes on only with as many words as it expects.
abbrev pub Expected : ℕ → ℕ → ℕ → Type 0
Expected least most words = (least ≤ words) × (words ≤ most)

-- Two texts, one behind the other, at the start of a buffer, and their length; nothing where they don't fit.
abbrev pub joined_length : List ℕ → List ℕ → List ℕ → ℕ
joined_length a b buf = cond (ltb (length buf) (length a + length b)) 0 (length a + length b)

abbrev pub joined : List ℕ → List ℕ → List ℕ → List ℕ
joined a b buf = cond (ltb (length buf) (length a + length b)) buf (a ++ b ++ drop (length a + length b) buf)

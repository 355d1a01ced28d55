-- The options of a command, by name.
use Rattle.std.specs.Prelude.{cond, List, ℕ, eqb, ltb, map, Option, Some, None}
use Rattle.std.specs.Borrow.{Bor}
use Rattle.std.specs.List as list
use Rattle.files.specs.Words.{same, is_option}
use Rattle.shell.specs.declared.options.Kind.{Kind}
use Rattle.shell.specs.declared.options.Kind.TheVariants.{Plain, Help, Version, End, Flag, Valued, Unknown}

-- What the names of a list are, which code has as slices.
abbrev pub bytes_of : List (Bor (List ℕ)) → List (List ℕ)
bytes_of names = map (λ name. name.now) names

-- The number, from 0, of the first name that a word is.
abbrev pub place : List ℕ → List (List ℕ) → Option ℕ
place word names = list.position (same word) names

abbrev pub below_16 : Option ℕ → Option ℕ
below_16 (Some k) = cond (ltb k 16) (Some k) None
below_16 None = None

-- The number of the name that a word is; none where it is none of the first 16.
abbrev pub position : List ℕ → List (List ℕ) → Option ℕ
position word names = below_16 (place word names)

-- An option of the command's own: one that stands alone, or one that a value follows.
abbrev pub own : Option ℕ → Option ℕ → Kind
own (Some k) valued = Flag k
own None (Some k) = Valued k
own None None = Unknown

-- -h and --help are 0 and 1 of those of every command, --version 2, -- 3.
abbrev pub named : Option ℕ → Option ℕ → Option ℕ → Kind
named None flag valued = own flag valued
named (Some common) flag valued = cond (ltb common 2) Help (cond (eqb common 2) Version (cond (eqb common 3) End (own flag valued)))

abbrev pub kind_of : List ℕ → List (List ℕ) → List (List ℕ) → List (List ℕ) → Kind
kind_of word common flags valued =
    cond (is_option word) (named (position word common) (position word flags) (position word valued)) Plain

-- Pieces of two logs, added up.
use Rattle.std.specs.Prelude.{false, ◌||◌, ◌&&◌, Bool, ℕ, ◌-◌, ◌/◌, min, eqb}
use Rattle.files.specs.Pieces.{counted}
use Rattle.answers.specs.Answer.{stride_of}
use Rattle.tool_compare.specs.declared.Compared.{Compared}
use Rattle.cmd_compare.specs.declared.tally.Tally.{Tally}

-- Before the first piece.
abbrev pub nothing : Tally
nothing = record { kind = 0; cut = false; differing = 0; first = 0; second = 0 }

-- A piece more, of so many bytes of the first log and of the second: the differing answers join the count, and a log that ends within an
-- answer is remembered.
abbrev pub tallied : Tally → ℕ → ℕ → ℕ → Compared → Tally
tallied t kind a b r =
    record {
      kind = kind;
      cut = t.cut || eqb r.refusal 6;
      differing = counted t.differing r.count;
      first = counted t.first a;
      second = counted t.second b;
    }

-- The answers of a kind in so many bytes.
abbrev pub answers_in : ℕ → ℕ → ℕ
answers_in kind bytes = bytes / stride_of kind

-- The answers that both logs have, and those that a log has more than another, by their bytes.
abbrev pub answers_of : Tally → ℕ
answers_of t = answers_in t.kind (min t.first t.second)

abbrev pub more_of : ℕ → ℕ → ℕ → ℕ
more_of kind mine other = answers_in kind (mine - other)

-- No answer differs, and the logs are equally long.
abbrev pub equal : Tally → Bool
equal t = eqb t.differing 0 && eqb t.first t.second

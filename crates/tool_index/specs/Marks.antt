-- Document 02, L13: an index of a trace. Where records 0, 256, 512 and so on start, and how many resets came before each.
use Rattle.std.specs.Prelude.{cond, List, [], ◌∷◌, ◌++◌, ℕ, zero, suc, ◌+◌, ◌-◌, ◌*◌, ◌/◌, min, eqb, ltb, length, get_or, take, drop}
use Rattle.tool_index.specs.Records.{records, stop_of}
use Rattle.tool_index.specs.Walk.{start, past, walked, largest, possible}
use Rattle.tool_index.specs.declared.walk.Position.{Position}
use Rattle.tool_index.specs.declared.index.Indexed.{Indexed}

-- A mark is made for every so many records, and there are at most so many marks.
abbrev pub spacing : ℕ
spacing = 256

abbrev pub most : ℕ
most = 4096

-- How many marks so many records have.
abbrev pub marks_for : ℕ → ℕ
marks_for n = (n + 255) / spacing

-- Mark k, in a walk from p: where record 256 k starts, and how many resets came before it. Two numbers a mark.
abbrev pub mark : Position → List ℕ → ℕ → List ℕ
mark p t k = (walked p t (spacing * k)).at.place ∷ (walked p t (spacing * k)).at.resets ∷ []

-- So many marks, from mark k on.
unfoldable pub marks_from : Position → List ℕ → ℕ → ℕ → List ℕ
marks_from p t k zero = []
marks_from p t k (suc j) = marks_from p t k j ++ mark p t (k + j)

-- The marks that lent numbers have room for, and those of them that are there.
abbrev pub room : List ℕ → ℕ
room lent = min (length lent / 2) most

abbrev pub held : List ℕ → ℕ → ℕ
held lent count = min count (room lent)

-- How many marks are new after a walk to the end of t, where `count` are there.
abbrev pub fresh : Position → List ℕ → ℕ → ℕ
fresh p t count = marks_for (past p (records t)).number - count

-- What is left of the lent numbers, and what is given.
pub record Outcome : Type 0 where
  pub list : List ℕ
  pub given : Indexed

-- How many marks there are, or where it is refused there would be; how many records; where they end and how many resets are among them; the stop, 5, 6 or 0.
abbrev pub report : Position → List ℕ → ℕ → ℕ → Indexed
report p t count why =
    record {
      marks = count + fresh p t count;
      records = (past p (records t)).number;
      place = (past p (records t)).place;
      resets = (past p (records t)).resets;
      stop = stop_of t;
      refusal = why;
    }

-- The new marks behind those that are there; every other number is as it was.
abbrev pub grown : Position → List ℕ → List ℕ → ℕ → List ℕ
grown p t lent count =
    take (2 * count) lent ++ (marks_from p t count (fresh p t count) ++ drop (2 * (count + fresh p t count)) lent)

-- A walk from p through t, with `count` marks there: 7 if more are needed than there is room for, and then every number is as it was.
abbrev pub indexed_from : Position → List ℕ → List ℕ → ℕ → Outcome
indexed_from p t lent count =
    cond (ltb (room lent) (count + fresh p t count)) (record { list = lent; given = report p t count 7 })
    (record { list = grown p t lent count; given = report p t count 0 })

-- Building afresh.
unfoldable pub built : List ℕ → List ℕ → Outcome
built t lent = indexed_from start t lent 0

-- Mark k of lent numbers: the position of record 256 k.
abbrev pub mark_at : List ℕ → ℕ → Position
mark_at lent k = record { number = spacing * k; place = get_or lent (2 * k) 0; resets = get_or lent (2 * k + 1) 0 }

-- Of so many marks the one for record n, or the last; the start where there is none.
abbrev pub mark_for : List ℕ → ℕ → ℕ → Position
mark_for lent count n = cond (eqb count 0) start (mark_at lent (min (n / spacing) (count - 1)))

-- Adding records at the end: the walk goes on from the last mark. Marks that no trace of this length has are none.
abbrev pub extended_from : Position → List ℕ → List ℕ → ℕ → Outcome
extended_from p t lent count =
    cond (possible p (length t)) (indexed_from p (drop p.place t) lent count) (indexed_from start t lent 0)

unfoldable pub extended : List ℕ → List ℕ → ℕ → Outcome
extended t lent count = extended_from (mark_for lent (held lent count) largest) t lent (held lent count)

-- Nothing is walked from a position that no trace has: 2, and every number is as it was.
abbrev pub nowhere : Position → List ℕ → ℕ → Outcome
nowhere p lent count =
    record {
      list = lent;
      given =
          record { marks = count; records = p.number; place = p.place; resets = p.resets; stop = 0; refusal = 2 };
    }

-- The next piece of a trace, from the position that the last one left.
unfoldable pub gone_on : Position → List ℕ → List ℕ → ℕ → Outcome
gone_on p t lent count =
    cond (possible p (largest - length t)) (indexed_from p t lent (held lent count)) (nowhere p lent (held lent count))

-- Document 02, L6: the records of a buffer. Kinds are in hex, fields are big-endian.
use Rattle.std.specs.Prelude.{cond, Result, Ok, Err, List, [], ◌∷◌, ℕ, zero, suc, ◌+◌, eqb, ltb, length, get_or, drop}
use Rattle.steps.specs.Bits.{word, upper_byte, lower_byte}
use Rattle.tool_editions.specs.declared.records.Edition.{Edition}
use Rattle.tool_editions.specs.declared.records.Record.{Record}
use Rattle.tool_editions.specs.declared.records.Record.TheVariants.{Added, Withdrawn}
use Rattle.tool_editions.specs.declared.records.Unreadable.{Unreadable}
use Rattle.tool_editions.specs.declared.records.Unreadable.TheVariants.{Unknown, Cut}

-- The edition that a record adds or withdraws.
abbrev pub number_of : Record → ℕ
number_of (Added e) = e.number
number_of (Withdrawn n) = n

-- The bytes of a record: a kind and five words, or a kind and a word.
abbrev pub size_of : Record → ℕ
size_of (Added e) = 11
size_of (Withdrawn n) = 3

abbrev pub word_at : List ℕ → ℕ → ℕ
word_at t i = word (get_or t i 0) (get_or t (i + 1) 0)

abbrev pub edition_at : List ℕ → Edition
edition_at t =
    record {
      number = word_at t 1;
      sccr0 = word_at t 3;
      sccr1 = word_at t 5;
      spcr0 = word_at t 7;
      spcr1 = word_at t 9;
    }

-- A record of a known kind at the start of t, unless the end of t cuts it.
abbrev pub whole : List ℕ → Record → Result Record Unreadable
whole t r = cond (ltb (length t) (size_of r)) (Err Cut) (Ok r)

-- 21, edition, SCCR0, SCCR1, SPCR0, SPCR1; 22, edition withdraws one.
abbrev pub by_kind : ℕ → List ℕ → Result Record Unreadable
by_kind kind t =
    cond (eqb kind 0x21) (whole t (Added (edition_at t)))
    (cond (eqb kind 0x22) (whole t (Withdrawn (word_at t 1)))
    (Err Unknown))

-- The record at the start of t.
unfoldable pub parsed : List ℕ → Result Record Unreadable
parsed t = cond (eqb (length t) 0) (Err Cut) (by_kind (get_or t 0 0) t)

-- The bytes of a record.
abbrev pub bytes_of : Record → List ℕ
bytes_of (Added e) =
    0x21 ∷
    upper_byte e.number ∷
    lower_byte e.number ∷
    upper_byte e.sccr0 ∷
    lower_byte e.sccr0 ∷
    upper_byte e.sccr1 ∷
    lower_byte e.sccr1 ∷
    upper_byte e.spcr0 ∷
    lower_byte e.spcr0 ∷
    upper_byte e.spcr1 ∷
    lower_byte e.spcr1 ∷
    []
bytes_of (Withdrawn n) = 0x22 ∷ upper_byte n ∷ lower_byte n ∷ []

-- What `on` gives behind the record at the start of t; nothing if there is none.
abbrev pub followed : (List ℕ → List Record) → List ℕ → Result Record Unreadable → List Record
followed on t (Ok r) = r ∷ on (drop (size_of r) t)
followed on t (Err why) = []

-- The first records of t, at most so many.
unfoldable pub first : ℕ → List ℕ → List Record
first zero t = []
first (suc k) t = followed (first k) t (parsed t)

-- Document 02, L13: an index of three marks, one that an extension writes, and marks of another trace, computed.
use Rattle.std.specs.Prelude.{◌≡◌, List, [], ◌∷◌, ◌++◌, ℕ, zero, suc, replicate}
use Rattle.tool_index.specs.Marks.{Outcome, built, extended}
use Rattle.tool_index.specs.Find.{looked_up}

-- So many times a reset, a hold, a read, a write and a long hold: 25 bytes, five records, one of them a reset.
abbrev pub five : List ℕ
five =
    0x01 ∷ 0x02 ∷ 0 ∷ 0 ∷ 0 ∷ 1 ∷ 0x03 ∷ 0x82 ∷ 0 ∷ 0x0C ∷ 0x04 ∷ 0x82 ∷ 0 ∷ 0x0C ∷ 0 ∷ 0 ∷ 0 ∷ 0 ∷ 0x05 ∷ 0 ∷ 0 ∷ 0 ∷ 0 ∷ 0 ∷ 1 ∷ []

abbrev pub fives : ℕ → List ℕ
fives zero = []
fives (suc n) = five ++ fives n

abbrev pub lent : List ℕ
lent = replicate 7 9

abbrev pub short : Outcome
short = built (fives 51) lent

pub record Cases : Type 0 where
  -- 515 records: 256 is the second of its five, 512 the third; then a kind that is unknown, and one that is cut.
  pub three_marks :
      built (fives 103 ++ (0x77 ∷ [])) lent
      ≡ record {
        list = 0 ∷ 0 ∷ 1276 ∷ 52 ∷ 2556 ∷ 103 ∷ 9 ∷ [];
        given = record { marks = 3; records = 515; place = 2575; resets = 103; stop = 5; refusal = 0 };
      }
  pub cut : (built (fives 1 ++ (0x04 ∷ 0x82 ∷ [])) lent).given ≡ record { marks = 1; records = 5; place = 25; resets = 1; stop = 6; refusal = 0 }
  pub nothing : (built [] lent).given ≡ record { marks = 0; records = 0; place = 0; resets = 0; stop = 0; refusal = 0 }
  -- Five numbers have room for two marks.
  pub no_room : (built (fives 103) (replicate 5 9)).given.refusal ≡ 7
  pub no_room_list : (built (fives 103) (replicate 5 9)).list ≡ replicate 5 9
  -- 255 records have one mark; 515 have two more, which the extension writes.
  pub one_mark : short.list ≡ 0 ∷ 0 ∷ 9 ∷ 9 ∷ 9 ∷ 9 ∷ 9 ∷ []
  pub extension : (extended (fives 103) short.list short.given.marks).list ≡ 0 ∷ 0 ∷ 1276 ∷ 52 ∷ 2556 ∷ 103 ∷ 9 ∷ []
  pub extension_marks : (extended (fives 103) short.list short.given.marks).given.marks ≡ 3
  pub by_a_mark : looked_up (fives 103) (0 ∷ 0 ∷ 1276 ∷ 52 ∷ 2556 ∷ 103 ∷ []) 3 513 ≡ record { place = 2560; resets = 103; walked = 1; refusal = 0 }
  pub last : (looked_up (fives 103) (0 ∷ 0 ∷ 1276 ∷ 52 ∷ 2556 ∷ 103 ∷ []) 3 514).place ≡ 2568
  pub none : (looked_up (fives 103) (0 ∷ 0 ∷ 1276 ∷ 52 ∷ 2556 ∷ 103 ∷ []) 3 515).refusal ≡ 2
  -- Marks that no trace so long has: an answer comes, here the walk's.
  pub others : looked_up (fives 52) (0 ∷ 0 ∷ 9999 ∷ 52 ∷ []) 2 257 ≡ record { place = 1281; resets = 52; walked = 257; refusal = 0 }

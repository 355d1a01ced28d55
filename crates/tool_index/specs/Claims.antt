-- All that is shown of an index of a trace.
use Rattle.std.specs.Prelude.{◌≡◌, List, [], ◌∷◌, ℕ}
use Rattle.tool_index.specs.Marks.{built}
use Rattle.tool_index.specs.Find.{looked_up}
use Rattle.tool_index.specs.Laws.{Builds, MarksAre, NoneMissing, Finds, Near, Behind, Extends, KeepsOld, InPieces, WalksOn}

-- A trace that the laws speak of: two resets and a read that is cut. Its one mark stands in front of what was lent.
abbrev pub two : List ℕ
two = 0x01 ∷ 0x01 ∷ 0x03 ∷ 0x82 ∷ []

pub record Example : Type 0 where
  pub index : built two (9 ∷ 9 ∷ 9 ∷ [])
      ≡ record { list = 0 ∷ 0 ∷ 9 ∷ []; given = record { marks = 1; records = 2; place = 2; resets = 2; stop = 6; refusal = 0 } }
  pub second : looked_up two (0 ∷ 0 ∷ 9 ∷ []) 1 1 ≡ record { place = 1; resets = 1; walked = 1; refusal = 0 }
  pub third : looked_up two (0 ∷ 0 ∷ 9 ∷ []) 1 2 ≡ record { place = 0; resets = 0; walked = 2; refusal = 2 }
  pub full : built two (9 ∷ [])
      ≡ record { list = 9 ∷ []; given = record { marks = 1; records = 2; place = 2; resets = 2; stop = 6; refusal = 7 } }

pub record Claims : Type 0 where
  pub builds : Builds
  pub marks_are : MarksAre
  pub none_missing : NoneMissing
  pub finds : Finds
  pub near : Near
  pub behind : Behind
  pub extends : Extends
  pub keeps_old : KeepsOld
  pub in_pieces : InPieces
  pub walks_on : WalksOn
  pub example : Example

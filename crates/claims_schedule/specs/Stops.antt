-- Document 02, L8: which accesses of a trace stop a replay before them with 3, by width and offset; and what a call is refused for.
use Rattle.std.specs.Prelude.{◌≡◌, ◌⊎◌, Bool, true, false, cond, ◌&&◌, ◌||◌, List, [], ◌∷◌, ℕ, ◌+◌, ◌-◌, ◌*◌, ◌%◌, ◌^◌, ◌<◌, ◌≤◌, eqb, ltb, leb, length, drop}
use Rattle.tool_lines.specs.Call.{turned, turn, called}
use Rattle.tool_lines.specs.Stop.{number_of, refusal_of}
use Rattle.tool_lines.specs.declared.line.Outcome.{Outcome}
use Rattle.tool_lines.specs.declared.line.Outcome.TheVariants.{Nothing, Stopped, Ended, Refused}
use Rattle.tool_lines.specs.declared.stop.Stop.TheVariants as stop
use Rattle.tool_lines.specs.declared.stop.Refusal.TheVariants.{Period, Room}
use Rattle.tool_lines.specs.declared.Lines.{Lines}

-- ---- accesses

-- It passes 1 and 2 and touches a byte of 0C to 0F: a byte there, a word at 0C or 0E, a long at 0A or 0C. A long at 0E reaches into the hole at 10.
abbrev pub touching : ℕ → ℕ → Bool
touching width offset =
    cond (eqb width 1) (leb 0x0C offset && leb offset 0x0F)
    (cond (eqb width 2) (eqb offset 0x0C || eqb offset 0x0E) (cond (eqb width 4) (eqb offset 0x0A || eqb offset 0x0C) false))

-- A value that is not too big for its width.
abbrev pub small : ℕ → ℕ → Bool
small width value = cond (eqb width 1) (ltb value 0x100) (cond (eqb width 2) (ltb value 0x10000) (ltb value 0x100000000))

abbrev pub stopped_by3 : Outcome
stopped_by3 = Stopped stop.Access

abbrev pub stopped_by5 : Outcome
stopped_by5 = Stopped stop.UnknownKind

abbrev pub stopped_by6 : Outcome
stopped_by6 = Stopped stop.CutRecord

abbrev pub stopped_by10 : Outcome
stopped_by10 = Stopped stop.ClockLimit

-- The replay stands at an access: with 3 it stays before it; else it goes on, with nothing to tell.
pub record Meets (stops : Bool) (period : ℕ) (t : List ℕ) (s : Lines) : Type 0 where
  pub stays : stops ≡ true → turn period t s ≡ turned s stopped_by3
  pub goes_on : stops ≡ false → (turn period t s).outcome ≡ Nothing
  -- This is the number that a host is told.
  pub number : number_of stop.Access ≡ 3

-- 03: width with bit 7 for supervisor, offset (2).
abbrev pub Reads : Type 0
Reads =
    (period : ℕ) (t : List ℕ) (s : Lines) (w h l : ℕ) (rest : List ℕ) → s.left ≡ 0 → drop s.at t ≡ 0x03 ∷ w ∷ h ∷ l ∷ rest →
    Meets (touching (w % 128) (h * 256 + l)) period t s

-- 04: width likewise, offset (2), value (4).
abbrev pub Writes : Type 0
Writes =
    (period : ℕ) (t : List ℕ) (s : Lines) (w h l a b c d : ℕ) (rest : List ℕ) → s.left ≡ 0 →
    drop s.at t ≡ 0x04 ∷ w ∷ h ∷ l ∷ a ∷ b ∷ c ∷ d ∷ rest →
    Meets (touching (w % 128) (h * 256 + l) && small (w % 128) ((a * 256 + b) * 65536 + (c * 256 + d))) period t s

-- ---- other records

-- What the replay stands at, with no hold under way.
abbrev pub StandsAt : List ℕ → List ℕ → Lines → Type 0
StandsAt ahead t s = (s.left ≡ 0) × (drop s.at t ≡ ahead)

-- It stays before a kind other than 01 to 05 with 5, before a cut record with 6, and before a hold that would pass 2^64 - 1 clocks with 10.
pub record StaysBefore (period : ℕ) (t : List ℕ) (s : Lines) (rest : List ℕ) : Type 0 where
  pub unknown :
      (kind : ℕ) → StandsAt (kind ∷ rest) t s → (kind ≡ 1 → ⊥) → (kind ≡ 2 → ⊥) → (kind ≡ 3 → ⊥) → (kind ≡ 4 → ⊥) → (kind ≡ 5 → ⊥) →
      turn period t s ≡ turned s stopped_by5
  pub cut_hold : StandsAt (0x02 ∷ rest) t s → length rest < 4 → turn period t s ≡ turned s stopped_by6
  pub cut_read : StandsAt (0x03 ∷ rest) t s → length rest < 3 → turn period t s ≡ turned s stopped_by6
  pub cut_write : StandsAt (0x04 ∷ rest) t s → length rest < 7 → turn period t s ≡ turned s stopped_by6
  pub cut_long_hold : StandsAt (0x05 ∷ rest) t s → length rest < 6 → turn period t s ≡ turned s stopped_by6
  pub hold :
      (pins rxd h l : ℕ) → StandsAt (0x02 ∷ pins ∷ rxd ∷ h ∷ l ∷ rest) t s → 2 ^ 64 - 1 < s.device.clock + (h * 256 + l) →
      turn period t s ≡ turned s stopped_by10
  pub long_hold_holds :
      (pins rxd a b c d : ℕ) → StandsAt (0x05 ∷ pins ∷ rxd ∷ a ∷ b ∷ c ∷ d ∷ rest) t s →
      2 ^ 64 - 1 < s.device.clock + ((a * 256 + b) * 65536 + (c * 256 + d)) → turn period t s ≡ turned s stopped_by10
  -- These are the numbers that a host is told.
  pub numbers : (number_of stop.UnknownKind ≡ 5) × (number_of stop.CutRecord ≡ 6) × (number_of stop.ClockLimit ≡ 10)

abbrev pub Others : Type 0
Others = (period : ℕ) (t : List ℕ) (s : Lines) (rest : List ℕ) → StaysBefore period t s rest

-- ---- calls

-- A period of 0 or above 65,535 is 1, whatever the buffer; then a buffer under 128 bytes is 7. Either leaves the state.
pub record Refusals (period : ℕ) (t : List ℕ) (room : ℕ) (s : Lines) : Type 0 where
  pub is_1 : (period ≡ 0) ⊎ (65535 < period) → called period t room s ≡ turned s (Refused Period)
  pub is_7 : 0 < period → period ≤ 65535 → room < 128 → called period t room s ≡ turned s (Refused Room)
  -- These are the numbers that a host is told.
  pub numbers : (refusal_of Period ≡ 1) × (refusal_of Room ≡ 7)
  -- At a trace's end a call that is not refused ends.
  pub ends : 0 < period → period ≤ 65535 → 128 ≤ room → s.left ≡ 0 → called period [] room s ≡ turned s Ended

abbrev pub CallRefusals : Type 0
CallRefusals = (period : ℕ) (t : List ℕ) (room : ℕ) (s : Lines) → Refusals period t room s

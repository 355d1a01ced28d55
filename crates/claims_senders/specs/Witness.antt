-- Frames played: fair ones that reach each figure; and lines that show that neither bound, nor either half of the condition, can be weakened.
use Rattle.std.specs.Prelude.{Bool, true, false, cond, not, ◌&&◌, List, [], ◌∷◌, ◌≡◌, ℕ}
use Rattle.claims_senders.specs.Fair.{Bit, Count, EarlyBy, LateBy, longer, following, FairBy}
use Rattle.claims_senders.specs.Fair.{SentFrame, FrameBy, FairFrame, FairFrames, line, word_of}
use Rattle.claims_senders.specs.Heard.{Ended, heard_of}

abbrev one : ℕ → Bit
one t = record { level = true; lasts = t }

abbrev nil : ℕ → Bit
nil t = record { level = false; lasts = t }

abbrev frame : ℕ → List Bit → ℕ → SentFrame
frame start bits stop = record { start = start; bits = bits; stop = stop }

abbrev ended : ℕ → ℕ → ℕ → Bool → Ended
ended at word noise stop = record { sample = at; frame = record { word = word; noise = noise; stop = stop } }

-- 41 at exact rate.
abbrev pub exact : SentFrame
exact = frame 16 (one 16 ∷ nil 16 ∷ nil 16 ∷ nil 16 ∷ nil 16 ∷ nil 16 ∷ one 16 ∷ nil 16 ∷ []) 16

-- 05 with changes at samples 16, 38, 54, 71, 151 and the next start at 161; 01 with changes at 16, 26, 138.
abbrev pub late_end : SentFrame
late_end = frame 16 (one 22 ∷ nil 16 ∷ one 17 ∷ nil 16 ∷ nil 16 ∷ nil 16 ∷ nil 16 ∷ nil 16 ∷ []) 10

abbrev pub soon_end : SentFrame
soon_end = frame 16 (one 10 ∷ nil 16 ∷ nil 16 ∷ nil 16 ∷ nil 16 ∷ nil 16 ∷ nil 16 ∷ nil 16 ∷ []) 16

-- The same with 9 bits.
abbrev pub late_end9 : SentFrame
late_end9 = frame 16 (one 22 ∷ nil 16 ∷ one 17 ∷ nil 16 ∷ nil 16 ∷ nil 16 ∷ nil 16 ∷ nil 16 ∷ nil 16 ∷ []) 10

abbrev pub soon_end9 : SentFrame
soon_end9 = frame 16 (one 10 ∷ nil 16 ∷ nil 16 ∷ nil 16 ∷ nil 16 ∷ nil 16 ∷ nil 16 ∷ nil 16 ∷ nil 16 ∷ []) 16

abbrev pub extreme : List SentFrame
extreme = late_end ∷ soon_end ∷ []

abbrev pub extreme9 : List SentFrame
extreme9 = late_end9 ∷ soon_end9 ∷ []

-- The condition with other bounds, or another way to go on counting: from the last fall alone, from the start alone.
abbrev By : ℕ → ℕ → (Bool → Bit → List Count → List Count) → SentFrame → Type 0
By early late next = FrameBy (FairBy (EarlyBy early 1) (LateBy late 1) next)

abbrev pub last_fall : Bool → Bit → List Count → List Count
last_fall was b cs = cond (was && not b.level) (record { bits = 1; clocks = b.lasts } ∷ []) (longer b.lasts cs)

abbrev pub start_only : Bool → Bit → List Count → List Count
start_only was b cs = longer b.lasts cs

-- 0F with changes at samples 16, 87, 158.
abbrev pub last_fall_alone : SentFrame
last_fall_alone = frame 16 (one 16 ∷ one 16 ∷ one 16 ∷ one 23 ∷ nil 16 ∷ nil 16 ∷ nil 16 ∷ nil 23 ∷ []) 16

-- 81 with changes at samples 16, 26, 135, 144.
abbrev pub start_alone : SentFrame
start_alone = frame 16 (one 10 ∷ nil 16 ∷ nil 16 ∷ nil 16 ∷ nil 16 ∷ nil 16 ∷ nil 29 ∷ one 9 ∷ []) 16

-- FF, with the next start 153 samples after its own.
abbrev pub early : SentFrame
early = frame 16 (one 16 ∷ one 16 ∷ one 16 ∷ one 16 ∷ one 16 ∷ one 16 ∷ one 16 ∷ one 16 ∷ []) 9

-- The next frame, and a pause.
abbrev pub next : SentFrame
next = frame 16 (one 16 ∷ nil 16 ∷ nil 16 ∷ nil 16 ∷ nil 16 ∷ nil 16 ∷ one 16 ∷ nil 16 ∷ []) 64

-- 00 with the stop bit after 152 samples.
abbrev pub late : SentFrame
late = frame 16 (nil 16 ∷ nil 16 ∷ nil 16 ∷ nil 16 ∷ nil 16 ∷ nil 16 ∷ nil 16 ∷ nil 24 ∷ []) 16

pub record Played : Type 0 where
  pub exactly : FairFrames 1 8 (exact ∷ []) × (heard_of 8 (line (exact ∷ [])) ≡ ended 154 0x41 0 true ∷ [])
  -- The latest end, the earliest, and two ends as near as can be.
  pub reached : FairFrames 1 8 extreme × (heard_of 8 (line extreme) ≡ ended 161 0x05 0 true ∷ ended 309 0x01 0 true ∷ [])
  pub reached9 : FairFrames 1 9 extreme9 × (heard_of 9 (line extreme9) ≡ ended 177 0x05 0 true ∷ ended 341 0x01 0 true ∷ [])
  -- From the last fall alone: FE. From the start alone: another word, with no flag.
  pub fe : By 6 7 last_fall last_fall_alone × (heard_of 8 (line (last_fall_alone ∷ [])) ≡ ended 154 0x0F 0 false ∷ [])
  pub wrong : (word_of start_alone ≡ 0x81) × By 6 7 start_only start_alone × (heard_of 8 (line (start_alone ∷ [])) ≡ ended 148 0x01 0 true ∷ [])
  -- A sample more early: noise, and then another word, with no flag. A sample more late: noise.
  pub noisy : By 7 7 following early × FairFrame 1 next × (word_of next ≡ 0x41)
      × (heard_of 8 (line (early ∷ next ∷ [])) ≡ ended 154 0xFF 1 true ∷ ended 339 0xD0 0 true ∷ [])
  pub disturbed : By 6 8 following late × (heard_of 8 (line (late ∷ [])) ≡ ended 154 0x00 1 true ∷ [])

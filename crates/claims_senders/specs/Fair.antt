-- A sender that is not exact: frames whose bits last as they will, and what is asked of them. A sample lasts s clocks; with s = 1 all lengths
-- are in samples.
use Rattle.std.specs.Prelude.{Bool, true, false, cond, not, ◌&&◌, List, [], ◌∷◌, ◌++◌, ◌≡◌, ℕ, suc, ◌+◌, ◌*◌, ◌≤◌, replicate, length}
use Rattle.std.specs.Bool.{beq}
use Rattle.sci.specs.claims.Levels.{value}

-- A bit's level and how long it lasts.
pub record Bit : Type 0 where
  pub level : Bool
  pub lasts : ℕ

-- What went by since the start, or since a fall: bits, and clocks.
pub record Count : Type 0 where
  pub bits : ℕ
  pub clocks : ℕ

-- No more than so many samples early, or late.
abbrev pub EarlyBy : ℕ → ℕ → Count → Type 0
EarlyBy by s c = 16 * c.bits * s ≤ c.clocks + by * s

abbrev pub LateBy : ℕ → ℕ → Count → Type 0
LateBy by s c = c.clocks ≤ (16 * c.bits + by) * s

unfoldable pub Each : (Count → Type 0) → List Count → Type 0
Each P [] = Unit {0}
Each P (c ∷ cs) = P c × Each P cs

-- Every count with one bit more.
unfoldable pub longer : ℕ → List Count → List Count
longer t [] = []
longer t (c ∷ cs) = record { bits = suc c.bits; clocks = c.clocks + t } ∷ longer t cs

-- After a bit; a fall begins a count of its own.
abbrev pub following : Bool → Bit → List Count → List Count
following was b cs =
    cond (was && not b.level) (record { bits = 1; clocks = b.lasts } ∷ longer b.lasts cs) (longer b.lasts cs)

-- Bits after a level `was`, with the counts so far. Where the level changes all of them are in bounds; the end is the next start, which is not
-- early. For any bounds, and any way to go on counting.
unfoldable pub FairBy : (Count → Type 0) → (Count → Type 0) → (Bool → Bit → List Count → List Count) → List Count → Bool → List Bit → Type 0
FairBy E L next cs was [] = Each E cs
FairBy E L next cs was (b ∷ bs) =
    (beq was b.level ≡ false → Each E cs × Each L cs) × FairBy E L next (next was b cs) b.level bs

-- No change is more than 6 samples early or 7 late, counted from the start and from every fall.
abbrev pub NotEarly : ℕ → Count → Type 0
NotEarly s = EarlyBy 6 s

abbrev pub NotLate : ℕ → Count → Type 0
NotLate s = LateBy 7 s

abbrev pub Fair : ℕ → List Count → Bool → List Bit → Type 0
Fair s = FairBy (NotEarly s) (NotLate s) following

-- A frame: the start bit's length, the data bits, low bit first, and the length of the stop bit with any pause after it.
pub record SentFrame : Type 0 where
  pub start : ℕ
  pub bits : List Bit
  pub stop : ℕ

-- What follows the start bit.
abbrev pub rest : SentFrame → List Bit
rest f = f.bits ++ (record { level = true; lasts = f.stop } ∷ [])

abbrev pub FrameBy : (List Count → Bool → List Bit → Type 0) → SentFrame → Type 0
FrameBy fair f = fair (record { bits = 1; clocks = f.start } ∷ []) false (rest f)

abbrev pub FairFrame : ℕ → SentFrame → Type 0
FairFrame s = FrameBy (Fair s)

-- The levels, clock by clock.
unfoldable pub levels : List Bit → List Bool
levels [] = []
levels (b ∷ bs) = replicate b.lasts b.level ++ levels bs

abbrev pub levels_of : SentFrame → List Bool
levels_of f = replicate f.start false ++ levels (rest f)

unfoldable pub line : List SentFrame → List Bool
line [] = []
line (f ∷ fs) = levels_of f ++ line fs

-- The word of a frame.
unfoldable pub data_of : List Bit → List Bool
data_of [] = []
data_of (b ∷ bs) = b.level ∷ data_of bs

abbrev pub word_of : SentFrame → ℕ
word_of f = value (data_of f.bits)

unfoldable pub words_sent : List SentFrame → List ℕ
words_sent [] = []
words_sent (f ∷ fs) = word_of f ∷ words_sent fs

-- Frames of n data bits, each of them fair.
unfoldable pub FairFrames : ℕ → ℕ → List SentFrame → Type 0
FairFrames s n [] = Unit {0}
FairFrames s n (f ∷ fs) = (length f.bits ≡ n) × FairFrame s f × FairFrames s n fs

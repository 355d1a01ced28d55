-- How long bits may last: enough for a frame to be fair.
use Rattle.std.specs.Prelude.{Bool, List, [], ◌∷◌, ◌≡◌, ℕ, ◌+◌, ◌-◌, ◌*◌, ◌/◌, ◌≤◌, ◌<◌, length}
use Rattle.claims_senders.specs.Fair.{Bit, SentFrame, FairFrame}

unfoldable pub LastWithin : ℕ → ℕ → List Bit → Type 0
LastWithin lo hi [] = Unit {0}
LastWithin lo hi (b ∷ bs) = (lo ≤ b.lasts) × (b.lasts ≤ hi) × LastWithin lo hi bs

-- Each bit lasts from lo to hi clocks, the stop bit with its pause at least lo.
pub record Paced (lo hi : ℕ) (f : SentFrame) : Type 0 where
  pub start : (lo ≤ f.start) × (f.start ≤ hi)
  pub bits : LastWithin lo hi f.bits
  pub stop : lo ≤ f.stop

-- A sample lasts s clocks. A frame of n data bits whose n + 2 shortest bits last a frame up to the stop bit's RT10, and whose n + 1 longest bits
-- end before the stop bit's RT8.
pub record BitTimes : Type 0 where
  pub fair : (s n lo hi : ℕ) (f : SentFrame) → length f.bits ≡ n → (16 * n + 26) * s ≤ (n + 2) * lo → (n + 1) * hi ≤ (16 * n + 23) * s →
      Paced lo hi f → FairFrame s f
  -- 8 bits: ten bits at least 154 samples, nine at most 151; 9 bits: eleven at least 170, ten at most 167.
  pub figures : (16 * 8 + 26 ≡ 154) × (16 * 8 + 23 ≡ 151) × (16 * 9 + 26 ≡ 170) × (16 * 9 + 23 ≡ 167)

-- A bit lasts num / den clocks, and the clock e of an edge is at its place or up to h before it; places, and h, are in den-ths of a clock.
abbrev pub Near : ℕ → ℕ → ℕ → ℕ → Type 0
Near den h place e = (place ≤ den * e + h) × (den * e ≤ place)

-- Bits that begin at the clock e; the stop bit is not too short.
unfoldable pub OnGrid : ℕ → ℕ → ℕ → ℕ → ℕ → ℕ → List Bit → Type 0
OnGrid num den h stop place e [] = place + num ≤ den * (e + stop) + h
OnGrid num den h stop place e (b ∷ bs) = Near den h (place + num) (e + b.lasts) × OnGrid num den h stop (place + num) (e + b.lasts) bs

pub record Gridded (num den h : ℕ) (f : SentFrame) : Type 0 where
  pub place : ℕ
  pub at : ℕ
  pub begins : Near den h place at
  pub starts : Near den h (place + num) (at + f.start)
  pub goes : OnGrid num den h f.stop (place + num) (at + f.start) f.bits

-- A text at a rate of num / den clocks a bit, each edge rounded: bit k of it begins at clock k * num / den, with o added before rounding down.
abbrev pub edge_at : ℕ → ℕ → ℕ → ℕ → ℕ
edge_at num den o k = (k * num + o) / den

abbrev pub lasts_at : ℕ → ℕ → ℕ → ℕ → ℕ
lasts_at num den o k = edge_at num den o (k + 1) - edge_at num den o k

unfoldable pub bits_at : ℕ → ℕ → ℕ → ℕ → List Bool → List Bit
bits_at num den o k [] = []
bits_at num den o k (b ∷ bits) = record { level = b; lasts = lasts_at num den o k } ∷ bits_at num den o (k + 1) bits

-- The frame that begins with bit k, and a pause after it.
abbrev pub frame_at : ℕ → ℕ → ℕ → ℕ → List Bool → ℕ → SentFrame
frame_at num den o k bits pause =
    record {
      start = lasts_at num den o k;
      bits = bits_at num den o (k + 1) bits;
      stop = lasts_at num den o (k + 1 + length bits) + pause;
    }

pub record Rates : Type 0 where
  -- Edges in a window h wide: no one bit is too short, nor n + 2 of them; n + 1 are not too long.
  pub gridded : (s n num den h : ℕ) (f : SentFrame) → 0 < den → length f.bits ≡ n → 10 * s * den + h ≤ num →
      (16 * n + 26) * s * den + h ≤ (n + 2) * num → (n + 1) * num + h ≤ (16 * n + 23) * s * den → Gridded num den h f → FairFrame s f
  -- Each edge within 3 samples of its place.
  pub three : (s : ℕ) (f : SentFrame) → Gridded (16 * s) 1 (6 * s) f → FairFrame s f
  -- Edges rounded to clocks.
  pub rounded : (s num den o k pause : ℕ) (bits : List Bool) → 0 < s → 0 < den →
      let n : ℕ = length bits in
      (16 * n + 26) * s * den + den ≤ (n + 2) * num → (n + 1) * num + den ≤ (16 * n + 23) * s * den →
      FairFrame s (frame_at num den o k bits pause)
  -- 9600 baud at 16,777,216 Hz with SCBR 55, 8 bits.
  pub usual : ((16 * 8 + 26) * 110 * 9600 + 9600 ≤ (8 + 2) * 16777216) × ((8 + 1) * 16777216 + 9600 ≤ (16 * 8 + 23) * 110 * 9600)

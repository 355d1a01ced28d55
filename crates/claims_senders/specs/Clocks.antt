-- A sender in clocks: what a sample every s clocks makes of its line is a sender in samples.
use Rattle.std.specs.Prelude.{Bool, cond, List, [], ◌∷◌, ◌≡◌, ℕ, ◌+◌, ◌<◌, leb}
use Rattle.claims_senders.specs.Fair.{SentFrame, line, FairFrames}
use Rattle.claims_senders.specs.Heard.{as_sent, frames_of, ends_of, Apart, earliest}

-- A prescaler counts from p; with its s-th clock the level is a sample, and it counts anew.
unfoldable pub sampled_at : ℕ → ℕ → List Bool → List Bool
sampled_at s p [] = []
sampled_at s p (x ∷ xs) = cond (leb s (p + 1)) (x ∷ sampled_at s 0 xs) (sampled_at s (p + 1) xs)

-- The same frames, in clocks and in samples.
pub record SampledAs (s p n : ℕ) (fs gs : List SentFrame) : Type 0 where
  pub levels : sampled_at s p (line fs) ≡ line gs
  pub fair : FairFrames 1 n gs
  pub words : as_sent gs ≡ as_sent fs

-- At any phase of the prescaler.
pub record ClocksHeard : Type 0 where
  pub sampled : (s p n : ℕ) (fs : List SentFrame) → p < s → FairFrames s n fs → (gs : List SentFrame) × SampledAs s p n fs gs
  pub words : (s p n : ℕ) (fs : List SentFrame) → p < s → FairFrames s n fs → frames_of n (sampled_at s p (line fs)) ≡ as_sent fs
  pub apart : (s p n : ℕ) (fs : List SentFrame) → p < s → FairFrames s n fs → Apart (earliest n) (ends_of n (sampled_at s p (line fs)))

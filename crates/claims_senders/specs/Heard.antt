-- What a framer hears of samples, and the claim: a fair sender is heard word by word.
use Rattle.std.specs.Prelude.{Bool, true, cond, ◌&&◌, List, [], ◌∷◌, ◌≡◌, ℕ, suc, ◌+◌, ◌*◌, ◌≤◌, length}
use Rattle.sci.specs.model.Framer.{searching, ends, frame_of, framed}
use Rattle.sci.specs.declared.framer.Framer.{Framer}
use Rattle.sci.specs.declared.framer.Frame.{Frame}
use Rattle.claims_senders.specs.Fair.{SentFrame, word_of, levels_of, line, FairFrames}

-- A frame that ended, and at which sample, counted from 1.
pub record Ended : Type 0 where
  pub sample : ℕ
  pub frame : Frame

-- The frames that end in samples, k of which went before; a, b and c are the last three of those, the latest first.
unfoldable pub ended_in : ℕ → ℕ → Bool → Bool → Bool → Framer → List Bool → List Ended
ended_in n k a b c f [] = []
ended_in n k a b c f (x ∷ xs) =
    let after : List Ended = ended_in n (suc k) x a b (framed n f (a && b && c) x) xs in
    cond (ends f) (record { sample = suc k; frame = frame_of f x } ∷ after) after

unfoldable pub frames : List Ended → List Frame
frames [] = []
frames (e ∷ es) = e.frame ∷ frames es

unfoldable pub samples : List Ended → List ℕ
samples [] = []
samples (e ∷ es) = e.sample ∷ samples es

-- A framer that searches after three ones.
abbrev pub heard_of : ℕ → List Bool → List Ended
heard_of n xs = ended_in n 0 true true true searching xs

abbrev pub frames_of : ℕ → List Bool → List Frame
frames_of n xs = frames (heard_of n xs)

abbrev pub ends_of : ℕ → List Bool → List ℕ
ends_of n xs = samples (heard_of n xs)

-- The frames sent, each with its word, no noise and a stop bit.
unfoldable pub as_sent : List SentFrame → List Frame
as_sent [] = []
as_sent (f ∷ fs) = record { word = word_of f; noise = 0; stop = true } ∷ as_sent fs

-- A frame's end lies at one of its samples earliest n to latest n.
abbrev pub earliest : ℕ → ℕ
earliest n = 16 * n + 20

abbrev pub latest : ℕ → ℕ
latest n = 16 * n + 33

-- Of ends, one for each frame; k samples went before the first frame.
unfoldable pub EndInTime : ℕ → ℕ → List SentFrame → List ℕ → Type 0
EndInTime n k [] [] = Unit {0}
EndInTime n k [] (t ∷ ts) = ⊥
EndInTime n k (f ∷ fs) [] = ⊥
EndInTime n k (f ∷ fs) (t ∷ ts) = (k + earliest n ≤ t) × (t ≤ k + latest n) × EndInTime n (k + length (levels_of f)) fs ts

-- Each at least d after the one before.
unfoldable pub Apart : ℕ → List ℕ → Type 0
Apart d [] = Unit {0}
Apart d (t ∷ []) = Unit {0}
Apart d (t ∷ u ∷ us) = (t + d ≤ u) × Apart d (u ∷ us)

pub record HeardWhole (n : ℕ) (fs : List SentFrame) : Type 0 where
  pub words : frames_of n (line fs) ≡ as_sent fs
  pub in_time : EndInTime n 0 fs (ends_of n (line fs))
  pub apart : Apart (earliest n) (ends_of n (line fs))

pub record FramesHeard : Type 0 where
  pub heard : (n : ℕ) (fs : List SentFrame) → FairFrames 1 n fs → HeardWhole n fs
  -- 148 to 161 with 8 bits, 164 to 177 with 9.
  pub figures : (earliest 8 ≡ 148) × (latest 8 ≡ 161) × (earliest 9 ≡ 164) × (latest 9 ≡ 177)

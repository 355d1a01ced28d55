-- Document 02, L3 and L8: how many samples apart two frames can end, for whatever comes on RXD and any number of reads between.
use Rattle.std.specs.Prelude.{Bool, true, false, cond, List, [], ◌∷◌, ◌++◌, ◌≡◌, ℕ, zero, suc, ◌+◌, ◌-◌, ◌*◌, ◌≤◌, take, replicate}
use Rattle.sci.specs.model.Control.{M, bits_of}
use Rattle.sci.specs.model.Framer.{searching, ends}
use Rattle.sci.specs.claims.Levels.{Unmoved, framer_after, frame_levels, low_bits}
use Rattle.sci.specs.claims.Line.{Op, sample, read, act, acts, samples_in}
use Rattle.sci.specs.declared.receiver.Receiver.{Receiver}
use Rattle.sci.specs.declared.receiver.Received.{Received}

-- A start bit, n data bits, the stop bit up to its RT10. A data bit lasts 16 samples; where sampling points move, one that another follows
-- may last 10: the zero at its RT11 is RT1 of the next.
abbrev pub apart : Bool → ℕ → ℕ
apart moves n = 16 + (n - 1) * cond moves 10 16 + 16 + 10

abbrev pub samples_of : List Op → List Bool
samples_of [] = []
samples_of (sample x ∷ os) = x ∷ samples_of os
samples_of (read scsr scdr ∷ os) = samples_of os

-- None of the samples that reach a receiver moves a sampling point.
abbrev pub NoneMoves : ℕ → List Op → Receiver → Type 0
NoneMoves n os r = Unmoved n r.last1 r.last2 r.last3 r.framer (samples_of os)

-- Where points may move nothing is asked.
abbrev pub Moving : Bool → ℕ → List Op → Receiver → Type 0
Moving moves n os r = moves ≡ false → NoneMoves n os r

-- A frame ends at the sample x, whatever the state; then so many samples and reads reach the receiver, and at the next sample one ends
-- again. SCCR1 stays.
abbrev pub Apart : Type 0
Apart =
    (moves : Bool) (sccr1 : ℕ) (p : Received) (x : Bool) (os : List Op) → ends p.receiver.framer ≡ true →
    let q : Received = act sccr1 (sample x) p in
    Moving moves (bits_of (M sccr1)) os q.receiver → ends (acts sccr1 os q).receiver.framer ≡ true →
    apart moves (bits_of (M sccr1)) ≤ suc (samples_in os)

-- The samples of a frame that is as short as can be: all its bits are ones, and each that another follows is cut at RT11.
unfoldable pub cut : ℕ → List Bool
cut zero = replicate 16 true
cut (suc k) = false ∷ (replicate 9 true ++ cut k)

abbrev pub shortest : ℕ → List Bool
shortest n = replicate 16 false ++ (replicate 10 true ++ cut (n - 1))

-- From a frame's end, with the stop bit's three ones before them, so many samples are heard until one ends the next.
abbrev pub EndsAfter : ℕ → List Bool → Type 0
EndsAfter n xs = ends (framer_after n true true true searching xs) ≡ true

pub record Spacing : Type 0 where
  -- 112 and 122 where points move, 154 and 170 where none does.
  pub figures : (apart true 8 ≡ 112) × (apart true 9 ≡ 122) × (apart false 8 ≡ 154) × (apart false 9 ≡ 170)
  pub apart : Apart
  -- No figure can be larger.
  pub reached : (EndsAfter 8 (take 111 (shortest 8))) × (EndsAfter 9 (take 121 (shortest 9)))
      × (EndsAfter 8 (take 153 (frame_levels (low_bits 8 0xFF)))) × (EndsAfter 9 (take 169 (frame_levels (low_bits 9 0x1FF))))

-- A frame on the line: bits low bit first, 16 samples each, and what a framer makes of samples.
use Rattle.std.specs.Prelude.{Bool, true, false, ◌&&◌, List, [], ◌∷◌, ◌++◌, ◌≡◌, ℕ, zero, suc, ◌+◌, ◌*◌, ◌/◌, ◌%◌, eqb, replicate, take}
use Rattle.steps.specs.Bits.{digit}
use Rattle.sci.specs.model.Framer.{searching, adjusts, framed}
use Rattle.sci.specs.declared.framer.Framer.{Framer}

-- The low n bits of a word, low bit first.
unfoldable pub low_bits : ℕ → ℕ → List Bool
low_bits zero w = []
low_bits (suc n) w = eqb (w % 2) 1 ∷ low_bits n (w / 2)

-- The number that bits stand for, low bit first.
unfoldable pub value : List Bool → ℕ
value [] = 0
value (b ∷ bits) = digit b + 2 * value bits

-- A bit lasts 16 samples.
unfoldable pub stretched : List Bool → List Bool
stretched [] = []
stretched (b ∷ bits) = replicate 16 b ++ stretched bits

-- The levels of a whole frame: start bit, data bits, stop bit.
abbrev pub frame_levels : List Bool → List Bool
frame_levels bits = stretched (false ∷ bits ++ (true ∷ []))

-- A framer given samples; a, b and c are the three samples before them, the latest first.
unfoldable pub framer_after : ℕ → Bool → Bool → Bool → Framer → List Bool → Framer
framer_after n a b c f [] = f
framer_after n a b c f (x ∷ xs) = framer_after n x a b (framed n f (a && b && c) x) xs

-- None of the samples makes an adjustment.
unfoldable pub Unmoved : ℕ → Bool → Bool → Bool → Framer → List Bool → Type 0
Unmoved n a b c f [] = Unit {0}
Unmoved n a b c f (x ∷ xs) = (adjusts n f (a && b && c) x ≡ false) × Unmoved n x a b (framed n f (a && b && c) x) xs

-- A framer that searches after three ones, after k samples of a frame.
abbrev pub framer_at : ℕ → List Bool → ℕ → Framer
framer_at n bits k = framer_after n true true true searching (take k (frame_levels bits))

-- The last sample of a frame of n bits, the stop bit's RT10, counted from 0 (K4 and K5 count from 1: 154 and 170).
abbrev pub end_sample : ℕ → ℕ
end_sample n = 16 * n + 25

-- Document 02, L3: sampling points do move. Its rule as laws of one sample, in any state, told by RT and by what stays; and lines at exact rate.
use Rattle.std.specs.Prelude.{Bool, true, false, List, [], ◌∷◌, ◌++◌, ◌≡◌, ℕ, suc, ◌-◌, ◌^◌, ◌≤◌, ◌<◌, length, take, replicate}
use Rattle.sci.specs.model.Framer.{searching, begun, ends, frame_of, collected, next_rt, fixed, last_bit, framed}
use Rattle.sci.specs.claims.Levels.{frame_levels, framer_after, end_sample, low_bits, Unmoved}
use Rattle.sci.specs.declared.framer.Framer.{Framer}

-- The sample is RT1 of a data bit, with so many data bits left, that one included. The bits decided, their noise and the frame stay.
abbrev pub rt1_with : Framer → ℕ → Framer
rt1_with f left =
    record {
      framing = f.framing;
      starting = f.starting;
      left = left;
      rt = 1;
      first = f.first;
      second = f.second;
      noise = f.noise;
      moved = true;
      shift = f.shift;
    }

-- A zero after three ones, past the start bit of a frame whose last decided bit was one.
pub record Falls (n : ℕ) (f : Framer) (three x : Bool) : Type 0 where
  pub zero : x ≡ false
  pub ones : three ≡ true
  pub framing : f.framing ≡ true
  pub started : f.starting ≡ false
  pub last : last_bit n f.shift ≡ true

module _ (n : ℕ) (f : Framer) (three x : Bool) where
  -- Nothing moves.
  abbrev Stays : Type 0
  Stays = framed n f three x ≡ fixed n f three x

  pub record Rule : Type 0 where
    -- RT11 to RT16: RT1 of the next bit, if that is a data bit.
    pub next : Falls n f three x → 11 ≤ next_rt f → 1 < f.left → framed n f three x ≡ rt1_with f (f.left - 1)
    -- RT2 to RT7: RT1 of the bit it is in, if that is a data bit and none was set for it.
    pub same : Falls n f three x → 2 ≤ next_rt f → next_rt f ≤ 7 → 0 < f.left → f.moved ≡ false →
        framed n f three x ≡ rt1_with f f.left
    -- Elsewhere nothing moves: at RT1 and RT8 to RT10; in the stop bit, and where it would be RT1 of the stop bit; for a bit whose RT1 was set so.
    pub first : next_rt f ≡ 1 → Stays
    pub voting : 8 ≤ next_rt f → next_rt f ≤ 10 → Stays
    pub stop : f.left ≡ 0 → Stays
    pub before_stop : f.left ≡ 1 → 8 ≤ next_rt f → Stays
    pub once : f.moved ≡ true → next_rt f ≤ 10 → Stays
    -- Nor at a one, after fewer ones, outside a frame, in a start bit, or after a zero bit.
    pub one : x ≡ true → Stays
    pub fewer : three ≡ false → Stays
    pub search : f.framing ≡ false → Stays
    pub start : f.starting ≡ true → Stays
    pub after_zero : last_bit n f.shift ≡ false → Stays
    -- A bit that ends at RT16 leaves the next one unset.
    pub passes : f.framing ≡ true → f.starting ≡ false → 0 < f.left → (framed n f three x).rt ≡ 16 → (framed n f three x).moved ≡ false

-- The last decided bit: of a frame that begins a zero, however its start bit is voted, then each bit as it is collected.
pub record LastDecided (n w : ℕ) (b : Bool) : Type 0 where
  pub begins : last_bit (suc n) (begun (suc n)).shift ≡ false
  pub collects : w < 2 ^ suc n → last_bit (suc n) (collected b (suc n) w) ≡ b
  pub holds : w < 2 ^ suc n → collected b (suc n) w < 2 ^ suc n

-- A line at exact rate without noise: sixteen equal samples for each of any number of bits.
abbrev pub ExactRate : Type 0
ExactRate = (bits : List Bool) → Unmoved (length bits) true true true searching (take (end_sample (length bits)) (frame_levels bits))

-- A frame of a sender whose bits last so many samples; and what a framer that searches after three ones has of it after k samples.
unfoldable pub lasting : ℕ → List Bool → List Bool
lasting m [] = []
lasting m (b ∷ bits) = replicate m b ++ lasting m bits

abbrev pub heard_of : ℕ → List Bool → ℕ → Framer
heard_of m bits k = framer_after (length bits) true true true searching (take k (lasting m (false ∷ bits ++ (true ∷ []))))

pub record Moves : Type 0 where
  pub rule : (n : ℕ) (f : Framer) (three x : Bool) → Rule n f three x
  pub last : (n w : ℕ) (b : Bool) → LastDecided n w b
  pub exact : ExactRate
  -- The word 55 arrives from a sender whose bits last 14 samples, with its last RT10 at sample 138; with points that stay it would not.
  pub arrives : ends (heard_of 14 (low_bits 8 0x55) 137) ≡ true
  pub word : frame_of (heard_of 14 (low_bits 8 0x55) 137) true ≡ record { word = 0x55; noise = 0; stop = true }

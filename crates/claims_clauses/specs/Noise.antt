-- Document 02, L1: the noise figure of any frame, moved sampling points among them, as a sum over its samples.
use Rattle.std.specs.Prelude.{◌≡◌, Bool, true, false, cond, ◌&&◌, ◌||◌, List, [], ◌∷◌, ℕ, ◌+◌, ◌%◌, ◌≤◌, eqb}
use Rattle.steps.specs.Bits.{digit}
use Rattle.sci.specs.model.Flags.{RDRF}
use Rattle.sci.specs.model.Status.{has}
use Rattle.sci.specs.model.Control.{M, bits_of}
use Rattle.sci.specs.model.Receiver.{received}
use Rattle.sci.specs.declared.receiver.Receiver.{Receiver}
use Rattle.sci.specs.declared.receiver.Received.{Received}
use Rattle.claims_clauses.specs.Starts.{hear, in_frame}

-- How many of three samples disagree with their majority: none if all are alike, else one.
abbrev pub disagree : Bool → Bool → Bool → ℕ
disagree a b c = cond (eqb ((digit a + digit b + digit c) % 3) 0) 0 1

-- RT of the sample that comes next.
abbrev pub next_at : Receiver → ℕ
next_at r = r.framer.rt % 16 + 1

-- What a sample x at RT t gives: in the start bit a one at 3, 5, 7, 8, 9 and 10; in any other bit at RT10 the disagreement with the two samples
-- before it; elsewhere nothing.
abbrev pub start_gives : ℕ → Bool → ℕ
start_gives t x = cond (eqb t 3 || eqb t 5 || eqb t 7 || eqb t 8 || eqb t 9 || eqb t 10) (digit x) 0

abbrev pub bit_gives : ℕ → Bool → Bool → Bool → ℕ
bit_gives t a b x = cond (eqb t 10) (disagree a b x) 0

abbrev pub gives : Receiver → Bool → ℕ
gives r x =
    cond r.framer.framing (cond r.framer.starting (start_gives (next_at r) x) (bit_gives (next_at r) r.last2 r.last1 x)) 0

abbrev pub given : ℕ → List Bool → Received → ℕ
given c [] p = 0
given c (x ∷ xs) p = gives p.receiver x + given c xs (received p.receiver p.status c x)

-- After each of the samples the receiver is in a frame.
abbrev pub stays : ℕ → List Bool → Received → Bool
stays c [] p = true
stays c (x ∷ xs) p = in_frame (hear c (x ∷ []) p) && stays c xs (received p.receiver p.status c x)

-- A receiver that searches hears the samples of one frame, RT1 of its start bit the first of them, and then x, with which the frame enters SCDR:
-- the figure kept beside it is the sum over all of them, and not above the number of data bits and 5.
pub record FrameNoise (c : ℕ) (p : Received) (y : Bool) (xs : List Bool) (x : Bool) : Type 0 where
  pub figure : (hear c (x ∷ []) (hear c (y ∷ xs) p)).receiver.noise ≡ given c (y ∷ xs) p + gives (hear c (y ∷ xs) p).receiver x
  pub bound : (hear c (x ∷ []) (hear c (y ∷ xs) p)).receiver.noise ≤ bits_of (M c) + 5

pub record NoiseClauses : Type 0 where
  pub frame : (c : ℕ) (p : Received) (y : Bool) (xs : List Bool) (x : Bool) → in_frame p ≡ false → stays c (y ∷ xs) p ≡ true →
      has (hear c (y ∷ xs) p).status RDRF ≡ false → has (hear c (x ∷ []) (hear c (y ∷ xs) p)).status RDRF ≡ true →
      FrameNoise c p y xs x

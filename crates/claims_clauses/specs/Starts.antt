-- Document 01, Receiver: how a start bit begins and stands, over samples in the order in which they come, by plain counts of ones.
use Rattle.std.specs.Prelude.{◌≡◌, Bool, true, false, not, ◌&&◌, List, [], ◌∷◌, ℕ, ◌+◌, ◌≤◌, ◌<◌, ltb, get_or}
use Rattle.steps.specs.Bits.{digit}
use Rattle.sci.specs.model.Receiver.{start_state, received}
use Rattle.sci.specs.declared.receiver.Receiver.{Receiver}
use Rattle.sci.specs.declared.receiver.Received.{Received}
use Rattle.sci.specs.declared.status.Status.{Status}

-- A receiver with SCCR1 c hears samples.
abbrev pub hear : ℕ → List Bool → Received → Received
hear c [] p = p
hear c (x ∷ xs) p = hear c xs (received p.receiver p.status c x)

abbrev pub from : Receiver → Status → Received
from r s = record { receiver = r; status = s }

-- Samples, the latest first; the one so many before the next, zero if there was none.
abbrev pub latest : List Bool → List Bool → List Bool
latest [] ys = ys
latest (x ∷ xs) ys = latest xs (x ∷ ys)

abbrev pub ago : ℕ → List Bool → Bool
ago k xs = get_or (latest xs []) k false

abbrev pub in_frame : Received → Bool
in_frame p = p.receiver.framer.framing

-- Since RE rose xs came: the three before the next sample are the last three of them, inside a frame or not; and while it searches a zero is RT1
-- of a start bit exactly if those three came and are ones.
pub record ThreeBefore (c : ℕ) (r : Receiver) (s : Status) (xs : List Bool) : Type 0 where
  pub first : (hear c xs (from (start_state r) s)).receiver.last1 ≡ ago 0 xs
  pub second : (hear c xs (from (start_state r) s)).receiver.last2 ≡ ago 1 xs
  pub third : (hear c xs (from (start_state r) s)).receiver.last3 ≡ ago 2 xs
  pub starts : (x : Bool) → in_frame (hear c xs (from (start_state r) s)) ≡ false →
      in_frame (hear c (x ∷ []) (hear c xs (from (start_state r) s))) ≡ not x && (ago 0 xs && ago 1 xs && ago 2 xs)

-- Three ones, a zero, which is RT1, and RT2 to RT7.
abbrev pub opening : Bool → Bool → Bool → Bool → Bool → Bool → List Bool
opening x2 x3 x4 x5 x6 x7 = true ∷ true ∷ true ∷ false ∷ x2 ∷ x3 ∷ x4 ∷ x5 ∷ x6 ∷ x7 ∷ []

-- A receiver that searches, in any state: by the ones among RT3, RT5 and RT7.
module _ (c : ℕ) (p : Received) (x2 x3 x4 x5 x6 x7 : Bool) where
  abbrev ones : ℕ
  ones = digit x3 + digit x5 + digit x7

  abbrev q : Received
  q = hear c (opening x2 x3 x4 x5 x6 x7) p

  pub record StartJudged : Type 0 where
    -- Two or more abandon the start.
    pub stands : in_frame q ≡ ltb ones 2
    -- The search goes on at RT8: RT5, RT6 and RT7 are the three samples before it.
    pub goes_on : 2 ≤ ones → (x8 : Bool) → in_frame (hear c (x8 ∷ []) q) ≡ not x8 && (x7 && x6 && x5)
    -- One is noise: it stands as the figure so far; the frame goes on in its start bit, at RT7.
    pub noise : ones < 2 → q.receiver.framer.noise ≡ ones
    pub at_7 : ones < 2 → q.receiver.framer.rt ≡ 7
    pub starting : ones < 2 → q.receiver.framer.starting ≡ true

pub record StartClauses : Type 0 where
  pub before : (c : ℕ) (r : Receiver) (s : Status) (xs : List Bool) → ThreeBefore c r s xs
  pub judged : (c : ℕ) (p : Received) (x2 x3 x4 x5 x6 x7 : Bool) → in_frame p ≡ false → StartJudged c p x2 x3 x4 x5 x6 x7

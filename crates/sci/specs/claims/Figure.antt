-- Document 02, L1: the noise figure, as laws. A frame's is a sum over its samples; NF is as before; the word in SCDR keeps it beside it.
use Rattle.std.specs.Prelude.{Bool, true, false, cond, not, ◌&&◌, ◌||◌, List, [], ◌∷◌, ◌++◌, ◌≡◌, ℕ, zero, suc, ◌+◌, ◌-◌, ◌≤◌, ltb, length, drop, get_or, replicate}
use Rattle.steps.specs.Bits.{digit}
use Rattle.sci.specs.model.Flags.{NF}
use Rattle.sci.specs.claims.Members.{member}
use Rattle.sci.specs.model.Status.{has}
use Rattle.sci.specs.model.Bits.{vote}
use Rattle.sci.specs.model.Framer.{searching, ends, frame_of}
use Rattle.sci.specs.model.Receiver.{outcome, received}
use Rattle.sci.specs.model.Transmitter.{sent}
use Rattle.sci.specs.claims.Levels.{end_sample, framer_after, Unmoved}
use Rattle.sci.specs.model.Serial.{reset_sci}
use Rattle.sci.specs.claims.History.{Step, reset, clock, reads, writesSccr0, writesSccr1, writesScdr, step, sampling}
use Rattle.sci.specs.declared.framer.Framer.{Framer}
use Rattle.sci.specs.declared.receiver.Receiver.{Receiver}
use Rattle.sci.specs.declared.receiver.Outcome.{Outcome}
use Rattle.sci.specs.declared.status.Status.{Status}
use Rattle.sci.specs.declared.serial.Sci.{Sci}

-- RT k of a bit, of samples from its RT1 on.
abbrev pub rt : ℕ → List Bool → Bool
rt k xs = get_or xs (k - 1) false

-- A start bit gives its ones at 3, 5, 7, 8, 9 and 10.
abbrev pub start_ones : List Bool → ℕ
start_ones xs = digit (rt 3 xs) + digit (rt 5 xs) + digit (rt 7 xs) + digit (rt 8 xs) + digit (rt 9 xs) + digit (rt 10 xs)

-- n data bits and the stop bit give how many samples disagreed in each one's vote.
unfoldable pub disagreements : ℕ → List Bool → ℕ
disagreements zero xs = (vote (rt 8 xs) (rt 9 xs) (rt 10 xs)).disagreed
disagreements (suc n) xs = (vote (rt 8 xs) (rt 9 xs) (rt 10 xs)).disagreed + disagreements n (drop 16 xs)

abbrev pub figure : ℕ → List Bool → ℕ
figure n xs = start_ones xs + disagreements n (drop 16 xs)

-- The samples of a frame of n data bits but its last, from its start bit's RT1 to the stop bit's RT9: the start bit stands,
-- and no sampling point moves.
pub record Stands (n : ℕ) (xs : List Bool) : Type 0 where
  pub whole : length xs ≡ end_sample n
  pub begins : rt 1 xs ≡ false
  pub stands : (vote (rt 3 xs) (rt 5 xs) (rt 7 xs)).bit ≡ false
  pub unmoved : Unmoved n true true true searching xs

-- The frame's sum is that of its samples, for any number of bits whose figure can be held.
abbrev pub FrameFigure : Type 0
FrameFigure =
    (n : ℕ) (xs : List Bool) (x : Bool) → n ≤ 250 → Stands n xs →
    let f : Framer = framer_after n true true true searching xs in
    (ends f ≡ true) × ((frame_of f x).noise ≡ figure n (xs ++ (x ∷ [])))

-- Noise in document 01's words: a one there in the start bit; three samples that are not all alike.
abbrev pub mixed : List Bool → Bool
mixed xs = (rt 8 xs || rt 9 xs || rt 10 xs) && not (rt 8 xs && rt 9 xs && rt 10 xs)

unfoldable pub any_mixed : ℕ → List Bool → Bool
any_mixed zero xs = mixed xs
any_mixed (suc n) xs = mixed xs || any_mixed n (drop 16 xs)

abbrev pub noisy : ℕ → List Bool → Bool
noisy n xs = (rt 3 xs || rt 5 xs || rt 7 xs || rt 8 xs || rt 9 xs || rt 10 xs) || any_mixed n (drop 16 xs)

-- A sample with which a frame enters SCDR.
abbrev pub enters : Outcome → Bool
enters o = o.taken && not o.lost

-- The receiver with another sum so far of the frame under way.
abbrev pub with_sum : Receiver → ℕ → Receiver
with_sum r sum =
    record {
      framer =
          record {
            framing = r.framer.framing;
            starting = r.framer.starting;
            left = r.framer.left;
            rt = r.framer.rt;
            first = r.framer.first;
            second = r.framer.second;
            noise = sum;
            moved = r.framer.moved;
            shift = r.framer.shift;
          };
      last1 = r.last1;
      last2 = r.last2;
      last3 = r.last3;
      idle = r.idle;
      since = r.since;
      asleep = r.asleep;
      scdr = r.scdr;
      noise = r.noise;
    }

-- The figure beside SCDR after a step: 0 after a reset; that of a word that enters SCDR; else the one before, whatever is lost, read or written.
abbrev pub figure_after : Step → Sci → ℕ
figure_after reset s = 0
figure_after (clock x) s =
    cond (sampling s && enters (outcome s.receiver (sent s.transmitter s.status s.sccr1).status s.sccr1 x))
    (frame_of s.receiver.framer x).noise
    s.receiver.noise
figure_after (reads scsr scdr) s = s.receiver.noise
figure_after (writesSccr0 v upper lower) s = s.receiver.noise
figure_after (writesSccr1 v upper lower) s = s.receiver.noise
figure_after (writesScdr v upper lower) s = s.receiver.noise

-- The noisiest frame: a start bit that stands with a one at 3, 8, 9 and 10, and a sample that disagrees in every other bit.
abbrev pub noisiest : ℕ → List Bool
noisiest n =
    false ∷ false ∷ true ∷ replicate 4 false ++ (replicate 3 true ++ (replicate 6 false ++ bits_of_noise n))
  where
    bits_of_noise : ℕ → List Bool
    bits_of_noise zero = replicate 8 false ++ (true ∷ [])
    bits_of_noise (suc n) = replicate 8 false ++ (true ∷ (replicate 7 false ++ bits_of_noise n))

pub record Figures : Type 0 where
  pub frame : FrameFigure
  pub standing : Stands 9 (noisiest 9)
  pub largest : figure 9 (noisiest 9 ++ (false ∷ [])) ≡ 14
  -- NF rises exactly when a frame enters SCDR with a sum above 0, and that is document 01's noise.
  pub rises : (r : Receiver) (s : Status) (sccr1 : ℕ) (x : Bool) →
      has (received r s sccr1 x).status NF ≡ has s NF || (enters (outcome r s sccr1 x) && ltb 0 (frame_of r.framer x).noise)
  pub as_before : (n : ℕ) (xs : List Bool) → ltb 0 (figure n xs) ≡ noisy n xs
  -- No other flag looks at the sum.
  pub others : (r : Receiver) (s : Status) (sccr1 : ℕ) (x : Bool) (sum k : ℕ) → member k NF ≡ false →
      member k (received (with_sum r sum) s sccr1 x).status.flags ≡ member k (received r s sccr1 x).status.flags
  pub cleared : reset_sci.receiver.noise ≡ 0
  pub lost : (r : Receiver) (s : Status) (sccr1 : ℕ) (x : Bool) → (outcome r s sccr1 x).lost ≡ true →
      (received r s sccr1 x).receiver.noise ≡ r.noise
  pub after : (e : Step) (s : Sci) → (step e s).receiver.noise ≡ figure_after e s

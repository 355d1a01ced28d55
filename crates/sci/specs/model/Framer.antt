-- Document 01, Receiver: where the receiver stands in a frame, and what one sample makes of it, for frames of any number n of data bits.
use Rattle.std.specs.Prelude.{Bool, true, false, cond, not, ◌&&◌, ◌||◌, ℕ, ◌+◌, ◌-◌, ◌/◌, ◌%◌, ◌^◌, min, eqb, leb, ltb}
use Rattle.steps.specs.Bits.{bit, digit}
use Rattle.sci.specs.model.Bits.{vote, ones_of}
use Rattle.sci.specs.declared.bits.Voted.{Voted}
use Rattle.sci.specs.declared.framer.Framer.{Framer}
use Rattle.sci.specs.declared.framer.Frame.{Frame}

-- A frame carries its noise figure, the sum over its bits so far (document 02, L1). It stops at 255, which no frame's gets to: a start bit
-- gives at most 4, a vote at most 1.
abbrev pub more : ℕ → ℕ → ℕ
more noise by = min 255 (noise + by)

abbrev pub searching : Framer
searching =
    record { framing = false; starting = false; left = 0; rt = 0; first = false; second = false; noise = 0; moved = false; shift = 0 }

-- RT1 of a start bit.
abbrev pub begun : ℕ → Framer
begun n =
    record { framing = true; starting = true; left = n; rt = 1; first = false; second = false; noise = 0; moved = false; shift = 0 }

-- A zero is RT1 if the three samples before it are ones.
abbrev pub begins : Framer → Bool → Bool → Bool
begins f three x = not f.framing && three && not x

-- Two or more ones at RT3, RT5, RT7 abandon the start.
abbrev pub abandons : Framer → Bool → Bool
abandons f x = f.framing && f.starting && eqb f.rt 6 && (vote f.first f.second x).bit

-- The frame ends at the stop bit's RT10.
abbrev pub ends : Framer → Bool
ends f = f.framing && not f.starting && eqb f.left 0 && eqb f.rt 9

-- What it then brings: its word, the sum over its bits, the stop bit's disagreement with it, and the stop bit.
abbrev pub frame_of : Framer → Bool → Frame
frame_of f x =
    let v : Voted = vote f.first f.second x in
    record { word = f.shift; noise = more f.noise v.disagreed; stop = v.bit }

abbrev pub searched : Bool → Framer → ℕ → Framer
searched true f n = begun n
searched false f n = f

abbrev pub at_rt : Framer → ℕ → Framer
at_rt f rt =
    record {
      framing = f.framing;
      starting = f.starting;
      left = f.left;
      rt = rt;
      first = f.first;
      second = f.second;
      noise = f.noise;
      moved = f.moved;
      shift = f.shift;
    }

-- The first and the second sample of a vote.
abbrev pub first_at : Framer → ℕ → Bool → Framer
first_at f rt x =
    record {
      framing = f.framing;
      starting = f.starting;
      left = f.left;
      rt = rt;
      first = x;
      second = f.second;
      noise = f.noise;
      moved = f.moved;
      shift = f.shift;
    }

abbrev pub second_at : Framer → ℕ → Bool → Framer
second_at f rt x =
    record {
      framing = f.framing;
      starting = f.starting;
      left = f.left;
      rt = rt;
      first = f.first;
      second = x;
      noise = f.noise;
      moved = f.moved;
      shift = f.shift;
    }

abbrev pub noise_at : Framer → ℕ → ℕ → Framer
noise_at f rt by =
    record {
      framing = f.framing;
      starting = f.starting;
      left = f.left;
      rt = rt;
      first = f.first;
      second = f.second;
      noise = more f.noise by;
      moved = f.moved;
      shift = f.shift;
    }

-- RT7 of the start bit: a single one of three is noise.
abbrev pub judged : Bool → Framer → ℕ → Framer
judged true f ones = searching
judged false f ones = noise_at f 7 ones

-- RT16 of the start bit.
abbrev pub started : Framer → ℕ → Framer
started f rt =
    record {
      framing = f.framing;
      starting = false;
      left = f.left;
      rt = rt;
      first = f.first;
      second = f.second;
      noise = f.noise;
      moved = f.moved;
      shift = f.shift;
    }

-- Any one at RT8, RT9, RT10 of the start bit is noise, and the start stands.
abbrev pub heard : Bool → Framer → ℕ → Bool → Framer
heard voted f rt x = cond voted (noise_at f rt (digit x)) (at_rt f rt)

unfoldable pub start_bit : Framer → ℕ → Bool → Framer
start_bit f rt x =
    cond (eqb rt 3) (first_at f rt x)
    (cond (eqb rt 5) (second_at f rt x)
    (cond (eqb rt 7) (judged (vote f.first f.second x).bit f (ones_of f.first f.second x))
    (cond (eqb rt 16) (started f rt) (heard (leb 8 rt && leb rt 10) f rt x))))

-- Low bit first: a new bit comes in at the top of n.
abbrev pub collected : Bool → ℕ → ℕ → ℕ
collected bit n w = cond bit (w / 2 + 2 ^ (n - 1)) (w / 2)

-- RT10 of a data bit: the majority of RT8, RT9, RT10; disagreement is noise.
abbrev pub decided : ℕ → Framer → ℕ → Bool → Framer
decided n f rt x =
    record {
      framing = f.framing;
      starting = f.starting;
      left = f.left;
      rt = rt;
      first = f.first;
      second = f.second;
      noise = more f.noise (vote f.first f.second x).disagreed;
      moved = f.moved;
      shift = collected (vote f.first f.second x).bit n f.shift;
    }

-- RT16 of a data bit: no adjustment has set RT1 of the next.
abbrev pub passed : Framer → ℕ → Framer
passed f rt =
    record {
      framing = f.framing;
      starting = f.starting;
      left = f.left - 1;
      rt = rt;
      first = f.first;
      second = f.second;
      noise = f.noise;
      moved = false;
      shift = f.shift;
    }

unfoldable pub data_bit : ℕ → Framer → ℕ → Bool → Framer
data_bit n f rt x =
    cond (eqb rt 8) (first_at f rt x)
    (cond (eqb rt 9) (second_at f rt x)
    (cond (eqb rt 10) (decided n f rt x) (cond (eqb rt 16) (passed f rt) (at_rt f rt))))

unfoldable pub stop_bit : Framer → ℕ → Bool → Framer
stop_bit f rt x =
    cond (eqb rt 8) (first_at f rt x)
    (cond (eqb rt 9) (second_at f rt x) (cond (eqb rt 10) searching (at_rt f rt)))

abbrev pub in_bit : Bool → Bool → ℕ → Framer → ℕ → Bool → Framer
in_bit true stopping n f rt x = start_bit f rt x
in_bit false true n f rt x = stop_bit f rt x
in_bit false false n f rt x = data_bit n f rt x

-- RT16 is followed by RT1 of the next bit.
abbrev pub next_rt : Framer → ℕ
next_rt f = f.rt % 16 + 1

-- One sample that makes no adjustment.
unfoldable pub fixed : ℕ → Framer → Bool → Bool → Framer
fixed n f three x =
    cond f.framing (in_bit f.starting (eqb f.left 0) n f (next_rt f) x) (searched (begins f three x) f n)

-- Document 02, L3: sampling points do move.

-- The last bit decided stands at the top of the n collected. Before the first there is a zero: so the start bit counts.
abbrev pub last_bit : ℕ → ℕ → Bool
last_bit n w = bit (n - 1) w

-- The frame's last decided bit was one.
abbrev pub after_one : ℕ → Framer → Bool
after_one n f = last_bit n f.shift

-- RT11 to RT16; RT2 to RT7.
abbrev pub near_next : Framer → Bool
near_next f = leb 11 (next_rt f)

abbrev pub near_this : Framer → Bool
near_this f = leb 2 (next_rt f) && leb (next_rt f) 7

-- The first becomes RT1 of the next bit, if that is a data bit.
abbrev pub early_fall : Framer → Bool
early_fall f = near_next f && ltb 1 f.left

-- The second becomes RT1 of the bit it is in, if that is a data bit and its RT1 was not set so already.
abbrev pub late_fall : Framer → Bool
late_fall f = near_this f && ltb 0 f.left && not f.moved

-- While data bits are read, and the last decided bit was one, a zero after three ones makes an adjustment.
abbrev pub adjusts : ℕ → Framer → Bool → Bool → Bool
adjusts n f three x =
    not x && three && f.framing && not f.starting && after_one n f && (early_fall f || late_fall f)

abbrev pub adjusted : Framer → Framer
adjusted f =
    record {
      framing = f.framing;
      starting = f.starting;
      left = cond (early_fall f) (f.left - 1) f.left;
      rt = 1;
      first = f.first;
      second = f.second;
      noise = f.noise;
      moved = true;
      shift = f.shift;
    }

unfoldable pub framed : ℕ → Framer → Bool → Bool → Framer
framed n f three x = cond (adjusts n f three x) (adjusted f) (fixed n f three x)

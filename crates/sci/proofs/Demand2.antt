-- Demand 2.
-- Assumes nothing.
use mathlib.Core.Bool.{true, false}
use mathlib.Core.Path.{refl}
use Prim.Native.Nat.{ℕ, zero, suc}
use lib.ListN.{replicate}
use Rattle.sci.specs.model.Flags.{flag}
use Rattle.sci.specs.model.Status.{has, raise_if, fall_if}
use Rattle.sci.specs.model.Framer.{searching, fixed, framed}
use Rattle.sci.specs.model.Receiver.{outcome, entered, status_after, receiver_after, received}
use Rattle.sci.specs.model.Transmitter.{sent}
use Rattle.sci.specs.model.Serial.{sampled, clocked}
use Rattle.sci.specs.claims.Wire.{Wired, clock, step, clocks_in, Frame, begun, Unchanged, Matched, Sends}
use Rattle.sci.specs.claims.Demand2.{Demand2}
use Rattle.sci.specs.declared.status.Status.{Status}
use Rattle.sci.specs.declared.receiver.Receiver.{Receiver}
use Rattle.sci.specs.declared.serial.Sci.{Sci}
use Rattle.sci.proofs.Linked.{frames_heard, frames_shown, frames_begin, parity_always, linked}
use Rattle.sci.proofs.Train.{back_to_back_holds}
use Rattle.sci.proofs.Stops.{free_at_one}
use Rattle.sci.proofs.Wires.{arrives, waits, arrive_in_turn}
use Rattle.sci.proofs.StopBit.{stop_bit_rests, frame_drives}

-- SCBR 1, M=0. The sender with TE set and the word 55 (hexadecimal) waiting, at its prescaler's last count; the receiver with RE set,
-- after two ones: its third comes in the clock in which the frame begins.
abbrev quiet : Status
quiet = record { flags = flag 0; seen = flag 0 }

abbrev listening : Receiver
listening =
    record {
      framer = searching;
      last1 = true;
      last2 = true;
      last3 = false;
      idle = 2;
      since = false;
      asleep = false;
      scdr = 0;
      noise = 0;
    }

abbrev at : ℕ → ℕ → ℕ → Sci
at sccr1 prescaler word =
    record {
      sccr0 = 1;
      sccr1 = sccr1;
      status = quiet;
      prescaler = prescaler;
      receiver = listening;
      transmitter = record { scdr = word; preamble = false; shift = 0; left = 0 };
      account = record { taken = 0; lost = 0 };
    }

abbrev two : Wired
two = record { sender = at 8 1 0x55; receiver = at 4 1 0 }

abbrev one : Frame
one = record { first = true; later = replicate 307 (clock true); last = true }

all_clocks : (n : ℕ) (q : Wired) → Unchanged (replicate n (clock true)) q
unfolding Unchanged
all_clocks zero q = tt
all_clocks (suc n) q = all_clocks n (step (clock true) q)

one_sends : Sends one two
unfolding has step clocks_in clocked sampled
one_sends = record { begins = record { sample = refl; frame = refl }; unchanged = all_clocks 307 (begun one two); last = refl }

one_match : Matched (begun one two)
unfolding has step clocked sampled sent received receiver_after outcome status_after entered framed fixed raise_if fall_if
one_match =
    record {
      rate = refl;
      same = refl;
      on = refl;
      awake = refl;
      searches = refl;
      ones = refl;
      rdrf = refl;
      errors = record { or = refl; nf = refl; fe = refl; pf = refl };
    }

pub demand2 : Demand2
demand2 =
    record {
      heard = frames_heard;
      shown = frames_shown;
      begins = frames_begin;
      parity = parity_always;
      linked = linked;
      back_to_back = back_to_back_holds;
      arrives = arrives;
      waits = waits;
      in_turn = arrive_in_turn;
      stop_bit = stop_bit_rests;
      drives = frame_drives;
      at_one = free_at_one;
      met = (two, one, one_sends, one_match);
    }

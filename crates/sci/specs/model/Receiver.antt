-- Document 01, Receiver: what a sample makes happen, and what it leaves. `taken` and `lost` are the paper's words for an ended frame.
use Rattle.std.specs.Prelude.{Bool, false, cond, not, ◌&&◌, ◌||◌, ℕ, ◌+◌, min, eqb, ltb}
use Rattle.sci.specs.model.Flags.{PF, FE, NF, OR, IDLE, RAF, RDRF}
use Rattle.sci.specs.model.Status.{has, raise, raise_if, fall_if}
use Rattle.sci.specs.model.Control.{ILT, PT, PE, M, WAKE, bits_of, frame_samples}
use Rattle.sci.specs.model.Bits.{parity_bit}
use Rattle.sci.specs.model.Framer.{searching, begins, abandons, ends, frame_of, last_bit, framed}
use Rattle.sci.specs.declared.status.Status.{Status}
use Rattle.sci.specs.declared.framer.Frame.{Frame}
use Rattle.sci.specs.declared.receiver.Receiver.{Receiver}
use Rattle.sci.specs.declared.receiver.Outcome.{Outcome}
use Rattle.sci.specs.declared.receiver.Received.{Received}

-- RE clear: searching, no ones seen, count 0, no frame since.
abbrev pub start_state : Receiver → Receiver
start_state r =
    record {
      framer = searching;
      last1 = false;
      last2 = false;
      last3 = false;
      idle = 0;
      since = false;
      asleep = r.asleep;
      scdr = r.scdr;
      noise = r.noise;
    }

abbrev pub three : Receiver → Bool
three r = r.last1 && r.last2 && r.last3

-- The last of n bits before the stop bit is a one.
abbrev pub addressed : ℕ → ℕ → Bool
addressed n w = last_bit n w

-- An ended frame, not asleep, is taken; with WAKE=1 one whose last bit is 1 wakes the receiver and is taken.
abbrev pub takes : Receiver → ℕ → ℕ → Bool
takes r sccr1 w = not r.asleep || (WAKE sccr1 && addressed (bits_of (M sccr1)) w)

-- If RDRF or OR is set it is lost.
abbrev pub full : Status → Bool
full s = has s RDRF || has s OR

-- The idle count stops at a frame's samples: this sample brings it there.
abbrev pub reaches : Receiver → ℕ → Bool
reaches r n = eqb (r.idle + 1) (frame_samples n)

-- Reset by any zero, and with ILT=1 also when a frame ends.
abbrev pub idle_count : Bool → ℕ → ℕ → ℕ
idle_count counted idle limit = cond counted (min limit (idle + 1)) 0

unfoldable pub outcome : Receiver → Status → ℕ → Bool → Outcome
outcome r s sccr1 x =
    let taken : Bool = ends r.framer && takes r sccr1 r.framer.shift in
    let counted : Bool = x && not (ends r.framer && ILT sccr1) in
    record {
      begun = begins r.framer (three r) x;
      abandoned = abandons r.framer x;
      taken = taken;
      lost = taken && full s;
      counted = counted;
      reached = counted && reaches r (bits_of (M sccr1));
    }

-- RDRF rises, with NF (the sum is above 0), FE (stop read as zero), PF (PE and wrong parity).
unfoldable pub raised : Status → Frame → Bool → Status
raised s f bad = raise_if bad (raise_if (not f.stop) (raise_if (ltb 0 f.noise) (raise s RDRF) NF) FE) PF

unfoldable pub entered : Bool → Status → Frame → Bool → Status
entered enters s f bad = cond enters (raised s f bad) s

-- OR for a lost frame; else the frame's flags. A start bit raises RAF; it falls with an abandoned start and an idle line.
unfoldable pub status_after : Status → Outcome → Frame → Bool → Bool → Status
status_after s o f bad idles =
    raise_if idles
    (fall_if (o.abandoned || o.reached)
    (raise_if o.begun (entered (o.taken && not o.lost) (raise_if o.lost s OR) f bad) RAF)
    RAF)
    IDLE

-- A reached idle line wakes the receiver if WAKE=0. Only a frame that enters SCDR counts as one since, and leaves its sum beside it.
unfoldable pub receiver_after : Receiver → Outcome → ℕ → Bool → Receiver
receiver_after r o sccr1 x =
    record {
      framer = framed (bits_of (M sccr1)) r.framer (three r) x;
      last1 = x;
      last2 = r.last1;
      last3 = r.last2;
      idle = idle_count o.counted r.idle (frame_samples (bits_of (M sccr1)));
      since = not o.reached && (o.taken && not o.lost || r.since);
      asleep = r.asleep && not o.taken && not (o.reached && not (WAKE sccr1));
      scdr = cond (o.taken && not o.lost) r.framer.shift r.scdr;
      noise = cond (o.taken && not o.lost) (frame_of r.framer x).noise r.noise;
    }

-- One sample: IDLE rises if the receiver was awake and a frame has entered SCDR since the count last got to its limit.
unfoldable pub received : Receiver → Status → ℕ → Bool → Received
received r s sccr1 x =
    record {
      receiver = receiver_after r (outcome r s sccr1 x) sccr1 x;
      status =
          status_after s (outcome r s sccr1 x) (frame_of r.framer x)
          (PE sccr1 && parity_bit (PT sccr1) r.framer.shift)
          ((outcome r s sccr1 x).reached && not r.asleep && r.since);
    }

-- Samples that change little, and what they change. (proofs/Plain shows that `received` and `sent` say the same there.)
use Rattle.std.specs.Prelude.{Bool, true, false, cond, not, ◌&&◌, ◌||◌, ℕ, ◌-◌, ◌%◌, eqb}
use Rattle.steps.specs.Bits.{bit}
use Rattle.sci.specs.model.Control.{frame_samples}
use Rattle.sci.specs.model.Framer.{at_rt, next_rt}
use Rattle.sci.specs.model.Receiver.{three, reaches, idle_count, received}
use Rattle.sci.specs.model.Transmitter.{ends, begins_preamble, begins_frame, passed as halved}
use Rattle.sci.specs.declared.framer.Framer.{Framer}
use Rattle.sci.specs.declared.receiver.Receiver.{Receiver}
use Rattle.sci.specs.declared.receiver.Received.{Received}
use Rattle.sci.specs.declared.status.Status.{Status}
use Rattle.sci.specs.declared.transmitter.Transmitter.{Transmitter}

-- After RT rt comes RT8 to RT10 or RT16, the bits 7 to 9 and 15; in a start bit RT3, RT5 or RT7 too, the bits 2, 4 and 6.
abbrev pub busy : Bool → ℕ → Bool
busy starting rt = bit (rt % 16) (cond starting 0x83D4 0x8380)

-- No zero after three ones; and in a frame no bit is sampled, voted on or ended.
unfoldable pub rests : Framer → Bool → Bool → Bool
rests f three x = (not three || x) && not (f.framing && busy f.starting f.rt)

unfoldable pub rested : Framer → Framer
rested f = cond f.framing (at_rt f (next_rt f)) f

-- Nor does the idle count get to its limit.
unfoldable pub plain : Receiver → ℕ → Bool → Bool
plain r n x = rests r.framer (three r) x && not (x && reaches r n)

unfoldable pub passed : Receiver → ℕ → Bool → Receiver
passed r n x =
    record {
      framer = rested r.framer;
      last1 = x;
      last2 = r.last1;
      last3 = r.last2;
      idle = idle_count x r.idle (frame_samples n);
      since = r.since;
      asleep = r.asleep;
      scdr = r.scdr;
      noise = r.noise;
    }

-- With RE clear the receiver does not sample.
abbrev pub listened : Bool → Receiver → Status → ℕ → Bool → Received
listened true r s sccr1 x = received r s sccr1 x
listened false r s sccr1 x = record { receiver = r; status = s }

-- A frame or preamble ends or begins.
unfoldable pub turns : Transmitter → Status → ℕ → Bool
turns t s sccr1 = ends t || begins_preamble t sccr1 || begins_frame t s sccr1

unfoldable pub shifted : Transmitter → Transmitter
shifted t =
    record {
      scdr = t.scdr;
      preamble = t.preamble;
      shift = halved (eqb ((t.left - 1) % 16) 0) t.shift;
      left = t.left - 1;
    }

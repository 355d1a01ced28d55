-- Clocks that bring no sample: how many there are in a row, and what k of them leave. Samples that change nothing, and how many clocks are
-- then worth playing. (proofs/Quiet and proofs/Rest show that `clocked` says the same.)
use Rattle.std.specs.Prelude.{Bool, true, false, cond, not, ◌&&◌, ◌||◌, ℕ, ◌+◌, ◌-◌, ◌*◌, ◌%◌, min, eqb}
use Rattle.sci.specs.model.Flags.{TDRE}
use Rattle.sci.specs.model.Status.{has}
use Rattle.sci.specs.model.Control.{SCBR, TE, RE, M, bits_of, frame_samples}
use Rattle.sci.specs.model.Serial.{active}
use Rattle.sci.specs.declared.status.Status.{Status}
use Rattle.sci.specs.declared.receiver.Receiver.{Receiver}
use Rattle.sci.specs.declared.transmitter.Transmitter.{Transmitter}
use Rattle.sci.specs.declared.serial.Sci.{Sci}

-- Clocks before the one that brings a sample, of a prescaler that runs. With SCBR 0 none does; a hold has at most 4,294,967,295.
abbrev pub until_due : Sci → ℕ
until_due s = cond (eqb (2 * SCBR s.sccr0) 0) 4294967295 (2 * SCBR s.sccr0 - 1 - s.prescaler)

unfoldable pub quiet : Sci → ℕ
quiet s = cond (active s) (until_due s) 4294967295

abbrev pub with_count : Sci → ℕ → Sci
with_count s count =
    record {
      sccr0 = s.sccr0;
      sccr1 = s.sccr1;
      status = s.status;
      prescaler = count;
      receiver = s.receiver;
      transmitter = s.transmitter;
      account = s.account;
    }

unfoldable pub skipped : ℕ → Sci → Sci
skipped k s = cond (active s) (with_count s (min 65535 (s.prescaler + k))) s

-- The shifter is free and empty, and nothing waits for it: no preamble, and no word with TDRE clear.
abbrev pub sender_rests : Transmitter → Status → ℕ → Bool
sender_rests t s sccr1 =
    eqb t.left 0 && eqb t.shift 0 && not (TE sccr1 && (t.preamble || not (has s TDRE)))

-- The receiver searches, its last three samples are the level of the line, and its idle count goes no further.
abbrev pub receiver_rests : Bool → Receiver → ℕ → Bool
receiver_rests true r n =
    not r.framer.framing && r.last1 && r.last2 && r.last3 && eqb r.idle (frame_samples n)
receiver_rests false r n =
    not r.framer.framing && not r.last1 && not r.last2 && not r.last3 && eqb r.idle 0

-- Samples come, and change nothing.
unfoldable pub rests : Sci → Bool → Bool
rests s x =
    not (RE s.sccr1 && not (receiver_rests x s.receiver (bits_of (M s.sccr1))))
    && sender_rests s.transmitter s.status s.sccr1 && (RE s.sccr1 || TE s.sccr1)
    && not (eqb (SCBR s.sccr0) 0)

-- At rest, and from a sample on, whole rounds of the prescaler leave nothing.
abbrev pub shortened : Sci → ℕ → Bool → ℕ
shortened s n x = cond (rests s x) (n % (2 * SCBR s.sccr0)) n

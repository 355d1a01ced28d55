-- The serial half with a part of it replaced, and what a sample's two halves leave of it.
use Rattle.std.specs.Prelude.{Bool, ℕ}
use Rattle.sci.specs.declared.status.Status.{Status}
use Rattle.sci.specs.declared.receiver.Receiver.{Receiver}
use Rattle.sci.specs.declared.receiver.Received.{Received}
use Rattle.sci.specs.declared.transmitter.Transmitter.{Transmitter}
use Rattle.sci.specs.declared.transmitter.Sent.{Sent}
use Rattle.sci.specs.declared.account.Account.{Account}
use Rattle.sci.specs.declared.serial.Sci.{Sci}

abbrev pub with_status : Sci → Status → Sci
with_status s f =
    record {
      sccr0 = s.sccr0;
      sccr1 = s.sccr1;
      status = f;
      prescaler = s.prescaler;
      receiver = s.receiver;
      transmitter = s.transmitter;
      account = s.account;
    }

abbrev pub with_data : Sci → ℕ → Sci
with_data s w =
    record {
      sccr0 = s.sccr0;
      sccr1 = s.sccr1;
      status = s.status;
      prescaler = s.prescaler;
      receiver = s.receiver;
      transmitter =
          record {
            scdr = w;
            preamble = s.transmitter.preamble;
            shift = s.transmitter.shift;
            left = s.transmitter.left;
          };
      account = s.account;
    }

abbrev pub with_receiver : Sci → Receiver → Status → Sci
with_receiver s r f =
    record {
      sccr0 = s.sccr0;
      sccr1 = s.sccr1;
      status = f;
      prescaler = s.prescaler;
      receiver = r;
      transmitter = s.transmitter;
      account = s.account;
    }

abbrev pub with_sleep : Receiver → Bool → Receiver
with_sleep r asleep =
    record {
      framer = r.framer;
      last1 = r.last1;
      last2 = r.last2;
      last3 = r.last3;
      idle = r.idle;
      since = r.since;
      asleep = asleep;
      scdr = r.scdr;
      noise = r.noise;
    }

abbrev pub with_preamble : Transmitter → Bool → Transmitter
with_preamble t preamble = record { scdr = t.scdr; preamble = preamble; shift = t.shift; left = t.left }

abbrev pub after_sent : Sci → Sent → Sci
after_sent s t =
    record {
      sccr0 = s.sccr0;
      sccr1 = s.sccr1;
      status = t.status;
      prescaler = 0;
      receiver = s.receiver;
      transmitter = t.transmitter;
      account = s.account;
    }

abbrev pub after_received : Sci → Received → Account → Sci
after_received s r account =
    record {
      sccr0 = s.sccr0;
      sccr1 = s.sccr1;
      status = r.status;
      prescaler = s.prescaler;
      receiver = r.receiver;
      transmitter = s.transmitter;
      account = account;
    }

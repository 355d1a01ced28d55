-- What of a receiver the line and the reads can ever bring out: all but the flags and marks that are not its own, and a word that is not fresh.
use Rattle.std.specs.Prelude.{true, ◌≡◌, ℕ}
use Rattle.sci.specs.model.Flags.{RDRF, receive_flags, common}
use Rattle.sci.specs.model.Status.{has}
use Rattle.sci.specs.claims.Line.{shown}
use Rattle.sci.specs.declared.status.Status.{Status}
use Rattle.sci.specs.declared.receiver.Receiver.{Receiver}
use Rattle.sci.specs.declared.receiver.Received.{Received}

-- Equal receive flags and marks.
pub record Same (s t : Status) : Type 0 where
  pub flags : shown s ≡ shown t
  pub seen : common s.seen receive_flags ≡ common t.seen receive_flags

abbrev pub with_word : Receiver → ℕ → ℕ → Receiver
with_word r w noise =
    record {
      framer = r.framer;
      last1 = r.last1;
      last2 = r.last2;
      last3 = r.last3;
      idle = r.idle;
      since = r.since;
      asleep = r.asleep;
      scdr = w;
      noise = noise;
    }

-- The receiver but for SCDR and its noise figure.
abbrev pub line : Receiver → Receiver
line r = with_word r 0 0

pub record Alike (p q : Received) : Type 0 where
  pub lines : line p.receiver ≡ line q.receiver
  pub same : Same p.status q.status
  pub words : has p.status RDRF ≡ true → p.receiver.scdr ≡ q.receiver.scdr

use Rattle.sci.specs.model.Receiver.{received}
use Rattle.sci.proofs.Plain.{if_taken}
use Rattle.sci.proofs.receiver.Receiver.turned.Goals as goal

pub returns : goal.returns
unfolding received
returns c =
    rw (
      c.status_after.ensures,
      c.frame.ensures,
      c.after.ensures,
      c.wrong_parity-bad.ensures,
      c.pt.ensures,
      c.pe.ensures,
      c.outcome-o.ensures,
      if_taken,
    )

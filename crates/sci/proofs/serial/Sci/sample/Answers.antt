use Rattle.sci.specs.model.Serial.{sampled}
use Rattle.sci.proofs.Plain.{samples}
use Rattle.sci.proofs.serial.Sci.sample.Goals as goal

pub returns : goal.returns
unfolding sampled
returns c =
    let a : _ = c.args in
    rw (c.listened-received.ensures, c.accounted-account.ensures, c.re-re.ensures, c.sample-sent.ensures)
    (samples a.self a.x)

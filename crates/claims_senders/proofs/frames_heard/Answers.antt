use mathlib.Core.Path.{refl}
use Rattle.claims_senders.proofs.Playing.{playing}
use Rattle.claims_senders.proofs.Whole.{frames_are_heard}
use Rattle.claims_senders.proofs.frames_heard.Goals as goal

pub returns : goal.returns
returns c = (refl, frames_are_heard, playing)

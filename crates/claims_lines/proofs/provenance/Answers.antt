use mathlib.Core.Path.{refl}
use Rattle.claims_lines.proofs.Marked.{as_marked_holds}
use Rattle.claims_lines.proofs.Lines.{from_wire_holds, once}
use Rattle.claims_lines.proofs.Handing.{all_reported_holds, handed_over_holds}
use Rattle.claims_lines.proofs.Recorded.{met}
use Rattle.claims_lines.proofs.provenance.Goals as goal

pub returns : goal.returns
returns c = (
  refl,
  record {
    as_marked = as_marked_holds;
    from_wire = from_wire_holds;
    once = once;
    all_reported = all_reported_holds;
    handed_over = handed_over_holds;
  },
  met,
)

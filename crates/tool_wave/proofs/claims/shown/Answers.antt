use mathlib.Core.Path.{refl}
use Rattle.tool_wave.proofs.Whole.{whole_turns, from_start}
use Rattle.tool_wave.proofs.Device.{own, forward, met, ends_so}
use Rattle.tool_wave.proofs.Pieces.{grows, shifts}
use Rattle.tool_wave.proofs.Edge.{last_edge_holds}
use Rattle.tool_wave.proofs.claims.shown.Goals as goal

pub returns : goal.returns
returns c = (
  refl,
  record {
    whole = whole_turns;
    from_start = from_start;
    grows = grows;
    shifts = shifts;
    own = own;
    forward = forward;
    last_edge_holds = last_edge_holds;
    met = met;
    ends_so = ends_so;
  },
)

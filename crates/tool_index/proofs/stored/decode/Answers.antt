use mathlib.Core.Path.{sym}
use Rattle.tool_index.proofs.Decoding.{none_yet, one_more}
use Rattle.tool_index.proofs.stored.decode.Goals as goal

pub loop-i-init : goal.loop-i-init
loop-i-init c = (c.min-n.ensures, none_yet _ _)

pub loop-i-preserved : goal.loop-i-preserved
loop-i-preserved c =
    let loop = c.loop-i in
    let args = c.args in (
      loop.invariant.0,
      rw (c.number_at-in-loop-i.ensures, c.number_at.ensures, loop.invariant.1) (sym (one_more args.bytes.now args.lent.now loop.i)),
    )

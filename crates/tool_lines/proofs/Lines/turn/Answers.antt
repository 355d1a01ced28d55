use mathlib.Core.Path.{◌∙◌, ap}
use native.Mathlib.Omega.{arith}
use borrow.Author.Tests.{eq-eqb, ne_eqb, le-leb, lt-leb}
use Rattle.trace.specs.Trace.{parsed}
use Rattle.tool_lines.specs.Call.{turn}
use Rattle.tool_lines.proofs.Turns.{rest, fits_in}
use Rattle.tool_lines.proofs.Lines.turn.Goals as goal

pub returns-then-self-ne0 : goal.returns-then-self-ne0
unfolding turn
returns-then-self-ne0 c =
    rw (c.event_or_stop.ensures, c.stop_at.ensures, ne_eqb _ _ c.if-self-ne0.true)

pub returns-then-trace-at : goal.returns-then-trace-at
unfolding turn
returns-then-trace-at c =
    rw (c.turned.ensures, eq-eqb _ _ c.if-self-ne0.false, le-leb _ _ c.if-trace-at.true)

pub record_on-requires : goal.record_on-requires
record_on-requires c =
    let args = c.args in
    let here = c.parse-p.ensures ∙ ap parsed (rest args.trace.now args.self.at) in
    fits_in args.trace.now args.self.at c.parse-p.result here (omega arith) (omega arith)

pub returns : goal.returns
unfolding turn
returns c =
    let args = c.args in
    rw (
      c.record_on.ensures,
      c.parse-p.ensures ∙ ap parsed (rest args.trace.now args.self.at),
      eq-eqb _ _ c.if-self-ne0.false,
      lt-leb _ _ c.if-trace-at.false,
    )

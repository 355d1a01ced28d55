use Rattle.std.proofs.Common.{sym, ◌∙◌, append-nil}
use Rattle.console.proofs.Giving.{refused, went}
use Rattle.console.proofs.output.flush.Goals as goal

pub returns-then-out-clause-gives : goal.returns-then-out-clause-gives
returns-then-out-clause-gives c = refused c.args.out c.args.buf.now _ c.if-out.true

pub returns-clause-gives : goal.returns-clause-gives
returns-clause-gives c =
    rw c.after.ensures
    (went c.args.out c.args.buf.now _ _ c.hand.result c.if-out.false (append-nil _ ∙ sym c.first.ensures) c.hand.ensures)

use Rattle.std.proofs.Common.{refl}
use Rattle.console.proofs.Giving.{went, more, both}
use Rattle.console.proofs.output.collect.Goals as goal

pub returns-then-clear : goal.returns-then-clear
returns-then-clear c =
    more c.args.out c.args.buf.now _ c.flush-clear.result c.args.buf.now c.args.text.now c.if-clear.true
    c.flush-clear.ensures.gives

pub returns-then-text-buf-2 : goal.returns-then-text-buf-2
returns-then-text-buf-2 c = both _ _ _ _ _ _ _ _ c.flush-clear.ensures.gives c.stored-then-text-buf-2.ensures

pub returns : goal.returns
returns c =
    let clear = c.flush-clear.ensures.cleared c.requires in
    let text = c.args.text.now in
    both _ _ _ _ _ _ _ _ c.flush-clear.ensures.gives
    (rw c.after.ensures (went c.flush-clear.result c.args.buf.now text text c.hand.result c.if-clear.false (rw clear refl)
    c.hand.ensures))

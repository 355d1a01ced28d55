use Rattle.cmd_show.proofs.Lines.{Stands, stands, goes, never}
use Rattle.cmd_show.proofs.piece.show.Goals as goal

pub loop-now-init : goal.loop-now-init
loop-now-init c = stands _ _ _ _ _

pub returns-then-given : goal.returns-then-given
returns-then-given c =
    let s : Stands c.args.traces c.args.bytes.now c.args.run c.args.out c.args.buf.now c.past-now.result c.put_line-given.result c.put_line-given.new.buf =
    goes _ _ _ _ _ _ _ _ _ _ _ _ c.loop-now.invariant c.found-i.ensures c.in-Shown.is c.put_line-given.ensures c.past-now.ensures in
    record {
      lines = s.lines;
      run = s.run;
      given = s.given;
      told = λ good. never _ c.if-given.true good;
    }

pub loop-now-preserved : goal.loop-now-preserved
loop-now-preserved c =
    goes _ _ _ _ _ _ _ _ _ _ _ _ c.loop-now.invariant c.found-i.ensures c.in-Shown.is c.put_line-given.ensures c.past-now.ensures

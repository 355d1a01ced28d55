use native.Mathlib.Omega.{arith}
use Rattle.io.proofs.Counting.{length-take_of_le}
use Rattle.cmd_replay.proofs.Playing.{fits, inside, run_is, logged}
use Rattle.cmd_replay.proofs.piece.step.Goals as goal

pub slice_bounds-put-end : goal.slice_bounds-put-end
slice_bounds-put-end c = omega (arith, fits c.args.run c.args.piece.now c.args.room.now _ c.play-p.result c.play-p.ensures)

pub slice_bounds-put-end-2 : goal.slice_bounds-put-end-2
slice_bounds-put-end-2 c = length-take_of_le _ _ (omega (arith, fits c.args.run c.args.piece.now c.args.room.now _ c.play-p.result c.play-p.ensures))

pub returns : goal.returns
returns c =
    let args = c.args in
    let play = c.play-p in
    record {
      steps = record {
        run = run_is args.run args.piece.now args.room.now _ play.result play.ensures _ c.counted.ensures;
        read = play.ensures.read;
        within = inside args.run args.piece.now args.room.now _ play.result play.ensures;
        stop = play.ensures.stop;
        next = rw (c.unless_failed.ensures, c.after_stop.ensures);
      };
      gives = logged args.run args.piece.now args.room.now _ play.result play.ensures _ _ _ _ c.put-given.ensures;
    }

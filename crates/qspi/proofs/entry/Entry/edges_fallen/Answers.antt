use Prim.Native.Nat.{◌%◌}
use borrow.Author.Tests.{lt-ltb, le-ltb}
use Rattle.qspi.specs.quick.Falls.{edges_fallen}
use Rattle.qspi.proofs.entry.Entry.edges_fallen.Goals as goal

pub returns-then-j-from : goal.returns-then-j-from
unfolding edges_fallen
returns-then-j-from c =
    let args = c.args in
    rw (le-ltb (args.self.edges % 32) args.j c.if-j-from.true)

pub returns : goal.returns
unfolding edges_fallen
returns c =
    let args = c.args in
    rw (
      c.collected_since.ensures,
      c.mosi_since.ensures,
      c.spbr.ensures,
      c.bits_of-n.ensures,
      c.cpha-phase.ensures,
      lt-ltb (args.self.edges % 32) args.j c.if-j-from.false,
    )

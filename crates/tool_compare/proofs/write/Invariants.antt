use lib.ListN.{take}
use Rattle.answers.specs.Answer.{fields}
use Rattle.tool_compare.proofs.Listing.{Listing}
use Rattle.tool_compare.proofs.write.Given as goal

abbrev pub invariant-loop-i : goal.invariant-loop-i
invariant-loop-i l = Listing (take l.k fields) l.bytes l.a l.b l.n l.initial.list l.list l.put l.at l.i

use Rattle.std.proofs.lemmas.List.{length-take-le}
use Rattle.trace.proofs.put_answer.Goals as goal

pub copy_from_slice-requires : goal.copy_from_slice-requires
copy_from_slice-requires c = rw c.answer_bytes.ensures (length-take-le 18 c.args.left.now c.requires)

use Rattle.std.proofs.Common.{◌≡◌, Some, drop}
use Rattle.text.specs.Number.{after}
use Rattle.text.proofs.number.parse_number.Given as goal

abbrev pub invariant-loop-b : goal.invariant-loop-b
invariant-loop-b l = after (Some 0) l.word ≡ after (Some l.number) (drop l.b-index l.word)

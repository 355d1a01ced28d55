use Rattle.std.proofs.Common.{◌≡◌, drop}
use Rattle.bench_votes.specs.Tally.{tally}
use Rattle.bench_votes.proofs.vote_by_count.Given as goal

abbrev pub invariant-loop-t : goal.invariant-loop-t
invariant-loop-t l = tally 0 l.triples ≡ tally l.sum (drop l.t-index l.triples)

use Rattle.std.proofs.Common.{◌≡◌, ◌≤◌, drop}
use Rattle.bench_parities.specs.Tally.{tally}
use Rattle.bench_parities.proofs.odd_by_count.Given as goal

abbrev pub invariant-loop-w : goal.invariant-loop-w
invariant-loop-w l = record { at_most_one : l.sum ≤ l.w-index; so_far : tally 0 l.words ≡ tally l.sum (drop l.w-index l.words) }

-- The sum over triples, one further and at the end.
use mathlib.Core.List.{List}
use mathlib.Core.Path.{◌≡◌}
use Prim.Native.Nat.{ℕ, ◌+◌, ◌≤◌, ◌<◌}
use native.Mathlib.Numerals.{add-one}
use lib.ListN.{length, get_or, drop, drop_of_length-le}
use lib.Seq.{drop-cons}
use Rattle.bench_votes.specs.Tally.{added, triple, tally}

pub further : (sum : ℕ) (ts : List ℕ) (i : ℕ) → i < length ts → tally sum (drop i ts) ≡ tally (added sum (triple (get_or ts i 0))) (drop (i + 1) ts)
unfolding tally
further sum ts i h = rw (add-one i, drop-cons ts i 0 h)

pub done : (sum : ℕ) (ts : List ℕ) (i : ℕ) → length ts ≤ i → tally sum (drop i ts) ≡ sum
unfolding tally
done sum ts i h = rw (drop_of_length-le ts h)

-- The sum over words, one further and at the end.
use mathlib.Core.List.{List}
use mathlib.Core.Path.{◌≡◌}
use Prim.Native.Nat.{ℕ, ◌+◌, ◌≤◌, ◌<◌}
use native.Mathlib.Numerals.{add-one}
use lib.ListN.{length, get_or, drop, drop_of_length-le}
use lib.Seq.{drop-cons}
use Rattle.steps.specs.Bits.{digit}
use Rattle.sci.specs.model.Bits.{odd}
use Rattle.bench_parities.specs.Tally.{tally}

pub further : (sum : ℕ) (ws : List ℕ) (i : ℕ) → i < length ws → tally sum (drop i ws) ≡ tally (sum + digit (odd (get_or ws i 0))) (drop (i + 1) ws)
unfolding tally
further sum ws i h = rw (add-one i, drop-cons ws i 0 h)

pub done : (sum : ℕ) (ws : List ℕ) (i : ℕ) → length ws ≤ i → tally sum (drop i ws) ≡ sum
unfolding tally
done sum ws i h = rw (drop_of_length-le ws h)

-- Marks read one after another. Assumes nothing.
use mathlib.Core.Path.{◌≡◌, refl, ap}
use mathlib.Core.List.{List}
use Prim.Native.Nat.{ℕ, ◌+◌, ◌*◌}
use native.Mathlib.Numerals.{add-one}
use lib.ListN.{set}
use Rattle.tool_index.specs.Stored.{number_at, decoded}

pub none_yet : (t lent : List ℕ) → lent ≡ decoded t lent 0
unfolding decoded
none_yet t lent = refl

pub one_more : (t lent : List ℕ) (i : ℕ) →
    decoded t lent (i + 1) ≡ set (set (decoded t lent i) (2 * i) (number_at t (16 * i))) (2 * i + 1) (number_at t (16 * i + 8))
unfolding decoded
one_more t lent i = ap (decoded t lent) (add-one i)

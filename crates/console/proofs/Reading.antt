-- What is left of a piece, before what comes. Assumes nothing.
use mathlib.Core.Path.{◌≡◌, sym, ap, ◌∙◌}
use mathlib.Core.List.{List}
use Prim.Native.Nat.{ℕ, ◌≤◌}
use native.Mathlib.Omega.{arith}
use lib.ListN.{length, take, drop, length-append, length-drop}
use lib.Seq.{length-take-le, take_at}
use Rattle.files.specs.Pieces.{left, carried, Fills}
use Rattle.files.specs.declared.pieces.Filled.{Filled}

module _ (buf : List ℕ) (at total : ℕ) where
  front : length (take (left buf at total) (drop at buf)) ≡ left buf at total
  front = length-take-le (left buf at total) (drop at buf) (simp length-drop (omega arith))

  long : left buf at total ≤ length (carried buf at total)
  long = simp (length-append, front) (omega arith)

  first : take (left buf at total) (carried buf at total) ≡ take (left buf at total) (drop at buf)
  first = take_at (take (left buf at total) (drop at buf)) (drop (left buf at total) buf) (left buf at total) front

  module _ (moved buf' : List ℕ) (have : ℕ) (f : Filled) (is-have : have ≡ left buf at total) (is-moved : moved ≡ carried buf at total)
      (fills : Fills have moved f buf') where
    pub kept : take (left buf at total) buf' ≡ take (left buf at total) (drop at buf)
    kept =
        let before : take have moved ≡ take (left buf at total) (drop at buf) = rw (is-have, is-moved) first in
        ap (λ (k : ℕ). take k buf') (sym is-have) ∙ fills.kept ∙ before

    pub least : left buf at total ≤ f.total
    least =
        let same : length moved ≡ length (carried buf at total) = ap length is-moved in
        let enough = long in
        let at_least_lem = fills.least in
        omega arith

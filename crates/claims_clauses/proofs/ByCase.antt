-- A sample past the start bit: it adjusts the sampling points, or is one of the stop bit or of a data bit. Assumes nothing.
use mathlib.Core.Path.{◌≡◌, refl}
use mathlib.Core.Bool.{Bool, true, false, cond}
use Prim.Native.Nat.{ℕ}
use Rattle.sci.specs.model.Framer.{data_bit, stop_bit, in_bit}
use Rattle.sci.specs.declared.framer.Framer.{Framer}

pub by_case : (P : Framer → Type 0) (b : Bool) (u v : Framer) → (b ≡ true → P u) → (b ≡ false → P v) → P (cond b u v)
by_case P true u v f g = f refl
by_case P false u v f g = g refl

pub by_stop : (P : Framer → Type 0) (s : Bool) (n : ℕ) (f : Framer) (rt : ℕ) (x : Bool) → (s ≡ true → P (stop_bit f rt x)) →
    (s ≡ false → P (data_bit n f rt x)) → P (in_bit false s n f rt x)
by_stop P true n f rt x g h = g refl
by_stop P false n f rt x g h = h refl

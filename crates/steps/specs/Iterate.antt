-- A step taken n times: the one meaning of 'so many clocks' and 'so many samples'.
use Rattle.std.specs.Prelude.{ℕ, zero, suc}

unfoldable pub iterate : {A : Type 0} → ℕ → (A → A) → A → A
iterate zero f a = a
iterate (suc n) f a = f (iterate n f a)

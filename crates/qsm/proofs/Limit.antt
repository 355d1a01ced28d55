-- A hold by whether it would pass 2^64 - 1 clocks. Assumes nothing.
use mathlib.Core.Path.{◌≡◌, refl, sym}
use mathlib.Core.Bool.{Bool, true, false, cond}
use Prim.Native.Nat.{ℕ, ◌+◌, ◌-◌, ◌≤◌, ◌<◌}
use native.Mathlib.Omega.{arith}
use lib.Dec.{ltb}
use borrow.Author.Tests.{lt-ltb, le-ltb, ltb-true, ltb-false}
use Rattle.qsm.specs.model.Event.{done, clock_limit, passes, clocks, held, holds, does}
use Rattle.qsm.specs.declared.state.Module.{Module}
use Rattle.qsm.specs.declared.event.Event.TheVariants.{Hold}
use Rattle.qsm.specs.declared.event.Done.{Done}

either : (P : Done → Type 0) (b : Bool) (x y : Done) → (b ≡ true → P x) → (b ≡ false → P y) → P (cond b x y)
either P true x y f g = f refl
either P false x y f g = g refl

pub hold_if : (P : Done → Type 0) (m : Module) (pins : ℕ) (rxd : Bool) (n : ℕ) → (passes m n ≡ true → P (done m 10 0)) →
    (passes m n ≡ false → P (done (clocks (held m pins) rxd n) 0 0)) → P (does m (Hold pins rxd n))
unfolding does holds
hold_if P m pins rxd n f g = either P (passes m n) (done m 10 0) (done (clocks (held m pins) rxd n) 0 0) f g

-- One that is not refused, and one that is.
pub hold_played : (m : Module) (pins : ℕ) (rxd : Bool) (n : ℕ) → passes m n ≡ false →
    does m (Hold pins rxd n) ≡ done (clocks (held m pins) rxd n) 0 0
unfolding does holds
hold_played m pins rxd n h = rw h

pub hold_refused : (m : Module) (pins : ℕ) (rxd : Bool) (n : ℕ) → passes m n ≡ true → does m (Hold pins rxd n) ≡ done m 10 0
unfolding does holds
hold_refused m pins rxd n h = rw h

-- The test as numbers.
pub has_room : (m : Module) (n : ℕ) → passes m n ≡ false → m.clock + n ≤ clock_limit
has_room m n h = ltb-false clock_limit (m.clock + n) h

pub no_room : (m : Module) (n : ℕ) → passes m n ≡ true → clock_limit < m.clock + n
no_room m n h = ltb-true clock_limit (m.clock + n) h

pub is_room : (m : Module) (n : ℕ) → m.clock + n ≤ clock_limit → passes m n ≡ false
is_room m n h = le-ltb clock_limit (m.clock + n) h

-- The same test with the sum on the other side, where it can't pass 64 bits.
pub moved : (l n k : ℕ) → n ≤ l → ltb (l - n) k ≡ ltb l (k + n)
moved l n k le = go (ltb (l - n) k) refl
  where
    go : (t : Bool) → ltb (l - n) k ≡ t → t ≡ ltb l (k + n)
    go true h = sym (lt-ltb l (k + n) (omega (arith, ltb-true (l - n) k h)))
    go false h = sym (le-ltb l (k + n) (omega (arith, ltb-false (l - n) k h)))

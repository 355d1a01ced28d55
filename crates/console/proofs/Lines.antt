-- A line that is given whole, or not at all. Assumes nothing.
use mathlib.Core.Path.{◌≡◌, refl, subst}
use mathlib.Core.Bool.{Bool, true, false, cond}
use mathlib.Core.List.{List, []}
use Prim.Native.Nat.{ℕ}
use native.Mathlib.Omega.{arith}
use lib.ListN.{length, take}
use lib.Seq.{take_at}
use Rattle.text.specs.Line.{Shows}
use Rattle.text.specs.declared.line.Line.{Line}
use Rattle.console.specs.Output.{Gives}
use Rattle.console.specs.declared.output.Out.{Out}

-- Nothing is given.
pub nothing : (o : Out) (buf : List ℕ) → Gives o buf [] o buf
nothing o buf =
    record {
      handed = [];
      lost = [];
      order = refl;
      kept = λ _. refl;
      stopped = λ _. (refl, (refl, refl));
      same = refl;
      room = refl;
    }

-- A line is its text.
pub whole : {l : Line} {t : List ℕ} → Shows l t → take l.length l.bytes ≡ t
whole {l = l} {t = t} s = rw s.line (take_at t _ (length t) refl)

pub line_given : (l : Line) (t : List ℕ) (o : Out) (buf : List ℕ) (o' : Out) (buf' : List ℕ) → Shows l t → Gives o buf (take l.length l.bytes) o' buf'
    → Gives o buf t o' buf'
line_given l t o buf o' buf' s g = subst (λ (x : List ℕ). Gives o buf x o' buf') (whole s) g

never : {A : Type 0} (b : Bool) → b ≡ true → b ≡ false → A
never b bad good = let z : ◌≡◌ {A = ℕ} 0 1 = cc in absurd (omega arith)

-- A line that is given where a test holds, and none where it does not.
pub given_if : (b : Bool) (l : Line) (t : List ℕ) (o : Out) (buf : List ℕ) (o' : Out) (buf' : List ℕ) → b ≡ true → Shows l t
    → Gives o buf (take l.length l.bytes) o' buf' → Gives o buf (cond b t []) o' buf'
given_if true l t o buf o' buf' is s g = line_given l t o buf o' buf' s g
given_if false l t o buf o' buf' is s g = never false is refl

pub given_not : (b : Bool) (t : List ℕ) (o : Out) (buf : List ℕ) → b ≡ false → Gives o buf (cond b t []) o buf
given_not false t o buf is = nothing o buf
given_not true t o buf is = never true refl is

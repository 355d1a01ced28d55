-- Every line's frames end at least so many samples apart. Assumes nothing.
use mathlib.Core.Path.{◌≡◌, refl}
use mathlib.Core.Bool.{Bool, true, false, ◌&&◌}
use mathlib.Core.List.{List, [], ◌∷◌}
use mathlib.Core.Option.{Option, none, some}
use Prim.Native.Nat.{ℕ, ◌+◌, ◌≤◌}
use native.Mathlib.Omega.{arith}
use Rattle.sci.specs.model.Control.{M, bits_of}
use Rattle.sci.specs.model.Framer.{ends, adjusts, framed}
use Rattle.sci.specs.claims.Levels.{Unmoved}
use Rattle.sci.specs.claims.Sound.{Fits}
use Rattle.sci.specs.declared.framer.Framer.{Framer}
use Rattle.sci.proofs.Frames.{moved}
use Rattle.claims_polling.specs.Spacing.{apart}
use Rattle.claims_polling.proofs.Nearing.{soonest, at_end_holds, end_searches}
use Rattle.claims_polling.proofs.Spaced.{nears_bits}
use Rattle.claims_deadlines.specs.Deadline.{since_end, FarEnough, SpacedFrom}

-- The samples since the last end and those until the next can be no fewer.
abbrev Far : Bool → ℕ → Option ℕ → Framer → Type 0
Far moves n none f = Unit {0}
Far moves n (some k) f = apart moves n ≤ k + soonest moves n f

far_end : (moves : Bool) (n : ℕ) (last : Option ℕ) (f : Framer) → Far moves n last f → ends f ≡ true → FarEnough (apart moves n) last
far_end moves n none f h e = tt
far_end moves n (some k) f h e = omega (arith, at_end_holds moves n f e)

far_next : (moves : Bool) (sccr1 : ℕ) (last : Option ℕ) (f : Framer) (three x over : Bool) → ends f ≡ over → Fits (bits_of (M sccr1)) f →
    (moves ≡ false → adjusts (bits_of (M sccr1)) f three x ≡ false) → Far moves (bits_of (M sccr1)) last f →
    Far moves (bits_of (M sccr1)) (since_end over last) (framed (bits_of (M sccr1)) f three x)
far_next moves sccr1 last f three x true e i u h =
    rw (end_searches (bits_of (M sccr1)) f three x e) (omega arith)
far_next moves sccr1 none f three x false e i u h = tt
far_next moves sccr1 (some k) f three x false e i u h = omega (arith, nears_bits moves sccr1 f three x i u)

pub spaced_from : (moves : Bool) (sccr1 : ℕ) (a b c : Bool) (f : Framer) (last : Option ℕ) (xs : List Bool) → Fits (bits_of (M sccr1)) f →
    (moves ≡ false → Unmoved (bits_of (M sccr1)) a b c f xs) → Far moves (bits_of (M sccr1)) last f →
    SpacedFrom (apart moves (bits_of (M sccr1))) (bits_of (M sccr1)) a b c f last xs
unfolding SpacedFrom Unmoved
spaced_from moves sccr1 a b c f last [] i u h = tt
spaced_from moves sccr1 a b c f last (x ∷ xs) i u h =
    let n : ℕ = bits_of (M sccr1) in (
      far_end moves n last f h,
      spaced_from moves sccr1 x a b (framed n f (a && b && c) x) (since_end (ends f) last) xs (moved n f (a && b && c) x i).fits
          (λ e. (u e).1) (far_next moves sccr1 last f (a && b && c) x (ends f) refl i (λ e. (u e).0) h),
    )

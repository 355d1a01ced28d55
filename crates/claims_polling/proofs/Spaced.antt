-- Two frames end at least so many samples apart. Assumes nothing.
use mathlib.Core.Path.{◌≡◌, refl, ap, sym, subst}
use mathlib.Core.Bool.{Bool, true, false, false≢true}
use mathlib.Core.List.{List, [], ◌∷◌}
use Prim.Native.Nat.{ℕ, suc, ◌+◌, ◌-◌, ◌≤◌}
use native.Mathlib.Omega.{arith}
use Rattle.sci.specs.model.Control.{M, bits_of}
use Rattle.sci.specs.model.Framer.{searching, ends, adjusts, start_bit, data_bit, stop_bit, fixed, framed}
use Rattle.sci.specs.model.Receiver.{three, received, receiver_after}
use Rattle.sci.specs.claims.Levels.{Unmoved, framer_after, stretched, low_bits}
use Rattle.sci.specs.claims.Line.{Op, sample, read, act, acts, samples_in}
use Rattle.sci.specs.claims.Sound.{Fits}
use Rattle.sci.specs.declared.framer.Framer.{Framer}
use Rattle.sci.specs.declared.receiver.Received.{Received}
use Rattle.sci.proofs.Frames.{moved}
use Rattle.claims_polling.specs.Spacing.{apart, Moving, Apart, cut, Spacing}
use Rattle.claims_polling.proofs.Nearing.{soonest, nears, at_end_holds, end_searches}

-- A frame has at least one data bit.
pub some_bits : (m : Bool) → bits_of m ≡ suc (bits_of m - 1)
some_bits true = refl
some_bits false = refl

pub nears_bits : (moves : Bool) (sccr1 : ℕ) (f : Framer) (three x : Bool) → Fits (bits_of (M sccr1)) f →
    (moves ≡ false → adjusts (bits_of (M sccr1)) f three x ≡ false) →
    soonest moves (bits_of (M sccr1)) f ≤ suc (soonest moves (bits_of (M sccr1)) (framed (bits_of (M sccr1)) f three x))
nears_bits moves sccr1 f three x i h = go (M sccr1) i h
  where
    go : (m : Bool) → Fits (bits_of m) f → (moves ≡ false → adjusts (bits_of m) f three x ≡ false) →
        soonest moves (bits_of m) f ≤ suc (soonest moves (bits_of m) (framed (bits_of m) f three x))
    go true i h = nears moves 8 f three x i h
    go false i h = nears moves 7 f three x i h

-- Each sample brings the end of a frame nearer by one at most.
far : (moves : Bool) (sccr1 : ℕ) (os : List Op) (p : Received) → Fits (bits_of (M sccr1)) p.receiver.framer →
    Moving moves (bits_of (M sccr1)) os p.receiver →
    soonest moves (bits_of (M sccr1)) p.receiver.framer
    ≤ samples_in os + soonest moves (bits_of (M sccr1)) (acts sccr1 os p).receiver.framer
unfolding act acts received receiver_after Unmoved
far moves sccr1 [] p i u = omega arith
far moves sccr1 (sample x ∷ os) p i u =
    let n : ℕ = bits_of (M sccr1) in
    let f : Framer = p.receiver.framer in
    omega (
      arith,
      nears_bits moves sccr1 f (three p.receiver) x i (λ e. (u e).0),
      far moves sccr1 os (act sccr1 (sample x) p) (moved n f (three p.receiver) x i).fits (λ e. (u e).1),
    )
far moves sccr1 (read scsr scdr ∷ os) p i u = far moves sccr1 os (act sccr1 (read scsr scdr) p) i u

fits_searching : (n : ℕ) → Fits n searching
fits_searching n =
    record { rests = λ e. refl; early = λ e h. absurd (false≢true e); late = λ e h. absurd (false≢true e) }

ended : (sccr1 : ℕ) (p : Received) (x : Bool) → ends p.receiver.framer ≡ true → (act sccr1 (sample x) p).receiver.framer ≡ searching
unfolding act received receiver_after
ended sccr1 p x e = end_searches (bits_of (M sccr1)) p.receiver.framer (three p.receiver) x e

is_apart : Apart
is_apart moves sccr1 p x os e u f =
    let n : ℕ = bits_of (M sccr1) in
    let q : Received = act sccr1 (sample x) p in
    let z : q.receiver.framer ≡ searching = ended sccr1 p x e in
    let l : soonest moves n q.receiver.framer ≡ apart moves n = ap (soonest moves n) z in
    omega (
      arith,
      l,
      far moves sccr1 os q (subst (Fits n) (sym z) (fits_searching n)) u,
      at_end_holds moves n (acts sccr1 os q).receiver.framer f,
    )

pub spaced : Spacing
unfolding framer_after framed fixed start_bit data_bit stop_bit cut stretched low_bits
spaced =
    record {
      figures = (refl, refl, refl, refl);
      apart = is_apart;
      reached = (refl, refl, refl, refl);
    }

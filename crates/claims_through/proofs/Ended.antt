-- Each frame that is taken is a word that came or a frame that was lost. Assumes nothing.
use mathlib.Core.Path.{◌≡◌, refl, ap, ap₂, sym, subst, ◌∙◌}
use mathlib.Core.Bool.{Bool, true, false, cond, ◌&&◌, true≢false}
use mathlib.Core.List.{List, [], ◌∷◌, ◌++◌}
use mathlib.Core.Option.{Option, none, some}
use Prim.Native.Nat.{ℕ, ◌%◌, ◌^◌, ◌≤◌, ◌<◌}
use native.Mathlib.Omega.{arith}
use native.Mathlib.Nat.{pow-suc}
use lib.ListN.{length}
use Rattle.sci.specs.claims.Levels.{value}
use Rattle.sci.specs.model.Control.{bits_of}
use Rattle.sci.specs.model.Framer.{frame_of}
use Rattle.sci.specs.model.Receiver.{full, outcome}
use Rattle.sci.specs.model.Transmitter.{sent}
use Rattle.sci.specs.claims.Line.{read, delivers}
use Rattle.sci.specs.claims.History.{Step, reset, clock, reads, writesSccr0, writesSccr1, writesScdr, step, receiving, sampling}
use Rattle.sci.specs.claims.Overrun.{Mark, frame_lost, word_came, look_marks, delivery_marks, step_marks, log}
use Rattle.sci.specs.declared.framer.Frame.{Frame}
use Rattle.sci.specs.declared.serial.Sci.{Sci}
use Rattle.claims_senders.specs.Fair.{SentFrame, data_of, word_of, words_sent, FairFrames}
use Rattle.claims_senders.specs.Heard.{as_sent}
use Rattle.claims_senders.proofs.Receiving.{taken_at, taken_in, resets, StaysAwake}
use Rattle.claims_senders.proofs.Counts.{data_length}
use Rattle.claims_through.specs.Through.{CameOrLost}

-- The words of frames, nine bits.
unfoldable pub nine : List Frame → List ℕ
nine [] = []
nine (f ∷ fs) = f.word % 512 ∷ nine fs

nine_append : (fs gs : List Frame) → nine (fs ++ gs) ≡ nine fs ++ nine gs
unfolding nine
nine_append [] gs = refl
nine_append (f ∷ fs) gs = ap (λ (l : List ℕ). f.word % 512 ∷ l) (nine_append fs gs)

clock_ends : (a t l w raises : Bool) (f : Frame) (h : List Mark) (ws : List ℕ) → l ≡ t && w → CameOrLost h ws →
    CameOrLost (cond a (cond l (frame_lost raises ∷ []) (cond t (word_came (f.word % 512) ∷ []) [])) [] ++ h)
    (nine (cond (a && t) (f ∷ []) []) ++ ws)
unfolding CameOrLost nine
clock_ends false t l w raises f h ws e c = c
clock_ends true true true w raises f h ws e c = c
clock_ends true true false w raises f h ws e c = (refl, c)
clock_ends true false true w raises f h ws e c = absurd (true≢false e)
clock_ends true false false w raises f h ws e c = c

read_ends : (scsr : Bool) (d : Option ℕ) (h : List Mark) (ws : List ℕ) → CameOrLost h ws → CameOrLost ((look_marks scsr ++ delivery_marks d) ++ h) ws
unfolding CameOrLost
read_ends true (some w) h ws c = c
read_ends true none h ws c = c
read_ends false (some w) h ws c = c
read_ends false none h ws c = c

step_ends : (e : Step) (s : Sci) (h : List Mark) (ws : List ℕ) → resets e ≡ false → CameOrLost h ws →
    CameOrLost (step_marks e s ++ h) (nine (taken_at e s) ++ ws)
unfolding nine outcome
step_ends reset s h ws n c = absurd (true≢false n)
step_ends (clock x) s h ws n c =
    let t = (sent s.transmitter s.status s.sccr1).status in
    clock_ends (sampling s) (outcome s.receiver t s.sccr1 x).taken (outcome s.receiver t s.sccr1 x).lost (full t) _
    (frame_of s.receiver.framer x) h ws refl c
step_ends (reads scsr scdr) s h ws n c = read_ends scsr (delivers (read scsr scdr) (receiving s)) h ws c
step_ends (writesSccr0 v upper lower) s h ws n c = c
step_ends (writesSccr1 v upper lower) s h ws n c = c
step_ends (writesScdr v upper lower) s h ws n c = c

none_ends : CameOrLost [] (nine [])
unfolding CameOrLost nine
none_ends = tt

pub all_ends : (es : List Step) (s : Sci) → StaysAwake es s → CameOrLost (log es s) (nine (taken_in es s))
unfolding taken_in log StaysAwake
all_ends [] s o = none_ends
all_ends (e ∷ es) s o =
    subst (CameOrLost (step_marks e s ++ log es (step e s))) (sym (nine_append (taken_at e s) (taken_in es (step e s))))
    (step_ends e s (log es (step e s)) (nine (taken_in es (step e s))) o.0 (all_ends es (step e s) o.3))

-- A word of n bits is below 2 ^ n.
value_small : (bits : List Bool) → value bits < 2 ^ length bits
unfolding value
value_small [] = omega arith
value_small (true ∷ bits) = rw (pow-suc 2 (length bits)) (omega (arith, value_small bits))
value_small (false ∷ bits) = rw (pow-suc 2 (length bits)) (omega (arith, value_small bits))

few_bits : (m : Bool) → 2 ^ bits_of m ≤ 512
few_bits true = omega arith
few_bits false = omega arith

pub nine_sent : (s : ℕ) (m : Bool) (fs : List SentFrame) → FairFrames s (bits_of m) fs → nine (as_sent fs) ≡ words_sent fs
unfolding nine as_sent words_sent FairFrames
nine_sent s m [] h = refl
nine_sent s m (f ∷ fs) h =
    let e : length (data_of f.bits) ≡ bits_of m = data_length f.bits ∙ h.0 in
    let a : word_of f < 2 ^ bits_of m = subst (λ (k : ℕ). word_of f < 2 ^ k) e (value_small (data_of f.bits)) in
    let b : 2 ^ bits_of m ≤ 512 = few_bits m in
    ap₂ (λ (w : ℕ) (l : List ℕ). w ∷ l) (small (word_of f) (2 ^ bits_of m) a b) (nine_sent s m fs h.2)
  where
    small : (w p : ℕ) → w < p → p ≤ 512 → w % 512 ≡ w
    small w p a b = omega arith

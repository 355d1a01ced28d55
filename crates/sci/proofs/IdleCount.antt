-- The idle count: at its limit; and with ILT=0 the number of ones since the last zero, as far as that.
-- Assumes nothing.
use mathlib.Core.Path.{◌≡◌, refl, ap, sym, ◌∙◌}
use mathlib.Core.Bool.{Bool, true, false, ◌&&◌, and-true, and-false, false≢true}
use mathlib.Core.List.{List, [], ◌∷◌}
use Prim.Native.Nat.{ℕ, suc, ◌+◌, ◌<◌, min}
use native.Mathlib.Omega.{arith}
use lib.Dec.{eqb, ltb}
use borrow.Author.Tests.{eqb-true, eqb-false, eq-eqb, ne_eqb, lt-ltb, ltb-true}
use Rattle.sci.specs.model.Control.{ILT, M, bits_of, frame_samples}
use Rattle.sci.specs.model.Receiver.{start_state, idle_count, outcome, receiver_after, received}
use Rattle.sci.specs.claims.Line.{Op, sample, read, act, acts}
use Rattle.sci.specs.claims.Link.{samples_of}
use Rattle.sci.specs.claims.ReceiverClauses.{ones_at_end, OnesCounted}
use Rattle.sci.specs.declared.receiver.Received.{Received}

-- The count gets to its limit exactly if it was below it and now is there.
pub reached_is : (counted : Bool) (idle limit : ℕ) → 0 < limit →
    counted && eqb (idle + 1) limit ≡ ltb idle limit && eqb (idle_count counted idle limit) limit
reached_is true idle limit h = go (eqb (idle + 1) limit) refl (ltb idle limit) refl
  where
    go : (a : Bool) → eqb (idle + 1) limit ≡ a → (b : Bool) → ltb idle limit ≡ b → a ≡ b && eqb (min limit (idle + 1)) limit
    go true e true l = sym (eq-eqb (min limit (idle + 1)) limit (omega (arith, eqb-true (idle + 1) limit e)))
    go false e true l =
        let below : idle < limit = ltb-true idle limit l in
        sym (ne_eqb (min limit (idle + 1)) limit (λ z. eqb-false (idle + 1) limit e (omega arith)))
    go true e false l =
        let z : ltb idle limit ≡ true = lt-ltb idle limit (omega (arith, eqb-true (idle + 1) limit e)) in
        absurd (false≢true (sym l ∙ z))
    go false e false l = refl
reached_is false idle limit h =
    sym (ap (λ (b : Bool). ltb idle limit && b) (ne_eqb 0 limit (λ z. omega arith)) ∙ and-false (ltb idle limit))

counts : (c : ℕ) (p : Received) (x : Bool) → ILT c ≡ false →
    (act c (sample x) p).receiver.idle ≡ idle_count x p.receiver.idle (frame_samples (bits_of (M c)))
unfolding act received receiver_after outcome
counts c p x i = rw (i, and-false, and-true)

unread : (c : ℕ) (scsr scdr : Bool) (p : Received) → (act c (read scsr scdr) p).receiver.idle ≡ p.receiver.idle
unfolding act
unread c scsr scdr p = refl

counted : (c : ℕ) → ILT c ≡ false → (os : List Op) (k : ℕ) (p : Received) →
    p.receiver.idle ≡ min (frame_samples (bits_of (M c))) k →
    (acts c os p).receiver.idle ≡ min (frame_samples (bits_of (M c))) (ones_at_end (samples_of os) k)
unfolding acts samples_of ones_at_end
counted c i [] k p e = e
counted c i (sample true ∷ os) k p e =
    counted c i os (suc k) (act c (sample true) p) (counts c p true i ∙ omega arith)
counted c i (sample false ∷ os) k p e = counted c i os 0 (act c (sample false) p) (counts c p false i ∙ omega arith)
counted c i (read scsr scdr ∷ os) k p e = counted c i os k (act c (read scsr scdr) p) (unread c scsr scdr p ∙ e)

pub ones_counted : OnesCounted
ones_counted c r s os i = counted c i os 0 (record { receiver = start_state r; status = s }) (omega arith)

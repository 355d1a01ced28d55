-- What the changes of a trace make of one record. Assumes nothing.
use mathlib.Core.Path.{◌≡◌, refl, ap, ◌∙◌}
use mathlib.Core.Bool.{Bool, cond}
use mathlib.Core.List.{List}
use Prim.Native.Nat.{ℕ, zero, suc, ◌<◌, ◌≤◌}
use native.Mathlib.Omega.{arith}
use lib.Dec.{eqb}
use lib.ListN.{length, drop, length-drop}
use borrow.Author.Tests.{eq-eqb, ne_eqb}
use Rattle.trace.specs.Trace.{parsed}
use Rattle.trace.specs.declared.Parsed.{Parsed}
use Rattle.trace.specs.declared.Parsed.TheVariants.{Record, Unknown, Cut}
use Rattle.trace.proofs.Playing.{record_within}
use Rattle.tool_wave.specs.Drawn.{drawn, after, stops, Drawn, stopped, followed, next, drawn_for, drawn_from}
use Rattle.tool_wave.specs.declared.probe.Probe.{Probe}

next_same : (on on' : Probe → List ℕ → Drawn) (p : Probe) (t : List ℕ) (r : Parsed) → parsed t ≡ r →
    ((n : ℕ) (q : Probe) → 0 < n → on q (drop n t) ≡ on' q (drop n t)) → next on p t r ≡ next on' p t r
next_same on on' p t (Record e n) is same =
    ap (λ (d : Drawn). cond (eqb (stops p e) 0) (followed (drawn p e) d) (stopped (stops p e)))
    (same n (after p e) (record_within t is).0)
next_same on on' p t Unknown is same = refl
next_same on on' p t Cut is same = refl

-- The count of records never runs out.
enough : (k j : ℕ) (p : Probe) (t : List ℕ) → length t ≤ k → length t ≤ j → drawn_for k p t ≡ drawn_for j p t
unfolding drawn_for
enough zero zero p t h i = refl
enough zero (suc j) p t h i = simp (eq-eqb (length t) 0 (omega arith))
enough (suc k) zero p t h i = simp (eq-eqb (length t) 0 (omega arith))
enough (suc k) (suc j) p t h i =
    ap (cond (eqb (length t) 0) (stopped 0))
    (next_same (drawn_for k) (drawn_for j) p t (parsed t) refl
    (λ n q some. enough k j q (drop n t) (simp length-drop (omega arith)) (simp length-drop (omega arith))))

unrolled : (k : ℕ) (p : Probe) (t : List ℕ) → 0 < length t → length t ≤ k → drawn_for k p t ≡ next drawn_from p t (parsed t)
unfolding drawn_for
unrolled zero p t some h = absurd (omega arith)
unrolled (suc k) p t some h =
    ap (λ (over : Bool). cond over (stopped 0) (next (drawn_for k) p t (parsed t))) (ne_eqb (length t) 0 (λ z. omega arith))
    ∙ (next_same (drawn_for k) drawn_from p t (parsed t) refl
    (λ n q pos. enough k (length (drop n t)) q (drop n t) (simp length-drop (omega arith)) (omega arith)))

-- One record on, and the end.
pub unroll : (p : Probe) (t : List ℕ) → 0 < length t → drawn_from p t ≡ next drawn_from p t (parsed t)
unroll p t some = unrolled (length t) p t some (omega arith)

pub none_left : (p : Probe) (t : List ℕ) → length t ≡ 0 → drawn_from p t ≡ stopped 0
unfolding drawn_for
none_left p t none = rw none

-- What a schedule makes of one part of a hold, and of one record. Assumes nothing.
use mathlib.Core.Path.{◌≡◌, refl, ap, ◌∙◌}
use mathlib.Core.Bool.{Bool, cond}
use mathlib.Core.List.{List, [], ◌∷◌}
use Prim.Native.Nat.{ℕ, zero, suc, ◌+◌, ◌-◌, ◌/◌, ◌<◌, ◌≤◌}
use native.Mathlib.Omega.{arith}
use native.Mathlib.Nat.{div-eq_of_lt, add-div_left}
use lib.Dec.{eqb}
use lib.ListN.{length, drop, length-drop}
use borrow.Author.Tests.{eq-eqb, ne_eqb}
use Rattle.qsm.specs.declared.event.Event.TheVariants.{Hold}
use Rattle.trace.specs.Trace.{parsed}
use Rattle.trace.specs.declared.Parsed.{Parsed}
use Rattle.trace.specs.declared.Parsed.TheVariants.{Record, Unknown, Cut}
use Rattle.trace.proofs.Playing.{record_within}
use Rattle.tool_lines.specs.Schedule.{plays, polls, cut, acts, since_after, clock_after, stops, Scheduled, stopped, followed, next, scheduled_for, scheduled}

-- A hold that ends before the next poll.
pub cut_quiet : (period since pins : ℕ) (rxd : Bool) (n : ℕ) → since + n < period → acts period since (Hold pins rxd n) ≡ plays (Hold pins rxd n) ∷ []
unfolding cut
cut_quiet period since pins rxd n lt = rw (div-eq_of_lt lt)

-- One that reaches it: what is left is a hold of its own, just after a poll.
pub cut_poll : (period since pins : ℕ) (rxd : Bool) (n : ℕ) → 0 < period → since < period → period - since ≤ n →
    acts period since (Hold pins rxd n)
    ≡ plays (Hold pins rxd (period - since)) ∷ polls ∷ cond (eqb (n - (period - since)) 0) [] (acts period 0 (Hold pins rxd (n - (period - since))))
unfolding cut
cut_poll period since pins rxd n pos lt reaches =
    let left : ℕ = n - (period - since) in
    let sum : since + n ≡ period + left = omega arith in
    let none : left ≡ 0 + left = omega arith in
    let more : (since + n) / period ≡ suc ((0 + left) / period) =
    ap (λ (x : ℕ). x / period) sum ∙ omega (arith, add-div_left left {k = period} pos, ap (λ (x : ℕ). x / period) none) in
    ap (λ (k : ℕ). cut k period since pins rxd n) more

-- ---- the count of records never runs out

next_same : (on on' : ℕ → ℕ → List ℕ → Scheduled) (period since clock : ℕ) (t : List ℕ) (p : Parsed) → parsed t ≡ p →
    ((n passed now : ℕ) → 0 < n → on passed now (drop n t) ≡ on' passed now (drop n t)) →
    next on period since clock t p ≡ next on' period since clock t p
next_same on on' period since clock t (Record e n) is same =
    ap (λ (s : Scheduled). cond (eqb (stops clock e) 0) (followed (acts period since e) s) (stopped (stops clock e)))
    (same n (since_after period since e) (clock_after clock e) (record_within t is).0)
next_same on on' period since clock t Unknown is same = refl
next_same on on' period since clock t Cut is same = refl

enough : (period k j since clock : ℕ) (t : List ℕ) → length t ≤ k → length t ≤ j → scheduled_for k period since clock t ≡ scheduled_for j period since clock t
unfolding scheduled_for
enough period zero zero since clock t h i = refl
enough period zero (suc j) since clock t h i = simp (eq-eqb (length t) 0 (omega arith))
enough period (suc k) zero since clock t h i = simp (eq-eqb (length t) 0 (omega arith))
enough period (suc k) (suc j) since clock t h i =
    ap (cond (eqb (length t) 0) (stopped 0))
    (next_same (scheduled_for k period) (scheduled_for j period) period since clock t (parsed t) refl
    (λ n passed now some. enough period k j passed now (drop n t) (simp length-drop (omega arith)) (simp length-drop (omega arith))))

unrolled : (period k since clock : ℕ) (t : List ℕ) → 0 < length t → length t ≤ k →
    scheduled_for k period since clock t ≡ next (scheduled period) period since clock t (parsed t)
unfolding scheduled_for
unrolled period zero since clock t some h = absurd (omega arith)
unrolled period (suc k) since clock t some h =
    ap (λ (over : Bool). cond over (stopped 0) (next (scheduled_for k period) period since clock t (parsed t))) (ne_eqb (length t) 0 (λ z. omega arith))
    ∙ (next_same (scheduled_for k period) (scheduled period) period since clock t (parsed t) refl
    (λ n passed now pos. enough period k (length (drop n t)) passed now (drop n t) (simp length-drop (omega arith)) (omega arith)))

-- One record on.
pub unroll : (period since clock : ℕ) (t : List ℕ) → 0 < length t → scheduled period since clock t ≡ next (scheduled period) period since clock t (parsed t)
unroll period since clock t some = unrolled period (length t) since clock t some (omega arith)

-- At the end.
pub none_left : (period since clock : ℕ) (t : List ℕ) → length t ≡ 0 → scheduled period since clock t ≡ stopped 0
unfolding scheduled_for
none_left period since clock t none = rw none

-- What is drawn in the clock of a queue's last edge. Assumes nothing.
use mathlib.Core.Path.{◌≡◌, refl, sym, ap, subst}
use mathlib.Core.Bool.{Bool, true, false, cond}
use Prim.Native.Nat.{ℕ, ◌+◌, ◌-◌, ◌/◌, ◌%◌}
use native.Mathlib.Omega.{arith}
use borrow.Author.Tests.{eqb-true, eqb-false}
use Rattle.steps.specs.Bits.{bit}
use Rattle.until_change.specs.Change.{look}
use Rattle.until_change.specs.declared.Look.{Look}
use Rattle.tool_wave.specs.View.{none, turned_sck, kept_edge, over}
use Rattle.tool_wave.specs.Probe.{tick}
use Rattle.tool_wave.specs.Claims.{EdgeDrawn, LastEdge}
use Rattle.tool_wave.specs.declared.view.Kept.{Kept}

-- SCK alone turns.
record Turned (n t : ℕ) : Type 0 where
  sck : t / 4 % 2 ≡ 1 - n / 4 % 2
  below : t % 4 ≡ n % 4
  above : t / 8 % 16 ≡ n / 8 % 16

turns_by : (n : ℕ) (high : Bool) → bit 2 n ≡ high → Turned n (cond high (n - 4) (n + 4))
turns_by n true is =
    let so : n / 4 % 2 ≡ 1 = eqb-true (n / 4 % 2) 1 is in
    let eighth : (n - 4) / 8 ≡ n / 8 = omega (arith, so) in
    record { sck = omega (arith, so); below = omega (arith, so); above = ap (λ (x : ℕ). x % 16) eighth }
turns_by n false is =
    let other : n / 4 % 2 ≡ 1 → ⊥ = eqb-false (n / 4 % 2) 1 is in
    let so : n / 4 % 2 ≡ 0 = omega (arith, other) in
    let eighth : (n + 4) / 8 ≡ n / 8 = omega (arith, so) in
    record { sck = omega (arith, so); below = omega (arith, so); above = ap (λ (x : ℕ). x % 16) eighth }

turns : (n : ℕ) → Turned n (turned_sck n)
turns n = turns_by n (bit 2 n) refl

kept_drawn : (l now : Look) → EdgeDrawn l now (over (kept_edge l) now)
kept_drawn l now =
    let t : Turned l.levels (turned_sck l.levels) = turns l.levels in
    record {
      sck = omega (arith, t.sck);
      bits = omega (arith, t.below);
      selects = omega (arith, t.above);
      driven = omega arith;
      txd = omega arith;
      txd_driven_holds = omega arith;
      level = refl;
      vector = refl;
    }

pub last_edge_holds : LastEdge
last_edge_holds p is =
    subst (λ (k : Kept). EdgeDrawn (look p.device) (look (tick p).device) (over k (look (tick p).device)))
    (sym (ap (λ (b : Bool). cond b (kept_edge (look p.device)) none) is))
    (kept_drawn (look p.device) (look (tick p).device))

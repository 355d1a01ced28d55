-- Edges near their places make a fair frame; rounded edges are. Assumes nothing.
use mathlib.Core.Path.{◌≡◌, refl, ap, subst}
use mathlib.Core.Bool.{Bool, true, false, not, ◌&&◌, cond}
use mathlib.Core.List.{List, [], ◌∷◌, ◌++◌}
use Prim.Native.Nat.{ℕ, suc, ◌+◌, ◌-◌, ◌*◌, ◌/◌, ◌%◌, ◌≤◌, ◌<◌}
use native.Mathlib.Omega.{arith}
use native.Mathlib.Nat.{mul-le-mul_left, mul-le-mul_right, le_of_mul-le-mul_right, le_of_mul-le-mul_left, lt_of_mul-lt-mul_left, div-add-mod', mod-lt}
use lib.Dec.{leb, lit≤}
use lib.ListN.{length}
use borrow.Author.Tests.{leb-true, leb-false}
use Rattle.claims_senders.specs.Fair.{Bit, Count, NotEarly, NotLate, Each, longer, following, FairBy, Fair, SentFrame, FairFrame}
use Rattle.claims_senders.specs.Rates.{Near, OnGrid, Gridded, edge_at, lasts_at, bits_at, frame_at, Rates}
use Rattle.claims_senders.proofs.Pacing.{each_of, each_longer}

-- From 1 to N: k times the one against k times the other, with something to spare at both ends.
between : (k N a b h c : ℕ) → 0 < k → k ≤ N → a + h ≤ b + c → N * a + h ≤ N * b + c → k * a + h ≤ k * b + c
between k N a b h c g l p q = go (leb a b) refl
  where
    shorter : (δ : ℕ) → a ≡ b + δ → k * δ ≤ N * δ → k * a + h ≤ k * b + c
    shorter δ e m =
        let y : k * a ≡ k * (b + δ) = ap (λ (v : ℕ). k * v) e in
        let z : N * a ≡ N * (b + δ) = ap (λ (v : ℕ). N * v) e in
        omega arith

    longer_one : (j : ℕ) → k ≡ suc j → j * a ≤ j * b → k * a + h ≤ k * b + c
    longer_one j e m =
        let y : k * a ≡ suc j * a = ap (λ (v : ℕ). v * a) e in
        let z : k * b ≡ suc j * b = ap (λ (v : ℕ). v * b) e in
        omega arith

    go : (y : Bool) → leb a b ≡ y → k * a + h ≤ k * b + c
    go true z = longer_one (k - 1) (omega arith) (mul-le-mul_left (k - 1) (leb-true a b z))
    go false z = shorter (a - b) (omega (arith, leb-false a b z)) (mul-le-mul_right (a - b) l)

-- A count of at most k bits from a place where an edge was near.
record Since (num den h place e k : ℕ) (c : Count) : Type 0 where
  few : c.bits ≤ k
  some : 0 < c.bits
  place₀ : ℕ
  e₀ : ℕ
  near : Near den h place₀ e₀
  places : place ≡ place₀ + c.bits * num
  clocks : e ≡ e₀ + c.clocks

module _ (s n num den h : ℕ) (d : 0 < den) (one : 10 * s * den + h ≤ num) (all : (16 * n + 26) * s * den + h ≤ (n + 2) * num)
    (long : (n + 1) * num + h ≤ (16 * n + 23) * s * den) where
  early_enough : (k : ℕ) → 0 < k → k ≤ n + 2 → k * (16 * s * den) + h ≤ k * num + 6 * s * den
  early_enough k g l = between k (n + 2) (16 * s * den) num h (6 * s * den) g l (omega arith) (omega arith)

  late_enough : (k : ℕ) → 0 < k → k ≤ n + 1 → k * num + h ≤ k * (16 * s * den) + 7 * s * den
  late_enough k g l = between k (n + 1) num (16 * s * den) h (7 * s * den) g l first (omega arith)
    where
      go : (y : Bool) → leb num (16 * s * den) ≡ y → num + h ≤ 16 * s * den + 7 * s * den
      go true z =
          let a : num ≤ 16 * s * den = leb-true num (16 * s * den) z in
          let b : (n + 2) * num ≤ (n + 2) * (16 * s * den) = mul-le-mul_left (n + 2) a in
          omega arith
      go false z =
          let a : 16 * s * den < num = leb-false num (16 * s * den) z in
          let b : n * (16 * s * den) ≤ n * num = mul-le-mul_left n (omega arith) in
          omega arith

      first : num + h ≤ 16 * s * den + 7 * s * den
      first = go (leb num (16 * s * den)) refl

  -- Near now, not early; and not late.
  not_early_holds : (place e k : ℕ) (c : Count) → k ≤ n + 2 → place ≤ den * e + h → Since num den h place e k c → NotEarly s c
  not_early_holds place e k c l a w =
      let b : place ≤ den * (w.e₀ + c.clocks) + h = subst (λ (v : ℕ). place ≤ den * v + h) w.clocks a in
      let y : c.bits * (16 * s * den) + h ≤ c.bits * num + 6 * s * den = early_enough c.bits w.some (omega (arith, w.few)) in
      let z : 16 * c.bits * s * den ≤ (c.clocks + 6 * s) * den = omega (arith, w.places, w.near.1) in
      le_of_mul-le-mul_right z d

  not_late : (place e k : ℕ) (c : Count) → k ≤ n + 1 → den * e ≤ place → Since num den h place e k c → NotLate s c
  not_late place e k c l a w =
      let b : den * (w.e₀ + c.clocks) ≤ place = subst (λ (v : ℕ). den * v ≤ place) w.clocks a in
      let y : c.bits * num + h ≤ c.bits * (16 * s * den) + 7 * s * den = late_enough c.bits w.some (omega (arith, w.few)) in
      let z : c.clocks * den ≤ (16 * c.bits + 7) * s * den = omega (arith, w.places, w.near.0) in
      le_of_mul-le-mul_right z d

  one_more : (place e k t : ℕ) (c : Count) → Since num den h place e k c →
      Since num den h (place + num) (e + t) (suc k) (record { bits = suc c.bits; clocks = c.clocks + t })
  one_more place e k t c w =
      record {
        few = omega (arith, w.few);
        some = omega arith;
        place₀ = w.place₀;
        e₀ = w.e₀;
        near = w.near;
        places = omega (arith, w.places);
        clocks = omega (arith, w.clocks);
      }

  follows : (place e k : ℕ) (was x : Bool) (t : ℕ) (cs : List Count) → Near den h place e → Each (Since num den h place e k) cs →
      Each (Since num den h (place + num) (e + t) (suc k)) (following was (record { level = x; lasts = t }) cs)
  unfolding Each
  follows place e k was x t cs a w = go (was && not x)
    where
      on : Each (Since num den h (place + num) (e + t) (suc k)) (longer t cs)
      on = each_longer (Since num den h place e k) (Since num den h (place + num) (e + t) (suc k)) t (one_more place e k t) cs w

      go : (y : Bool) → Each (Since num den h (place + num) (e + t) (suc k)) (cond y (record { bits = 1; clocks = t } ∷ longer t cs) (longer t cs))
      go true = (
        record { few = omega arith; some = omega arith; place₀ = place; e₀ = e; near = a; places = omega arith; clocks = refl },
        on,
      )
      go false = on

  bounds : (place e k : ℕ) (cs : List Count) → k ≤ n + 1 → Near den h place e → Each (Since num den h place e k) cs →
      Each (NotEarly s) cs × Each (NotLate s) cs
  bounds place e k cs l a w = (
    each_of (Since num den h place e k) (NotEarly s) (λ c p. not_early_holds place e k c (omega arith) a.0 p) cs w,
    each_of (Since num den h place e k) (NotLate s) (λ c p. not_late place e k c l a.1 p) cs w,
  )

  on_grid : (place e k : ℕ) (was : Bool) (bs : List Bit) (cs : List Count) (stop : ℕ) → k + length bs ≤ n + 1 → Near den h place e →
      OnGrid num den h stop place e bs → Each (Since num den h place e k) cs → Fair s cs was (bs ++ (record { level = true; lasts = stop } ∷ []))
  unfolding FairBy OnGrid
  on_grid place e k was [] cs stop l a g w = (
    λ z. bounds place e k cs (omega arith) a w,
    each_of (Since num den h (place + num) (e + stop) (suc k)) (NotEarly s)
        (λ c p. not_early_holds (place + num) (e + stop) (suc k) c (omega arith) g p)
        (following was (record { level = true; lasts = stop }) cs)
        (follows place e k was true stop cs a w),
  )
  on_grid place e k was (b ∷ bs) cs stop l a g w = (
    λ z. bounds place e k cs (omega arith) a w,
    on_grid (place + num) (e + b.lasts) (suc k) b.level bs (following was b cs) stop (omega arith) g.0 g.1
        (follows place e k was b.level b.lasts cs a w),
  )

  gridded : (f : SentFrame) → length f.bits ≡ n → Gridded num den h f → FairFrame s f
  unfolding Each
  gridded f e g =
      on_grid (g.place + num) (g.at + f.start) 1 false f.bits (record { bits = 1; clocks = f.start } ∷ []) f.stop (omega arith) g.starts g.goes (
        record { few = omega arith; some = omega arith; place₀ = g.place; e₀ = g.at; near = g.begins; places = omega arith; clocks = refl },
        tt,
      )

-- Rounded edges.
module _ (num den o : ℕ) (d : 0 < den) where
  abbrev edge : ℕ → ℕ
  edge k = edge_at num den o k

  near : (k : ℕ) → Near den den (k * num + o) (edge k)
  near k =
      let x : ℕ = k * num + o in
      let a : x / den * den + x % den ≡ x = div-add-mod' x den in
      let b : x % den < den = mod-lt x d in
      (omega arith, omega arith)

  rises : (k : ℕ) → edge k ≤ edge (k + 1)
  rises k =
      let a : den * edge k < den * (edge (k + 1) + 1) = strict (edge k) (edge (k + 1)) (near k).1 (near_after k) in
      let b : edge k < edge (k + 1) + 1 = lt_of_mul-lt-mul_left den a in
      omega arith
    where
      near_after : (k : ℕ) → k * num + o < den * edge (k + 1) + den
      near_after k =
          let x : ℕ = (k + 1) * num + o in
          let a : x / den * den + x % den ≡ x = div-add-mod' x den in
          let b : x % den < den = mod-lt x d in
          omega arith

      strict : (p q : ℕ) → den * p ≤ k * num + o → k * num + o < den * q + den → den * p < den * (q + 1)
      strict p q a b = omega arith

  step_near : (k place e : ℕ) → place ≡ k * num + o → e ≡ edge k → Near den den (place + num) (e + lasts_at num den o k)
  step_near k place e p q =
      let r : edge k ≤ edge (k + 1) = rises k in
      let y : edge (k + 1) ≡ e + lasts_at num den o k = omega arith in
      let z : (k + 1) * num + o ≡ place + num = omega arith in
      subst (λ (v : ℕ). Near den den v (e + lasts_at num den o k)) z
      (subst (λ (v : ℕ). Near den den ((k + 1) * num + o) v) y (near (k + 1)))

  goes_on : (k place e pause : ℕ) (bits : List Bool) → place ≡ k * num + o → e ≡ edge k →
      OnGrid num den den (lasts_at num den o (k + length bits) + pause) place e (bits_at num den o k bits)
  unfolding OnGrid bits_at
  goes_on k place e pause [] p q =
      let z : k + 0 ≡ k = omega arith in
      rw z (more (lasts_at num den o k) (step_near k place e p q).0)
    where
      more : (l : ℕ) → place + num ≤ den * (e + l) + den → place + num ≤ den * (e + (l + pause)) + den
      more l a = omega arith
  goes_on k place e pause (b ∷ bits) p q =
      let r : edge k ≤ edge (k + 1) = rises k in
      let z : k + 1 + length bits ≡ k + suc (length bits) = omega arith in (
        step_near k place e p q,
        subst (λ (v : ℕ). OnGrid num den den (lasts_at num den o v + pause) (place + num) (e + lasts_at num den o k) (bits_at num den o (k + 1) bits)) z
            (goes_on (k + 1) (place + num) (e + lasts_at num den o k) pause bits (omega arith) (omega arith)),
      )

  at_rate : (k pause : ℕ) (bits : List Bool) → Gridded num den den (frame_at num den o k bits pause)
  at_rate k pause bits =
      let r : edge k ≤ edge (k + 1) = rises k in
      record {
        place = k * num + o;
        at = edge k;
        begins = near k;
        starts = step_near k (k * num + o) (edge k) refl refl;
        goes = goes_on (k + 1) (k * num + o + num) (edge k + lasts_at num den o k) pause bits (omega arith) (omega arith);
      }

bits_length : (num den o k : ℕ) (bits : List Bool) → length (bits_at num den o k bits) ≡ length bits
unfolding bits_at
bits_length num den o k [] = refl
bits_length num den o k (b ∷ bits) = ap suc (bits_length num den o (k + 1) bits)

-- One bit is long enough where n + 2 are.
one_enough : (s n num den : ℕ) → 0 < s → (16 * n + 26) * s * den + den ≤ (n + 2) * num → 10 * s * den + den ≤ num
one_enough s n num den g h =
    let a : 1 * den ≤ s * den = mul-le-mul_right den g in
    let b : n * (1 * den) ≤ n * (s * den) = mul-le-mul_left n a in
    let c : (n + 2) * (10 * s * den + den) ≤ (n + 2) * num = omega arith in
    le_of_mul-le-mul_left c (omega arith)

pub rates : Rates
rates =
    record {
      gridded = λ s n num den h f d e one all long g. gridded s n num den h d one all long f e g;
      three = λ s f g.
          gridded s (length f.bits) (16 * s) 1 (6 * s) (omega arith) (omega arith) (omega arith) (omega arith) f refl g;
      rounded = λ s num den o k pause bits g d all long.
          gridded s (length bits) num den den d (one_enough s (length bits) num den g all) all long (frame_at num den o k bits pause)
          (bits_length num den o (k + 1) bits) (at_rate num den o d k pause bits);
      usual = (lit≤ tt, lit≤ tt);
    }

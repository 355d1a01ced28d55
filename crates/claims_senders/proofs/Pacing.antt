-- Bits that last within bounds make a fair frame. Assumes nothing.
use mathlib.Core.Path.{◌≡◌, refl, ap}
use mathlib.Core.Bool.{Bool, true, false, not, ◌&&◌, cond}
use mathlib.Core.List.{List, [], ◌∷◌, ◌++◌}
use Prim.Native.Nat.{ℕ, suc, ◌+◌, ◌-◌, ◌*◌, ◌≤◌, ◌<◌}
use native.Mathlib.Omega.{arith}
use native.Mathlib.Nat.{mul-le-mul_left, mul-le-mul_right}
use lib.Dec.{leb}
use lib.ListN.{length}
use borrow.Author.Tests.{leb-true, leb-false}
use Rattle.claims_senders.specs.Fair.{Bit, Count, NotEarly, NotLate, Each, longer, following, FairBy, Fair}
use Rattle.claims_senders.specs.Rates.{LastWithin, BitTimes}

-- k of at most N bits are no earlier than all, and no later.
early_part : (k N s lo : ℕ) → k ≤ N → 16 * N * s ≤ N * lo + 6 * s → 16 * k * s ≤ k * lo + 6 * s
early_part k N s lo h e = go (leb (16 * s) lo) refl
  where
    with_rest : (δ : ℕ) → k * δ ≤ N * δ → k * (16 * s) ≡ k * (lo + δ) → N * (16 * s) ≡ N * (lo + δ) → 16 * k * s ≤ k * lo + 6 * s
    with_rest δ a p q = omega arith

    go : (b : Bool) → leb (16 * s) lo ≡ b → 16 * k * s ≤ k * lo + 6 * s
    go true z = let a : k * (16 * s) ≤ k * lo = mul-le-mul_left k (leb-true (16 * s) lo z) in omega arith
    go false z =
        let l : lo < 16 * s = leb-false (16 * s) lo z in
        let y : 16 * s ≡ lo + (16 * s - lo) = omega arith in
        let a : k * (16 * s - lo) ≤ N * (16 * s - lo) = mul-le-mul_right (16 * s - lo) h in
        let p : k * (16 * s) ≡ k * (lo + (16 * s - lo)) = ap (λ (v : ℕ). k * v) y in
        let q : N * (16 * s) ≡ N * (lo + (16 * s - lo)) = ap (λ (v : ℕ). N * v) y in
        with_rest (16 * s - lo) a p q

late_part : (k N s hi : ℕ) → k ≤ N → N * hi ≤ (16 * N + 7) * s → k * hi ≤ (16 * k + 7) * s
late_part k N s hi h e = go (leb hi (16 * s)) refl
  where
    with_rest : (δ : ℕ) → k * δ ≤ N * δ → k * hi ≡ k * (16 * s + δ) → N * hi ≡ N * (16 * s + δ) → k * hi ≤ (16 * k + 7) * s
    with_rest δ a p q = omega arith

    go : (b : Bool) → leb hi (16 * s) ≡ b → k * hi ≤ (16 * k + 7) * s
    go true z = let a : k * hi ≤ k * (16 * s) = mul-le-mul_left k (leb-true hi (16 * s) z) in omega arith
    go false z =
        let l : 16 * s < hi = leb-false hi (16 * s) z in
        let y : hi ≡ 16 * s + (hi - 16 * s) = omega arith in
        let a : k * (hi - 16 * s) ≤ N * (hi - 16 * s) = mul-le-mul_right (hi - 16 * s) h in
        let p : k * hi ≡ k * (16 * s + (hi - 16 * s)) = ap (λ (v : ℕ). k * v) y in
        let q : N * hi ≡ N * (16 * s + (hi - 16 * s)) = ap (λ (v : ℕ). N * v) y in
        with_rest (hi - 16 * s) a p q

-- A count of at most k bits, each of which lasted from lo to hi.
record Within (lo hi k : ℕ) (c : Count) : Type 0 where
  few : c.bits ≤ k
  low : c.bits * lo ≤ c.clocks
  high : c.clocks ≤ c.bits * hi

module _ (P Q : Count → Type 0) (f : (c : Count) → P c → Q c) where
  pub each_of : (cs : List Count) → Each P cs → Each Q cs
  unfolding Each
  each_of [] h = tt
  each_of (c ∷ cs) h = (f c h.0, each_of cs h.1)

module _ (P Q : Count → Type 0) (t : ℕ) (f : (c : Count) → P c → Q (record { bits = suc c.bits; clocks = c.clocks + t })) where
  pub each_longer : (cs : List Count) → Each P cs → Each Q (longer t cs)
  unfolding Each longer
  each_longer [] h = tt
  each_longer (c ∷ cs) h = (f c h.0, each_longer cs h.1)

module _ (s n lo hi : ℕ) (l : (16 * n + 26) * s ≤ (n + 2) * lo) (h : (n + 1) * hi ≤ (16 * n + 23) * s) where
  in_time_holds : (k : ℕ) → k ≤ n + 2 → (c : Count) → c.bits ≤ k → c.bits * lo ≤ c.clocks → NotEarly s c
  in_time_holds k e c a b =
      let z : 16 * (n + 2) * s ≤ (n + 2) * lo + 6 * s = omega arith in
      let y : 16 * c.bits * s ≤ c.bits * lo + 6 * s = early_part c.bits (n + 2) s lo (omega arith) z in
      omega arith

  not_over : (k : ℕ) → k ≤ n + 1 → (c : Count) → Within lo hi k c → NotLate s c
  not_over k e c w =
      let z : (n + 1) * hi ≤ (16 * (n + 1) + 7) * s = omega arith in
      let y : c.bits * hi ≤ (16 * c.bits + 7) * s = late_part c.bits (n + 1) s hi (omega (arith, w.few)) z in
      omega (arith, w.high)

  one_more : (k t : ℕ) → lo ≤ t → t ≤ hi → (c : Count) → Within lo hi k c → Within lo hi (suc k) (record { bits = suc c.bits; clocks = c.clocks + t })
  one_more k t a b c w =
      record { few = omega (arith, w.few); low = omega (arith, w.low); high = omega (arith, w.high) }

  follows : (k : ℕ) (was x : Bool) (t : ℕ) (cs : List Count) → lo ≤ t → t ≤ hi → Each (Within lo hi k) cs →
      Each (Within lo hi (suc k)) (following was (record { level = x; lasts = t }) cs)
  unfolding Each
  follows k was x t cs a b w = go (was && not x)
    where
      on : Each (Within lo hi (suc k)) (longer t cs)
      on = each_longer (Within lo hi k) (Within lo hi (suc k)) t (one_more k t a b) cs w

      go : (y : Bool) → Each (Within lo hi (suc k)) (cond y (record { bits = 1; clocks = t } ∷ longer t cs) (longer t cs))
      go true = (record { few = omega arith; low = omega arith; high = omega arith }, on)
      go false = on

  -- The stop bit, at least as long.
  ends_so : (k : ℕ) (was : Bool) (t : ℕ) (cs : List Count) → lo ≤ t → k ≤ n + 1 → Each (Within lo hi k) cs →
      Each (NotEarly s) (following was (record { level = true; lasts = t }) cs)
  ends_so k was t cs a e w = go was
    where
      on : Each (NotEarly s) (longer t cs)
      on =
          each_longer (Within lo hi k) (NotEarly s) t
          (λ c p. in_time_holds (suc k) (omega arith) (record { bits = suc c.bits; clocks = c.clocks + t }) (omega (arith, p.few)) (omega (arith, p.low)))
          cs w

      go : (y : Bool) → Each (NotEarly s) (cond (y && false) (record { bits = 1; clocks = t } ∷ longer t cs) (longer t cs))
      go true = on
      go false = on

  bounds : (k : ℕ) (cs : List Count) → k ≤ n + 1 → Each (Within lo hi k) cs → Each (NotEarly s) cs × Each (NotLate s) cs
  bounds k cs e w = (
    each_of (Within lo hi k) (NotEarly s) (λ c p. in_time_holds k (omega arith) c p.few p.low) cs w,
    each_of (Within lo hi k) (NotLate s) (not_over k e) cs w,
  )

  paced : (k : ℕ) (was : Bool) (bs : List Bit) (cs : List Count) (stop : ℕ) → k + length bs ≤ n + 1 → LastWithin lo hi bs → lo ≤ stop →
      Each (Within lo hi k) cs → Fair s cs was (bs ++ (record { level = true; lasts = stop } ∷ []))
  unfolding FairBy LastWithin
  paced k was [] cs stop e b a w = (λ z. bounds k cs (omega arith) w, ends_so k was stop cs a (omega arith) w)
  paced k was (x ∷ bs) cs stop e b a w = (
    λ z. bounds k cs (omega arith) w,
    paced (suc k) x.level bs (following was x cs) stop (omega arith) b.2 a (follows k was x.level x.lasts cs b.0 b.1 w),
  )

pub bit_times : BitTimes
unfolding Each
bit_times =
    record {
      fair = λ s n lo hi f e l h p.
          paced s n lo hi l h 1 false f.bits (record { bits = 1; clocks = f.start } ∷ []) f.stop (omega arith) p.bits p.stop
          (record { few = omega arith; low = omega (arith, p.start.0); high = omega (arith, p.start.1) }, tt);
      figures = (refl, refl, refl, refl);
    }

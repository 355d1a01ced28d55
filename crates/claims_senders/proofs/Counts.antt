-- Counts among those of a fair frame; the word that bits make. Assumes nothing.
use mathlib.Core.Path.{◌≡◌, refl, ap, ◌∙◌}
use mathlib.Core.Bool.{Bool, true, false}
use mathlib.Core.List.{List, [], ◌∷◌}
use Prim.Native.Nat.{ℕ, suc, ◌+◌, ◌-◌, ◌*◌, ◌^◌, ◌≤◌}
use native.Mathlib.Omega.{arith}
use native.Mathlib.Nat.{pow-suc}
use lib.ListN.{length}
use lib.Bits.{shifted_half}
use lib.Pow.{pow-add}
use Rattle.steps.specs.Bits.{digit}
use Rattle.sci.specs.model.Framer.{collected}
use Rattle.sci.specs.claims.Levels.{value}
use Rattle.claims_senders.specs.Fair.{Bit, Count, NotEarly, NotLate, Each, longer, data_of}
use Rattle.claims_senders.proofs.Zeros.{InBounds}

abbrev pub count : ℕ → ℕ → Count
count k u = record { bits = k; clocks = u }

pub data Has (c : Count) : List Count → Type 0 where
  here : {cs : List Count} → Has c (c ∷ cs)
  there : {d : Count} {cs : List Count} → Has c cs → Has c (d ∷ cs)

of_each : (P : Count → Type 0) {c : Count} {cs : List Count} → Each P cs → Has c cs → P c
unfolding Each
of_each P e here = e.0
of_each P e (there h) = of_each P e.1 h

-- A count with one bit more.
pub has_longer : {k u : ℕ} {cs : List Count} (k' u' t : ℕ) → Has (count k u) cs → k' ≡ suc k → u' ≡ u + t → Has (count k' u') (longer t cs)
unfolding longer
has_longer {k} {u} k' u' t (here {cs}) p q = rw (p, q) here
has_longer k' u' t (there h) p q = there (has_longer k' u' t h p q)

pub has_same : {k u : ℕ} {cs : List Count} (k' u' : ℕ) → Has (count k u) cs → k ≡ k' → u ≡ u' → Has (count k' u') cs
has_same {k} {u} {cs} k' u' h p q = rw (← p, ← q) h

pub not_early_holds : {k u : ℕ} {cs : List Count} → Each (NotEarly 1) cs → Has (count k u) cs → 16 * k ≤ u + 6
not_early_holds {k} {u} e h = let a : 16 * k * 1 ≤ u + 6 * 1 = of_each (NotEarly 1) e h in omega arith

pub in_bounds : {k u : ℕ} {cs : List Count} → Each (NotEarly 1) cs × Each (NotLate 1) cs → Has (count k u) cs → InBounds k u
in_bounds {k} {u} e h =
    let a : u ≤ (16 * k + 7) * 1 = of_each (NotLate 1) e.1 h in
    record { early = not_early_holds e.0 h; late = omega arith }

-- The shift register after bits that come in at its top.
unfoldable pub gathered : ℕ → ℕ → List Bool → ℕ
gathered n s [] = s
gathered n s (b ∷ bits) = gathered n (collected b n s) bits

-- With j bits gathered, of value v, and m to come, it holds v * 2 ^ m.
collect : (b : Bool) (j m v : ℕ) → collected b (j + suc m) (v * 2 ^ suc m) ≡ (v + digit b * 2 ^ j) * 2 ^ m
collect true j m v =
    let p : j + suc m - 1 ≡ j + m = omega arith in
    rw (shifted_half v m, p, pow-add 2 j m) (omega arith)
collect false j m v = rw (shifted_half v m) (omega arith)

gather : (n j v : ℕ) (bits : List Bool) → n ≡ j + length bits → gathered n (v * 2 ^ length bits) bits ≡ v + 2 ^ j * value bits
unfolding gathered value
gather n j v [] e = omega arith
gather n j v (b ∷ bits) e =
    let h : collected b n (v * 2 ^ suc (length bits)) ≡ (v + digit b * 2 ^ j) * 2 ^ length bits =
    rw e (collect b j (length bits) v) in
    rw h
    (gather n (suc j) (v + digit b * 2 ^ j) bits (omega arith)
    ∙ rw (pow-suc 2 j) (omega arith))

pub gathered_value : (n : ℕ) (bits : List Bool) → n ≡ length bits → gathered n 0 bits ≡ value bits
gathered_value n bits e =
    ap (λ (s : ℕ). gathered n s bits) (omega arith) ∙ gather n 0 0 bits (omega arith) ∙ omega arith

pub data_length : (bs : List Bit) → length (data_of bs) ≡ length bs
unfolding data_of
data_length [] = refl
data_length (b ∷ bs) = ap suc (data_length bs)

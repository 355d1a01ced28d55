-- The bytes of an answer of a kind, the answers of a log, and the first that does not begin with the kind. Assumes nothing.
use mathlib.Core.Path.{◌≡◌, refl, sym, ◌∙◌}
use mathlib.Core.Bool.{Bool, true, false, cond, ◌&&◌, ◌||◌}
use mathlib.Core.List.{List}
use Prim.Native.Nat.{ℕ, zero, suc, ◌+◌, ◌-◌, ◌*◌, ◌<◌, ◌≤◌}
use native.Mathlib.Nat.{add-zero, add-suc, zero-mul, suc-mul, le-div_iff_mul-le}
use native.Mathlib.Numerals.{add-one}
use native.Mathlib.Omega.{arith}
use lib.Dec.{eqb, ltb}
use lib.ListN.{length, get_or, take}
use borrow.Author.Tests.{lt-ltb, le-ltb}
use Rattle.answers.specs.Answer.{plain, clocked, fields, field_count, stride, stride_of}
use Rattle.tool_compare.specs.Kind.{begun, begins, first_other}

by_each_kind : (t : Bool) → (10 ≤ stride (take (cond t 8 7) fields)) × (stride (take (cond t 8 7) fields) ≤ 18)
by_each_kind true = (omega arith, omega arith)
by_each_kind false = (omega arith, omega arith)

pub stride_bounds : (kind : ℕ) → (10 ≤ stride_of kind) × (stride_of kind ≤ 18)
stride_bounds kind = by_each_kind (eqb kind clocked)

pub stride_positive : (kind : ℕ) → 0 < stride_of kind
stride_positive kind = omega (arith, stride_bounds kind)

at_most_eight : (t : Bool) → cond t 8 7 ≤ 8
at_most_eight true = omega arith
at_most_eight false = omega arith

pub few_fields : (kind : ℕ) → field_count kind ≤ 8
few_fields kind = at_most_eight (eqb kind clocked)

-- An answer is begun exactly if its first byte is there.
module _ (bytes : ℕ) (pos : 0 < bytes) (log : List ℕ) (i : ℕ) where
  pub byte_there : i < begun bytes log → i * bytes < length log
  byte_there h =
      let p : suc i * bytes ≤ length log + (bytes - 1) = (le-div_iff_mul-le pos).0 h in
      omega (arith, suc-mul i bytes)

  pub is_begun : i * bytes < length log → i < begun bytes log
  is_begun h =
      let p : suc i ≤ begun bytes log = (le-div_iff_mul-le pos).1 (omega (arith, suc-mul i bytes)) in
      omega arith

module _ (kind : ℕ) (log : List ℕ) where
  pub step : (n : ℕ) (before here : Bool) → ltb (first_other kind log n) n ≡ before → begins kind log n ≡ here
      → first_other kind log (suc n) ≡ cond before (first_other kind log n) (cond here (suc n) n)
  unfolding first_other
  step n before here e f = rw (e, f)

  -- One answer further.
  pub further : (i : ℕ) → first_other kind log i ≡ i → begins kind log i ≡ true → first_other kind log (i + 1) ≡ i + 1
  further i e b = rw add-one (step i false true (le-ltb (first_other kind log i) i (omega arith)) b)

  -- The first that does not begin with the kind stays the first.
  pub found : (i k : ℕ) → first_other kind log i ≡ i → begins kind log i ≡ false → first_other kind log (suc (i + k)) ≡ i
  found i zero e b = rw add-zero (step i false false (le-ltb (first_other kind log i) i (omega arith)) b)
  found i (suc k) e b =
      let h = found i k e b in
      rw add-suc (step (suc (i + k)) true (begins kind log (suc (i + k))) (lt-ltb (first_other kind log (suc (i + k))) (suc (i + k)) (omega arith)) refl ∙ h)

-- The search at answer i of n: those before it begin with the kind.
pub record Looking (kind : ℕ) (log : List ℕ) (n : ℕ) (known : Bool) (bytes at i : ℕ) : Type 0 where
  pub n_is : n ≡ begun (stride_of kind) log
  pub known_is : known ≡ (eqb kind plain || eqb kind clocked)
  pub bytes_is : bytes ≡ stride_of kind
  pub inside : i ≤ n
  pub at_is : at ≡ i * stride_of kind
  pub so_far : first_other kind log i ≡ i

pub looking_starts : {kind : ℕ} {log : List ℕ} {n : ℕ} {known : Bool} {bytes : ℕ} → n ≡ begun (stride_of kind) log
    → known ≡ (eqb kind plain || eqb kind clocked) → bytes ≡ stride_of kind → Looking kind log n known bytes 0 0
unfolding first_other
looking_starts e f g = record { n_is = e; known_is = f; bytes_is = g; inside = omega arith; at_is = rw zero-mul; so_far = refl }

module _ {kind : ℕ} {log : List ℕ} {n : ℕ} {known : Bool} {bytes at i : ℕ} (l : Looking kind log n known bytes at i) where
  pub all_begin : n ≤ i → n ≡ first_other kind log (begun (stride_of kind) log)
  all_begin h = let e : i ≡ n = omega (arith, l.inside) in rw (← l.n_is, ← e) (sym l.so_far)

  module _ (lt : i < n) where
    pub there : at < length log
    there = omega (arith, l.at_is, byte_there (stride_of kind) (stride_positive kind) log i (omega (arith, l.n_is)))

    -- The test of the answer's first byte.
    tested : known && eqb (get_or log at 0) kind ≡ begins kind log i
    tested = rw (l.known_is, l.at_is)

    pub looks_on : known && eqb (get_or log at 0) kind ≡ true → Looking kind log n known bytes (at + bytes) (i + 1)
    looks_on b =
        record {
          n_is = l.n_is;
          known_is = l.known_is;
          bytes_is = l.bytes_is;
          inside = omega arith;
          at_is = rw (add-one i, suc-mul, l.at_is, l.bytes_is);
          so_far = further kind log i l.so_far (sym tested ∙ b);
        }

    pub stops_at : known && eqb (get_or log at 0) kind ≡ false → i ≡ first_other kind log (begun (stride_of kind) log)
    stops_at b =
        let e : suc (i + (n - suc i)) ≡ begun (stride_of kind) log = omega (arith, l.n_is) in
        rw (← e) (sym (found kind log i (n - suc i) l.so_far (sym tested ∙ b)))

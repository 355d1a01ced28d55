-- The walks over so many records of a buffer: what each turn makes of the rest. Assumes nothing.
use mathlib.Core.Path.{◌≡◌, refl, sym, ap, ◌∙◌}
use mathlib.Core.Bool.{Bool, true, false}
use mathlib.Core.List.{List, [], ◌∷◌}
use Prim.Native.Nat.{ℕ, zero, suc, ◌+◌, ◌-◌, ◌<◌, ◌≤◌}
use native.Mathlib.Omega.{arith}
use lib.ListN.{length, take, drop, length-drop}
use lib.Seq.{take_all, drop-drop}
use Rattle.tool_editions.specs.Records.{number_of, size_of, parsed, followed, first}
use Rattle.tool_editions.specs.Rules.{withdraws, withdrawn, later, latest_from}
use Rattle.tool_editions.specs.declared.Given.{Given}
use Rattle.tool_editions.specs.declared.records.Record.{Record}
use Rattle.tool_editions.specs.declared.records.Unreadable.{Unreadable}
use Rattle.std.specs.Prelude.{Result, Ok, Err}
use Rattle.tool_editions.proofs.Shapes.{shaped, size_within}

-- What is lent from a place on is the rest.
pub rest : (v : List ℕ) (at : ℕ) → take (length v - at) (drop at v) ≡ drop at v
rest v at = take_all (length v - at) (drop at v) (simp length-drop (omega arith))

pub one_less : (k : ℕ) → suc k - 1 ≡ k
one_less k = omega arith

none_follows : (on : List ℕ → List Record) (t : List ℕ) (p : Result Record Unreadable) → ((r : Record) → p ≡ Ok r → ⊥) → followed on t p ≡ []
none_follows on t (Ok r) h = absurd (h r refl)
none_follows on t (Err why) h = refl

-- A walk at a place, with so many records left; p was parsed there.
module _ (v : List ℕ) (at : ℕ) {p : Result Record Unreadable} (p-is : p ≡ parsed (take (length v - at) (drop at v))) where
  pub here : parsed (drop at v) ≡ p
  here = ap parsed (sym (rest v at)) ∙ sym p-is

  pub stops : ((r : Record) → p ≡ Ok r → ⊥) → (left : ℕ) → first left (drop at v) ≡ []
  unfolding first
  stops keys zero = refl
  stops keys (suc k) = rw here (none_follows (first k) (drop at v) p keys)

  module _ {r : Record} (whole : p ≡ Ok r) where
    pub fits : at ≤ length v → at + size_of r ≤ length v
    fits h = omega (arith, size_within (drop at v) (shaped (drop at v) (here ∙ whole)), length-drop at v)

    pub next : (left : ℕ) → 0 < left → first left (drop at v) ≡ r ∷ first (left - 1) (drop (at + size_of r) v)
    unfolding first
    next zero h = absurd (omega arith)
    next (suc k) h = rw (here, whole, drop-drop (size_of r) at v, one_less k)

    module _ (left : ℕ) (some : 0 < left) where
      pub gone_here : (n : ℕ) {x : Bool} → x ≡ withdraws r n → x ≡ true → withdrawn n (first left (drop at v)) ≡ true
      unfolding withdrawn
      gone_here n x-is set = rw (next left some, ← x-is, set)

      pub gone_later : (n : ℕ) {x : Bool} → x ≡ withdraws r n → x ≡ false
          → withdrawn n (first left (drop at v)) ≡ withdrawn n (first (left - 1) (drop (at + size_of r) v))
      unfolding withdrawn
      gone_later n x-is clear = rw (next left some, ← x-is, clear)

      -- The record takes the place of what was found before it, or does not.
      pub found_on : (g : Given) (any : Bool) (n : ℕ) {m place : ℕ} {gone : Bool} {h : Given} → m ≡ number_of r → place ≡ at + size_of r
          → gone ≡ withdrawn m (first (left - 1) (take (length v - place) (drop place v))) → h ≡ later g any n r gone
          → latest_from g any n (first left (drop at v)) ≡ latest_from h any n (first (left - 1) (drop place v))
      unfolding latest_from
      found_on g any n {m} {place} m_is place_is gone-is h-is =
          rw (h-is, gone-is, rest v place, m_is, place_is, next left some)

-- Two modules that differ only in masked data and in the levels of the last hold, and a hold of both. Assumes nothing.
use mathlib.Core.Path.{◌≡◌, refl, sym, ap, subst, ◌∙◌}
use mathlib.Core.Bool.{Bool, true, false, cond, not, ◌&&◌}
use Prim.Native.Nat.{ℕ, zero, suc, ◌/◌, ◌%◌, ◌<◌}
use native.Mathlib.Omega.{arith}
use lib.Dec.{eqb}
use Rattle.steps.specs.Bits.{bit}
use Rattle.steps.specs.Iterate.{iterate}
use Rattle.qspi.specs.model.Queue.{clock, miso_of, selected}
use Rattle.qspi.specs.declared.Qspi.{Qspi}
use Rattle.qsm.specs.model.State.{with_qspi}
use Rattle.qsm.specs.model.Event.{done, pins_of, clock_module, clocks, held, passes, holds}
use Rattle.qsm.specs.declared.state.Module.{Module}
use Rattle.qsm.specs.declared.event.Done.{Done}
use Rattle.claims_isolation.specs.Running.{runs_one_of}
use Rattle.claims_isolation.proofs.Masked.{masked}
use Rattle.claims_isolation.proofs.Clocked.{clock_alike}

-- The module with another queue and other levels.
abbrev pub beside : Module → Qspi → ℕ → Module
beside m q inputs = held (with_qspi m q) inputs

-- The second module is the first with a queue that is the same under the mask.
pub record Alike (entries : ℕ → Bool) (m n : Module) : Type 0 where
  pub queue : Qspi
  pub inputs : ℕ
  pub is : n ≡ beside m queue inputs
  pub same : masked entries m.qspi ≡ masked entries queue

-- What two events leave: alike modules, and the same refusal.
pub record DoneAlike (entries : ℕ → Bool) (a b : Done) : Type 0 where
  pub state : Alike entries a.state b.state
  pub refusal : a.refusal ≡ b.refusal

pub itself : (entries : ℕ → Bool) (m : Module) → Alike entries m m
itself entries m = record { queue = m.qspi; inputs = m.inputs; is = refl; same = refl }

inputs_stay : (k : ℕ) (rxd : Bool) (m : Module) → (iterate k (clock_module rxd) m).inputs ≡ m.inputs
unfolding iterate clock_module
inputs_stay zero rxd m = refl
inputs_stay (suc k) rxd m = inputs_stay k rxd m

-- A mode fault does not go by MISO.
bit3 : (a b : ℕ) → a / 2 ≡ b / 2 → b / 8 % 2 ≡ a / 8 % 2
bit3 a b e = omega (arith, e)

selected_same : (s : Module) (r : Qspi) (x : ℕ) → s.inputs / 2 ≡ x / 2 → selected (pins_of (beside s r x)) ≡ selected (pins_of s)
selected_same s r x e = ap (λ l. (bit 3 s.pqspar && not (bit 3 s.ddrqs)) && not (eqb l 1)) (bit3 s.inputs x e)

module _ (entries : ℕ → Bool) (rxd : Bool) (m : Module) (q : Qspi) (x : ℕ) where
  -- The second queue after k clocks.
  after : ℕ → Qspi
  after zero = q
  after (suc k) = clock (after k) (pins_of (beside (iterate k (clock_module rxd) m) (after k) x))

  is_beside : (k : ℕ) → iterate k (clock_module rxd) (beside m q x) ≡ beside (iterate k (clock_module rxd) m) (after k) x
  unfolding iterate clock_module after
  is_beside zero = refl
  is_beside (suc k) = ap (clock_module rxd) (is_beside k)

  stays_alike : m.inputs / 2 ≡ x / 2 → masked entries m.qspi ≡ masked entries q → (k : ℕ) →
      ((i : ℕ) → i < k → runs_one_of (λ e. not (entries e)) (iterate i (clock_module rxd) m).qspi ≡ true → m.inputs ≡ x) →
      masked entries (iterate k (clock_module rxd) m).qspi ≡ masked entries (after k)
  unfolding iterate clock_module after
  stays_alike levels alike zero h = alike
  stays_alike levels alike (suc k) h =
      let s : Module = iterate k (clock_module rxd) m in
      let same : s.inputs ≡ m.inputs = inputs_stay k rxd m in
      clock_alike entries s.qspi (after k) (pins_of s) (pins_of (beside s (after k) x))
      (selected_same s (after k) x (ap (λ l. l / 2) same ∙ levels))
      (λ runs. ap (λ l. miso_of (pins_of (held s l))) (same ∙ h k (omega arith) runs))
      (stays_alike levels alike k (λ i less. h i (omega arith)))

  pub clocks_alike : (k : ℕ) → m.inputs / 2 ≡ x / 2 → masked entries m.qspi ≡ masked entries q →
      ((i : ℕ) → i < k → runs_one_of (λ e. not (entries e)) (clocks m rxd i).qspi ≡ true → m.inputs ≡ x) →
      Alike entries (clocks m rxd k) (clocks (beside m q x) rxd k)
  unfolding clocks
  clocks_alike k levels alike h =
      record { queue = after k; inputs = x; is = is_beside k; same = stays_alike levels alike k h }

-- A hold of two alike modules, refused 10 or not: both are then, and nothing changes.
passes_same : (entries : ℕ → Bool) (m n : Module) (k : ℕ) → Alike entries m n → passes m k ≡ passes n k
passes_same entries m n k a = sym (ap (λ r. passes r k) a.is)

module _ (entries : ℕ → Bool) (m n : Module) (pins pins' : ℕ) (rxd : Bool) (k : ℕ) (a : Alike entries m n) (others : pins / 2 ≡ pins' / 2)
    (miso : (i : ℕ) → i < k → runs_one_of (λ e. not (entries e)) (clocks (held m pins) rxd i).qspi ≡ true → pins ≡ pins') where
  by_passing : (past : Bool) →
      DoneAlike entries (cond past (done m 10 0) (done (clocks (held m pins) rxd k) 0 0))
      (cond past (done n 10 0) (done (clocks (held n pins') rxd k) 0 0))
  by_passing true = record { state = a; refusal = refl }
  by_passing false =
      record {
        state =
            subst (λ r. Alike entries (clocks (held m pins) rxd k) (clocks r rxd k)) (sym (ap (λ r. held r pins') a.is))
            (clocks_alike entries rxd (held m pins) a.queue pins' k others a.same miso);
        refusal = refl;
      }

  pub hold_alike : DoneAlike entries (holds m pins rxd k) (holds n pins' rxd k)
  unfolding holds
  hold_alike = rw (← passes_same entries m n k a) (by_passing (passes m k))

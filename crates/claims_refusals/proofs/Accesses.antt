-- Demand 1, law by law: refusals 1 to 4 and privilege. Assumes nothing.
use mathlib.Core.Path.{◌≡◌, refl, ap, ap₂, ◌∙◌}
use mathlib.Core.Bool.{Bool, true, false, not, ◌&&◌}
use Prim.Native.Nat.{ℕ, ◌+◌, ◌*◌, ◌/◌, ◌%◌, ◌^◌, ◌≤◌}
use native.Mathlib.Omega.{arith}
use lib.Dec.{eqb}
use Rattle.qsm.specs.model.Lanes.{in_map}
use Rattle.qsm.specs.model.Decision.{shaped, fits, barred, refusal_of, gate, admitted, decide_read, decide_stored, decide_write, stored_by}
use Rattle.qsm.specs.model.Event.{done, answer_of, refused, write_decided, accesses, resets, reads, writes, does, step}
use Rattle.qsm.proofs.Limit.{hold_if}
use Rattle.qsm.specs.declared.state.Module.{Module}
use Rattle.qsm.specs.declared.access.Store.{Store}
use Rattle.qsm.specs.declared.decision.Decision.{Decision}
use Rattle.qsm.specs.declared.decision.Decision.TheVariants.{Permitted, Blocked, Misshapen, Unmapped, Unmodelled, Guarded}
use Rattle.qsm.specs.declared.event.Done.{Done}
use Rattle.qsm.specs.declared.event.Access.{Access}
use Rattle.qsm.specs.declared.event.Access.TheVariants.{Read, Write}
use Rattle.claims_refusals.specs.Refusals.{misshapen, malformed, unmapped, unprivileged, unmodelled, guarded}
use Rattle.claims_refusals.specs.Demand1.{blocked, Refusal1, Refusal2, Privilege, Refusal3, Refusal4, Unchanged, Answered, InBytes}
use Rattle.claims_refusals.proofs.Bytes.{misshapen_is, malformed_is, unmapped_is, unprivileged_is}
use Rattle.claims_refusals.proofs.Words.{unmodelled_is, guarded_is}
use Rattle.claims_refusals.proofs.Order.{read_refusal, write_refusal, read_unchanged, write_unchanged, read_blocked, write_blocked, refusal_small, Tests, decided, gives_1, gives_2, gives_privilege, gives_3, gives_4, no_test}

of_read : (m : Module) (s : Bool) (w o : ℕ) →
    Tests (shaped w o) (in_map w o) (barred m s w o) false false (misshapen w o) (unmapped w o) (unprivileged m s w o) false false
of_read m s w o =
    record {
      first = misshapen_is w o;
      second = unmapped_is w o;
      third = unprivileged_is m s w o;
      fourth = λ h k. refl;
      fifth = λ h k. refl;
    }

before : (a b : Bool) → a && b ≡ true → a ≡ true
before true b h = refl
before false b h = h

of_write : (m : Module) (s : Bool) (w o v : ℕ) →
    Tests (shaped w o && fits w v) (in_map w o) (barred m s w o) (stored_by m w o v).unmodelled (stored_by m w o v).guarded
    (malformed w o v) (unmapped w o) (unprivileged m s w o) (unmodelled m w o v) (guarded m w o v)
of_write m s w o v =
    record {
      first = malformed_is w o v;
      second = λ h. unmapped_is w o (before (shaped w o) (fits w v) h);
      third = λ h. unprivileged_is m s w o (before (shaped w o) (fits w v) h);
      fourth = λ h k. unmodelled_is m w o v (before (shaped w o) (fits w v) h) k;
      fifth = λ h k. guarded_is m w o v (before (shaped w o) (fits w v) h) k;
    }

-- The refusal of a read, and of a write, by the tests.
read_gives : (k : ℕ) (m : Module) (s : Bool) (w o : ℕ) →
    eqb (reads m s w o).refusal k ≡ eqb (refusal_of (decided (shaped w o) (in_map w o) (barred m s w o) false false)) k
unfolding reads decide_read admitted
read_gives k m s w o =
    ap (λ (n : ℕ). eqb n k) (read_refusal (gate (shaped w o) (in_map w o) (barred m s w o)) m w o)
    ∙ ap (λ (d : Decision). eqb (refusal_of d) k) (no_test (shaped w o) (in_map w o) (barred m s w o))

write_gives : (k : ℕ) (m : Module) (s : Bool) (w o v : ℕ) →
    eqb (writes m s w o v).refusal k
    ≡ eqb (refusal_of (decided (shaped w o && fits w v) (in_map w o) (barred m s w o) (stored_by m w o v).unmodelled (stored_by m w o v).guarded)) k
unfolding writes decide_stored admitted
write_gives k m s w o v =
    ap (λ (n : ℕ). eqb n k)
    (write_refusal
    (decided (shaped w o && fits w v) (in_map w o) (barred m s w o) (stored_by m w o v).unmodelled (stored_by m w o v).guarded) m
    (stored_by m w o v))

pub refusal1 : Refusal1
unfolding step does answer_of
refusal1 = (
  (λ m s w o. read_gives 1 m s w o ∙ gives_1 _ _ _ _ _ _ _ _ _ _ (of_read m s w o)),
  (λ m s w o v. write_gives 1 m s w o v ∙ gives_1 _ _ _ _ _ _ _ _ _ _ (of_write m s w o v)),
)

pub refusal2 : Refusal2
unfolding step does answer_of
refusal2 = (
  (λ m s w o. read_gives 2 m s w o ∙ gives_2 _ _ _ _ _ _ _ _ _ _ (of_read m s w o)),
  (λ m s w o v. write_gives 2 m s w o v ∙ gives_2 _ _ _ _ _ _ _ _ _ _ (of_write m s w o v)),
)

pub privilege : Privilege
unfolding decide_read decide_write decide_stored admitted
privilege = (
  (λ m s w o. ap blocked (no_test (shaped w o) (in_map w o) (barred m s w o)) ∙ gives_privilege _ _ _ _ _ _ _ _ _ _ (of_read m s w o)),
  (λ m s w o v. gives_privilege _ _ _ _ _ _ _ _ _ _ (of_write m s w o v)),
)

and_false : (a : Bool) → a && false ≡ false
and_false true = refl
and_false false = refl

pub refusal3 : Refusal3
unfolding step does answer_of
refusal3 = (
  (λ m s w o. read_gives 3 m s w o ∙ gives_3 _ _ _ _ _ _ _ _ _ _ (of_read m s w o) ∙ and_false (not (misshapen w o) && not (unmapped w o) && not (unprivileged m s w o))),
  (λ m s w o v. write_gives 3 m s w o v ∙ gives_3 _ _ _ _ _ _ _ _ _ _ (of_write m s w o v)),
)

pub refusal4 : Refusal4
unfolding step does answer_of
refusal4 = (
  (λ m s w o. read_gives 4 m s w o ∙ gives_4 _ _ _ _ _ _ _ _ _ _ (of_read m s w o) ∙ and_false (not (misshapen w o) && not (unmapped w o) && not (unprivileged m s w o) && not false)),
  (λ m s w o v. write_gives 4 m s w o v ∙ gives_4 _ _ _ _ _ _ _ _ _ _ (of_write m s w o v)),
)

unchanged_access : (m : Module) (a : Access) → eqb (accesses m a).refusal 0 ≡ false →
    ((accesses m a).state ≡ m) × ((accesses m a).value ≡ 0)
unfolding reads writes
unchanged_access m (Read s w o) h = read_unchanged (decide_read m s w o) m w o h
unchanged_access m (Write s w o v) h = write_unchanged (decide_stored m (stored_by m w o v) s w o v) m (stored_by m w o v) h

-- Of a module that is left with no refusal and value 0.
parts : (m : Module) (d : Done) → d ≡ done m 0 0 → (d.state ≡ m) × (d.refusal ≡ 0) × (d.value ≡ 0)
parts m d h = (ap (λ (d : Done). d.state) h, ap (λ (d : Done). d.refusal) h, ap (λ (d : Done). d.value) h)

pub unchanged : Unchanged
unfolding step answer_of does reads writes decide_write
unchanged = (
  (λ m a h. let u = unchanged_access m a h in (u.0, refl, u.1)),
  (λ m s w o h. parts m (reads m s w o) (read_blocked (decide_read m s w o) m w o h)),
  (λ m s w o v h. parts m (writes m s w o v) (write_blocked (decide_stored m (stored_by m w o v) s w o v) m (stored_by m w o v) h)),
)

pub answered_access : (m : Module) (a : Access) → (accesses m a).refusal ≤ 4
unfolding reads writes
answered_access m (Read s w o) = rw (read_refusal (decide_read m s w o) m w o) (refusal_small (decide_read m s w o))
answered_access m (Write s w o v) =
    rw (write_refusal (decide_stored m (stored_by m w o v) s w o v) m (stored_by m w o v))
    (refusal_small (decide_stored m (stored_by m w o v) s w o v))

written_value : (d : Decision) (m : Module) (s : Store) → (write_decided d m s).value ≡ 0
unfolding refused
written_value Permitted m s = refl
written_value Blocked m s = refl
written_value Misshapen m s = refl
written_value Unmapped m s = refl
written_value Unmodelled m s = refl
written_value Guarded m s = refl

pub answers : Answered
unfolding step answer_of does resets writes
answers = (
  (λ m. (refl, refl)),
  (λ m pins rxd n. hold_if (λ d. (eqb d.refusal 0 ≡ not (eqb d.refusal 10)) × (d.value ≡ 0)) m pins rxd n (λ h. (refl, refl)) (λ h. (refl, refl))),
  answered_access,
  (λ m s w o v. written_value (decide_stored m (stored_by m w o v) s w o v) m (stored_by m w o v)),
)

-- Two bytes of a number at a time.
two_bytes : (n : ℕ) → n / 256 % 256 * 256 + n % 256 ≡ n % 65536
two_bytes n = omega arith

high_bytes : (v : ℕ) → v / 16777216 % 256 * 256 + v / 65536 % 256 ≡ v / 65536 % 65536
high_bytes v = let up : v / 16777216 ≡ v / 65536 / 256 = omega arith in ap (λ (k : ℕ). k % 256 * 256 + v / 65536 % 256) up ∙ two_bytes (v / 65536)

two_words : (v : ℕ) → v / 65536 % 65536 * 65536 + v % 65536 ≡ v % 2 ^ 32
two_words v = omega arith

pub in_bytes : InBytes
in_bytes a = (refl, refl, refl, ap₂ (λ (h l : ℕ). h * 65536 + l) (high_bytes a.value) (two_bytes a.value) ∙ two_words a.value)

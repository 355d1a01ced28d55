-- The order 1, 2, privilege, 3, 4 for any tests. Assumes nothing.
use mathlib.Core.Path.{◌≡◌, refl, sym}
use mathlib.Core.Bool.{Bool, true, false, not, ◌&&◌}
use Prim.Native.Nat.{ℕ, ◌≤◌}
use native.Mathlib.Omega.{arith}
use lib.Dec.{eqb}
use Rattle.qsm.specs.model.Decision.{refusal_of, gate, permits, tested}
use Rattle.qsm.specs.model.Event.{refused, done, read_decided, write_decided}
use Rattle.qsm.specs.declared.state.Module.{Module}
use Rattle.qsm.specs.declared.access.Store.{Store}
use Rattle.qsm.specs.declared.decision.Decision.{Decision}
use Rattle.qsm.specs.declared.decision.Decision.TheVariants.{Permitted, Blocked, Misshapen, Unmapped, Unmodelled, Guarded}
use Rattle.claims_refusals.specs.Demand1.{blocked}
use Rattle.claims_refusals.proofs.Tests.{absurd_bool}

-- ---- what a decision gives and leaves

pub read_refusal : (d : Decision) (m : Module) (w o : ℕ) → (read_decided d m w o).refusal ≡ refusal_of d
unfolding refused
read_refusal Permitted m w o = refl
read_refusal Blocked m w o = refl
read_refusal Misshapen m w o = refl
read_refusal Unmapped m w o = refl
read_refusal Unmodelled m w o = refl
read_refusal Guarded m w o = refl

pub write_refusal : (d : Decision) (m : Module) (s : Store) → (write_decided d m s).refusal ≡ refusal_of d
unfolding refused
write_refusal Permitted m s = refl
write_refusal Blocked m s = refl
write_refusal Misshapen m s = refl
write_refusal Unmapped m s = refl
write_refusal Unmodelled m s = refl
write_refusal Guarded m s = refl

pub read_unchanged : (d : Decision) (m : Module) (w o : ℕ) → eqb (read_decided d m w o).refusal 0 ≡ false →
    ((read_decided d m w o).state ≡ m) × ((read_decided d m w o).value ≡ 0)
unfolding refused
read_unchanged Permitted m w o h = absurd_bool (sym h)
read_unchanged Blocked m w o h = (refl, refl)
read_unchanged Misshapen m w o h = (refl, refl)
read_unchanged Unmapped m w o h = (refl, refl)
read_unchanged Unmodelled m w o h = (refl, refl)
read_unchanged Guarded m w o h = (refl, refl)

pub write_unchanged : (d : Decision) (m : Module) (s : Store) → eqb (write_decided d m s).refusal 0 ≡ false →
    ((write_decided d m s).state ≡ m) × ((write_decided d m s).value ≡ 0)
unfolding refused
write_unchanged Permitted m s h = absurd_bool (sym h)
write_unchanged Blocked m s h = (refl, refl)
write_unchanged Misshapen m s h = (refl, refl)
write_unchanged Unmapped m s h = (refl, refl)
write_unchanged Unmodelled m s h = (refl, refl)
write_unchanged Guarded m s h = (refl, refl)

pub read_blocked : (d : Decision) (m : Module) (w o : ℕ) → blocked d ≡ true → read_decided d m w o ≡ done m 0 0
unfolding refused
read_blocked Permitted m w o h = absurd_bool h
read_blocked Blocked m w o h = refl
read_blocked Misshapen m w o h = absurd_bool h
read_blocked Unmapped m w o h = absurd_bool h
read_blocked Unmodelled m w o h = absurd_bool h
read_blocked Guarded m w o h = absurd_bool h

pub write_blocked : (d : Decision) (m : Module) (s : Store) → blocked d ≡ true → write_decided d m s ≡ done m 0 0
unfolding refused
write_blocked Permitted m s h = absurd_bool h
write_blocked Blocked m s h = refl
write_blocked Misshapen m s h = absurd_bool h
write_blocked Unmapped m s h = absurd_bool h
write_blocked Unmodelled m s h = absurd_bool h
write_blocked Guarded m s h = absurd_bool h

pub refusal_small : (d : Decision) → refusal_of d ≤ 4
refusal_small Permitted = omega arith
refusal_small Blocked = omega arith
refusal_small Misshapen = omega arith
refusal_small Unmapped = omega arith
refusal_small Unmodelled = omega arith
refusal_small Guarded = omega arith

-- ---- the order

-- The table's conditions, and the module's tests of them where nothing came before.
pub record Tests (shaped mapped barred unmodelled guarded : Bool) (one two privilege three four : Bool) : Type 0 where
  pub first : one ≡ not shaped
  pub second : shaped ≡ true → two ≡ not mapped
  pub third : shaped ≡ true → privilege ≡ barred
  pub fourth : shaped ≡ true → mapped ≡ true → three ≡ unmodelled
  pub fifth : shaped ≡ true → mapped ≡ true → four ≡ guarded

abbrev pub decided : Bool → Bool → Bool → Bool → Bool → Decision
decided sh mp br u g = tested (gate sh mp br) (permits (gate sh mp br)) u g

is_first : (sh mp br u g : Bool) → eqb (refusal_of (decided sh mp br u g)) 1 ≡ not sh
is_first false mp br u g = refl
is_first true false br u g = refl
is_first true true true u g = refl
is_first true true false true g = refl
is_first true true false false true = refl
is_first true true false false false = refl

pub gives_1 : (sh mp br u g one two priv three four : Bool) → Tests sh mp br u g one two priv three four →
    eqb (refusal_of (decided sh mp br u g)) 1 ≡ one
gives_1 sh mp br u g one two priv three four t = rw t.first (is_first sh mp br u g)

pub gives_2 : (sh mp br u g one two priv three four : Bool) → Tests sh mp br u g one two priv three four →
    eqb (refusal_of (decided sh mp br u g)) 2 ≡ not one && two
gives_2 false mp br u g one two priv three four t = simp t.first
gives_2 true false br u g one two priv three four t = simp (t.first, t.second refl)
gives_2 true true true u g one two priv three four t = simp (t.first, t.second refl)
gives_2 true true false true g one two priv three four t = simp (t.first, t.second refl)
gives_2 true true false false true one two priv three four t = simp (t.first, t.second refl)
gives_2 true true false false false one two priv three four t = simp (t.first, t.second refl)

pub gives_privilege : (sh mp br u g one two priv three four : Bool) → Tests sh mp br u g one two priv three four →
    blocked (decided sh mp br u g) ≡ not one && not two && priv
gives_privilege false mp br u g one two priv three four t = simp t.first
gives_privilege true false br u g one two priv three four t = simp (t.first, t.second refl)
gives_privilege true true true u g one two priv three four t = simp (t.first, t.second refl, t.third refl)
gives_privilege true true false true g one two priv three four t = simp (t.first, t.second refl, t.third refl)
gives_privilege true true false false true one two priv three four t = simp (t.first, t.second refl, t.third refl)
gives_privilege true true false false false one two priv three four t = simp (t.first, t.second refl, t.third refl)

pub gives_3 : (sh mp br u g one two priv three four : Bool) → Tests sh mp br u g one two priv three four →
    eqb (refusal_of (decided sh mp br u g)) 3 ≡ not one && not two && not priv && three
gives_3 false mp br u g one two priv three four t = simp t.first
gives_3 true false br u g one two priv three four t = simp (t.first, t.second refl)
gives_3 true true true u g one two priv three four t = simp (t.first, t.second refl, t.third refl)
gives_3 true true false true g one two priv three four t =
    simp (t.first, t.second refl, t.third refl, t.fourth refl refl)
gives_3 true true false false true one two priv three four t =
    simp (t.first, t.second refl, t.third refl, t.fourth refl refl)
gives_3 true true false false false one two priv three four t =
    simp (t.first, t.second refl, t.third refl, t.fourth refl refl)

pub gives_4 : (sh mp br u g one two priv three four : Bool) → Tests sh mp br u g one two priv three four →
    eqb (refusal_of (decided sh mp br u g)) 4 ≡ not one && not two && not priv && not three && four
gives_4 false mp br u g one two priv three four t = simp t.first
gives_4 true false br u g one two priv three four t = simp (t.first, t.second refl)
gives_4 true true true u g one two priv three four t = simp (t.first, t.second refl, t.third refl)
gives_4 true true false true g one two priv three four t =
    simp (t.first, t.second refl, t.third refl, t.fourth refl refl)
gives_4 true true false false true one two priv three four t =
    simp (t.first, t.second refl, t.third refl, t.fourth refl refl, t.fifth refl refl)
gives_4 true true false false false one two priv three four t =
    simp (t.first, t.second refl, t.third refl, t.fourth refl refl, t.fifth refl refl)

-- A read is a write with neither test.
pub no_test : (sh mp br : Bool) → gate sh mp br ≡ decided sh mp br false false
no_test false mp br = refl
no_test true false br = refl
no_test true true true = refl
no_test true true false = refl

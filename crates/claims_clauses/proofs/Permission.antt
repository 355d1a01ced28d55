-- 'Permitted' by what a host sees. Assumes nothing.
use mathlib.Core.Path.{◌≡◌, refl, ap}
use mathlib.Core.Bool.{Bool, true, false, cond, not, ◌&&◌, ◌||◌, true≢false, false≢true}
use Prim.Native.Nat.{ℕ, ◌%◌}
use native.Mathlib.Nat.{zero-add}
use lib.Dec.{eqb}
use borrow.Author.Tests.{eqb-true}
use Rattle.steps.specs.Bits.{bit}
use Rattle.steps.specs.Iterate.{iterate}
use Rattle.sci.proofs.Membership.{and_left, and_right}
use Rattle.qsm.specs.model.Map.{decode}
use Rattle.qsm.specs.model.Own.{peek_own}
use Rattle.qsm.specs.model.Word.{peek}
use Rattle.qsm.specs.model.Lanes.{in_map, is_restricted}
use Rattle.qsm.specs.model.Access.{fetch, fetched}
use Rattle.qsm.specs.model.Decision.{permits, refusal_of, shaped, fits, gate, tested, admitted, decide_read, stored_by, decide_stored, decide_write}
use Rattle.qsm.specs.model.Event.{done, answer_of, after_read, read_value, refused, reads, writes, does, step}
use Rattle.qsm.specs.declared.state.Module.{Module}
use Rattle.qsm.specs.declared.decision.Decision.{Decision}
use Rattle.qsm.specs.declared.decision.Decision.TheVariants.{Permitted, Blocked, Misshapen, Unmapped, Unmodelled, Guarded}
use Rattle.qsm.specs.declared.event.Access.TheVariants.{Read, Write}
use Rattle.qsm.specs.declared.event.Event.TheVariants as event
use Rattle.qsm.proofs.Booleans.{both, one_of}
use Rattle.claims_clauses.specs.Permission.{reaches, SUPV, Permission}
use Rattle.claims_clauses.proofs.Places.{every, at, within}

supv_is : (m : Module) → SUPV m ≡ bit 7 m.qsmcr
unfolding step answer_of does reads decide_read admitted in_map decode read_value fetched fetch iterate peek peek_own
supv_is m = ap (bit 7) (zero-add m.qsmcr)

-- None of them is a register with a privilege of its own.
abbrev open_at : ℕ → ℕ → Bool
open_at w o = not (shaped w o && in_map w o && reaches w o) || not (is_restricted w o)

opens : ℕ → Bool
opens o = open_at 1 o && open_at 2 o && open_at 4 o

all_open : every opens 336 ≡ true
unfolding every opens decode in_map is_restricted
all_open = refl

freed : (a b : Bool) → not a || not b ≡ true → a ≡ true → b ≡ false
freed true true t h = absurd (false≢true t)
freed true false t h = refl
freed false b t h = absurd (false≢true h)

open_width : (w o : ℕ) → opens o ≡ true → shaped w o ≡ true → open_at w o ≡ true
unfolding opens
open_width w o h s =
    one_of (eqb w 1) ((eqb w 2 || eqb w 4) && eqb (o % 2) 0) s
    (λ e. rw (eqb-true w 1 e) (and_left (open_at 1 o) _ (and_left (open_at 1 o && open_at 2 o) _ h)))
    (λ e. one_of (eqb w 2) (eqb w 4) (and_left (eqb w 2 || eqb w 4) (eqb (o % 2) 0) e)
    (λ f. rw (eqb-true w 2 f) (and_right (open_at 1 o) _ (and_left (open_at 1 o && open_at 2 o) _ h)))
    (λ f. rw (eqb-true w 4 f) (and_right (open_at 1 o && open_at 2 o) _ h)))

not_restricted : (w o : ℕ) → reaches w o ≡ true → shaped w o ≡ true → in_map w o ≡ true → is_restricted w o ≡ false
not_restricted w o r s i =
    freed (shaped w o && in_map w o && reaches w o) (is_restricted w o) (open_width w o (at opens 336 all_open o (within w o i)) s)
    (both (shaped w o && in_map w o) (reaches w o) (both (shaped w o) (in_map w o) s i) r)

-- Shaped, mapped, a supervisor's, SUPV, restricted; and 3 and 4.
decided : (sh mp s v r u g : Bool) → (sh ≡ true → mp ≡ true → r ≡ false) →
    let d : Decision = gate sh mp (not s && (v || r)) in
    (permits d ≡ eqb (refusal_of d) 0 && (s || not v))
    × (permits (tested d (permits d) u g) ≡ eqb (refusal_of (tested d (permits d) u g)) 0 && (s || not v))
decided false mp s v r u g h = (refl, refl)
decided true false s v r u g h = (refl, refl)
decided true true true v r true g h = (refl, refl)
decided true true true v r false true h = (refl, refl)
decided true true true v r false false h = (refl, refl)
decided true true false true r u g h = (refl, refl)
decided true true false false true u g h = absurd (true≢false (h refl refl))
decided true true false false false true g h = (refl, refl)
decided true true false false false false true h = (refl, refl)
decided true true false false false false false h = (refl, refl)

-- The refusal answered is the decision's.
answered : (d : Decision) (m n : Module) (x : ℕ) → (cond (permits d) (done n 0 x) (done m (refusal_of d) 0)).refusal ≡ refusal_of d
answered Permitted m n x = refl
answered Blocked m n x = refl
answered Misshapen m n x = refl
answered Unmapped m n x = refl
answered Unmodelled m n x = refl
answered Guarded m n x = refl

read_answered : (m : Module) (s : Bool) (w o : ℕ) → (step m (event.Access (Read s w o))).answer.refusal ≡ refusal_of (decide_read m s w o)
unfolding step answer_of does reads refused
read_answered m s w o = answered (decide_read m s w o) m (after_read m w o) (read_value m w o)

write_answered : (m : Module) (s : Bool) (w o v : ℕ) →
    (step m (event.Access (Write s w o v))).answer.refusal ≡ refusal_of (decide_write m s w o v)
unfolding step answer_of does writes refused decide_write
write_answered m s w o v = answered (decide_stored m (stored_by m w o v) s w o v) m (stored_by m w o v).state 0

read_decided_holds : (m : Module) (s : Bool) (w o : ℕ) → reaches w o ≡ true →
    permits (decide_read m s w o) ≡ eqb (refusal_of (decide_read m s w o)) 0 && (s || not (bit 7 m.qsmcr))
unfolding decide_read admitted
read_decided_holds m s w o r =
    (decided (shaped w o) (in_map w o) s (bit 7 m.qsmcr) (is_restricted w o) false false (not_restricted w o r)).0

write_decided_holds : (m : Module) (s : Bool) (w o v : ℕ) → reaches w o ≡ true →
    permits (decide_write m s w o v) ≡ eqb (refusal_of (decide_write m s w o v)) 0 && (s || not (bit 7 m.qsmcr))
unfolding decide_write decide_stored admitted
write_decided_holds m s w o v r =
    (decided (shaped w o && fits w v) (in_map w o) s (bit 7 m.qsmcr) (is_restricted w o) (stored_by m w o v).unmodelled (stored_by m w o v).guarded
    (λ h. not_restricted w o r (and_left (shaped w o) _ h))).1

pub permission : Permission
permission m (Read s w o) r = rw (read_answered m s w o, supv_is m) (read_decided_holds m s w o r)
permission m (Write s w o v) r = rw (write_answered m s w o v, supv_is m) (write_decided_holds m s w o v r)

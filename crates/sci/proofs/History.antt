-- Histories put together: what a list of events does is what its steps do, one after the other.
use mathlib.Core.Path.{◌≡◌, refl, ap, sym, ◌∙◌}
use mathlib.Core.Bool.{Bool, true, false}
use mathlib.Core.List.{List, [], ◌∷◌, ◌++◌, append_assoc}
use Prim.Native.Nat.{ℕ, zero, suc, ◌%◌}
use native.Mathlib.Omega.{arith}
use lib.Bits.{bit_and, and_mod, and_le_r}
use lib.ListN.{replicate}
use Rattle.steps.specs.Iterate.{iterate}
use Rattle.sci.specs.model.Flags.{flag}
use Rattle.sci.specs.claims.Line.{Op, shown, Seen}
use Rattle.sci.specs.model.Serial.{clocked, status_read, data_read, wrote_sccr0, wrote_sccr1, sccr0_guarded, sccr1_guarded}
use Rattle.sci.specs.claims.History.{Step, reset, clock, reads, writesSccr0, writesSccr1, writesScdr, step, run, sampling, step_ops, ops, seen_if, step_seen, watched, Unbroken}
use Rattle.sci.specs.claims.Overrun.{Mark, step_marks, log}
use Rattle.sci.specs.declared.status.Status.{Status}
use Rattle.sci.specs.declared.serial.Sci.{Sci}

pub run_append : (es fs : List Step) (s : Sci) → run (es ++ fs) s ≡ run fs (run es s)
unfolding run
run_append [] fs s = refl
run_append (e ∷ es) fs s = run_append es fs (step e s)

pub ops_append : (es fs : List Step) (s : Sci) → ops (es ++ fs) s ≡ ops es s ++ ops fs (run es s)
unfolding run ops
ops_append [] fs s = refl
ops_append (e ∷ es) fs s =
    ap (λ (os : List Op). step_ops e s ++ os) (ops_append es fs (step e s))
    ∙ sym (append_assoc (step_ops e s) (ops es (step e s)) (ops fs (run es (step e s))))

pub log_append : (es fs : List Step) (s : Sci) → log (es ++ fs) s ≡ log es s ++ log fs (run es s)
unfolding run log
log_append [] fs s = refl
log_append (e ∷ es) fs s =
    ap (λ (h : List Mark). step_marks e s ++ h) (log_append es fs (step e s))
    ∙ sym (append_assoc (step_marks e s) (log es (step e s)) (log fs (run es (step e s))))

seenIf_append : (b : Bool) (e : Seen) (h k : List Seen) → seen_if b e (h ++ k) ≡ seen_if b e h ++ k
seenIf_append true e h k = refl
seenIf_append false e h k = refl

stepSeen_append : (e : Step) (s t : Sci) (h k : List Seen) → step_seen e s t (h ++ k) ≡ step_seen e s t h ++ k
stepSeen_append reset s t h k = refl
stepSeen_append (clock x) s t h k = seenIf_append (sampling s) _ h k
stepSeen_append (reads scsr scdr) s t h k = refl
stepSeen_append (writesSccr0 v upper lower) s t h k = refl
stepSeen_append (writesSccr1 v upper lower) s t h k = refl
stepSeen_append (writesScdr v upper lower) s t h k = refl

pub watched_append : (es fs : List Step) (s : Sci) → watched (es ++ fs) s ≡ watched es s ++ watched fs (run es s)
unfolding run watched
watched_append [] fs s = refl
watched_append (e ∷ es) fs s =
    ap (step_seen e s (step e s)) (watched_append es fs (step e s))
    ∙ stepSeen_append e s (step e s) (watched es (step e s)) (watched fs (run es (step e s)))

pub unbroken_append : (es fs : List Step) (s : Sci) → Unbroken es s → Unbroken fs (run es s) → Unbroken (es ++ fs) s
unfolding run
unbroken_append [] fs s u v = v
unbroken_append (e ∷ es) fs s u v = (u.0, unbroken_append es fs (step e s) u.1 v)

-- A hold's clocks.
abbrev pub clocks : ℕ → Bool → List Step
clocks n x = replicate n (clock x)

pub clocks_unbroken : (n : ℕ) (x : Bool) (s : Sci) → Unbroken (clocks n x) s
clocks_unbroken zero x s = tt
clocks_unbroken (suc n) x s = (refl, clocks_unbroken n x (step (clock x) s))

iterate_inner : (n : ℕ) (x : Bool) (s : Sci) →
    iterate n (λ (t : Sci). clocked t x) (clocked s x) ≡ clocked (iterate n (λ (t : Sci). clocked t x) s) x
unfolding iterate
iterate_inner zero x s = refl
iterate_inner (suc n) x s = ap (λ (t : Sci). clocked t x) (iterate_inner n x s)

pub run_clocks : (n : ℕ) (x : Bool) (s : Sci) → run (clocks n x) s ≡ iterate n (λ (t : Sci). clocked t x) s
unfolding run step iterate
run_clocks zero x s = refl
run_clocks (suc n) x s = run_clocks n x (clocked s x) ∙ iterate_inner n x s

-- The accesses by the functions that do them.
pub reads_status_holds : (s : Sci) → step (reads true false) s ≡ status_read s
unfolding step
reads_status_holds s = refl

pub reads_data_holds : (s : Sci) → step (reads false true) s ≡ data_read s
unfolding step
reads_data_holds s = refl

pub reads_both : (s : Sci) → step (reads true true) s ≡ data_read (status_read s)
unfolding step
reads_both s = refl

pub reads_neither : (s : Sci) → step (reads false false) s ≡ s
unfolding step
reads_neither s = refl

pub writes_sccr0 : (s : Sci) (v : ℕ) (upper lower : Bool) → sccr0_guarded s v upper lower ≡ false →
    step (writesSccr0 v upper lower) s ≡ wrote_sccr0 s v upper lower
unfolding step
writes_sccr0 s v upper lower e = rw e

pub writes_sccr1 : (s : Sci) (v : ℕ) (upper lower : Bool) → sccr1_guarded s v upper lower ≡ false →
    step (writesSccr1 v upper lower) s ≡ wrote_sccr1 s v upper lower
unfolding step
writes_sccr1 s v upper lower e = rw e

-- SCSR's low byte has all the receive flags.
pub shown_byte : (s : Status) → flag (bit_and (s.flags.bits % 256) 95) ≡ shown s
shown_byte s =
    let m : bit_and s.flags.bits 95 % 256 ≡ bit_and (s.flags.bits % 256) 95 = and_mod s.flags.bits 95 8 in
    let e : bit_and (s.flags.bits % 256) 95 ≡ bit_and s.flags.bits 95 = omega (arith, and_le_r s.flags.bits 95) in
    ap flag e

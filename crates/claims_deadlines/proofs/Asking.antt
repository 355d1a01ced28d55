-- A word that waits asks, if RIE is set. Assumes nothing.
use mathlib.Core.Path.{◌≡◌, refl}
use mathlib.Core.Bool.{Bool, true, false, cond, ◌&&◌, ◌||◌}
use Prim.Native.Nat.{ℕ, ◌≤◌}
use native.Mathlib.Omega.{arith}
use lib.Dec.{eqb, leb}
use borrow.Author.Tests.{eqb-true, leb-true}
use Rattle.sci.specs.model.Flags.{IDLE, TC, TDRE}
use Rattle.sci.specs.model.Status.{has}
use Rattle.sci.specs.model.Control.{TIE, TCIE, ILIE}
use Rattle.sci.specs.model.Serial as serial
use Rattle.sci.specs.declared.serial.Sci.{Sci}
use Rattle.sci.proofs.Frames.{by_cond}
use Rattle.qspi.specs.model.Outputs as queue
use Rattle.qsm.specs.model.Request.{ILQSPI, ILSCI, winner, request}
use Rattle.qsm.specs.model.Event.{answer_of, does, step}
use Rattle.qsm.specs.declared.state.Module.{Module}
use Rattle.qsm.specs.declared.request.Request.{Request}
use Rattle.claims_deadlines.specs.Deadline.{Asks, AnswerAsks}

third : (a b c : Bool) → a || b || true || c ≡ true
third true b c = refl
third false true c = refl
third false false c = refl

pub asks : Asks
asks m e f =
    let s : Sci = m.sci in
    rw (e, f) (third (has s.status TDRE && TIE s.sccr1) (has s.status TC && TCIE s.sccr1) (has s.status IDLE && ILIE s.sccr1))

no_lower : (q s qivr : ℕ) → s ≤ (winner q s qivr).level
no_lower q s qivr =
    by_cond (λ (r : Request). s ≤ r.level) (leb s q)
    (λ e. let l : s ≤ q = leb-true s q e in
    by_cond (λ (r : Request). s ≤ r.level) (eqb q 0) (λ z. omega (arith, l, eqb-true q 0 z)) (λ _. l))
    (λ _. omega arith)

asked : (b c : Bool) (qilr qivr : ℕ) → c ≡ true → ILSCI qilr ≤ (request b c qilr qivr).level
unfolding request
asked b c qilr qivr e = rw e (no_lower (cond b (ILQSPI qilr) 0) (ILSCI qilr) qivr)

pub shows : AnswerAsks
unfolding step answer_of
shows m e w i =
    let q : Module = (does m e).state in
    asked (queue.asks q.qspi) (serial.asks q.sci) q.qilr q.qivr (asks q w i)

-- With room enough a trace ends, or stops with 5, 6 or 10. Assumes nothing.
use mathlib.Core.Path.{◌≡◌, refl, ap}
use mathlib.Core.Logic.{◌⊎◌, inl, inr}
use mathlib.Core.Bool.{Bool, true, false, cond}
use mathlib.Core.List.{List}
use Prim.Native.Nat.{ℕ, zero, suc, ◌-◌, ◌*◌, ◌<◌, ◌≤◌}
use native.Mathlib.Omega.{arith}
use lib.Dec.{eqb}
use lib.ListN.{length, take, drop, length-drop}
use borrow.Author.Tests.{le-ltb}
use Rattle.qsm.specs.model.State.{reset_module}
use Rattle.qsm.specs.model.Event.{step}
use Rattle.qsm.specs.declared.state.Module.{Module}
use Rattle.qsm.specs.claims.Count.{limited}
use Rattle.trace.specs.Trace.{parsed, reader}
use Rattle.trace.specs.Play.{Outcome, stopped, answered, followed, turn, play_for}
use Rattle.trace.specs.declared.Parsed.{Parsed}
use Rattle.trace.specs.declared.Parsed.TheVariants.{Record, Unknown, Cut}
use Rattle.trace.proofs.Playing.{record_within}
use Rattle.tool_judge.specs.Judge.{enough}
use Rattle.tool_judge.proofs.Laws.{any_room}
use Rattle.claims_judging.specs.Verdicts.{StopOfPlay}

abbrev Known : Outcome → Type 0
Known o = (o.stop ≡ 0) ⊎ ((o.stop ≡ 5) ⊎ ((o.stop ≡ 6) ⊎ (o.stop ≡ 10)))

by_limit : (m : Module) (t : Bool) (o : Outcome) → Known o → Known (cond t (stopped m 10) o)
by_limit m true o h = inr (inr (inr refl))
by_limit m false o h = h

by_turn : (f : Module → List ℕ → ℕ → Outcome) (m : Module) (t : List ℕ) (room : ℕ) (p : Parsed) → parsed t ≡ p → 18 * length t ≤ room
    → ((m' : Module) (n : ℕ) → 0 < n → n ≤ length t → Known (f m' (drop n t) (room - 18))) → Known (turn reader f m t room p)
by_turn f m t room (Record e n) is h next =
    let w = record_within t is in
    rw (le-ltb room 18 (omega (arith, w)))
    (by_limit m (limited m e) (followed (answered (step m e) (take n t)) (f (step m e).state (drop n t) (room - 18))) (next (step m e).state n w.0 w.1))
by_turn f m t room Unknown is h next = inr (inl refl)
by_turn f m t room Cut is h next = inr (inr (inl refl))

by_end : (m : Module) (o : Outcome) (t : Bool) → Known o → Known (cond t (stopped m 0) o)
by_end m o true h = inl refl
by_end m o false h = h

known_for : (k : ℕ) (m : Module) (t : List ℕ) (room : ℕ) → 18 * length t ≤ room → Known (play_for reader k m t room)
unfolding play_for
known_for zero m t room h = inl refl
known_for (suc k) m t room h =
    by_end m (turn reader (play_for reader k) m t room (parsed t)) (eqb (length t) 0)
    (by_turn (play_for reader k) m t room (parsed t) refl h
    (λ m' n pos le. known_for k m' (drop n t) (room - 18) (simp length-drop (omega arith))))

pub stop_of_play : StopOfPlay
stop_of_play t log room h = (
  ap (λ (o : Outcome). o.stop) (any_room reset_module t (enough t) room (omega arith) h),
  known_for (length t) reset_module t (enough t) (omega arith),
)

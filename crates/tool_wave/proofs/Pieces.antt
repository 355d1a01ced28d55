-- Turns over a trace that comes in pieces. Assumes nothing.
use mathlib.Core.Path.{◌≡◌, refl, sym, ap, ◌∙◌}
use mathlib.Core.Bool.{Bool, true, false, cond, true≢false}
use mathlib.Core.List.{List, ◌++◌}
use Prim.Native.Nat.{ℕ, ◌+◌, ◌-◌, ◌<◌, ◌≤◌}
use native.Mathlib.Omega.{arith}
use lib.Dec.{eqb, leb}
use lib.ListN.{length, drop, length-drop, length-append}
use lib.Seq.{drop-drop, drop-append-le}
use borrow.Author.Tests.{leb-true, leb-false, le-leb, lt-leb}
use Rattle.qsm.specs.declared.event.Event.{Event}
use Rattle.qsm.specs.declared.event.Event.TheVariants.{Reset, Hold}
use Rattle.qsm.specs.declared.event.Event.TheVariants as event
use Rattle.trace.specs.Trace.{parsed}
use Rattle.trace.specs.declared.Parsed.{Parsed}
use Rattle.trace.specs.declared.Parsed.TheVariants.{Record, Unknown, Cut}
use Rattle.trace.proofs.Playing.{record_kept}
use Rattle.tool_wave.specs.Probe.{tick, restarted, taken, accessed, limited, calm, ahead}
use Rattle.std.specs.Prelude.{Option, Some, None, Result, Ok, Err}
use Rattle.tool_wave.specs.Turn.{turned, moved, stop_at, event_on, event_or_stop, record_on, hold_on, turn}
use Rattle.tool_wave.specs.Claims.{goes, Grows, without, Shifts}
use Rattle.tool_wave.specs.declared.Step.{Step}
use Rattle.tool_wave.specs.declared.Stop.{Stop}
use Rattle.tool_wave.specs.declared.Stop.TheVariants as stop
use Rattle.tool_wave.specs.declared.Waves.{Waves}
use Rattle.tool_wave.specs.declared.Turned.{Turned}

pub never : (o : Result (Option Step) Stop) → goes o ≡ false → goes o ≡ true → ⊥
never o is not = true≢false (sym not ∙ is)

abbrev by : Waves → List ℕ → Bool → Bool → Turned
by s t idle over = cond idle (cond over (turned s (Err stop.End)) (record_on s (parsed (drop s.at t)))) (hold_on s)

-- ---- more bytes behind

module _ (t more : List ℕ) (s : Waves) where
  record_grows : (r : Parsed) → parsed (drop s.at t) ≡ r → s.at < length t → goes (record_on s r).outcome ≡ true →
      record_on s (parsed (drop s.at (t ++ more))) ≡ record_on s r
  record_grows (Record e n) is lt h =
      ap (record_on s) (ap parsed (drop-append-le s.at t more (omega arith)) ∙ record_kept (drop s.at t) more is)
  record_grows Unknown is lt h = absurd (never (Err stop.UnknownKind) refl h)
  record_grows Cut is lt h = absurd (never (Err stop.CutRecord) refl h)

  grows_by : (idle over : Bool) → leb (length t) s.at ≡ over → goes (by s t idle over).outcome ≡ true →
      by s (t ++ more) idle (leb (length (t ++ more)) s.at) ≡ by s t idle over
  grows_by true true is h = absurd (never (Err stop.End) refl h)
  grows_by true false is h =
      let lt : s.at < length t = leb-false (length t) s.at is in
      let within : s.at < length (t ++ more) = simp length-append (omega arith) in
      ap (λ (b : Bool). cond b (turned s (Err stop.End)) (record_on s (parsed (drop s.at (t ++ more))))) (lt-leb (length (t ++ more)) s.at within)
      ∙ record_grows (parsed (drop s.at t)) refl lt h
  grows_by false over is h = refl

pub grows : Grows
unfolding turn
grows t more s h = grows_by t more s (eqb s.left 0) (leb (length t) s.at) refl h

-- ---- bytes before the place left out

module _ (t : List ℕ) (k : ℕ) (s : Waves) (past : k ≤ s.at) where
  abbrev back : Turned → Turned
  back r = record { state = without k r.state; outcome = r.outcome }

  event_shifts : (a b : ℕ) (e : Event) → a ≡ b - k → event_on (without k s) a e ≡ back (event_on s b e)
  unfolding event_on
  event_shifts a b Reset is = ap (λ (x : ℕ). moved x 0 s.probe (restarted s.probe) 0) is
  event_shifts a b (Hold pins rxd n) is = ap (λ (x : ℕ). moved x n s.probe (taken s.probe pins rxd) 0) is
  event_shifts a b (event.Access c) is =
      ap (λ (x : ℕ). moved x 0 s.probe (accessed s.probe c).probe (accessed s.probe c).refusal) is

  record_shifts : (r : Parsed) → record_on (without k s) r ≡ back (record_on s r)
  record_shifts (Record e n) = go (stop_at s.probe e)
    where
      go : (why : Option Stop) → event_or_stop (without k s) e n why ≡ back (event_or_stop s e n why)
      go None = event_shifts (s.at - k + n) (s.at + n) e (omega (arith, past))
      go (Some why) = refl
  record_shifts Unknown = refl
  record_shifts Cut = refl

  hold_shifts : hold_on (without k s) ≡ back (hold_on s)
  unfolding hold_on
  hold_shifts = go (limited s.probe s.left) (leb s.left (calm s.probe))
    where
      go : (over few : Bool) →
          cond over (turned (without k s) (Err stop.ClockLimit))
          (cond few (turned (record { at = s.at - k; left = 0; probe = ahead s.probe s.left }) (Ok None))
          (moved (s.at - k) (s.left - calm s.probe - 1) (ahead s.probe (calm s.probe)) (tick (ahead s.probe (calm s.probe))) 0))
          ≡ back
          (cond over (turned s (Err stop.ClockLimit))
          (cond few (turned (record { at = s.at; left = 0; probe = ahead s.probe s.left }) (Ok None))
          (moved s.at (s.left - calm s.probe - 1) (ahead s.probe (calm s.probe)) (tick (ahead s.probe (calm s.probe))) 0)))
      go true few = refl
      go false true = refl
      go false false = refl

  same_place : leb (length (drop k t)) (s.at - k) ≡ leb (length t) s.at
  same_place = go (leb (length t) s.at) refl
    where
      go : (b : Bool) → leb (length t) s.at ≡ b → leb (length (drop k t)) (s.at - k) ≡ b
      go true is = le-leb (length (drop k t)) (s.at - k) (simp length-drop (omega (arith, leb-true (length t) s.at is)))
      go false is = lt-leb (length (drop k t)) (s.at - k) (simp length-drop (omega (arith, past, leb-false (length t) s.at is)))

  same_rest : drop (s.at - k) (drop k t) ≡ drop s.at t
  same_rest =
      let sum : k + (s.at - k) ≡ s.at = omega (arith, past) in
      drop-drop (s.at - k) k t ∙ ap (λ (n : ℕ). drop n t) sum

  shifts_by : (idle over : Bool) → by (without k s) (drop k t) idle over ≡ back (by s t idle over)
  shifts_by true true = refl
  shifts_by true false = ap (λ (u : List ℕ). record_on (without k s) (parsed u)) same_rest ∙ record_shifts (parsed (drop s.at t))
  shifts_by false over = hold_shifts

pub shifts : Shifts
unfolding turn
shifts t k s past =
    ap (λ (b : Bool). by (without k s) (drop k t) (eqb s.left 0) b) (same_place t k s past)
    ∙ shifts_by t k s past (eqb s.left 0) (leb (length t) s.at)

-- Each turn takes a clock of the hold under way or a byte of the trace, so turns come to something to tell. Assumes nothing.
use mathlib.Core.Path.{◌≡◌, refl, sym, ap, subst, ◌∙◌}
use mathlib.Core.Bool.{Bool, true, false, cond, true≢false}
use mathlib.Core.List.{List}
use Prim.Native.Nat.{ℕ, zero, suc, ◌+◌, ◌-◌, ◌*◌, ◌^◌, ◌<◌, ◌≤◌}
use native.Mathlib.Omega.{arith}
use native.Mathlib.Nat.{mod-lt}
use lib.Dec.{eqb, ltb, leb}
use lib.ListN.{length, take, drop, length-drop}
use lib.Seq.{take_all}
use borrow.Author.Tests.{eqb-false, leb-false}
use Rattle.qsm.specs.declared.event.Event.{Event}
use Rattle.qsm.specs.declared.event.Event.TheVariants.{Reset, Hold}
use Rattle.qsm.specs.declared.event.Event.TheVariants as event
use Rattle.trace.specs.Trace.{parsed}
use Rattle.trace.specs.declared.Parsed.{Parsed}
use Rattle.trace.specs.declared.Parsed.TheVariants.{Record, Unknown, Cut}
use Rattle.trace.proofs.Playing.{record_within}
use Rattle.std.specs.Prelude.{Option, Some, None}
use Rattle.tool_lines.specs.Call.{stop_at, turned, moved_to, held_for, poll_now, since_of, hold_on, event_on, event_or_stop, size_of, record_on, under_way, turn, nothing, onward, go_for, turns_left, go_on}
use Rattle.tool_lines.specs.declared.stop.Stop.{Stop}
use Rattle.tool_lines.specs.declared.stop.Stop.TheVariants as stop
use Rattle.tool_lines.specs.declared.line.Outcome.{Outcome}
use Rattle.tool_lines.specs.declared.line.Outcome.TheVariants.{Nothing, Stopped, Ended}
use Rattle.tool_lines.specs.declared.Lines.{Lines}
use Rattle.tool_lines.specs.declared.Turned.{Turned}

pub rest : (t : List ℕ) (at : ℕ) → take (length t - at) (drop at t) ≡ drop at t
rest t at = take_all (length t - at) (drop at t) (simp length-drop (omega arith))

-- A record of a trace lies in it.
sized : (t : List ℕ) (p : Parsed) → parsed t ≡ p → size_of p ≤ length t
sized t (Record e n) is = (record_within t is).1
sized t Unknown is = omega arith
sized t Cut is = omega arith

pub fits_in : (t : List ℕ) (at : ℕ) (p : Parsed) → p ≡ parsed (drop at t) → at < length t → length t < 2 ^ 64 → at + size_of p < 2 ^ 64
fits_in t at p is lt small = omega (arith, sized (drop at t) p (sym is), length-drop at t)

-- A part of a hold keeps the place, and takes a clock where there is one.
module _ (s : Lines) (pins : ℕ) (rxd : Bool) (n due since : ℕ) where
  abbrev part : Bool → Turned
  part before = cond before (turned (held_for s pins rxd n 0 (since + n)) Nothing) (poll_now (held_for s pins rxd due (n - due) 0))

  part_at : (before : Bool) → (part before).state.at ≡ s.at
  part_at true = refl
  part_at false = refl

  part_left : 0 < n → 0 < due → (before : Bool) → (part before).state.left < n
  part_left some coming true = some
  part_left some coming false = omega arith

hold_at : (period : ℕ) (s : Lines) (pins : ℕ) (rxd : Bool) (n : ℕ) → (hold_on period s pins rxd n).state.at ≡ s.at
unfolding hold_on
hold_at period s pins rxd n =
    part_at s pins rxd n (period - since_of period s) (since_of period s) (ltb n (period - since_of period s))

hold_left : (period : ℕ) (s : Lines) (pins : ℕ) (rxd : Bool) (n : ℕ) → 0 < period → 0 < n → (hold_on period s pins rxd n).state.left < n
unfolding hold_on
hold_left period s pins rxd n pos some =
    part_left s pins rxd n (period - since_of period s) (since_of period s) some (omega (arith, mod-lt s.since pos))
    (ltb n (period - since_of period s))

pub event_at_holds : (period : ℕ) (s : Lines) (e : Event) → (event_on period s e).state.at ≡ s.at
unfolding event_on
event_at_holds period s Reset = refl
event_at_holds period s (Hold pins rxd n) = hold_at period s pins rxd n
event_at_holds period s (event.Access a) = refl

pub data Moves (t : List ℕ) (s r : Lines) : Type 0 where
  clock : r.at ≡ s.at → r.left < s.left → Moves t s r
  byte : s.at < r.at → s.at < length t → Moves t s r

never : (o : Outcome) → nothing o ≡ false → o ≡ Nothing → ⊥
never o is not = true≢false (ap nothing (sym not) ∙ is)

module _ (period : ℕ) (t : List ℕ) (s : Lines) (pos : 0 < period) where
  event_moves : (e : Event) (n : ℕ) (why : Option Stop) → 0 < n → s.at < length t → (event_or_stop period s e n why).outcome ≡ Nothing
      → Moves t s (event_or_stop period s e n why).state
  event_moves e n None some lt is = byte (omega (arith, event_at_holds period (moved_to s (s.at + n)) e)) lt
  event_moves e n (Some why) some lt is = absurd (never (Stopped why) refl is)

  record_moves : (p : Parsed) → parsed (drop s.at t) ≡ p → s.at < length t → (record_on period s p).outcome ≡ Nothing
      → Moves t s (record_on period s p).state
  record_moves (Record e n) here lt is = event_moves e n (stop_at s.device.clock e) (record_within (drop s.at t) here).0 lt is
  record_moves Unknown here lt is = absurd (never (Stopped stop.UnknownKind) refl is)
  record_moves Cut here lt is = absurd (never (Stopped stop.CutRecord) refl is)

  hold_moves : 0 < s.left → (why : Option Stop) → (event_or_stop period s (under_way s) 0 why).outcome ≡ Nothing
      → Moves t s (event_or_stop period s (under_way s) 0 why).state
  unfolding event_on
  hold_moves some None is =
      clock (hold_at period (moved_to s (s.at + 0)) s.pins s.rxd s.left ∙ omega arith)
      (hold_left period (moved_to s (s.at + 0)) s.pins s.rxd s.left pos some)
  hold_moves some (Some why) is = absurd (never (Stopped why) refl is)

  abbrev turning : Bool → Bool → Turned
  turning idle over =
      cond idle (cond over (turned s Ended) (record_on period s (parsed (drop s.at t))))
      (event_or_stop period s (under_way s) 0 (stop_at s.device.clock (under_way s)))

  moves_by : (idle over : Bool) → eqb s.left 0 ≡ idle → leb (length t) s.at ≡ over → (turning idle over).outcome ≡ Nothing
      → Moves t s (turning idle over).state
  moves_by true true idle over is = absurd (never Ended refl is)
  moves_by true false idle over is = record_moves (parsed (drop s.at t)) refl (leb-false (length t) s.at over) is
  moves_by false past idle over is =
      hold_moves (omega (arith, eqb-false s.left 0 idle)) (stop_at s.device.clock (under_way s)) is

  pub moves : (turn period t s).outcome ≡ Nothing → Moves t s (turn period t s).state
  unfolding turn
  moves is = moves_by (eqb s.left 0) (leb (length t) s.at) refl refl is

  -- There are fewer turns left than before.
  pub fewer : (r : Lines) → Moves t s r → r.left < 2 ^ 32 → turns_left t r < turns_left t s
  fewer r (clock same l) small = omega (arith, ap (λ (k : ℕ). (length t - k) * 2 ^ 32) same)
  fewer r (byte past within) small = omega arith

  pub less : (r : Turned) → r ≡ turn period t s → r.outcome ≡ Nothing → r.state.left < 2 ^ 32 → turns_left t r.state < turns_left t s
  less r is quiet small =
      fewer r.state (subst (λ (q : Turned). Moves t s q.state) (sym is) (moves (ap (λ (q : Turned). q.outcome) (sym is) ∙ quiet))) small

-- The invariant of the loop: what is left to do gives what the whole gives.
pub record Going (period : ℕ) (t : List ℕ) (s₀ s : Lines) : Type 0 where
  pub fuel : ℕ
  pub enough : turns_left t s < fuel
  pub same : go_on period t s₀ ≡ go_for fuel period t s

pub starts : (period : ℕ) (t : List ℕ) (s : Lines) → Going period t s s
unfolding go_on
starts period t s = record { fuel = suc (turns_left t s); enough = omega arith; same = refl }

turns_on : (k period : ℕ) (t : List ℕ) (s : Lines) → 0 < k → go_for k period t s ≡ onward (go_for (k - 1) period t) (turn period t s)
unfolding go_for
turns_on zero period t s some = absurd (omega arith)
turns_on (suc k) period t s some =
    let less : k ≡ suc k - 1 = omega arith in
    ap (λ (j : ℕ). onward (go_for j period t) (turn period t s)) less

module _ (period : ℕ) (t : List ℕ) (s₀ s : Lines) (g : Going period t s₀ s) where
  some : 0 < g.fuel
  some = omega (arith, g.enough)

  pub at_last : (r : Turned) → r ≡ turn period t s → nothing r.outcome ≡ false → r ≡ go_on period t s₀
  at_last r is tells =
      sym (g.same ∙ turns_on g.fuel period t s some ∙ ap (onward (go_for (g.fuel - 1) period t)) (sym is)
      ∙ ap (λ (b : Bool). cond b (go_for (g.fuel - 1) period t r.state) r) tells)

  pub goes_on : 0 < period → (r : Turned) → r ≡ turn period t s → r.outcome ≡ Nothing → r.state.left < 2 ^ 32 → Going period t s₀ r.state
  goes_on pos r is quiet small =
      record {
        fuel = g.fuel - 1;
        enough = omega (arith, less period t s pos r is quiet small, g.enough);
        same =
            g.same ∙ turns_on g.fuel period t s some ∙ ap (onward (go_for (g.fuel - 1) period t)) (sym is)
            ∙ ap (λ (o : Outcome). cond (nothing o) (go_for (g.fuel - 1) period t r.state) r) quiet;
      }

-- What more bytes behind a trace change of a call: nothing, or it goes on from where it had come to the end. Assumes nothing.
use mathlib.Core.Path.{◌≡◌, refl, sym, ap, subst, ◌∙◌}
use mathlib.Core.Bool.{Bool, true, false, cond, true≢false}
use mathlib.Core.List.{List, [], ◌∷◌, ◌++◌}
use Prim.Native.Nat.{ℕ, zero, suc, ◌+◌, ◌-◌, ◌^◌, ◌<◌, ◌≤◌}
use native.Mathlib.Omega.{arith}
use lib.Dec.{eqb, ltb, leb}
use lib.ListN.{length, drop, length-drop, length-append}
use lib.Seq.{drop-append-le}
use borrow.Author.Tests.{ne_eqb, lt-leb, leb-false}
use Rattle.qsm.specs.declared.event.Event.{Event}
use Rattle.qsm.specs.declared.event.Event.TheVariants.{Reset, Hold}
use Rattle.qsm.specs.declared.event.Event.TheVariants as event
use Rattle.trace.specs.Trace.{reset_kind, hold_kind, read_kind, write_kind, long_hold_kind, by_kind, parsed}
use Rattle.trace.specs.declared.Parsed.{Parsed}
use Rattle.trace.specs.declared.Parsed.TheVariants.{Record, Unknown, Cut}
use Rattle.trace.proofs.Playing.{otherwise, record_within, record_kept}
use Rattle.tool_lines.specs.Poll.{polled}
use Rattle.std.specs.Prelude.{Option, Some, None}
use Rattle.tool_lines.specs.Gather.{shown}
use Rattle.tool_lines.specs.Call.{stop_at, turned, moved_to, held_for, poll_now, since_of, hold_on, event_on, record_on, under_way, turn, nothing, onward, go_for, turns_left, go_on, event_or_stop}
use Rattle.tool_lines.specs.Laws.{Bytes}
use Rattle.tool_lines.specs.Pieces.{wants}
use Rattle.tool_lines.specs.declared.stop.Stop.{Stop}
use Rattle.tool_lines.specs.declared.line.Outcome.{Outcome}
use Rattle.tool_lines.specs.declared.line.Outcome.TheVariants.{Nothing, Handed, Dropped, Stopped, Ended, Refused}
use Rattle.tool_lines.specs.declared.Lines.{Lines}
use Rattle.tool_lines.specs.declared.Turned.{Turned}
use Rattle.tool_lines.proofs.Meaning.{Tells, shown_tells}
use Rattle.tool_lines.proofs.Turns.{event_at_holds, moves, fewer}
use Rattle.tool_lines.proofs.Whole.{turn_left, nothing_is}

-- ---- an unknown kind stays unknown

module _ (t s : List ℕ) where
  abbrev Kept : Parsed → Parsed → Type 0
  Kept (Record e n) q = Unit {0}
  Kept Unknown q = q ≡ Unknown
  Kept Cut q = Unit {0}

  kept_if : (b : Bool) (p q p' q' : Parsed) → Kept p p' → Kept q q' → Kept (cond b p q) (cond b p' q')
  kept_if true p q p' q' f g = f
  kept_if false p q p' q' f g = g

  kept_whole : (b : Bool) (e : Event) (n : ℕ) (q : Parsed) → Kept (cond b Cut (Record e n)) q
  kept_whole true e n q = tt
  kept_whole false e n q = tt

  kept_kind : (kind : ℕ) → Kept (by_kind kind t) (by_kind kind s)
  kept_kind kind =
      kept_if (eqb kind reset_kind) _ _ _ _ tt
      (kept_if (eqb kind hold_kind) _ _ _ _ (kept_whole (ltb (length t) 5) _ 5 _)
      (kept_if (eqb kind read_kind) _ _ _ _ (kept_whole (ltb (length t) 4) _ 4 _)
      (kept_if (eqb kind write_kind) _ _ _ _ (kept_whole (ltb (length t) 8) _ 8 _)
      (kept_if (eqb kind long_hold_kind) _ _ _ _ (kept_whole (ltb (length t) 7) _ 7 _) refl))))

abbrev Other : Parsed → Type 0
Other (Record e n) = Unit {0}
Other Unknown = ⊥
Other Cut = Unit {0}

unknown_kept : (t u : List ℕ) → parsed t ≡ Unknown → parsed (t ++ u) ≡ Unknown
unknown_kept [] u is = absurd (subst Other is tt)
unknown_kept (x ∷ t) u is =
    otherwise (eqb (length ((x ∷ t) ++ u)) 0) Cut (ne_eqb (length ((x ∷ t) ++ u)) 0 (λ z. omega arith))
    ∙ subst (λ (p : Parsed). Kept (x ∷ t) ((x ∷ t) ++ u) p (by_kind x ((x ∷ t) ++ u)))
    (sym (otherwise (eqb (length (x ∷ t)) 0) Cut (ne_eqb (length (x ∷ t)) 0 (λ z. omega arith))) ∙ is) (kept_kind (x ∷ t) ((x ∷ t) ++ u) x)

-- ---- a turn

unwanted : (o : Outcome) → Tells o → wants o ≡ false
unwanted Nothing h = refl
unwanted (Handed number n) h = refl
unwanted (Dropped number cause) h = refl
unwanted (Stopped why) h = absurd h
unwanted Ended h = absurd h
unwanted (Refused why) h = absurd h

part_unwanted : (early : Bool) (x y : Turned) → wants x.outcome ≡ false → wants y.outcome ≡ false → wants (cond early x y).outcome ≡ false
part_unwanted true x y f g = f
part_unwanted false x y f g = g

poll_unwanted : (s : Lines) → wants (poll_now s).outcome ≡ false
poll_unwanted s =
    unwanted (shown s.line (polled s.device).status (polled s.device).word).outcome
    (shown_tells s.line (polled s.device).status (polled s.device).word)

event_unwanted : (period : ℕ) (s : Lines) (e : Event) → wants (event_on period s e).outcome ≡ false
unfolding event_on hold_on
event_unwanted period s Reset = refl
event_unwanted period s (Hold pins rxd n) =
    part_unwanted (ltb n (period - since_of period s)) _ _ refl
    (poll_unwanted (held_for s pins rxd (period - since_of period s) (n - (period - since_of period s)) 0))
event_unwanted period s (event.Access a) = refl

module _ (period : ℕ) (t u : List ℕ) where
  record Extends (s : Lines) (r r' : Turned) : Type 0 where
    same : wants r.outcome ≡ false → r' ≡ r
    more : wants r.outcome ≡ true → r.state ≡ s
    within : r.state.at ≤ length t

  event_extends : (s : Lines) (e : Event) (n : ℕ) (why : Option Stop) → s.at + n ≤ length t → s.at ≤ length t →
      Extends s (event_or_stop period s e n why) (event_or_stop period s e n why)
  event_extends s e n None h i =
      record {
        same = λ _. refl;
        more = λ w. absurd (true≢false (sym w ∙ event_unwanted period (moved_to s (s.at + n)) e));
        within = omega (arith, event_at_holds period (moved_to s (s.at + n)) e);
      }
  event_extends s e n (Some why) h i = record { same = λ _. refl; more = λ _. refl; within = i }

  record_extends : (s : Lines) (p : Parsed) → parsed (drop s.at t) ≡ p → s.at ≤ length t →
      Extends s (record_on period s p) (record_on period s (parsed (drop s.at (t ++ u))))
  record_extends s (Record e n) is h =
      subst (λ (q : Parsed). Extends s (record_on period s (Record e n)) (record_on period s q))
      (sym (ap parsed (drop-append-le s.at t u h) ∙ record_kept (drop s.at t) u is))
      (event_extends s e n (stop_at s.device.clock e) (omega (arith, (record_within (drop s.at t) is).1, length-drop s.at t)) h)
  record_extends s Unknown is h =
      subst (λ (q : Parsed). Extends s (record_on period s Unknown) (record_on period s q))
      (sym (ap parsed (drop-append-le s.at t u h) ∙ unknown_kept (drop s.at t) u is))
      (record { same = λ _. refl; more = λ w. absurd (true≢false (sym w)); within = h })
  record_extends s Cut is h = record { same = λ w. absurd (true≢false w); more = λ _. refl; within = h }

  turn_by : (s : Lines) → s.at ≤ length t → (idle over : Bool) → leb (length t) s.at ≡ over →
      Extends s
      (cond idle (cond over (turned s Ended) (record_on period s (parsed (drop s.at t))))
      (event_or_stop period s (under_way s) 0 (stop_at s.device.clock (under_way s))))
      (cond idle (cond (leb (length (t ++ u)) s.at) (turned s Ended) (record_on period s (parsed (drop s.at (t ++ u)))))
      (event_or_stop period s (under_way s) 0 (stop_at s.device.clock (under_way s))))
  turn_by s h true true over = record { same = λ w. absurd (true≢false w); more = λ _. refl; within = h }
  turn_by s h true false over =
      rw (lt-leb (length (t ++ u)) s.at (omega (arith, leb-false (length t) s.at over, length-append t u)))
      (record_extends s (parsed (drop s.at t)) refl h)
  turn_by s h false past over =
      event_extends s (under_way s) 0 (stop_at s.device.clock (under_way s)) (omega arith) h

  turn_extends : (s : Lines) → s.at ≤ length t → Extends s (turn period t s) (turn period (t ++ u) s)
  unfolding turn
  turn_extends s h = turn_by s h (eqb s.left 0) (leb (length t) s.at) refl

-- ---- the count of turns never runs out

module _ (period : ℕ) (t : List ℕ) (pos : 0 < period) (bytes : Bytes t) where
  less : (s : Lines) → s.left < 2 ^ 32 → nothing (turn period t s).outcome ≡ true → turns_left t (turn period t s).state < turns_left t s
  less s few is =
      fewer period t s pos (turn period t s).state (moves period t s pos (nothing_is (turn period t s).outcome is)) (turn_left period t bytes s few)

  enough_by : (k j : ℕ) (s : Lines) → ((s' : Lines) → turns_left t s' < k → turns_left t s' < j → s'.left < 2 ^ 32 → go_for k period t s' ≡ go_for j period t s') →
      turns_left t s < suc k → turns_left t s < suc j → s.left < 2 ^ 32 → (quiet : Bool) → nothing (turn period t s).outcome ≡ quiet →
      cond quiet (go_for k period t (turn period t s).state) (turn period t s) ≡ cond quiet (go_for j period t (turn period t s).state) (turn period t s)
  enough_by k j s on h i few true is =
      on (turn period t s).state (omega (arith, less s few is)) (omega (arith, less s few is)) (turn_left period t bytes s few)
  enough_by k j s on h i few false is = refl

  enough : (k j : ℕ) (s : Lines) → turns_left t s < k → turns_left t s < j → s.left < 2 ^ 32 → go_for k period t s ≡ go_for j period t s
  unfolding go_for
  enough zero j s h i few = absurd (omega arith)
  enough (suc k) zero s h i few = absurd (omega arith)
  enough (suc k) (suc j) s h i few = enough_by k j s (enough k j) h i few (nothing (turn period t s).outcome) refl

  unroll_by : (s : Lines) → s.left < 2 ^ 32 → (quiet : Bool) → nothing (turn period t s).outcome ≡ quiet →
      cond quiet (go_for (turns_left t s) period t (turn period t s).state) (turn period t s) ≡ cond quiet (go_on period t (turn period t s).state) (turn period t s)
  unfolding go_on
  unroll_by s few true is =
      enough (turns_left t s) (suc (turns_left t (turn period t s).state)) (turn period t s).state (less s few is) (omega arith) (turn_left period t bytes s few)
  unroll_by s few false is = refl

  -- A call is a turn, and another call where that has nothing to tell.
  unroll : (s : Lines) → s.left < 2 ^ 32 → go_on period t s ≡ onward (go_on period t) (turn period t s)
  unfolding go_on go_for
  unroll s few = unroll_by s few (nothing (turn period t s).outcome) refl

-- ---- a call

module _ (period : ℕ) (t u : List ℕ) (pos : 0 < period) (bytes : Bytes t) (all : Bytes (t ++ u)) where
  pub record Goes (s : Lines) (r : Turned) : Type 0 where
    pub same : wants r.outcome ≡ false → go_on period (t ++ u) s ≡ r
    pub more : wants r.outcome ≡ true → go_on period (t ++ u) s ≡ go_on period (t ++ u) r.state
    pub within : r.state.at ≤ length t
    pub few : r.state.left < 2 ^ 32

  go_by : (k : ℕ) (s : Lines) → ((s' : Lines) → turns_left t s' < k → s'.left < 2 ^ 32 → s'.at ≤ length t → Goes s' (go_for k period t s')) →
      turns_left t s < suc k → s.left < 2 ^ 32 → s.at ≤ length t → (quiet : Bool) → nothing (turn period t s).outcome ≡ quiet →
      Goes s (cond quiet (go_for k period t (turn period t s).state) (turn period t s))
  go_by k s on enough few h true is =
      let r : Turned = turn period t s in
      let none : r.outcome ≡ Nothing = nothing_is r.outcome is in
      let x = turn_extends period t u s h in
      let few' : r.state.left < 2 ^ 32 = turn_left period t bytes s few in
      let w = on r.state (omega (arith, less period t pos bytes s few is)) few' x.within in
      let here : go_on period (t ++ u) s ≡ go_on period (t ++ u) r.state =
      unroll period (t ++ u) pos all s few ∙ ap (onward (go_on period (t ++ u))) (x.same (ap wants none))
      ∙ ap (λ (b : Bool). cond b (go_on period (t ++ u) r.state) r) is in
      record { same = λ h. here ∙ w.same h; more = λ h. here ∙ w.more h; within = w.within; few = w.few }
  go_by k s on enough few h false is =
      let r : Turned = turn period t s in
      let x = turn_extends period t u s h in
      record {
        same = λ h.
            unroll period (t ++ u) pos all s few ∙ ap (onward (go_on period (t ++ u))) (x.same h)
            ∙ ap (λ (b : Bool). cond b (go_on period (t ++ u) r.state) r) is;
        more = λ h. ap (go_on period (t ++ u)) (sym (x.more h));
        within = x.within;
        few = turn_left period t bytes s few;
      }

  go_extends : (k : ℕ) (s : Lines) → turns_left t s < k → s.left < 2 ^ 32 → s.at ≤ length t → Goes s (go_for k period t s)
  unfolding go_for
  go_extends zero s enough few h = absurd (omega arith)
  go_extends (suc k) s enough few h = go_by k s (go_extends k) enough few h (nothing (turn period t s).outcome) refl

  pub call_extends : (s : Lines) → s.left < 2 ^ 32 → s.at ≤ length t → Goes s (go_on period t s)
  unfolding go_on
  call_extends s few h = go_extends (suc (turns_left t s)) s (omega arith) few h

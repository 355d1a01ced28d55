-- Turn after turn, what a state means is what the turns tell. Assumes nothing.
use mathlib.Core.Path.{◌≡◌, refl, sym, ap, subst, ◌∙◌}
use mathlib.Core.Bool.{Bool, true, false, cond}
use mathlib.Core.List.{List, [], ◌∷◌}
use Prim.Native.Nat.{ℕ, zero, suc, ◌+◌, ◌-◌, ◌*◌, ◌^◌, ◌<◌, ◌≤◌}
use native.Mathlib.Omega.{arith}
use lib.Dec.{eqb, ltb, leb}
use lib.ListN.{length, take, drop, length-drop}
use lib.Seq.{drop-drop, get_or-drop, take_all}
use borrow.Author.Tests.{eqb-false, leb-true, leb-false}
use Rattle.qsm.specs.declared.event.Event.{Event}
use Rattle.qsm.specs.declared.event.Event.TheVariants.{Reset, Hold}
use Rattle.qsm.specs.declared.event.Event.TheVariants as event
use Rattle.trace.specs.Trace.{byte_at, reset_kind, hold_kind, read_kind, write_kind, long_hold_kind, parsed}
use Rattle.trace.specs.declared.Parsed.{Parsed}
use Rattle.trace.specs.declared.Parsed.TheVariants.{Record, Unknown, Cut}
use Rattle.trace.proofs.Playing.{record_within}
use Rattle.std.specs.Prelude.{Option, Some, None, Result, Ok, Err}
use Rattle.tool_wave.specs.Probe.{tick, limited, calm, ahead}
use Rattle.tool_wave.specs.Drawn.{drawn, after, stops, Drawn, stopped, followed, next, drawn_from}
use Rattle.tool_wave.specs.Turn.{turned, moved, stop_at, event_on, event_or_stop, size_of, record_on, hold_for, hold_on, turn}
use Rattle.tool_wave.specs.Claims.{meant, telling, over_and_over, turns_left, goes, Bytes, Whole, FromStart}
use Rattle.tool_wave.specs.declared.Step.{Step}
use Rattle.tool_wave.specs.declared.Stop.{Stop}
use Rattle.tool_wave.specs.declared.Stop.TheVariants as stop
use Rattle.tool_wave.specs.declared.Waves.{Waves}
use Rattle.tool_wave.proofs.Records.{unroll, none_left}
use Rattle.tool_wave.proofs.Pieces.{never}
use Rattle.tool_wave.proofs.Meaning.{telled, hold_means, event_means}

-- ---- a turn

module _ (t : List ℕ) (s : Waves) where
  abbrev here : List ℕ
  here = drop s.at t

  record_means : (r : Parsed) → next drawn_from s.probe here r ≡ telled t (record_on s r)
  record_means (Record e n) =
      ap (λ (u : List ℕ). cond (eqb (stops s.probe e) 0) (followed (drawn s.probe e) (drawn_from (after s.probe e) u))
      (stopped (stops s.probe e)))
      (drop-drop n s.at t)
      ∙ go e
    where
      go : (f : Event) →
          cond (eqb (stops s.probe f) 0) (followed (drawn s.probe f) (drawn_from (after s.probe f) (drop (s.at + n) t))) (stopped (stops s.probe f))
          ≡ telled t (event_or_stop s f n (stop_at s.probe f))
      go Reset = event_means t s (s.at + n) Reset refl
      go (Hold pins rxd k) = by_limit (limited s.probe k) refl
        where
          by_limit : (over : Bool) → limited s.probe k ≡ over →
              cond (eqb (cond over 10 0) 0)
              (followed (drawn s.probe (Hold pins rxd k)) (drawn_from (after s.probe (Hold pins rxd k)) (drop (s.at + n) t)))
              (stopped (cond over 10 0))
              ≡ telled t (event_or_stop s (Hold pins rxd k) n (cond over (Some stop.ClockLimit) None))
          by_limit true is = refl
          by_limit false is = event_means t s (s.at + n) (Hold pins rxd k) (ap (λ (b : Bool). cond b 10 0) is)
      go (event.Access a) = event_means t s (s.at + n) (event.Access a) refl
  record_means Unknown = refl
  record_means Cut = refl

  way_means : eqb s.left 0 ≡ false → meant t s ≡ telled t (hold_on s)
  unfolding hold_on
  way_means busy = go (limited s.probe s.left) refl
    where
      go : (over : Bool) → limited s.probe s.left ≡ over →
          meant t s ≡ telled t (cond over (turned s (Err stop.ClockLimit)) (hold_for s (calm s.probe)))
      go true is = rw (busy, is)
      go false is = hold_means t s is

  turn_by : (idle over : Bool) → eqb s.left 0 ≡ idle → leb (length t) s.at ≡ over →
      meant t s ≡ telled t (cond idle (cond over (turned s (Err stop.End)) (record_on s (parsed here))) (hold_on s))
  turn_by true true idle over =
      let none : length here ≡ 0 = simp length-drop (omega (arith, leb-true (length t) s.at over)) in
      (rw idle) ∙ none_left s.probe here none
  turn_by true false idle over =
      let some : 0 < length here = simp length-drop (omega (arith, leb-false (length t) s.at over)) in
      (rw idle) ∙ unroll s.probe here some ∙ record_means (parsed here)
  turn_by false past idle over = way_means idle

  turn_means : meant t s ≡ telled t (turn t s)
  unfolding turn
  turn_means = turn_by (eqb s.left 0) (leb (length t) s.at) refl refl

-- ---- each turn that goes on takes a clock of the hold under way or a byte of the trace

data Moves (t : List ℕ) (s r : Waves) : Type 0 where
  clock : r.at ≡ s.at → r.left < s.left → Moves t s r
  byte : s.at < r.at → s.at < length t → Moves t s r

event_at_holds : (s : Waves) (at : ℕ) (e : Event) → (event_on s at e).state.at ≡ at
unfolding event_on
event_at_holds s at Reset = refl
event_at_holds s at (Hold pins rxd n) = refl
event_at_holds s at (event.Access a) = refl

module _ (t : List ℕ) (s : Waves) where
  event_moves : (e : Event) (n : ℕ) (why : Option Stop) → 0 < n → s.at < length t →
      goes (event_or_stop s e n why).outcome ≡ true → Moves t s (event_or_stop s e n why).state
  event_moves e n None some lt is = byte (omega (arith, event_at_holds s (s.at + n) e)) lt
  event_moves e n (Some why) some lt is = absurd (never (Err why) refl is)

  record_moves : (r : Parsed) → parsed (drop s.at t) ≡ r → s.at < length t → goes (record_on s r).outcome ≡ true → Moves t s (record_on s r).state
  record_moves (Record e n) here lt is =
      event_moves e n (stop_at s.probe e) (record_within (drop s.at t) here).0 lt is
  record_moves Unknown here lt is = absurd (never (Err stop.UnknownKind) refl is)
  record_moves Cut here lt is = absurd (never (Err stop.CutRecord) refl is)

  for_moves : 0 < s.left → (k : ℕ) (few : Bool) →
      Moves t s
      (cond few (turned (record { at = s.at; left = 0; probe = ahead s.probe s.left }) (Ok None))
      (moved s.at (s.left - k - 1) (ahead s.probe k) (tick (ahead s.probe k)) 0)
      ).state
  for_moves some k true = clock refl some
  for_moves some k false = clock refl (omega arith)

  hold_moves : 0 < s.left → (over : Bool) →
      goes (cond over (turned s (Err stop.ClockLimit)) (hold_for s (calm s.probe))).outcome ≡ true →
      Moves t s (cond over (turned s (Err stop.ClockLimit)) (hold_for s (calm s.probe))).state
  hold_moves some true is = absurd (never (Err stop.ClockLimit) refl is)
  hold_moves some false is = for_moves some (calm s.probe) (leb s.left (calm s.probe))

  moves_by : (idle over : Bool) → eqb s.left 0 ≡ idle → leb (length t) s.at ≡ over →
      goes (cond idle (cond over (turned s (Err stop.End)) (record_on s (parsed (drop s.at t)))) (hold_on s)).outcome ≡ true →
      Moves t s (cond idle (cond over (turned s (Err stop.End)) (record_on s (parsed (drop s.at t)))) (hold_on s)).state
  unfolding hold_on
  moves_by true true idle over is = absurd (never (Err stop.End) refl is)
  moves_by true false idle over is = record_moves (parsed (drop s.at t)) refl (leb-false (length t) s.at over) is
  moves_by false past idle over is = hold_moves (omega (arith, eqb-false s.left 0 idle)) (limited s.probe s.left) is

  moves : goes (turn t s).outcome ≡ true → Moves t s (turn t s).state
  unfolding turn
  moves is = moves_by (eqb s.left 0) (leb (length t) s.at) refl refl is

  fewer : (r : Waves) → Moves t s r → r.left < 2 ^ 32 → turns_left t r < turns_left t s
  fewer r (clock same l) small = omega (arith, ap (λ (k : ℕ). (length t - k) * 2 ^ 32) same)
  fewer r (byte past within) small = omega arith

-- ---- a hold's clocks are fewer than 2^32

abbrev Small : Parsed → Type 0
Small (Record Reset n) = Unit {0}
Small (Record (Hold pins rxd n) k) = n < 2 ^ 32
Small (Record (event.Access a) n) = Unit {0}
Small Unknown = Unit {0}
Small Cut = Unit {0}

small_if : (b : Bool) (p q : Parsed) → Small p → Small q → Small (cond b p q)
small_if true p q f g = f
small_if false p q f g = g

small : (t : List ℕ) → Bytes t → Small (parsed t)
small t bytes =
    small_if (eqb (length t) 0) _ _ tt
    (small_if (eqb (byte_at t 0) reset_kind) _ _ tt
    (small_if (eqb (byte_at t 0) hold_kind) _ _ (small_if (ltb (length t) 5) Cut _ tt (omega (arith, bytes 3, bytes 4)))
    (small_if (eqb (byte_at t 0) read_kind) _ _ (small_if (ltb (length t) 4) Cut _ tt tt)
    (small_if (eqb (byte_at t 0) write_kind) _ _ (small_if (ltb (length t) 8) Cut _ tt tt)
    (small_if (eqb (byte_at t 0) long_hold_kind) _ _
    (small_if (ltb (length t) 7) Cut _ tt (omega (arith, bytes 3, bytes 4, bytes 5, bytes 6))) tt)))))

module _ (t : List ℕ) (bytes : Bytes t) (s : Waves) (few : s.left < 2 ^ 32) where
  event_left : (at : ℕ) (e : Event) (n : ℕ) → Small (Record e n) → (event_on s at e).state.left < 2 ^ 32
  unfolding event_on
  event_left at Reset k h = omega arith
  event_left at (Hold pins rxd n) k h = h
  event_left at (event.Access a) k h = omega arith

  stop_left : (e : Event) (n : ℕ) (why : Option Stop) → Small (Record e n) → (event_or_stop s e n why).state.left < 2 ^ 32
  stop_left e n None h = event_left (s.at + n) e n h
  stop_left e n (Some why) h = few

  record_left : (r : Parsed) → Small r → (record_on s r).state.left < 2 ^ 32
  record_left (Record e n) h = stop_left e n (stop_at s.probe e) h
  record_left Unknown h = few
  record_left Cut h = few

  for_left : (k : ℕ) (most : Bool) →
      (cond most (turned (record { at = s.at; left = 0; probe = ahead s.probe s.left }) (Ok None))
      (moved s.at (s.left - k - 1) (ahead s.probe k) (tick (ahead s.probe k)) 0)
      ).state.left
      < 2 ^ 32
  for_left k true = omega arith
  for_left k false = omega (arith, few)

  hold_left : (over : Bool) → (cond over (turned s (Err stop.ClockLimit)) (hold_for s (calm s.probe))).state.left < 2 ^ 32
  hold_left true = few
  hold_left false = for_left (calm s.probe) (leb s.left (calm s.probe))

  left_by : (idle over : Bool) →
      (cond idle (cond over (turned s (Err stop.End)) (record_on s (parsed (drop s.at t)))) (hold_on s)).state.left < 2 ^ 32
  unfolding hold_on
  left_by true true = few
  left_by true false =
      record_left (parsed (drop s.at t))
      (small (drop s.at t) (λ i. subst (λ (b : ℕ). b < 256) (sym (get_or-drop s.at t i 0)) (bytes (s.at + i))))
  left_by false past = hold_left (limited s.probe s.left)

  turn_left : (turn t s).state.left < 2 ^ 32
  unfolding turn
  turn_left = left_by (eqb s.left 0) (leb (length t) s.at)

-- ---- turns over and over

by_outcome : (o : Result (Option Step) Stop) (x y : Drawn) → (goes o ≡ true → x ≡ y) → telling o x ≡ telling o y
by_outcome (Ok None) x y same = same refl
by_outcome (Ok (Some d)) x y same = ap (followed (d ∷ [])) (same refl)
by_outcome (Err why) x y same = refl

pub whole_turns : Whole
unfolding over_and_over
whole_turns t s zero bytes few enough = absurd (omega arith)
whole_turns t s (suc k) bytes few enough =
    let next : Waves = (turn t s).state in
    let few' : next.left < 2 ^ 32 = turn_left t bytes s few in
    by_outcome (turn t s).outcome (over_and_over k t next) (meant t next)
    (λ is. whole_turns t next k bytes few' (omega (arith, fewer t s next (moves t s is) few', enough)))
    ∙ sym (turn_means t s)

pub from_start : FromStart
from_start t = refl

-- ---- a record of the trace lies in it

pub rest : (t : List ℕ) (at : ℕ) → take (length t - at) (drop at t) ≡ drop at t
rest t at = take_all (length t - at) (drop at t) (simp length-drop (omega arith))

sized : (t : List ℕ) (p : Parsed) → parsed t ≡ p → size_of p ≤ length t
sized t (Record e n) is = (record_within t is).1
sized t Unknown is = omega arith
sized t Cut is = omega arith

pub fits_in : (t : List ℕ) (at : ℕ) (p : Parsed) → p ≡ parsed (drop at t) → at < length t → length t < 2 ^ 64 → at + size_of p < 2 ^ 64
fits_in t at p is lt small = omega (arith, sized (drop at t) p (sym is), length-drop at t)

-- Turn after turn and call after call, what a state means is what the calls tell. Assumes nothing.
use mathlib.Core.Path.{◌≡◌, refl, sym, ap, subst, ◌∙◌}
use mathlib.Core.Bool.{Bool, true, false, cond, true≢false}
use mathlib.Core.List.{List}
use Prim.Native.Nat.{ℕ, zero, suc, ◌+◌, ◌-◌, ◌^◌, ◌<◌}
use native.Mathlib.Omega.{arith}
use native.Mathlib.Nat.{zero-mod}
use lib.Dec.{eqb, ltb, leb}
use lib.ListN.{length, drop, length-drop}
use lib.Seq.{drop-drop, get_or-drop}
use borrow.Author.Tests.{leb-true, leb-false}
use Rattle.std.specs.Prelude.{Option, Some, None}
use Rattle.qsm.specs.model.State.{reset_module}
use Rattle.qsm.specs.model.Event.{clock_limit}
use Rattle.qsm.specs.declared.event.Event.{Event}
use Rattle.qsm.specs.declared.event.Event.TheVariants.{Reset, Hold}
use Rattle.qsm.specs.declared.event.Event.TheVariants as event
use Rattle.trace.specs.Trace.{byte_at, reset_kind, hold_kind, read_kind, write_kind, long_hold_kind, parsed}
use Rattle.trace.specs.declared.Parsed.{Parsed}
use Rattle.trace.specs.declared.Parsed.TheVariants.{Record, Unknown, Cut}
use Rattle.tool_lines.specs.Schedule.{reaches, stops, acts, since_after, clock_after, stopped, followed, going, next, scheduled}
use Rattle.tool_lines.specs.Gather.{gather}
use Rattle.tool_lines.specs.Replay.{notices, first_line}
use Rattle.tool_lines.specs.Noise.{silent, hears, noises}
use Rattle.tool_lines.specs.Call.{stop_at, turned, moved_to, held_for, poll_now, since_of, hold_on, event_on, event_or_stop, record_on, under_way, turn, nothing, go_for, turns_left, go_on}
use Rattle.tool_lines.specs.Laws.{Replayed, replayed, meant, telling, over_and_over, Bytes, Whole, FromStart}
use Rattle.tool_lines.specs.declared.stop.Stop.{Stop}
use Rattle.tool_lines.specs.declared.stop.Stop.TheVariants as stop
use Rattle.tool_lines.specs.declared.line.Outcome.{Outcome}
use Rattle.tool_lines.specs.declared.line.Outcome.TheVariants.{Nothing, Handed, Dropped, Stopped, Ended, Refused}
use Rattle.tool_lines.specs.declared.Lines.{Lines}
use Rattle.tool_lines.specs.declared.Turned.{Turned}
use Rattle.tool_lines.proofs.Schedules.{unroll, none_left}
use Rattle.tool_lines.proofs.Meaning.{told, played, hold_played_means, event_means, stop_means, reset_clock}
use Rattle.tool_lines.proofs.Turns.{moves, fewer}

-- ---- a turn

module _ (period : ℕ) (t : List ℕ) (pos : 0 < period) (s : Lines) where
  -- An event, if it doesn't stop the replay, whose record has so many bytes.
  abbrev goes_to : Event → ℕ → ℕ → Replayed
  goes_to e a why =
      replayed s.line s.noise.line s.device
      (cond (eqb why 0)
      (followed (acts period (since_of period s) e)
      (scheduled period (since_after period (since_of period s) e) (clock_after s.device.clock e) (drop a t)))
      (stopped why))

  or_stop : (e : Event) (n : ℕ) →
      (stops s.device.clock e ≡ 0 → played period t pos (moved_to s (s.at + n)) e ≡ told period t pos (event_on period (moved_to s (s.at + n)) e)) →
      goes_to e (s.at + n) (stops s.device.clock e) ≡ told period t pos (event_or_stop period s e n (stop_at s.device.clock e))
  or_stop Reset n means = means refl
  or_stop (Hold pins rxd k) n means = by_limit (ltb clock_limit (s.device.clock + k)) refl
    where
      by_limit : (over : Bool) → ltb clock_limit (s.device.clock + k) ≡ over →
          goes_to (Hold pins rxd k) (s.at + n) (cond over 10 0)
          ≡ told period t pos (event_or_stop period s (Hold pins rxd k) n (cond over (Some stop.ClockLimit) None))
      by_limit true is = stop_means s.line s.noise.line s.device 10
      by_limit false is = means (ap (λ (b : Bool). cond b 10 0) is)
  or_stop (event.Access x) n means = by_place (reaches x) refl
    where
      by_place : (there : Bool) → reaches x ≡ there →
          goes_to (event.Access x) (s.at + n) (cond there 3 0)
          ≡ told period t pos (event_or_stop period s (event.Access x) n (cond there (Some stop.Access) None))
      by_place true is = stop_means s.line s.noise.line s.device 3
      by_place false is = means (ap (λ (b : Bool). cond b 3 0) is)

  record_means : eqb s.left 0 ≡ true → (p : Parsed) →
      replayed s.line s.noise.line s.device (next (scheduled period) period (since_of period s) s.device.clock (drop s.at t) p)
      ≡ told period t pos (record_on period s p)
  record_means idle (Record e n) =
      ap (λ (d : List ℕ). replayed s.line s.noise.line s.device (going (λ passed now. scheduled period passed now d) period (since_of period s) s.device.clock e))
      (drop-drop n s.at t)
      ∙ or_stop e n (event_means period t pos (moved_to s (s.at + n)) e idle)
  record_means idle Unknown = stop_means s.line s.noise.line s.device 5
  record_means idle Cut = stop_means s.line s.noise.line s.device 6

  way_means : replayed s.line s.noise.line s.device
      (going (λ passed now. scheduled period passed now (drop s.at t)) period (since_of period s) s.device.clock (under_way s))
      ≡ told period t pos (event_or_stop period s (under_way s) 0 (stop_at s.device.clock (under_way s)))
  way_means =
      let same : s.at ≡ s.at + 0 = omega arith in
      ap (λ (a : ℕ). replayed s.line s.noise.line s.device (going (λ passed now. scheduled period passed now (drop a t)) period (since_of period s) s.device.clock (under_way s)))
      same
      ∙ or_stop (under_way s) 0 (hold_played_means period t pos (moved_to s (s.at + 0)) s.pins s.rxd s.left)

  turn_by : (idle over : Bool) → eqb s.left 0 ≡ idle → leb (length t) s.at ≡ over →
      replayed s.line s.noise.line s.device
      (cond idle (scheduled period (since_of period s) s.device.clock (drop s.at t))
      (going (λ passed now. scheduled period passed now (drop s.at t)) period (since_of period s) s.device.clock (under_way s)))
      ≡ told period t pos
      (cond idle (cond over (turned s Ended) (record_on period s (parsed (drop s.at t))))
      (event_or_stop period s (under_way s) 0 (stop_at s.device.clock (under_way s))))
  turn_by true true idle over =
      let none : length (drop s.at t) ≡ 0 = simp length-drop (omega (arith, leb-true (length t) s.at over)) in
      ap (replayed s.line s.noise.line s.device) (none_left period (since_of period s) s.device.clock (drop s.at t) none)
      ∙ stop_means s.line s.noise.line s.device 0
  turn_by true false idle over =
      let some : 0 < length (drop s.at t) = simp length-drop (omega (arith, leb-false (length t) s.at over)) in
      ap (replayed s.line s.noise.line s.device) (unroll period (since_of period s) s.device.clock (drop s.at t) some)
      ∙ record_means idle (parsed (drop s.at t))
  turn_by false past idle over = way_means

  turn_means : meant period t s ≡ told period t pos (turn period t s)
  unfolding turn
  turn_means = turn_by (eqb s.left 0) (leb (length t) s.at) refl refl

-- ---- a hold's clocks are fewer than 2^32

abbrev Small : Parsed → Type 0
Small (Record Reset n) = Unit {0}
Small (Record (Hold pins rxd n) k) = n < 2 ^ 32
Small (Record (event.Access a) n) = Unit {0}
Small Unknown = Unit {0}
Small Cut = Unit {0}

small_if : (b : Bool) (p q : Parsed) → Small p → Small q → Small (cond b p q)
small_if true p q f g = f
small_if false p q f g = g

small : (t : List ℕ) → Bytes t → Small (parsed t)
small t bytes =
    small_if (eqb (length t) 0) _ _ tt
    (small_if (eqb (byte_at t 0) reset_kind) _ _ tt
    (small_if (eqb (byte_at t 0) hold_kind) _ _ (small_if (ltb (length t) 5) Cut _ tt (omega (arith, bytes 3, bytes 4)))
    (small_if (eqb (byte_at t 0) read_kind) _ _ (small_if (ltb (length t) 4) Cut _ tt tt)
    (small_if (eqb (byte_at t 0) write_kind) _ _ (small_if (ltb (length t) 8) Cut _ tt tt)
    (small_if (eqb (byte_at t 0) long_hold_kind) _ _
    (small_if (ltb (length t) 7) Cut _ tt (omega (arith, bytes 3, bytes 4, bytes 5, bytes 6))) tt)))))

module _ (period : ℕ) (t : List ℕ) (bytes : Bytes t) where
  part_left : (s : Lines) (pins : ℕ) (rxd : Bool) (n due since : ℕ) → n < 2 ^ 32 → (early : Bool) →
      (cond early (turned (held_for s pins rxd n 0 (since + n)) Nothing) (poll_now (held_for s pins rxd due (n - due) 0))).state.left < 2 ^ 32
  part_left s pins rxd n due since few true = omega arith
  part_left s pins rxd n due since few false = omega arith

  event_left : (s : Lines) (e : Event) (n : ℕ) → s.left < 2 ^ 32 → Small (Record e n) → (event_on period s e).state.left < 2 ^ 32
  unfolding event_on hold_on
  event_left s Reset k few h = few
  event_left s (Hold pins rxd n) k few h =
      part_left s pins rxd n (period - since_of period s) (since_of period s) h (ltb n (period - since_of period s))
  event_left s (event.Access a) k few h = few

  stop_left : (s : Lines) (e : Event) (n k : ℕ) (why : Option Stop) → s.left < 2 ^ 32 → Small (Record e k) →
      (event_or_stop period s e n why).state.left < 2 ^ 32
  stop_left s e n k None few h = event_left (moved_to s (s.at + n)) e k few h
  stop_left s e n k (Some why) few h = few

  record_left : (s : Lines) (p : Parsed) → s.left < 2 ^ 32 → Small p → (record_on period s p).state.left < 2 ^ 32
  record_left s (Record e n) few h =
      stop_left s e n n (stop_at s.device.clock e) few h
  record_left s Unknown few h = few
  record_left s Cut few h = few

  turn_left_by : (s : Lines) (idle over : Bool) → s.left < 2 ^ 32 →
      (cond idle (cond over (turned s Ended) (record_on period s (parsed (drop s.at t))))
      (event_or_stop period s (under_way s) 0 (stop_at s.device.clock (under_way s)))).state.left
      < 2 ^ 32
  turn_left_by s true true few = few
  turn_left_by s true false few =
      record_left s (parsed (drop s.at t)) few
      (small (drop s.at t) (λ i. subst (λ (b : ℕ). b < 256) (sym (get_or-drop s.at t i 0)) (bytes (s.at + i))))
  turn_left_by s false over few =
      stop_left s (under_way s) 0 0 (stop_at s.device.clock (under_way s)) few few

  pub turn_left : (s : Lines) → s.left < 2 ^ 32 → (turn period t s).state.left < 2 ^ 32
  unfolding turn
  turn_left s few = turn_left_by s (eqb s.left 0) (leb (length t) s.at) few

-- ---- a call

pub nothing_is : (o : Outcome) → nothing o ≡ true → o ≡ Nothing
nothing_is Nothing h = refl
nothing_is (Handed number n) h = absurd (true≢false (sym h))
nothing_is (Dropped number cause) h = absurd (true≢false (sym h))
nothing_is (Stopped why) h = absurd (true≢false (sym h))
nothing_is Ended h = absurd (true≢false (sym h))
nothing_is (Refused why) h = absurd (true≢false (sym h))

module _ (period : ℕ) (t : List ℕ) (pos : 0 < period) (bytes : Bytes t) where
  pub record Went (s : Lines) (r : Turned) : Type 0 where
    pub means : meant period t s ≡ told period t pos r
    pub tells : nothing r.outcome ≡ false
    pub few : r.state.left < 2 ^ 32

  go_by : (k : ℕ) (s : Lines) → ((s' : Lines) → turns_left t s' < k → s'.left < 2 ^ 32 → Went s' (go_for k period t s')) →
      turns_left t s < suc k → s.left < 2 ^ 32 → (quiet : Bool) → nothing (turn period t s).outcome ≡ quiet →
      Went s (cond quiet (go_for k period t (turn period t s).state) (turn period t s))
  go_by k s on enough few true is =
      let none : (turn period t s).outcome ≡ Nothing = nothing_is (turn period t s).outcome is in
      let next : Lines = (turn period t s).state in
      let few' : next.left < 2 ^ 32 = turn_left period t bytes s few in
      let less : turns_left t next < turns_left t s = fewer period t s pos next (moves period t s pos none) few' in
      let w = on next (omega (arith, less, enough)) few' in
      record {
        means =
            turn_means period t pos s ∙ ap (λ (o : Outcome). telling next o (meant period t next)) none ∙ w.means;
        tells = w.tells;
        few = w.few;
      }
  go_by k s on enough few false is =
      record { means = turn_means period t pos s; tells = is; few = turn_left period t bytes s few }

  go_means : (k : ℕ) (s : Lines) → turns_left t s < k → s.left < 2 ^ 32 → Went s (go_for k period t s)
  unfolding go_for
  go_means zero s enough few = absurd (omega arith)
  go_means (suc k) s enough few = go_by k s (go_means k) enough few (nothing (turn period t s).outcome) refl

  pub call_means : (s : Lines) → s.left < 2 ^ 32 → Went s (go_on period t s)
  unfolding go_on
  call_means s few = go_means (suc (turns_left t s)) s (omega arith) few

  -- ---- calls over and over

  by_outcome : (s : Lines) (o : Outcome) (k : ℕ) (x y : Replayed) → nothing o ≡ false → length (telling s o y).reports < suc k →
      (length y.reports < k → x ≡ y) → telling s o x ≡ telling s o y
  by_outcome s Nothing k x y tells short same = absurd (true≢false tells)
  by_outcome s (Handed number n) k x y tells short same = ap (telling s (Handed number n)) (same (omega (arith, short)))
  by_outcome s (Dropped number cause) k x y tells short same = ap (telling s (Dropped number cause)) (same (omega (arith, short)))
  by_outcome s (Stopped why) k x y tells short same = refl
  by_outcome s Ended k x y tells short same = refl
  by_outcome s (Refused why) k x y tells short same = refl

  calls_mean : (k : ℕ) (s : Lines) → s.left < 2 ^ 32 → length (meant period t s).reports < k → over_and_over k period t s ≡ meant period t s
  unfolding over_and_over
  calls_mean zero s few short = absurd (omega arith)
  calls_mean (suc k) s few short =
      let r : Turned = go_on period t s in
      let w = call_means s few in
      let short' : length (told period t pos r).reports < suc k = subst (λ (x : Replayed). length x.reports < suc k) w.means short in
      by_outcome r.state r.outcome k (over_and_over k period t r.state) (meant period t r.state) w.tells short'
      (λ shorter. calls_mean k r.state w.few shorter)
      ∙ sym w.means

pub whole_calls : Whole
whole_calls period t s k pos bytes few short = calls_mean period t pos bytes k s few short

pub from_start : FromStart
from_start period t = (
  ap (λ (z : ℕ). gather first_line (notices (scheduled period z reset_module.clock t).acts reset_module)) (zero-mod period)
      ∙ ap (λ (c : ℕ). gather first_line (notices (scheduled period 0 c t).acts reset_module)) reset_clock,
  ap (λ (z : ℕ). noises silent (hears (scheduled period z reset_module.clock t).acts reset_module)) (zero-mod period)
      ∙ ap (λ (c : ℕ). noises silent (hears (scheduled period 0 c t).acts reset_module)) reset_clock,
)

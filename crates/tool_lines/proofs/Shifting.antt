-- In a trace with bytes before it a replay goes as it goes without them, its place so many bytes further on. Assumes nothing.
use mathlib.Core.Path.{◌≡◌, refl, ap, ◌∙◌}
use mathlib.Core.Bool.{Bool, true, false, cond}
use mathlib.Core.List.{List, ◌++◌}
use Prim.Native.Nat.{ℕ, zero, suc, ◌+◌, ◌-◌, ◌*◌, ◌^◌}
use native.Mathlib.Omega.{arith}
use lib.Dec.{eqb, ltb, leb}
use lib.ListN.{length, drop, length-append}
use lib.Seq.{drop-append-add}
use borrow.Author.Tests.{le-leb, lt-leb, leb-true, leb-false}
use Rattle.qsm.specs.declared.event.Event.{Event}
use Rattle.qsm.specs.declared.event.Event.TheVariants.{Reset, Hold}
use Rattle.qsm.specs.declared.event.Event.TheVariants as event
use Rattle.trace.specs.Trace.{parsed}
use Rattle.trace.specs.declared.Parsed.{Parsed}
use Rattle.trace.specs.declared.Parsed.TheVariants.{Record, Unknown, Cut}
use Rattle.std.specs.Prelude.{Option, Some, None}
use Rattle.tool_lines.specs.Call.{stop_at, turned, moved_to, since_of, hold_on, event_on, event_or_stop, record_on, under_way, turn, nothing, onward, go_for, turns_left, go_on}
use Rattle.tool_lines.specs.Pieces.{ahead}
use Rattle.tool_lines.specs.declared.stop.Stop.{Stop}
use Rattle.tool_lines.specs.declared.line.Outcome.TheVariants.{Ended}
use Rattle.tool_lines.specs.declared.Lines.{Lines}
use Rattle.tool_lines.specs.declared.Turned.{Turned}

abbrev pub moved : ℕ → Turned → Turned
moved n r = turned (ahead n r.state) r.outcome

leb_by : (n a b : ℕ) (is : Bool) → leb a b ≡ is → leb (n + a) (n + b) ≡ is
leb_by n a b true h = le-leb (n + a) (n + b) (omega (arith, leb-true a b h))
leb_by n a b false h = lt-leb (n + a) (n + b) (omega (arith, leb-false a b h))

module _ (period n : ℕ) where
  either : (b : Bool) (x y x' y' : Turned) → x' ≡ moved n x → y' ≡ moved n y → cond b x' y' ≡ moved n (cond b x y)
  either true x y x' y' f g = f
  either false x y x' y' f g = g

  hold_ahead : (s : Lines) (a pins : ℕ) (rxd : Bool) (k : ℕ) → hold_on period (moved_to s (n + a)) pins rxd k ≡ moved n (hold_on period (moved_to s a) pins rxd k)
  unfolding hold_on
  hold_ahead s a pins rxd k = either (ltb k (period - since_of period s)) _ _ _ _ refl refl

  event_ahead : (s : Lines) (a : ℕ) (e : Event) → event_on period (moved_to s (n + a)) e ≡ moved n (event_on period (moved_to s a) e)
  unfolding event_on
  event_ahead s a Reset = refl
  event_ahead s a (Hold pins rxd k) = hold_ahead s a pins rxd k
  event_ahead s a (event.Access x) = refl

  or_stop_ahead : (s : Lines) (e : Event) (k : ℕ) (why : Option Stop) → event_or_stop period (ahead n s) e k why ≡ moved n (event_or_stop period s e k why)
  or_stop_ahead s e k None =
      let sum : n + s.at + k ≡ n + (s.at + k) = omega arith in
      ap (λ (a : ℕ). event_on period (moved_to s a) e) sum ∙ event_ahead s (s.at + k) e
  or_stop_ahead s e k (Some why) = refl

  record_ahead : (s : Lines) (p : Parsed) → record_on period (ahead n s) p ≡ moved n (record_on period s p)
  record_ahead s (Record e k) = or_stop_ahead s e k (stop_at s.device.clock e)
  record_ahead s Unknown = refl
  record_ahead s Cut = refl

  module _ (c t : List ℕ) (is : length c ≡ n) where
    over_ahead : (s : Lines) → leb (length (c ++ t)) (n + s.at) ≡ leb (length t) s.at
    over_ahead s =
        let sum : length (c ++ t) ≡ n + length t = omega (arith, length-append c t, is) in
        ap (λ (k : ℕ). leb k (n + s.at)) sum ∙ leb_by n (length t) s.at (leb (length t) s.at) refl

    rest_ahead : (s : Lines) → drop (n + s.at) (c ++ t) ≡ drop s.at t
    rest_ahead s =
        let sum : n + s.at ≡ length c + s.at = omega (arith, is) in
        ap (λ (k : ℕ). drop k (c ++ t)) sum ∙ drop-append-add c t s.at

    turn_ahead : (s : Lines) → turn period (c ++ t) (ahead n s) ≡ moved n (turn period t s)
    unfolding turn
    turn_ahead s =
        either (eqb s.left 0) _ _ _ _
        (ap (λ (b : Bool). cond b (turned (ahead n s) Ended) (record_on period (ahead n s) (parsed (drop (n + s.at) (c ++ t))))) (over_ahead s)
        ∙ ap (λ (l : List ℕ). cond (leb (length t) s.at) (turned (ahead n s) Ended) (record_on period (ahead n s) (parsed l))) (rest_ahead s)
        ∙ either (leb (length t) s.at) _ _ _ _ refl (record_ahead s (parsed (drop s.at t))))
        (or_stop_ahead s (under_way s) 0 (stop_at s.device.clock (under_way s)))

    go_ahead : (k : ℕ) (s : Lines) → go_for k period (c ++ t) (ahead n s) ≡ moved n (go_for k period t s)
    unfolding go_for
    go_ahead zero s = refl
    go_ahead (suc k) s =
        ap (onward (go_for k period (c ++ t))) (turn_ahead s)
        ∙ either (nothing (turn period t s).outcome) _ _ _ _ (go_ahead k (turn period t s).state) refl

    pub call_ahead : (s : Lines) → go_on period (c ++ t) (ahead n s) ≡ moved n (go_on period t s)
    unfolding go_on
    call_ahead s =
        let same : length (c ++ t) - (n + s.at) ≡ length t - s.at = omega (arith, length-append c t, is) in
        ap (λ (j : ℕ). go_for (suc (j * 2 ^ 32 + s.left)) period (c ++ t) (ahead n s)) same ∙ go_ahead (suc (turns_left t s)) s

-- What a state means before a part of a hold or an event, and after it. Assumes nothing.
use mathlib.Core.Path.{◌≡◌, refl, sym, ap, ◌∙◌}
use mathlib.Core.Bool.{Bool, true, false, cond, ◌||◌, true≢false}
use mathlib.Core.List.{List, [], ◌∷◌, ◌++◌, append_assoc}
use Prim.Native.Nat.{ℕ, zero, suc, ◌+◌, ◌-◌, ◌<◌, ◌≤◌}
use native.Mathlib.Omega.{arith}
use lib.Dec.{eqb, ltb, leb}
use lib.ListN.{drop}
use borrow.Author.Tests.{ne_eqb, eqb-true, ltb-false, le-ltb, leb-true, leb-false}
use Rattle.steps.specs.Iterate.{iterate}
use Rattle.steps.proofs.Iterate.{iterate_add}
use Rattle.qsm.specs.model.Event.{clock_module, clocks, clock_limit, does}
use Rattle.qsm.specs.declared.state.Module.{Module}
use Rattle.qsm.specs.declared.event.Done.{Done}
use Rattle.qsm.specs.declared.event.Event.{Event}
use Rattle.qsm.specs.declared.event.Event.TheVariants.{Reset, Hold}
use Rattle.qsm.specs.declared.event.Event.TheVariants as event
use Rattle.qsm.proofs.Clocks.{apart}
use Rattle.qsm.proofs.Limit.{hold_played, is_room}
use Rattle.std.specs.Prelude.{Some, None, Ok}
use Rattle.tool_wave.specs.View.{none}
use Rattle.tool_wave.specs.Probe.{tick, restarted, taken, accessed, limited, calm, ahead}
use Rattle.tool_wave.specs.Drawn.{step_to, still, change, ticks, drawn, after, stops, Drawn, stopped, followed, drawn_from}
use Rattle.tool_wave.specs.Turn.{turned, told, moved, event_on, hold_for}
use Rattle.tool_wave.specs.Claims.{meant, telling}
use Rattle.tool_wave.specs.declared.view.Kept.{Kept}
use Rattle.tool_wave.specs.declared.probe.Probe.{Probe}
use Rattle.tool_wave.specs.declared.Step.{Step}
use Rattle.tool_wave.specs.declared.Waves.{Waves}
use Rattle.tool_wave.specs.declared.Turned.{Turned}
use Rattle.tool_wave.proofs.Calm.{along, start_along, ticked, passed}

-- ---- the limit

neither : (a b : Bool) → a || b ≡ false → (a ≡ false) × (b ≡ false)
neither false false h = (refl, refl)
neither false true h = absurd (true≢false h)
neither true b h = absurd (true≢false h)

pub rooms : (p : Probe) (n : ℕ) → limited p n ≡ false → (p.device.clock + n ≤ clock_limit) × (p.clock + n ≤ clock_limit)
rooms p n h =
    let each = neither (ltb clock_limit (p.device.clock + n)) (ltb clock_limit (p.clock + n)) h in
    (ltb-false clock_limit (p.device.clock + n) each.0, ltb-false clock_limit (p.clock + n) each.1)

unlimited : (p : Probe) (n : ℕ) → p.device.clock + n ≤ clock_limit → p.clock + n ≤ clock_limit → limited p n ≡ false
unlimited p n h i = rw (le-ltb clock_limit (p.device.clock + n) h, le-ltb clock_limit (p.clock + n) i)

device_clock : (p : Probe) (k : ℕ) → (along p k).device.clock ≡ p.device.clock + k
device_clock p k = ap (λ (m : Module). m.clock) (apart k p.rxd p.device)

tick_unlimited : (p : Probe) (k n left : ℕ) → limited p left ≡ false → suc k + n ≡ left → limited (tick (along p k)) n ≡ false
unfolding clock_module
tick_unlimited p k n left h is =
    let room = rooms p left h in
    unlimited (tick (along p k)) n (omega (arith, room.0, device_clock p k)) (omega (arith, room.1))

-- What the code does in one hold is so many ticks, and one clock is one.
module _ (p : Probe) where
  abbrev made : ℕ → Kept → Module → Probe
  made clock kept m = record { clock = clock; known = p.known; given = p.given; rxd = p.rxd; kept = kept; device = m }

  pub ahead_along : (n i : ℕ) → limited p n ≡ false → i ≤ n → ahead p i ≡ along p i
  unfolding clocks
  ahead_along n zero h few = sym (start_along p)
  ahead_along n (suc i) h few =
      let room : p.device.clock + suc i ≤ clock_limit = omega (arith, (rooms p n h).0) in
      let not_none : eqb (suc i) 0 ≡ false = ne_eqb (suc i) 0 (λ z. omega arith) in
      ap (λ (b : Bool). cond b p (made (p.clock + suc i) none (does p.device (Hold p.device.inputs p.rxd (suc i))).state)) not_none
      ∙ ap (λ (d : Done). made (p.clock + suc i) none d.state)
      (hold_played p.device p.device.inputs p.rxd (suc i) (is_room p.device (suc i) room))
      ∙ ap (λ (b : Bool). made (p.clock + suc i) (cond b p.kept none) (iterate (suc i) (clock_module p.rxd) p.device)) (sym not_none)

pub one_clock_holds : (m : Module) (rxd : Bool) → m.clock + 1 ≤ clock_limit → (does m (Hold m.inputs rxd 1)).state ≡ clock_module rxd m
unfolding clocks iterate
one_clock_holds m rxd room = ap (λ (d : Done). d.state) (hold_played m m.inputs rxd 1 (is_room m 1 room))

-- Before the last clock that is left there is room for one more.
pub tick_room : (p : Probe) (n k : ℕ) → limited p n ≡ false → k < n → (q : Probe) → q ≡ ahead p k →
    (q.clock + 1 ≤ clock_limit) × (q.device.clock + 1 ≤ clock_limit)
tick_room p n k h more q is =
    let here : q ≡ along p k = is ∙ ahead_along p n k h (omega arith) in
    let room = rooms p n h in (
      omega (arith, ap (λ (r : Probe). r.clock) here, room.1),
      omega (arith, ap (λ (r : Probe). r.device.clock) here ∙ device_clock p k, room.0),
    )

-- ---- a turn's outcome

abbrev pub telled : List ℕ → Turned → Drawn
telled t r = telling r.outcome (meant t r.state)

told_means : (p q : Probe) (refusal : ℕ) (d : Drawn) → telling (Ok (told p q refusal)) d ≡ followed (change p q refusal) d
told_means p q refusal d = go (still p q refusal)
  where
    go : (b : Bool) →
        telling (Ok (cond b None (Some (step_to p q refusal)))) d
        ≡ followed (cond b [] (step_to p q refusal ∷ [])) d
    go true = refl
    go false = refl

pub both_follow : (a b : List Step) (d : Drawn) → followed (a ++ b) d ≡ followed a (followed b d)
both_follow a b d = rw (append_assoc a b d.steps)

-- The clocks of a hold that fits, then the trace.
abbrev rests : List ℕ → Waves → Drawn
rests t s = followed (ticks s.left s.probe) (drawn_from (iterate s.left tick s.probe) (drop s.at t))

pub meant_plain : (t : List ℕ) (s : Waves) → limited s.probe s.left ≡ false → meant t s ≡ rests t s
unfolding ticks iterate
meant_plain t s fits = go (eqb s.left 0) refl
  where
    go : (idle : Bool) → eqb s.left 0 ≡ idle →
        cond idle (drawn_from s.probe (drop s.at t)) (cond (limited s.probe s.left) (stopped 10) (rests t s)) ≡ rests t s
    go true is =
        sym (ap (λ (n : ℕ). followed (ticks n s.probe) (drawn_from (iterate n tick s.probe) (drop s.at t))) (eqb-true s.left 0 is))
    go false is = rw fits

-- From a probe to the next, and the clocks of a hold that are left then.
pub moved_means : (t : List ℕ) (at left : ℕ) (p q : Probe) (refusal : ℕ) → limited q left ≡ false →
    telled t (moved at left p q refusal)
    ≡ followed (change p q refusal ++ ticks left q) (drawn_from (iterate left tick q) (drop at t))
moved_means t at left p q refusal fits =
    ap (telling (Ok (told p q refusal))) (meant_plain t (record { at = at; left = left; probe = q }) fits)
    ∙ told_means p q refusal (rests t (record { at = at; left = left; probe = q }))
    ∙ sym (both_follow (change p q refusal) (ticks left q) (drawn_from (iterate left tick q) (drop at t)))

-- Where no clock is left.
stays_means : (t : List ℕ) (at : ℕ) (p q : Probe) (refusal : ℕ) →
    telled t (moved at 0 p q refusal) ≡ followed (change p q refusal) (drawn_from q (drop at t))
stays_means t at p q refusal = told_means p q refusal (drawn_from q (drop at t))

-- ---- the hold under way

module _ (t : List ℕ) (s : Waves) (fits : limited s.probe s.left ≡ false) where
  abbrev p : Probe
  p = s.probe

  abbrev k : ℕ
  k = calm s.probe

  abbrev rest : List ℕ
  rest = drop s.at t

  all_calm : s.left ≤ k → rests t s ≡ telled t (turned (record { at = s.at; left = 0; probe = ahead p s.left }) (Ok None))
  unfolding ticks
  all_calm few =
      let none : s.left + 0 ≡ s.left = omega arith in
      ap (λ (first : List Step). followed first (drawn_from (iterate s.left tick p) rest))
      (ap (λ (n : ℕ). ticks n p) (sym none) ∙ passed p s.left 0 few)
      ∙ ap (λ (q : Probe). drawn_from q rest) (ticked p s.left few ∙ sym (ahead_along p s.left s.left fits (omega arith)))

  abbrev later : ℕ
  later = s.left - k - 1

  abbrev q : Probe
  q = iterate k tick p

  next_change : k < s.left → rests t s ≡ telled t (moved s.at later (ahead p k) (tick (ahead p k)) 0)
  unfolding ticks iterate
  next_change more =
      let parts : s.left ≡ k + suc later = omega arith in
      let sum : s.left ≡ later + suc k = omega arith in
      let here : q ≡ along p k = ticked p k (omega arith) in
      let roomy : limited (tick q) later ≡ false =
      ap (λ (r : Probe). limited (tick r) later) here ∙ tick_unlimited p k later s.left fits (omega arith) in
      ap (λ (first : List Step). followed first (drawn_from (iterate s.left tick p) rest))
      (ap (λ (n : ℕ). ticks n p) parts ∙ passed p k (suc later) (omega arith))
      ∙ ap (λ (r : Probe). followed (change q (tick q) 0 ++ ticks later (tick q)) (drawn_from r rest))
      (ap (λ (n : ℕ). iterate n tick p) sum ∙ iterate_add later (suc k) tick p)
      ∙ sym (moved_means t s.at later q (tick q) 0 roomy)
      ∙ ap (λ (r : Probe). telled t (moved s.at later r (tick r) 0)) (here ∙ sym (ahead_along p s.left k fits (omega arith)))

  pub hold_means : meant t s ≡ telled t (hold_for s k)
  hold_means = meant_plain t s fits ∙ go (leb s.left k) refl
    where
      go : (few : Bool) → leb s.left k ≡ few →
          rests t s
          ≡ telled t
          (cond few (turned (record { at = s.at; left = 0; probe = ahead p s.left }) (Ok None))
          (moved s.at later (ahead p k) (tick (ahead p k)) 0))
      go true is = all_calm (leb-true s.left k is)
      go false is = next_change (leb-false s.left k is)

-- ---- an event that doesn't stop the trace

pub fitting : (b : Bool) → ◌≡◌ {A = ℕ} (cond b 10 0) 0 → b ≡ false
fitting true h = absurd (omega arith)
fitting false h = refl

pub event_means : (t : List ℕ) (s : Waves) (at : ℕ) (e : Event) → stops s.probe e ≡ 0 →
    followed (drawn s.probe e) (drawn_from (after s.probe e) (drop at t)) ≡ telled t (event_on s at e)
unfolding event_on
event_means t s at Reset goes = sym (stays_means t at s.probe (restarted s.probe) 0)
event_means t s at (Hold pins rxd n) goes =
    sym (moved_means t at n s.probe (taken s.probe pins rxd) 0 (fitting (limited s.probe n) goes))
event_means t s at (event.Access a) goes = sym (stays_means t at s.probe (accessed s.probe a).probe (accessed s.probe a).refusal)

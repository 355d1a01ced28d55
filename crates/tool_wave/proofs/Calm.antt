-- The clocks that the library passes over leave what is drawn, and keep no edge. Assumes nothing.
use mathlib.Core.Path.{◌≡◌, refl, sym, ap, ◌∙◌}
use mathlib.Core.Bool.{Bool, true, false, cond, not, ◌&&◌, ◌||◌, true≢false, false≢true}
use Prim.Native.Nat.{ℕ, zero, suc, ◌+◌, ◌-◌, ◌<◌, ◌≤◌, min}
use native.Mathlib.Omega.{arith}
use mathlib.Core.List.{List, [], ◌∷◌, ◌++◌}
use lib.Dec.{eqb, ltb}
use borrow.Author.Tests.{eq-eqb, ne_eqb, eqb-true}
use Rattle.std.specs.Prelude.{Option, Some, None}
use Rattle.steps.specs.Iterate.{iterate}
use Rattle.qspi.specs.model.Fields.{spe}
use Rattle.qspi.specs.model.Outputs.{enabled}
use Rattle.qspi.specs.model.Queue.{clock, fault_now}
use Rattle.qspi.specs.quick.Quiet.{quiet, skipped, skipped_if}
use Rattle.qspi.specs.declared.Qspi.{Qspi}
use Rattle.qspi.proofs.Quiet.{quiet_clocks}
use Rattle.qsm.specs.model.Event.{clock_limit, clock_module, clocks, passes, pins_of}
use Rattle.qsm.specs.declared.state.Module.{Module}
use Rattle.qsm.proofs.Clocks.{apart}
use Rattle.qsm.proofs.Limit.{is_room}
use Rattle.until_change.specs.Change.{look, same_look, differs, number, until_change}
use Rattle.until_change.specs.declared.Look.{Look}
use Rattle.until_change.specs.Claims.{after}
use Rattle.until_change.proofs.Later.{shown_laws}
use Rattle.tool_wave.specs.View.{none, kept_edge, over, alike, same_view}
use Rattle.tool_wave.specs.Probe.{view_of, ends, tick, before, calm}
use Rattle.tool_wave.specs.Drawn.{step_to, change, ticks}
use Rattle.tool_wave.specs.declared.view.Kept.{Kept}
use Rattle.tool_wave.specs.declared.view.View.{View}
use Rattle.tool_wave.specs.declared.probe.Probe.{Probe}
use Rattle.tool_wave.specs.declared.Step.{Step}

-- ---- what is shown stays

both : (a b : Bool) → a && b ≡ true → (a ≡ true) × (b ≡ true)
both true true h = (refl, refl)
both true false h = absurd (false≢true h)
both false b h = absurd (false≢true h)

not_so : (a : Bool) → not a ≡ false → a ≡ true
not_so true h = refl
not_so false h = absurd (true≢false h)

look_same : (a b : Look) → same_look a b ≡ true → b ≡ a
look_same a b h =
    let first = both _ (eqb a.vector b.vector) h in
    let second = both _ (eqb a.level b.level) first.0 in
    let third = both (eqb a.levels b.levels) (eqb a.mask b.mask) second.0 in
    rw (
      eqb-true a.levels b.levels third.0,
      eqb-true a.mask b.mask third.1,
      eqb-true a.level b.level second.1,
      eqb-true a.vector b.vector first.1,
    )

module _ (m : Module) (rxd : Bool) where
  abbrev on : ℕ → Module
  on i = iterate i (clock_module rxd) m

  looks_by : (c : Option ℕ) → until_change m m.inputs rxd ≡ c → (i : ℕ) → 1 ≤ i → i ≤ before (number c) → passes m i ≡ false →
      differs m m.inputs rxd i ≡ false
  unfolding after
  looks_by (Some n) is i some few lets =
      let l = shown_laws.least m m.inputs rxd n is in
      let early : before n ≡ min (n - 1) 4294967295 = rw (ne_eqb n 0 (λ z. omega (arith, l.1))) in
      l.3 i some (omega (arith, l.1, early, few))
  looks_by None is i some few lets =
      shown_laws.of_a_hold m m.inputs rxd i lets ∙ ap not (shown_laws.never m m.inputs rxd is [] i)

  looks : (i : ℕ) → i ≤ before (number (until_change m m.inputs rxd)) → i ≤ clock_limit - m.clock → look (on i) ≡ look m
  unfolding iterate clocks
  looks zero few fits = refl
  looks (suc i) few fits =
      look_same (look m) (look (on (suc i)))
      (not_so (same_look (look m) (look (on (suc i))))
      (looks_by (until_change m m.inputs rxd) refl (suc i) (omega arith) few (is_room m (suc i) (omega arith))))

  inputs_stay : (i : ℕ) → (on i).inputs ≡ m.inputs
  inputs_stay i = ap (λ (k : Module). k.inputs) (apart i rxd m)

  -- ---- SPE stays

  skipped_on : (k : ℕ) (q : Qspi) → enabled (skipped k q) ≡ enabled q
  unfolding skipped
  skipped_on k q = go ((ltb 0 k && spe q.registers.spcr1) && (q.entry.playing || q.entry.delaying))
    where
      go : (b : Bool) → enabled (skipped_if b k q) ≡ enabled q
      go true = refl
      go false = refl

  stays_on : (i : ℕ) → i ≤ quiet m.qspi (pins_of m) → enabled (on i).qspi ≡ enabled m.qspi
  stays_on i few =
      ap (λ (k : Module). enabled k.qspi) (apart i rxd m)
      ∙ ap enabled (quiet_clocks i m.qspi (pins_of m) few)
      ∙ skipped_on i m.qspi

  no_end : (a b c : Bool) → c ≡ a → a && b && not c ≡ false
  no_end true true true h = refl
  no_end true false true h = refl
  no_end true b false h = absurd (false≢true h)
  no_end false b c h = refl

  ends_not : (i : ℕ) → suc i ≤ quiet m.qspi (pins_of m) → ends (on i) (on (suc i)) ≡ false
  ends_not i few =
      no_end (enabled (on i).qspi) (not (fault_now (on i).qspi (pins_of (on i)))) (enabled (on (suc i)).qspi)
      (stays_on (suc i) few ∙ sym (stays_on i (omega (arith, few))))

-- ---- the probe

-- i clocks on, with no edge kept.
abbrev pub along : Probe → ℕ → Probe
along p i =
    record {
      clock = p.clock + i;
      known = p.known;
      given = p.given;
      rxd = p.rxd;
      kept = cond (eqb i 0) p.kept none;
      device = iterate i (clock_module p.rxd) p.device;
    }

alike_self : (a : Bool) → alike a a ≡ true
alike_self true = refl
alike_self false = refl

view_self : (v : View) → same_view v v ≡ true
view_self v =
    rw (
      alike_self v.known,
      alike_self v.given,
      alike_self v.rxd,
      eq-eqb v.inputs v.inputs refl,
      eq-eqb v.look.levels v.look.levels refl,
      eq-eqb v.look.mask v.look.mask refl,
      eq-eqb v.look.level v.look.level refl,
      eq-eqb v.look.vector v.look.vector refl,
    )

same_change : (p q : Probe) (v : View) → view_of p ≡ v → view_of q ≡ v → change p q 0 ≡ []
same_change p q v e f =
    ap (λ (b : Bool). cond b [] (step_to p q 0 ∷ []))
    (ap (λ (x : View). same_view x (view_of q) && eqb 0 0) e
    ∙ ap (λ (x : View). same_view v x && eqb 0 0) f
    ∙ ap (λ (b : Bool). b && eqb 0 0) (view_self v))

module _ (p : Probe) where
  free : (on : Bool) → p.kept.on ≡ on → 0 < calm p → on ≡ false
  free true is some = absurd (omega (arith, rw is at some))
  free false is some = refl

  calm_by : p.kept.on ≡ false → (i : ℕ) → i ≤ calm p →
      (i ≤ before (number (until_change p.device p.device.inputs p.rxd))) × (i ≤ quiet p.device.qspi (pins_of p.device))
      × (i ≤ clock_limit - p.device.clock)
  calm_by off i few =
      let least = rw off at few in
      (omega (arith, least), omega (arith, least), omega (arith, least))

  kept_off : p.kept.on ≡ false → (i : ℕ) (l : Look) → over (cond (eqb i 0) p.kept none) l ≡ l
  kept_off off i l = go (eqb i 0)
    where
      go : (b : Bool) → over (cond b p.kept none) l ≡ l
      go true = rw off
      go false = refl

  abbrev drawnAs : ℕ → Look → View
  drawnAs inputs l = record { known = p.known; given = p.given; rxd = p.rxd; inputs = inputs; look = l }

  over_off : p.kept.on ≡ false → (l : Look) → over p.kept l ≡ l
  over_off off l = rw off

  along_view : p.kept.on ≡ false → (i : ℕ) → i ≤ calm p → view_of (along p i) ≡ view_of p
  along_view off i few =
      ap (λ (x : ℕ). drawnAs x (view_of (along p i)).look) (inputs_stay p.device p.rxd i)
      ∙ ap (drawnAs p.device.inputs)
      (kept_off off i (look (along p i).device) ∙ looks p.device p.rxd i (calm_by off i few).0 (calm_by off i few).2
      ∙ sym (over_off off (look p.device)))

  abbrev made : ℕ → Kept → Module → Probe
  made clock kept m = record { clock = clock; known = p.known; given = p.given; rxd = p.rxd; kept = kept; device = m }

  -- Tick after tick.
  tick_along : p.kept.on ≡ false → (i : ℕ) → suc i ≤ calm p → tick (along p i) ≡ along p (suc i)
  unfolding iterate
  tick_along off i few =
      let m : Module = (along p i).device in
      let sum : suc (p.clock + i) ≡ p.clock + suc i = omega arith in
      ap (λ (b : Bool). made (suc (p.clock + i)) (cond b (kept_edge (look m)) none) (clock_module p.rxd m))
      (ends_not p.device p.rxd i (calm_by off (suc i) few).1)
      ∙ ap (λ (c : ℕ). made c none (clock_module p.rxd m)) sum
      ∙ ap (λ (b : Bool). made (p.clock + suc i) (cond b p.kept none) (clock_module p.rxd m))
      (sym (ne_eqb (suc i) 0 (λ z. omega arith)))

  pub start_along : along p 0 ≡ p
  unfolding iterate
  start_along = let sum : p.clock + 0 ≡ p.clock = omega arith in rw sum

  ticked_off : p.kept.on ≡ false → (i : ℕ) → i ≤ calm p → iterate i tick p ≡ along p i
  unfolding iterate
  ticked_off off zero few = sym start_along
  ticked_off off (suc i) few = ap tick (ticked_off off i (omega arith)) ∙ tick_along off i few

  -- None of the changes falls in the calm clocks.
  calm_off : p.kept.on ≡ false → (i : ℕ) → suc i ≤ calm p → change (iterate i tick p) (tick (iterate i tick p)) 0 ≡ []
  unfolding iterate
  calm_off off i few =
      same_change (iterate i tick p) (tick (iterate i tick p)) (view_of p)
      (ap view_of (ticked_off off i (omega arith)) ∙ along_view off i (omega arith))
      (ap view_of (ticked_off off (suc i) few) ∙ along_view off (suc i) few)

  pub ticked : (i : ℕ) → i ≤ calm p → iterate i tick p ≡ along p i
  unfolding iterate
  ticked zero few = sym start_along
  ticked (suc i) few = ticked_off (free p.kept.on refl (omega (arith, few))) (suc i) few

  pub passed : (j n : ℕ) → j ≤ calm p → ticks (j + n) p ≡ ticks n (iterate j tick p)
  unfolding iterate ticks
  passed zero n few = let same : zero + n ≡ n = omega arith in ap (λ (k : ℕ). ticks k p) same
  passed (suc j) n few =
      let same : suc j + n ≡ j + suc n = omega arith in
      ap (λ (k : ℕ). ticks k p) same
      ∙ passed j (suc n) (omega arith)
      ∙ ap (λ (first : List Step). first ++ ticks n (tick (iterate j tick p)))
      (calm_off (free p.kept.on refl (omega (arith, few))) j few)

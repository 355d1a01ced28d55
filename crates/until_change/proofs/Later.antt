-- None: no hold at the same levels, after any others like it, shows something else. Assumes nothing.
use mathlib.Core.Bool.{Bool, true, false, cond, not, ◌||◌, false≢true}
use mathlib.Core.List.{List, [], ◌∷◌}
use mathlib.Core.Path.{◌≡◌, refl, sym, ap, ◌∙◌}
use Prim.Native.Nat.{ℕ, zero, suc, ◌+◌, ◌-◌}
use native.Mathlib.Omega.{arith}
use borrow.Author.Tests.{eq-eqb, not-false}
use Rattle.std.specs.Prelude.{None}
use Rattle.steps.specs.Iterate.{iterate}
use Rattle.qsm.specs.model.Event.{answer_of, clock_limit, passes, clocks, step}
use Rattle.qsm.specs.declared.state.Module.{Module}
use Rattle.qsm.specs.declared.event.Event.TheVariants.{Hold}
use Rattle.qsm.specs.declared.event.Done.{Done}
use Rattle.qsm.specs.declared.event.Stepped.{Stepped}
use Rattle.qsm.proofs.Limit.{hold_refused, has_room}
use Rattle.qsm.proofs.Splitting.{splits, refused_in_parts}
use Rattle.until_change.specs.Change.{look_of, look, same_look, differs, until_change}
use Rattle.until_change.specs.Claims.{Never, Claims, after}
use Rattle.until_change.specs.declared.Look.{Look}
use Rattle.until_change.proofs.Leastly.{least, none_found, of_a_hold}
use Rattle.until_change.proofs.Example.{met, none_met}

same_as_itself : (l : Look) → same_look l l ≡ true
same_as_itself l =
    rw (eq-eqb l.levels l.levels refl, eq-eqb l.mask l.mask refl, eq-eqb l.level l.level refl, eq-eqb l.vector l.vector refl)

module _ (m : Module) (pins : ℕ) (rxd : Bool) (none : until_change m pins rxd ≡ None) where
  abbrev hold : Module → ℕ → Stepped
  hold s n = step s (Hold pins rxd n)

  -- After no clocks, and after some.
  at_once : differs m pins rxd 0 ≡ false
  unfolding clocks iterate answer_of
  at_once = ap not (same_as_itself (look m))

  at_none : (n : ℕ) → passes m n ≡ false → differs m pins rxd n ≡ false
  unfolding until_change
  at_none zero lets = at_once
  at_none (suc n) lets =
      none_found (differs m pins rxd) (clock_limit - m.clock) 1 none (suc n) (omega arith) (omega (arith, has_room m (suc n) lets))

  shown_by : (n : ℕ) → passes m n ≡ false → same_look (look m) (look_of (hold m n).answer) ≡ true
  shown_by n lets = not-false _ (sym (of_a_hold m pins rxd n lets) ∙ at_none n lets)

  -- What a hold's answer shows is what the module that it leaves shows; one that is refused leaves it.
  of_state : (s : Module) (n : ℕ) → look_of (hold s n).answer ≡ look (hold s n).state
  unfolding step answer_of
  of_state s n = refl

  stays : (s : Module) (n : ℕ) → passes s n ≡ true → (hold s n).state ≡ s
  unfolding step
  stays s n full = ap (λ (d : Done). d.state) (hold_refused s pins rxd n full)

  -- Where holds lead: to where one does, or nowhere.
  record Led (s : Module) : Type 0 where
    total : ℕ
    played : Bool
    room : played ≡ true → passes m total ≡ false
    is : s ≡ cond played (hold m total).state m

  of_led : (s : Module) → Led s → same_look (look m) (look s) ≡ true
  of_led s l = go l.played l.room l.is
    where
      go : (b : Bool) → (b ≡ true → passes m l.total ≡ false) → s ≡ cond b (hold m l.total).state m → same_look (look m) (look s) ≡ true
      go true room e = ap (λ (t : Module). same_look (look m) (look t)) e ∙ ap (same_look (look m)) (sym (of_state m l.total)) ∙ shown_by l.total (room refl)
      go false room e = ap (λ (t : Module). same_look (look m) (look t)) e ∙ same_as_itself (look m)

  leads : (s : Module) (n : ℕ) → Led s → Led (hold s n).state
  leads s n l = go (passes s n) refl l.played l.room l.is
    where
      go : (f : Bool) → passes s n ≡ f → (b : Bool) → (b ≡ true → passes m l.total ≡ false) → s ≡ cond b (hold m l.total).state m →
          Led (hold s n).state
      go true full b room e = record { total = l.total; played = b; room = room; is = stays s n full ∙ e }
      go false fits true room e =
          let whole : passes m (l.total + n) ≡ false =
          refused_in_parts m pins rxd l.total n ∙ ap (λ (t : Bool). t || passes (hold m l.total).state n) (room refl)
          ∙ ap (λ (t : Module). passes t n) (sym e) ∙ fits in
          record {
            total = l.total + n;
            played = true;
            room = λ _. whole;
            is = ap (λ (t : Module). (hold t n).state) e ∙ ap (λ (t : Stepped). t.state) (splits m pins rxd l.total n whole);
          }
      go false fits false room e =
          record {
            total = n;
            played = true;
            room = λ _. ap (λ (t : Module). passes t n) (sym e) ∙ fits;
            is = ap (λ (t : Module). (hold t n).state) e;
          }

  all_lead : (ns : List ℕ) (s : Module) → Led s → Led (after s pins rxd ns)
  unfolding after
  all_lead [] s l = l
  all_lead (n ∷ ns) s l = all_lead ns (hold s n).state (leads s n l)

  never_after : (ns : List ℕ) (n : ℕ) → same_look (look m) (look_of (hold (after m pins rxd ns) n).answer) ≡ true
  never_after ns n =
      let start : Led m = record { total = 0; played = false; room = λ e. absurd (false≢true e); is = refl } in
      let s : Module = after m pins rxd ns in
      ap (same_look (look m)) (of_state s n) ∙ of_led (hold s n).state (leads s n (all_lead ns m start))

pub never : Never
never m pins rxd none ns n = never_after m pins rxd none ns n

pub shown_laws : Claims
shown_laws = record { of_a_hold = of_a_hold; least = least; never = never; met = met; none_met = none_met }

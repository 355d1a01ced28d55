-- After a poll in which no word comes any more nothing waits. Assumes nothing.
use mathlib.Core.Path.{◌≡◌, refl, ap, sym, subst, ◌∙◌}
use mathlib.Core.Bool.{Bool}
use mathlib.Core.List.{List, [], ◌∷◌, ◌++◌, append-nil}
use Prim.Native.Nat.{ℕ}
use native.Mathlib.Omega.{arith}
use lib.ListN.{length, length-append}
use Rattle.qsm.specs.declared.state.Module.{Module}
use Rattle.qsm.specs.declared.event.Event.{Event}
use Rattle.qsm.specs.declared.event.Event.TheVariants.{Reset, Hold}
use Rattle.qsm.specs.declared.event.Event.TheVariants as event
use Rattle.tool_lines.specs.Poll.{poll_events}
use Rattle.tool_lines.specs.Schedule.{Act, plays, polls}
use Rattle.tool_lines.specs.Replay.{events_of}
use Rattle.claims_histories.specs.History.{after, run}
use Rattle.claims_polling.proofs.Joined.{run_joined}
use Rattle.claims_lines.specs.Happened.{Happening, happened}
use Rattle.claims_lines.proofs.Slots.{Slot, slot_of, empty}
use Rattle.claims_lines.proofs.Simulated.{happened_joined}
use Rattle.claims_lines.proofs.Quickly.{events_joined}
use Rattle.claims_through.specs.Through.{StaysUndamaged}
use Rattle.claims_through.proofs.Polls.{Quiet}
use Rattle.claims_text.specs.Lines.{delivered}
use Rattle.claims_text.proofs.Served.{Sound, pending, came_in, lost, Serves, came_parts, first_none, last_none}
use Rattle.claims_text.proofs.Serving.{serves, undamaged_first, undamaged_last, poll_empties}

-- What is asked of acts from a module on.
pub record Served (zs : List Act) (m : Module) : Type 0 where
  pub quiet : Quiet zs
  pub sound : Sound (slot_of m.sci)
  pub undamaged : StaysUndamaged (events_of zs m) m
  pub none : lost (happened (events_of zs m) m) ≡ 0

abbrev pub comes : List Act → Module → List ℕ
comes zs m = came_in (happened (events_of zs m) m)

abbrev pub left : List Act → Module → Module
left zs m = run (events_of zs m) m

pub all_serves : (zs : List Act) (m : Module) → Served zs m → Serves (slot_of m.sci) (happened (events_of zs m) m) (slot_of (left zs m).sci)
all_serves zs m f = serves zs m f.quiet f.sound f.undamaged f.none

quiet_first : (xs ys : List Act) → Quiet (xs ++ ys) → Quiet xs
unfolding Quiet
quiet_first [] ys q = tt
quiet_first (plays Reset ∷ xs) ys q = absurd q
quiet_first (plays (Hold pins rxd n) ∷ xs) ys q = quiet_first xs ys q
quiet_first (plays (event.Access a) ∷ xs) ys q = absurd q
quiet_first (polls ∷ xs) ys q = quiet_first xs ys q

quiet_last : (xs ys : List Act) → Quiet (xs ++ ys) → Quiet ys
unfolding Quiet
quiet_last [] ys q = q
quiet_last (plays Reset ∷ xs) ys q = absurd q
quiet_last (plays (Hold pins rxd n) ∷ xs) ys q = quiet_last xs ys q
quiet_last (plays (event.Access a) ∷ xs) ys q = absurd q
quiet_last (polls ∷ xs) ys q = quiet_last xs ys q

-- ---- acts in two parts

module _ (xs ys : List Act) (m : Module) where
  abbrev es : List Event
  es = events_of xs m

  abbrev fs : List Event
  fs = events_of ys (left xs m)

  events_are : events_of (xs ++ ys) m ≡ es ++ fs
  events_are = events_joined xs ys m

  happened_are : happened (events_of (xs ++ ys) m) m ≡ happened es m ++ happened fs (left xs m)
  happened_are = ap (λ (l : List Event). happened l m) events_are ∙ happened_joined es fs m

  pub comes_parts : comes (xs ++ ys) m ≡ comes xs m ++ comes ys (left xs m)
  comes_parts = ap came_in happened_are ∙ came_parts (happened es m) (happened fs (left xs m))

  pub left_parts : left (xs ++ ys) m ≡ left ys (left xs m)
  left_parts = ap (λ (l : List Event). run l m) events_are ∙ run_joined es fs m

  module _ (f : Served (xs ++ ys) m) where
    both : StaysUndamaged (es ++ fs) m
    both = subst (λ (l : List Event). StaysUndamaged l m) events_are f.undamaged

    none_in : lost (happened es m ++ happened fs (left xs m)) ≡ 0
    none_in = subst (λ (h : List Happening). lost h ≡ 0) happened_are f.none

    pub served_first : Served xs m
    served_first =
        record {
          quiet = quiet_first xs ys f.quiet;
          sound = f.sound;
          undamaged = undamaged_first es fs m both;
          none = first_none (happened es m) (happened fs (left xs m)) none_in;
        }

    pub served_last : Served ys (left xs m)
    served_last =
        record {
          quiet = quiet_last xs ys f.quiet;
          sound = (all_serves xs m served_first).sound;
          undamaged = undamaged_last es fs m both;
          none = last_none (happened es m) (happened fs (left xs m)) none_in;
        }

-- ---- the end

append_none : (us vs : List ℕ) → us ++ vs ≡ us → vs ≡ []
append_none us [] e = refl
append_none us (v ∷ vs) e = absurd (omega (arith, ap (λ (l : List ℕ). length l) e, length-append us (v ∷ vs)))

none_first : (us vs : List ℕ) → us ++ vs ≡ [] → vs ≡ []
none_first [] vs e = e
none_first (u ∷ us) vs e = absurd (omega (arith, ap (λ (l : List ℕ). length l) e))

-- From nothing waiting on, where no word comes, nothing waits.
stays_empty : (zs : List Act) (m : Module) (u : ℕ) → slot_of m.sci ≡ empty u → Served zs m → comes zs m ≡ [] → pending (slot_of (left zs m).sci) ≡ []
stays_empty zs m u e f none =
    let h : List Happening = happened (events_of zs m) m in
    none_first (delivered h) (pending (slot_of (left zs m).sci))
    (sym (all_serves zs m f).words ∙ ap (λ (v : Slot). pending v ++ came_in h) e ∙ none)

held_left : (pins : ℕ) (rxd : Bool) (d : ℕ) (m : Module) → left (plays (Hold pins rxd d) ∷ []) m ≡ after (Hold pins rxd d) m
unfolding events_of run
held_left pins rxd d m = refl

polled_left : (pins : ℕ) (rxd : Bool) (d : ℕ) (m : Module) →
    left (plays (Hold pins rxd d) ∷ (polls ∷ [])) m ≡ run (poll_events (after (Hold pins rxd d) m)) (after (Hold pins rxd d) m)
unfolding events_of run
polled_left pins rxd d m =
    ap (λ (l : List Event). run l (after (Hold pins rxd d) m)) (append-nil (poll_events (after (Hold pins rxd d) m)))

-- All words came before a hold and a poll after it: at the end none waits.
pub last_delivered : (xs ys : List Act) (pins : ℕ) (rxd : Bool) (d : ℕ) (m : Module) → let zs : List Act = xs ++ (plays (Hold pins rxd d) ∷ (polls ∷ ys)) in
    Served zs m → comes zs m ≡ comes xs m → pending (slot_of (left zs m).sci) ≡ []
last_delivered xs ys pins rxd d m f e =
    let ps : List Act = plays (Hold pins rxd d) ∷ (polls ∷ []) in
    let m₁ : Module = left xs m in
    let m₂ : Module = left ps m₁ in
    let f₁ : Served (ps ++ ys) m₁ = served_last xs (ps ++ ys) m f in
    let f₂ : Served ys m₂ = served_last ps ys m₁ f₁ in
    let e₁ : comes (ps ++ ys) m₁ ≡ [] = append_none (comes xs m) (comes (ps ++ ys) m₁) (sym (comes_parts xs (ps ++ ys) m) ∙ e) in
    let e₂ : comes ys m₂ ≡ [] = none_first (comes ps m₁) (comes ys m₂) (sym (comes_parts ps ys m₁) ∙ e₁) in
    let o : Module = after (Hold pins rxd d) m₁ in
    let k : Sound (slot_of o.sci) =
    subst (λ (q : Module). Sound (slot_of q.sci)) (held_left pins rxd d m₁)
    (all_serves (plays (Hold pins rxd d) ∷ []) m₁ (served_first (plays (Hold pins rxd d) ∷ []) (polls ∷ ys) m₁ f₁)).sound in
    let z : (u : ℕ) × (slot_of (run (poll_events o) o).sci ≡ empty u) = poll_empties o k in
    ap (λ (q : Module). pending (slot_of q.sci)) (left_parts xs (ps ++ ys) m ∙ left_parts ps ys m₁)
    ∙ stays_empty ys m₂ z.0 (ap (λ (q : Module). slot_of q.sci) (polled_left pins rxd d m₁) ∙ z.1) f₂ e₂

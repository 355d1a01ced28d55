-- Without the flags, what happened is demand 3's marks. Assumes nothing.
use mathlib.Core.Path.{◌≡◌, refl, ap, ◌∙◌}
use mathlib.Core.Bool.{Bool, true, false, cond, not}
use mathlib.Core.List.{List, [], ◌∷◌, ◌++◌}
use mathlib.Core.Option.{Option, none, some}
use Prim.Native.Nat.{ℕ, zero, suc, ◌%◌}
use Rattle.sci.specs.model.Flags.{OR}
use Rattle.sci.specs.model.Status.{has}
use Rattle.sci.specs.model.Receiver.{outcome}
use Rattle.sci.specs.model.Transmitter.{sent}
use Rattle.sci.specs.claims.History.{sampling}
use Rattle.sci.specs.claims.Overrun.{Mark, taken_marks, sample_marks, look_marks, delivery_marks}
use Rattle.sci.specs.claims.Overrun as marks
use Rattle.sci.specs.declared.status.Status.{Status}
use Rattle.sci.specs.declared.receiver.Outcome.{Outcome}
use Rattle.sci.specs.declared.serial.Sci.{Sci}
use Rattle.qsm.specs.model.Lanes.{touches}
use Rattle.qsm.specs.model.Event.{held, clock_module}
use Rattle.qsm.specs.declared.state.Module.{Module}
use Rattle.qsm.specs.declared.event.Access.TheVariants.{Read, Write}
use Rattle.qsm.specs.declared.event.Event.{Event}
use Rattle.qsm.specs.declared.event.Event.TheVariants.{Reset, Hold}
use Rattle.qsm.specs.declared.event.Event.TheVariants as event
use Rattle.claims_histories.specs.History.{after, played_clocks, receiver_read, fresh_word, clock_marks, event_marks, log}
use Rattle.claims_lines.specs.Happened.{Damage, Happening, mark_of, marks_of, taken, sampled, clock_happens, clocks_happen, looks, delivery, event_happens, happened}
use Rattle.claims_lines.specs.Happened as happening
use Rattle.claims_lines.specs.Claims.{AsMarked}

pub marks_joined : (h k : List Happening) → marks_of (h ++ k) ≡ marks_of h ++ marks_of k
marks_joined [] k = refl
marks_joined (e ∷ h) k = ap (λ (ms : List Mark). mark_of e ∷ ms) (marks_joined h k)

taken_marked : (o : Outcome) (raises : Bool) (w : ℕ) (d : Damage) → marks_of (taken o raises w d) ≡ taken_marks o raises w
taken_marked o raises w d = go o.lost o.taken
  where
    go : (lost took : Bool) → marks_of (cond lost (happening.frame_lost raises ∷ []) (cond took (happening.word_came (w % 512) d ∷ []) []))
        ≡ cond lost (marks.frame_lost raises ∷ []) (cond took (marks.word_came (w % 512) ∷ []) [])
    go true took = refl
    go false true = refl
    go false false = refl

clock_marked : (b : Bool) (s : Sci) (t : Status) (x : Bool) →
    marks_of (cond b (sampled s t x) []) ≡ cond b (sample_marks s t x) []
clock_marked true s t x = taken_marked (outcome s.receiver t s.sccr1 x) (not (has t OR)) s.receiver.framer.shift _
clock_marked false s t x = refl

clocks_marked : (n : ℕ) (rxd : Bool) (m : Module) → marks_of (clocks_happen n rxd m) ≡ clock_marks n rxd m
clocks_marked zero rxd m = refl
clocks_marked (suc n) rxd m =
    let t : Status = (sent m.sci.transmitter m.sci.status m.sci.sccr1).status in
    marks_joined (clock_happens m.sci rxd) (clocks_happen n rxd (clock_module rxd m))
    ∙ ap (λ (ms : List Mark). ms ++ marks_of (clocks_happen n rxd (clock_module rxd m))) (clock_marked (sampling m.sci) m.sci t rxd)
    ∙ ap (λ (ms : List Mark). cond (sampling m.sci) (sample_marks m.sci t rxd) [] ++ ms) (clocks_marked n rxd (clock_module rxd m))

read_marked : (b scsr : Bool) (w : Option ℕ) →
    marks_of (cond b (looks scsr ++ delivery w) []) ≡ cond b (look_marks scsr ++ delivery_marks w) []
read_marked true true (some w) = refl
read_marked true true none = refl
read_marked true false (some w) = refl
read_marked true false none = refl
read_marked false scsr w = refl

event_marked : (e : Event) (m : Module) → marks_of (event_happens e m) ≡ event_marks e m
event_marked Reset m = refl
event_marked (Hold pins rxd n) m = clocks_marked (played_clocks m n) rxd (held m pins)
event_marked (event.Access (Read supervisor width offset)) m =
    read_marked (receiver_read m supervisor width offset) (touches 0x0C 2 width offset)
    (fresh_word m (after (event.Access (Read supervisor width offset)) m))
event_marked (event.Access (Write supervisor width offset value)) m = refl

pub as_marked_holds : AsMarked
unfolding happened log
as_marked_holds [] m = refl
as_marked_holds (e ∷ es) m =
    marks_joined (event_happens e m) (happened es (after e m))
    ∙ ap (λ (ms : List Mark). ms ++ marks_of (happened es (after e m))) (event_marked e m)
    ∙ ap (λ (ms : List Mark). event_marks e m ++ ms) (as_marked_holds es (after e m))

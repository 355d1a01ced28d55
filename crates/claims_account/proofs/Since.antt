-- The events since the last reset leave the module that all of them leave, and have no reset among their marks.
use mathlib.Core.Path.{◌≡◌, refl, ap, sym, subst, ◌∙◌}
use mathlib.Core.Bool.{Bool, true, false, cond}
use mathlib.Core.List.{List, [], ◌∷◌, ◌++◌, append-nil, append_assoc}
use mathlib.Core.Option.{Option, none, some}
use Prim.Native.Nat.{ℕ, zero, suc}
use Rattle.sci.specs.model.Transmitter.{sent}
use Rattle.sci.specs.model.Receiver.{outcome}
use Rattle.sci.specs.claims.History.{sampling}
use Rattle.sci.specs.claims.Overrun.{Mark, frame_lost, word_came, status_read, word_delivered, was_reset, sample_marks, look_marks, delivery_marks, has_reset}
use Rattle.sci.specs.declared.status.Status.{Status}
use Rattle.sci.specs.declared.receiver.Outcome.{Outcome}
use Rattle.sci.specs.declared.serial.Sci.{Sci}
use Rattle.sci.proofs.Frames.{by_cond}
use Rattle.qsm.specs.model.State.{reset_module}
use Rattle.qsm.specs.model.Lanes.{touches}
use Rattle.qsm.specs.model.Event.{resets, does, held, clock_module}
use Rattle.qsm.specs.declared.state.Module.{Module}
use Rattle.qsm.specs.declared.event.Access.{Access}
use Rattle.qsm.specs.declared.event.Access.TheVariants.{Read, Write}
use Rattle.qsm.specs.declared.event.Event.{Event}
use Rattle.qsm.specs.declared.event.Event.TheVariants.{Reset, Hold}
use Rattle.qsm.specs.declared.event.Event.TheVariants as event
use Rattle.claims_histories.specs.History.{after, run, receiver_read, played_clocks, fresh_word, clock_marks, event_marks, log}
use Rattle.claims_account.specs.Claims.{since_last}

-- ---- the module

run_append : (es fs : List Event) (m : Module) → run (es ++ fs) m ≡ run fs (run es m)
unfolding run
run_append [] fs m = refl
run_append (e ∷ es) fs m = run_append es fs (after e m)

one_more : (came : List Event) (e : Event) → run (came ++ (e ∷ [])) reset_module ≡ after e (run came reset_module)
unfolding run
one_more came e = run_append came (e ∷ []) reset_module

pub same_module : (es came : List Event) → run es (run came reset_module) ≡ run (since_last came es) reset_module
unfolding run since_last does resets
same_module [] came = refl
same_module (Reset ∷ es) came = same_module es []
same_module (Hold pins rxd n ∷ es) came =
    ap (run es) (sym (one_more came (Hold pins rxd n))) ∙ same_module es (came ++ (Hold pins rxd n ∷ []))
same_module (event.Access a ∷ es) came =
    ap (run es) (sym (one_more came (event.Access a))) ∙ same_module es (came ++ (event.Access a ∷ []))

-- ---- its marks

abbrev Free : List Mark → Type 0
Free h = has_reset h ≡ false

free_append : (g h : List Mark) → Free g → Free h → Free (g ++ h)
free_append [] h f i = i
free_append (frame_lost raises ∷ g) h f i = free_append g h f i
free_append (word_came w ∷ g) h f i = free_append g h f i
free_append (status_read ∷ g) h f i = free_append g h f i
free_append (word_delivered w ∷ g) h f i = free_append g h f i
free_append (was_reset ∷ g) h f i = f

sample_free : (s : Sci) (t : Status) (x : Bool) → Free (sample_marks s t x)
sample_free s t x =
    let o : Outcome = outcome s.receiver t s.sccr1 x in
    by_cond Free o.lost (λ _. refl) (λ _. by_cond Free o.taken (λ _. refl) (λ _. refl))

clock_free : (n : ℕ) (rxd : Bool) (m : Module) → Free (clock_marks n rxd m)
clock_free zero rxd m = refl
clock_free (suc n) rxd m =
    let t : Status = (sent m.sci.transmitter m.sci.status m.sci.sccr1).status in
    free_append (cond (sampling m.sci) (sample_marks m.sci t rxd) []) (clock_marks n rxd (clock_module rxd m))
    (by_cond Free (sampling m.sci) (λ _. sample_free m.sci t rxd) (λ _. refl))
    (clock_free n rxd (clock_module rxd m))

look_free : (scsr : Bool) → Free (look_marks scsr)
look_free true = refl
look_free false = refl

delivery_free : (word : Option ℕ) → Free (delivery_marks word)
delivery_free (some w) = refl
delivery_free none = refl

access_free : (a : Access) (m : Module) → Free (event_marks (event.Access a) m)
access_free (Read supervisor width offset) m =
    let word : Option ℕ = fresh_word m (after (event.Access (Read supervisor width offset)) m) in
    by_cond Free (receiver_read m supervisor width offset)
    (λ _.
    free_append (look_marks (touches 0x0C 2 width offset)) (delivery_marks word) (look_free (touches 0x0C 2 width offset)) (delivery_free word))
    (λ _. refl)
access_free (Write supervisor width offset value) m = refl

log_append : (es fs : List Event) (m : Module) → log (es ++ fs) m ≡ log es m ++ log fs (run es m)
unfolding run log
log_append [] fs m = refl
log_append (e ∷ es) fs m =
    ap (λ (h : List Mark). event_marks e m ++ h) (log_append es fs (after e m))
    ∙ sym (append_assoc (event_marks e m) (log es (after e m)) (log fs (run es (after e m))))

log_one : (e : Event) (m : Module) → log (e ∷ []) m ≡ event_marks e m
unfolding log
log_one e m = append-nil (event_marks e m)

still_free : (came : List Event) (e : Event) → Free (log came reset_module) → Free (event_marks e (run came reset_module)) →
    Free (log (came ++ (e ∷ [])) reset_module)
still_free came e f g =
    subst Free (sym (log_append came (e ∷ []) reset_module ∙ ap (λ (h : List Mark). log came reset_module ++ h) (log_one e (run came reset_module))))
    (free_append (log came reset_module) (event_marks e (run came reset_module)) f g)

none_free : Free (log [] reset_module)
unfolding log
none_free = refl

since_free : (es came : List Event) → Free (log came reset_module) → Free (log (since_last came es) reset_module)
unfolding since_last
since_free [] came f = f
since_free (Reset ∷ es) came f = since_free es [] none_free
since_free (Hold pins rxd n ∷ es) came f =
    since_free es (came ++ (Hold pins rxd n ∷ []))
    (still_free came (Hold pins rxd n) f
    (clock_free (played_clocks (run came reset_module) n) rxd (held (run came reset_module) pins)))
since_free (event.Access a ∷ es) came f =
    since_free es (came ++ (event.Access a ∷ []))
    (still_free came (event.Access a) f (access_free a (run came reset_module)))

pub no_reset : (es : List Event) → has_reset (log (since_last [] es) reset_module) ≡ false
no_reset es = since_free es [] none_free

pub from_start : (es : List Event) → run es reset_module ≡ run (since_last [] es) reset_module
unfolding run
from_start es = same_module es []

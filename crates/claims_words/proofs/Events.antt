-- The words within an event: by demand 3's marks, and by the modules before and after it. Assumes nothing.
use mathlib.Core.Path.{◌≡◌, refl, ap, sym, ◌∙◌}
use mathlib.Core.Bool.{Bool, true, false, cond, not, ◌&&◌}
use mathlib.Core.List.{List, [], ◌∷◌, ◌++◌}
use mathlib.Core.Option.{Option, none, some}
use Prim.Native.Nat.{ℕ, zero, suc}
use Rattle.std.specs.Prelude.{Some, None}
use Rattle.sci.specs.model.Flags.{OR}
use Rattle.sci.specs.model.Status.{has, raise, raise_if}
use Rattle.sci.specs.model.Receiver.{outcome}
use Rattle.sci.specs.claims.ReceiverClauses.{rises}
use Rattle.sci.specs.model.Transmitter.{sent}
use Rattle.sci.specs.claims.History.{sampling}
use Rattle.sci.specs.claims.Overrun.{Mark, frame_lost, word_came, look_marks, delivery_marks}
use Rattle.sci.specs.declared.status.Status.{Status}
use Rattle.sci.specs.declared.receiver.Outcome.{Outcome}
use Rattle.sci.specs.declared.serial.Sci.{Sci}
use Rattle.qsm.specs.model.Lanes.{touches}
use Rattle.qsm.specs.model.State.{reset_module}
use Rattle.qsm.specs.model.Event.{held, clock_module, resets, does}
use Rattle.qsm.specs.declared.state.Module.{Module}
use Rattle.qsm.specs.declared.event.Access.TheVariants.{Read, Write}
use Rattle.qsm.specs.declared.event.Event.TheVariants.{Reset, Hold}
use Rattle.qsm.specs.declared.event.Event.TheVariants as event
use Rattle.reception.specs.Arrival.{fills, figure_of}
use Rattle.claims_histories.specs.History.{after, receiver_read, played_clocks, fresh_word, clock_marks}
use Rattle.claims_histories.proofs.Follows.{follows}
use Rattle.claims_words.specs.Words.{Word, brought, clock_words, bits_of, figures_of, came}
use Rattle.claims_words.specs.Told.{in_scdr, told}
use Rattle.claims_words.specs.Claims.{AsMarked, Told, FigureTold, NoisyWord}
use Rattle.claims_words.proofs.Clocks.{full, kept, clock_words_holds, serial_words_holds}
use Rattle.claims_words.proofs.Accesses.{access_clear}

-- ---- demand 3's marks

-- One clock: it samples or not, and a taken frame is lost or not.
clock_came : (on lost taken raises : Bool) (w : Word) (h : List Mark) (ws : List Word) → came h ≡ bits_of ws →
    came (cond on (cond lost (frame_lost raises ∷ []) (cond taken (word_came w.bits ∷ []) [])) [] ++ h)
    ≡ bits_of (cond (on && (taken && not lost)) (w ∷ []) [] ++ ws)
clock_came true true true raises w h ws e = e
clock_came true true false raises w h ws e = e
clock_came true false true raises w h ws e = ap (λ (l : List ℕ). w.bits ∷ l) e
clock_came true false false raises w h ws e = e
clock_came false lost taken raises w h ws e = e

hold_came : (n : ℕ) (rxd : Bool) (m : Module) → came (clock_marks n rxd m) ≡ bits_of (clock_words n rxd m)
hold_came zero rxd m = refl
hold_came (suc n) rxd m =
    let t : Status = (sent m.sci.transmitter m.sci.status m.sci.sccr1).status in
    let o : Outcome = outcome m.sci.receiver t m.sci.sccr1 rxd in
    clock_came (sampling m.sci) o.lost o.taken (not (has t OR)) (brought m.sci rxd)
    (clock_marks n rxd (clock_module rxd m)) (clock_words n rxd (clock_module rxd m)) (hold_came n rxd (clock_module rxd m))

read_came : (b scsr : Bool) (w : Option ℕ) → came (cond b (look_marks scsr ++ delivery_marks w) []) ≡ []
read_came true true (some w) = refl
read_came true true none = refl
read_came true false (some w) = refl
read_came true false none = refl
read_came false scsr w = refl

pub as_marked_holds : AsMarked
as_marked_holds Reset m = refl
as_marked_holds (Hold pins rxd n) m = hold_came (played_clocks m n) rxd (held m pins)
as_marked_holds (event.Access (Read supervisor width offset)) m =
    read_came (receiver_read m supervisor width offset) (touches 0x0C 2 width offset)
    (fresh_word m (after (event.Access (Read supervisor width offset)) m))
as_marked_holds (event.Access (Write supervisor width offset value)) m = refl

-- ---- the modules before and after

-- RDRF that is clear afterwards, or set before, has not risen.
none_told : (m left : Module) → (full m.sci ≡ false → full left.sci ≡ false) → [] ≡ told m left
none_told m left f = go (full m.sci) refl
  where
    go : (b : Bool) → full m.sci ≡ b → [] ≡ told m left
    go true e = rw e
    go false e = rw (e, f e)

reset_clear : (m : Module) → full (after Reset m).sci ≡ false
unfolding does resets reset_module has
reset_clear m = refl

hold_told : (pins : ℕ) (rxd : Bool) (n : ℕ) (m : Module) →
    clock_words (played_clocks m n) rxd (held m pins) ≡ told m (after (Hold pins rxd n) m)
hold_told pins rxd n m =
    clock_words_holds (played_clocks m n) rxd (held m pins) ∙ serial_words_holds (played_clocks m n) rxd m.sci
    ∙ ap (λ (s : Sci). cond (rises (full m.sci) (full s)) (kept s ∷ []) []) (sym (follows (Hold pins rxd n) m))

pub event_told : Told
event_told Reset m = none_told m (after Reset m) (λ _. reset_clear m)
event_told (Hold pins rxd n) m = hold_told pins rxd n m
event_told (event.Access a) m = none_told m (after (event.Access a) m) (access_clear a m)

pub figure_told : FigureTold
figure_told m left = go (fills m left)
  where
    go : (b : Bool) → figures_of (cond b (in_scdr left ∷ []) []) ≡ figure_of (cond b (Some left.sci.receiver.noise) None)
    go true = refl
    go false = refl

-- Where nothing happens nothing is told.
pub still : (m : Module) → [] ≡ told m m
still m = none_told m m (λ e. e)

pub noisy_word : NoisyWord
unfolding reset_module outcome sent has raise raise_if
noisy_word = refl

-- What reaches the receiver, what is seen of it and what happens to words are those of the steps.
use mathlib.Core.Path.{◌≡◌, refl, ap, sym, ◌∙◌}
use mathlib.Core.Bool.{Bool, true, false, cond, not, ◌&&◌, false≢true}
use mathlib.Core.List.{List, [], ◌∷◌, ◌++◌}
use mathlib.Core.Option.{none}
use Prim.Native.Nat.{ℕ, zero, suc}
use lib.Dec.{eqb}
use Rattle.sci.specs.model.Flags.{RDRF}
use Rattle.sci.specs.model.Status.{has}
use Rattle.sci.specs.model.Transmitter.{sent}
use Rattle.sci.specs.model.Serial.{clocked}
use Rattle.sci.specs.claims.Line.{Op, sample, read, shown, fresh_if, delivers, Seen}
use Rattle.sci.specs.claims.History.{Step, reset, reads, step, sampling, seen_if}
use Rattle.sci.specs.claims.History as sci
use Rattle.sci.specs.claims.Overrun.{Mark, look_marks, delivery_marks, sample_marks}
use Rattle.sci.specs.claims.Overrun as overrun
use Rattle.sci.specs.declared.serial.Sci.{Sci}
use Rattle.sci.proofs.History.{clocks}
use Rattle.qsm.specs.model.Lanes.{upper_lane, lower_lane, lined, touches}
use Rattle.qsm.specs.model.Decision.{permits, decide_write}
use Rattle.qsm.specs.model.Event.{held, clock_module}
use Rattle.qsm.specs.declared.state.Module.{Module}
use Rattle.qsm.specs.declared.event.Access.TheVariants.{Read, Write}
use Rattle.qsm.specs.declared.event.Event.{Event}
use Rattle.qsm.specs.declared.event.Event.TheVariants.{Reset, Hold}
use Rattle.qsm.specs.declared.event.Event.TheVariants as event
use Rattle.claims_histories.specs.History.{after, receiver_read, played_clocks, clock_ops, event_ops, clock_seen, event_seen, clock_marks, event_marks}
use Rattle.claims_histories.proofs.Words.{store_ops, store_watched, store_log}
use Rattle.claims_histories.proofs.Follows.{write_steps, steps, follows}

clock_ops_holds : (n : ℕ) (rxd : Bool) (m : Module) → clock_ops n rxd m ≡ sci.ops (clocks n rxd) m.sci
unfolding sci.ops step clock_module
clock_ops_holds zero rxd m = refl
clock_ops_holds (suc n) rxd m =
    ap (λ (os : List Op). cond (sampling m.sci) (sample rxd ∷ []) [] ++ os) (clock_ops_holds n rxd (clock_module rxd m))

read_ops : (b scsr scdr : Bool) (s : Sci) → cond b (read scsr scdr ∷ []) [] ≡ sci.ops (cond b (reads scsr scdr ∷ []) []) s
unfolding sci.ops
read_ops true scsr scdr s = refl
read_ops false scsr scdr s = refl

reset_ops : (s : Sci) → [] ≡ sci.ops (reset ∷ []) s
unfolding sci.ops
reset_ops s = refl

write_ops : (b : Bool) (es : List Step) (s : Sci) → sci.ops es s ≡ [] → [] ≡ sci.ops (cond b es []) s
unfolding sci.ops
write_ops true es s e = sym e
write_ops false es s e = refl

pub event_ops_holds : (e : Event) (m : Module) → event_ops e m ≡ sci.ops (steps e m) m.sci
event_ops_holds Reset m = reset_ops m.sci
event_ops_holds (Hold pins rxd n) m = clock_ops_holds (played_clocks m n) rxd (held m pins)
event_ops_holds (event.Access (Read supervisor width offset)) m =
    read_ops (receiver_read m supervisor width offset) (touches 0x0C 2 width offset) (touches 0x0F 1 width offset) m.sci
event_ops_holds (event.Access (Write supervisor width offset value)) m =
    write_ops (permits (decide_write m supervisor width offset value)) (write_steps width offset value) m.sci
    (store_ops (eqb width 4) offset (lined width value) (upper_lane width offset) (lower_lane width offset) m.sci)

seen_in_front : (b : Bool) (e : Seen) (h : List Seen) → cond b (e ∷ []) [] ++ h ≡ seen_if b e h
seen_in_front true e h = refl
seen_in_front false e h = refl

clock_seen_holds : (n : ℕ) (rxd : Bool) (m : Module) → clock_seen n rxd m ≡ sci.watched (clocks n rxd) m.sci
unfolding sci.watched step clock_module
clock_seen_holds zero rxd m = refl
clock_seen_holds (suc n) rxd m =
    let e : Seen = record { flags = shown (clocked m.sci rxd).status; word = none } in
    seen_in_front (sampling m.sci) e (clock_seen n rxd (clock_module rxd m))
    ∙ ap (seen_if (sampling m.sci) e) (clock_seen_holds n rxd (clock_module rxd m))

-- A read that reaches the receiver, from its serial half s to t.
abbrev seen_of : Sci → Sci → Seen
seen_of s t =
    record {
      flags = shown t.status;
      word = fresh_if (has s.status RDRF && not (has t.status RDRF)) s.receiver.scdr;
    }

read_left : (b scsr scdr : Bool) (s t : Sci) → t ≡ sci.run (cond b (reads scsr scdr ∷ []) []) s → b ≡ true →
    t ≡ step (reads scsr scdr) s
unfolding sci.run
read_left true scsr scdr s t e h = e
read_left false scsr scdr s t e h = absurd (false≢true h)

seen_step : (scsr scdr : Bool) (s : Sci) →
    seen_of s (step (reads scsr scdr) s) ∷ [] ≡ sci.watched (reads scsr scdr ∷ []) s
unfolding sci.watched step delivers
seen_step scsr scdr s = refl

read_seen : (b scsr scdr : Bool) (s t : Sci) → t ≡ sci.run (cond b (reads scsr scdr ∷ []) []) s →
    cond b (seen_of s t ∷ []) [] ≡ sci.watched (cond b (reads scsr scdr ∷ []) []) s
unfolding sci.watched
read_seen true scsr scdr s t e =
    ap (λ (r : Sci). seen_of s r ∷ []) (read_left true scsr scdr s t e refl) ∙ seen_step scsr scdr s
read_seen false scsr scdr s t e = refl

reset_seen : (s : Sci) → [] ≡ sci.watched (reset ∷ []) s
unfolding sci.watched
reset_seen s = refl

write_seen : (b : Bool) (es : List Step) (s : Sci) → sci.watched es s ≡ [] → [] ≡ sci.watched (cond b es []) s
unfolding sci.watched
write_seen true es s e = sym e
write_seen false es s e = refl

pub event_seen_holds : (e : Event) (m : Module) → event_seen e m ≡ sci.watched (steps e m) m.sci
event_seen_holds Reset m = reset_seen m.sci
event_seen_holds (Hold pins rxd n) m = clock_seen_holds (played_clocks m n) rxd (held m pins)
event_seen_holds (event.Access (Read supervisor width offset)) m =
    read_seen (receiver_read m supervisor width offset) (touches 0x0C 2 width offset) (touches 0x0F 1 width offset) m.sci
    (after (event.Access (Read supervisor width offset)) m).sci (follows (event.Access (Read supervisor width offset)) m)
event_seen_holds (event.Access (Write supervisor width offset value)) m =
    write_seen (permits (decide_write m supervisor width offset value)) (write_steps width offset value) m.sci
    (store_watched (eqb width 4) offset (lined width value) (upper_lane width offset) (lower_lane width offset) m.sci)

clock_marks_holds : (n : ℕ) (rxd : Bool) (m : Module) → clock_marks n rxd m ≡ overrun.log (clocks n rxd) m.sci
unfolding overrun.log step clock_module
clock_marks_holds zero rxd m = refl
clock_marks_holds (suc n) rxd m =
    ap (λ (h : List Mark).
    cond (sampling m.sci)
    (sample_marks m.sci (sent m.sci.transmitter m.sci.status m.sci.sccr1).status rxd) [] ++ h)
    (clock_marks_holds n rxd (clock_module rxd m))

append_nothing : (h : List Mark) → h ≡ h ++ []
append_nothing [] = refl
append_nothing (k ∷ h) = ap (λ (g : List Mark). k ∷ g) (append_nothing h)

abbrev marks_of : Bool → Sci → Sci → List Mark
marks_of scsr s t = look_marks scsr ++ delivery_marks (seen_of s t).word

marks_step : (scsr scdr : Bool) (s : Sci) →
    marks_of scsr s (step (reads scsr scdr) s) ++ [] ≡ overrun.log (reads scsr scdr ∷ []) s
unfolding overrun.log step delivers
marks_step scsr scdr s = refl

read_marks : (b scsr scdr : Bool) (s t : Sci) → t ≡ sci.run (cond b (reads scsr scdr ∷ []) []) s →
    cond b (marks_of scsr s t) [] ≡ overrun.log (cond b (reads scsr scdr ∷ []) []) s
unfolding overrun.log
read_marks true scsr scdr s t e =
    ap (marks_of scsr s) (read_left true scsr scdr s t e refl)
    ∙ append_nothing (marks_of scsr s (step (reads scsr scdr) s)) ∙ marks_step scsr scdr s
read_marks false scsr scdr s t e = refl

reset_marks : (s : Sci) → overrun.was_reset ∷ [] ≡ overrun.log (reset ∷ []) s
unfolding overrun.log
reset_marks s = refl

write_marks : (b : Bool) (es : List Step) (s : Sci) → overrun.log es s ≡ [] → [] ≡ overrun.log (cond b es []) s
unfolding overrun.log
write_marks true es s e = sym e
write_marks false es s e = refl

pub event_marks_holds : (e : Event) (m : Module) → event_marks e m ≡ overrun.log (steps e m) m.sci
event_marks_holds Reset m = reset_marks m.sci
event_marks_holds (Hold pins rxd n) m = clock_marks_holds (played_clocks m n) rxd (held m pins)
event_marks_holds (event.Access (Read supervisor width offset)) m =
    read_marks (receiver_read m supervisor width offset) (touches 0x0C 2 width offset) (touches 0x0F 1 width offset) m.sci
    (after (event.Access (Read supervisor width offset)) m).sci (follows (event.Access (Read supervisor width offset)) m)
event_marks_holds (event.Access (Write supervisor width offset value)) m =
    write_marks (permits (decide_write m supervisor width offset value)) (write_steps width offset value) m.sci
    (store_log (eqb width 4) offset (lined width value) (upper_lane width offset) (lower_lane width offset) m.sci)

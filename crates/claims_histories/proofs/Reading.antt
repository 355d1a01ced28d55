-- The reads at the receiver, on the wire: status, then data, one after the other.
use mathlib.Core.Path.{◌≡◌, refl, ap, sym, ◌∙◌}
use mathlib.Core.Bool.{Bool, true, false, cond}
use mathlib.Core.List.{List, [], ◌∷◌, ◌++◌, append_assoc}
use Prim.Native.Nat.{ℕ, ◌/◌, ◌%◌, ◌*◌}
use lib.Dec.{eqb}
use Rattle.sci.specs.claims.Line.{Op, sample, read}
use Rattle.sci.specs.claims.BackToBack.{reads_data, reads_both}
use Rattle.sci.specs.model.Serial.{sccr1_guarded}
use Rattle.sci.specs.claims.History.{Step, reads}
use Rattle.sci.specs.claims.History as half
use Rattle.sci.specs.claims.Wire.{Access, write_control}
use Rattle.sci.specs.claims.Wire as wire
use Rattle.sci.specs.declared.serial.Sci.{Sci}
use Rattle.qsm.specs.model.Map.{decode}
use Rattle.qsm.specs.model.Lanes.{upper_lane, lower_lane, lined, touches}
use Rattle.qsm.specs.model.Access as qsm
use Rattle.qsm.specs.model.Decision.{permits, decide_write}
use Rattle.qsm.specs.declared.map.SerialWord.TheVariants.{Sccr0, Sccr1, Scsr, Scdr}
use Rattle.qsm.specs.declared.map.Place.{Place}
use Rattle.qsm.specs.declared.map.Place.TheVariants.{Own, Serial, Queue, Hole}
use Rattle.qsm.specs.declared.state.Module.{Module}
use Rattle.qsm.specs.declared.event.Access as bus
use Rattle.qsm.specs.declared.event.Access.TheVariants.{Read, Write}
use Rattle.qsm.specs.declared.event.Event.TheVariants as event
use Rattle.claims_histories.specs.History.{receiver_read, event_ops}
use Rattle.claims_histories.specs.Demand2.{Two, Moment, clock, at_sender, at_receiver, next, reads_of}
use Rattle.claims_histories.proofs.Words.{word_steps, store_steps}
use Rattle.claims_histories.proofs.Given.{given, all_given, makes}
use Rattle.claims_histories.proofs.OnWire.{at_r, sender_reads}
use Rattle.claims_histories.proofs.Joined.{project}

abbrev splits : List Op → List Op
splits [] = []
splits (sample x ∷ os) = splits os
splits (read scsr scdr ∷ os) = cond scsr (read true false ∷ []) [] ++ (cond scdr (read false true ∷ []) [] ++ splits os)

splits_append : (os ps : List Op) → splits (os ++ ps) ≡ splits os ++ splits ps
splits_append [] ps = refl
splits_append (sample x ∷ os) ps = splits_append os ps
splits_append (read true true ∷ os) ps = ap (λ (z : List Op). read true false ∷ (read false true ∷ z)) (splits_append os ps)
splits_append (read true false ∷ os) ps = ap (λ (z : List Op). read true false ∷ z) (splits_append os ps)
splits_append (read false true ∷ os) ps = ap (λ (z : List Op). read false true ∷ z) (splits_append os ps)
splits_append (read false false ∷ os) ps = splits_append os ps

data_splits : (os : List Op) → reads_data (splits os) ≡ reads_data os
unfolding reads_data
data_splits [] = refl
data_splits (sample x ∷ os) = data_splits os
data_splits (read true true ∷ os) = refl
data_splits (read true false ∷ os) = data_splits os
data_splits (read false true ∷ os) = refl
data_splits (read false false ∷ os) = data_splits os

both_splits : (os : List Op) → reads_both (splits os) ≡ reads_both os
unfolding reads_both reads_data
both_splits [] = refl
both_splits (sample x ∷ os) = both_splits os
both_splits (read true true ∷ os) = refl
both_splits (read true false ∷ os) = data_splits os
both_splits (read false true ∷ os) = both_splits os
both_splits (read false false ∷ os) = both_splits os

at_append : (ks ls : List Access) (fs : List wire.Step) → at_r (ks ++ ls) fs ≡ at_r ks (at_r ls fs)
at_append [] ls fs = refl
at_append (k ∷ ks) ls fs = ap (λ (z : List wire.Step). wire.at_receiver k ∷ z) (at_append ks ls fs)

given_append : (es ds : List Step) (s : Sci) → all_given (es ++ ds) s ≡ all_given es s ++ all_given ds (half.run es s)
unfolding half.run
given_append [] ds s = refl
given_append (e ∷ es) ds s =
    ap (λ (z : List Access). given e s ++ z) (given_append es ds (half.step e s))
    ∙ sym (append_assoc (given e s) (all_given es (half.step e s)) (all_given ds (half.run es (half.step e s))))

-- A write reads nothing.
control_reads : (g : Bool) (v : ℕ) (upper lower : Bool) (fs : List wire.Step) →
    wire.reads_of (at_r (cond g [] (write_control v upper lower ∷ []) ++ []) fs) ≡ wire.reads_of fs
unfolding wire.reads_of
control_reads true v upper lower fs = refl
control_reads false v upper lower fs = refl

word_reads : (p : Place) (v : ℕ) (upper lower : Bool) (s : Sci) (fs : List wire.Step) →
    wire.reads_of (at_r (all_given (word_steps p v upper lower) s) fs) ≡ wire.reads_of fs
unfolding wire.reads_of
word_reads (Own w) v upper lower s fs = refl
word_reads (Serial Sccr0) v upper lower s fs = refl
word_reads (Serial Sccr1) v upper lower s fs = control_reads (sccr1_guarded s v upper lower) v upper lower fs
word_reads (Serial Scsr) v upper lower s fs = refl
word_reads (Serial Scdr) v upper true s fs = refl
word_reads (Serial Scdr) v upper false s fs = refl
word_reads (Queue w) v upper lower s fs = refl
word_reads Hole v upper lower s fs = refl

store_reads : (long : Bool) (at words : ℕ) (upper lower : Bool) (s : Sci) (fs : List wire.Step) →
    wire.reads_of (at_r (all_given (store_steps long at words upper lower) s) fs) ≡ wire.reads_of fs
store_reads false at words upper lower s fs = word_reads (decode at) (words / 65536) upper lower s fs
store_reads true at words upper lower s fs =
    let es : List Step = word_steps (decode at) (words / 65536) upper lower in
    let ds : List Step = word_steps (decode (qsm.next at)) (words % 65536 * 65536 / 65536) upper lower in
    ap (λ (ks : List Access). wire.reads_of (at_r ks fs)) (given_append es ds s)
    ∙ ap wire.reads_of (at_append (all_given es s) (all_given ds (half.run es s)) fs)
    ∙ word_reads (decode at) (words / 65536) upper lower s (at_r (all_given ds (half.run es s)) fs)
    ∙ word_reads (decode (qsm.next at)) (words % 65536 * 65536 / 65536) upper lower (half.run es s) fs

read_reads : (b scsr scdr : Bool) (s : Sci) (fs : List wire.Step) →
    wire.reads_of (at_r (all_given (cond b (reads scsr scdr ∷ []) []) s) fs)
    ≡ splits (cond b (read scsr scdr ∷ []) []) ++ wire.reads_of fs
unfolding wire.reads_of
read_reads true true true s fs = refl
read_reads true true false s fs = refl
read_reads true false true s fs = refl
read_reads true false false s fs = refl
read_reads false scsr scdr s fs = refl

write_reads : (b : Bool) (es : List Step) (s : Sci) (fs : List wire.Step) →
    wire.reads_of (at_r (all_given es s) fs) ≡ wire.reads_of fs → wire.reads_of (at_r (all_given (cond b es []) s) fs) ≡ wire.reads_of fs
write_reads true es s fs e = e
write_reads false es s fs e = refl

event_reads : (a : bus.Access) (m : Module) (fs : List wire.Step) →
    wire.reads_of (at_r (makes a m) fs) ≡ splits (event_ops (event.Access a) m) ++ wire.reads_of fs
event_reads (Read supervisor width offset) m fs =
    read_reads (receiver_read m supervisor width offset) (touches 0x0C 2 width offset) (touches 0x0F 1 width offset) m.sci fs
event_reads (Write supervisor width offset value) m fs =
    write_reads (permits (decide_write m supervisor width offset value)) _ m.sci fs
    (store_reads (eqb width 4) offset (lined width value) (upper_lane width offset) (lower_lane width offset) m.sci fs)

project_reads : (es : List Moment) (q : Two) → wire.reads_of (project es q) ≡ splits (reads_of es q)
unfolding wire.reads_of
project_reads [] q = refl
project_reads (clock t ∷ es) q = project_reads es (next (clock t) q)
project_reads (at_sender a ∷ es) q =
    sender_reads (makes a q.sender) (project es (next (at_sender a) q)) ∙ project_reads es (next (at_sender a) q)
project_reads (at_receiver a ∷ es) q =
    event_reads a q.receiver (project es (next (at_receiver a) q))
    ∙ ap (λ (os : List Op). splits (event_ops (event.Access a) q.receiver) ++ os) (project_reads es (next (at_receiver a) q))
    ∙ sym (splits_append (event_ops (event.Access a) q.receiver) (reads_of es (next (at_receiver a) q)))

pub project_both : (es ds : List Moment) (q r : Two) → reads_both (reads_of es q ++ reads_of ds r) ≡ true →
    reads_both (wire.reads_of (project es q) ++ wire.reads_of (project ds r)) ≡ true
project_both es ds q r h =
    ap (λ (os : List Op). reads_both (os ++ wire.reads_of (project ds r))) (project_reads es q)
    ∙ ap (λ (os : List Op). reads_both (splits (reads_of es q) ++ os)) (project_reads ds r)
    ∙ ap reads_both (sym (splits_append (reads_of es q) (reads_of ds r)))
    ∙ both_splits (reads_of es q ++ reads_of ds r) ∙ h

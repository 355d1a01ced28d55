-- A reset, a read or a write never raises RDRF. Assumes nothing.
use mathlib.Core.Path.{◌≡◌, sym, ◌∙◌}
use mathlib.Core.Bool.{Bool, true, false, cond}
use mathlib.Core.List.{List, [], ◌∷◌}
use Prim.Native.Nat.{ℕ, ◌*◌, ◌/◌, ◌%◌}
use lib.Dec.{eqb}
use Rattle.steps.specs.Bits.{merge}
use Rattle.sci.specs.model.Flags.{RAF, receive_flags, transmit_flags}
use Rattle.sci.specs.model.Status.{mark_seen}
use Rattle.sci.specs.model.Control.{RE, sccr0_bits}
use Rattle.sci.specs.claims.Line.{read_status}
use Rattle.sci.specs.model.Serial.{sccr1_word, data_written, wrote_sccr0, stopped, with_sccr1, wrote_sccr1, sccr0_guarded, sccr1_guarded}
use Rattle.sci.specs.claims.History.{Step, reads, writesSccr0, writesSccr1, step, run}
use Rattle.sci.specs.declared.status.Status.{Status}
use Rattle.sci.specs.declared.serial.Sci.{Sci}
use Rattle.sci.proofs.Flagged.{is_set, has_flag, set_fall, set_markSeen, fallSeen_clear}
use Rattle.sci.proofs.Frames.{by_cond}
use Rattle.sci.proofs.History.{run_append}
use Rattle.qsm.specs.model.Map.{decode}
use Rattle.qsm.specs.model.Lanes.{upper_lane, lower_lane, lined, touches}
use Rattle.qsm.specs.model.Access.{next}
use Rattle.qsm.specs.model.Decision.{permits, decide_write}
use Rattle.qsm.specs.declared.map.SerialWord.TheVariants.{Sccr0, Sccr1, Scsr, Scdr}
use Rattle.qsm.specs.declared.map.Place.{Place}
use Rattle.qsm.specs.declared.map.Place.TheVariants.{Own, Serial, Queue, Hole}
use Rattle.qsm.specs.declared.state.Module.{Module}
use Rattle.qsm.specs.declared.event.Access as bus
use Rattle.qsm.specs.declared.event.Access.TheVariants.{Read, Write}
use Rattle.qsm.specs.declared.event.Event.TheVariants as event
use Rattle.claims_histories.specs.History.{after, receiver_read}
use Rattle.claims_histories.proofs.Words.{word_steps, store_steps}
use Rattle.claims_histories.proofs.Follows.{write_steps, read_step, follows}
use Rattle.claims_words.proofs.Clocks.{full}

abbrev Clear : Status → Type 0
Clear s = is_set 6 s ≡ false

read_clear : (scsr scdr : Bool) (s : Status) → Clear s → Clear (read_status scsr scdr s)
read_clear true true s h = fallSeen_clear 6 (mark_seen s) receive_flags (set_markSeen 6 s ∙ h)
read_clear true false s h = set_markSeen 6 s ∙ h
read_clear false true s h = fallSeen_clear 6 s receive_flags h
read_clear false false s h = h

stopped_clear : (on : Bool) (s : Sci) → Clear s.status → Clear (stopped on s).status
stopped_clear true s h = h
stopped_clear false s h = set_fall 6 s.status RAF ∙ rw h

data_clear : (lower : Bool) (s : Sci) (v : ℕ) (upper : Bool) → Clear s.status → Clear (data_written lower s v upper).status
data_clear true s v upper h = fallSeen_clear 6 s.status transmit_flags h
data_clear false s v upper h = h

rate_clear : (s : Sci) (v : ℕ) (upper lower : Bool) → Clear s.status → Clear (step (writesSccr0 v upper lower) s).status
unfolding step wrote_sccr0
rate_clear s v upper lower h =
    by_cond (λ (t : Sci). Clear t.status) (sccr0_guarded s v upper lower) (λ _. h)
    (λ _. by_cond (λ (t : Sci). Clear t.status) (eqb (sccr0_bits (merge s.sccr0 v upper lower)) s.sccr0) (λ _. h) (λ _. h))

control_clear : (s : Sci) (v : ℕ) (upper lower : Bool) → Clear s.status → Clear (step (writesSccr1 v upper lower) s).status
unfolding step wrote_sccr1
control_clear s v upper lower h =
    by_cond (λ (t : Sci). Clear t.status) (sccr1_guarded s v upper lower) (λ _. h)
    (λ _. stopped_clear (RE (merge (sccr1_word s) v upper lower)) (with_sccr1 s (merge (sccr1_word s) v upper lower)) h)

word_clear : (p : Place) (v : ℕ) (upper lower : Bool) (s : Sci) → Clear s.status → Clear (run (word_steps p v upper lower) s).status
unfolding run step
word_clear (Own w) v upper lower s h = h
word_clear (Serial Sccr0) v upper lower s h = rate_clear s v upper lower h
word_clear (Serial Sccr1) v upper lower s h = control_clear s v upper lower h
word_clear (Serial Scsr) v upper lower s h = h
word_clear (Serial Scdr) v upper lower s h = data_clear lower s v upper h
word_clear (Queue w) v upper lower s h = h
word_clear Hole v upper lower s h = h

store_clear : (long : Bool) (at words : ℕ) (upper lower : Bool) (s : Sci) → Clear s.status →
    Clear (run (store_steps long at words upper lower) s).status
store_clear false at words upper lower s h = word_clear (decode at) (words / 65536) upper lower s h
store_clear true at words upper lower s h =
    rw (run_append (word_steps (decode at) (words / 65536) upper lower) (word_steps (decode (next at)) (words % 65536 * 65536 / 65536) upper lower) s)
    (word_clear (decode (next at)) (words % 65536 * 65536 / 65536) upper lower (run (word_steps (decode at) (words / 65536) upper lower) s)
    (word_clear (decode at) (words / 65536) upper lower s h))

cond_clear : (b : Bool) (es : List Step) (s : Sci) → Clear s.status → Clear (run es s).status → Clear (run (cond b es []) s).status
unfolding run
cond_clear true es s h g = g
cond_clear false es s h g = h

steps_clear : (scsr scdr : Bool) (s : Sci) → Clear s.status → Clear (run (reads scsr scdr ∷ []) s).status
unfolding run step
steps_clear scsr scdr s h = read_clear scsr scdr s.status h

accessed : (a : bus.Access) (m : Module) → Clear m.sci.status → Clear (after (event.Access a) m).sci.status
accessed (Read supervisor width offset) m h =
    rw (follows (event.Access (Read supervisor width offset)) m)
    (cond_clear (receiver_read m supervisor width offset) (read_step width offset ∷ []) m.sci h
    (steps_clear (touches 0x0C 2 width offset) (touches 0x0F 1 width offset) m.sci h))
accessed (Write supervisor width offset value) m h =
    rw (follows (event.Access (Write supervisor width offset value)) m)
    (cond_clear (permits (decide_write m supervisor width offset value)) (write_steps width offset value) m.sci h
    (store_clear (eqb width 4) offset (lined width value) (upper_lane width offset) (lower_lane width offset) m.sci h))

pub access_clear : (a : bus.Access) (m : Module) → full m.sci ≡ false → full (after (event.Access a) m).sci ≡ false
access_clear a m h =
    has_flag 6 (after (event.Access a) m).sci.status ∙ accessed a m (sym (has_flag 6 m.sci.status) ∙ h)

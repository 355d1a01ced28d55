-- The events of a replayed trace: none but a reset and a hold's clocks touches SCDR or its flags. Assumes nothing.
use mathlib.Core.Path.{◌≡◌, refl, ap, sym, ◌∙◌}
use mathlib.Core.Bool.{Bool, true, false, cond, ◌&&◌, true≢false}
use mathlib.Core.List.{List, [], ◌∷◌}
use Prim.Native.Nat.{ℕ, ◌*◌, ◌/◌, ◌%◌}
use lib.Dec.{eqb}
use Rattle.steps.specs.Bits.{merge}
use Rattle.sci.specs.model.Flags.{RAF, transmit_flags}
use Rattle.sci.specs.claims.Members.{member}
use Rattle.sci.specs.model.Status.{fall, fall_seen}
use Rattle.sci.specs.model.Control.{RE, sccr0_bits}
use Rattle.sci.specs.model.Serial.{sccr1_word, data_written, wrote_sccr0, stopped, with_sccr1, wrote_sccr1, sccr0_guarded, sccr1_guarded}
use Rattle.sci.specs.claims.History.{Step, writesSccr0, writesSccr1, step, run}
use Rattle.sci.specs.declared.serial.Sci.{Sci}
use Rattle.sci.proofs.Same.{same_loaded, outside_fall}
use Rattle.sci.proofs.Frames.{by_cond}
use Rattle.sci.proofs.History.{run_append}
use Rattle.qsm.specs.model.Map.{decode}
use Rattle.qsm.specs.model.State.{reset_module}
use Rattle.qsm.specs.model.Lanes.{upper_lane, lower_lane, lined, touches, in_map}
use Rattle.qsm.specs.model.Access.{next}
use Rattle.qsm.specs.model.Decision.{permits, shaped, barred, admitted, decide_read, decide_write}
use Rattle.qsm.specs.model.Event.{resets, does}
use Rattle.qsm.specs.declared.map.SerialWord.TheVariants.{Sccr0, Sccr1, Scsr, Scdr}
use Rattle.qsm.specs.declared.map.Place.{Place}
use Rattle.qsm.specs.declared.map.Place.TheVariants.{Own, Serial, Queue, Hole}
use Rattle.qsm.specs.declared.state.Module.{Module}
use Rattle.qsm.specs.declared.event.Access as bus
use Rattle.qsm.specs.declared.event.Access.TheVariants.{Read, Write}
use Rattle.qsm.specs.declared.event.Event.TheVariants.{Reset}
use Rattle.qsm.specs.declared.event.Event.TheVariants as event
use Rattle.claims_histories.specs.History.{after, receiver_read}
use Rattle.claims_histories.proofs.Words.{word_steps, store_steps}
use Rattle.claims_histories.proofs.Tested.{gate_shaped, gate_mapped}
use Rattle.claims_histories.proofs.Follows.{write_steps, read_step, follows, refuted, and_left, and_right, and_true}
use Rattle.tool_lines.specs.Schedule.{reaches}
use Rattle.claims_lines.specs.Happened.{event_happens}
use Rattle.claims_lines.proofs.Slots.{slot_of, slot_same, empty}

abbrev Kept : Sci → Sci → Type 0
Kept s t = slot_of t ≡ slot_of s

rate_kept : (s : Sci) (v : ℕ) (upper lower : Bool) → Kept s (step (writesSccr0 v upper lower) s)
unfolding step wrote_sccr0
rate_kept s v upper lower =
    by_cond (Kept s) (sccr0_guarded s v upper lower) (λ _. refl)
    (λ _. by_cond (Kept s) (eqb (sccr0_bits (merge s.sccr0 v upper lower)) s.sccr0) (λ _. refl) (λ _. refl))

stopped_kept : (on : Bool) (s : Sci) (w : ℕ) → Kept s (stopped on (with_sccr1 s w))
stopped_kept true s w = refl
stopped_kept false s w =
    sym (slot_same s.status (fall s.status RAF) (s.receiver.scdr % 512) (outside_fall s.status RAF refl))

control_kept : (s : Sci) (v : ℕ) (upper lower : Bool) → Kept s (step (writesSccr1 v upper lower) s)
unfolding step wrote_sccr1
control_kept s v upper lower =
    by_cond (Kept s) (sccr1_guarded s v upper lower) (λ _. refl)
    (λ _. stopped_kept (RE (merge (sccr1_word s) v upper lower)) s (merge (sccr1_word s) v upper lower))

data_kept : (lower : Bool) (s : Sci) (v : ℕ) (upper : Bool) → Kept s (data_written lower s v upper)
data_kept true s v upper =
    sym (slot_same s.status (fall_seen s.status transmit_flags) (s.receiver.scdr % 512) (same_loaded s.status))
data_kept false s v upper = refl

word_kept : (p : Place) (v : ℕ) (upper lower : Bool) (s : Sci) → Kept s (run (word_steps p v upper lower) s)
unfolding run step
word_kept (Own w) v upper lower s = refl
word_kept (Serial Sccr0) v upper lower s = rate_kept s v upper lower
word_kept (Serial Sccr1) v upper lower s = control_kept s v upper lower
word_kept (Serial Scsr) v upper lower s = refl
word_kept (Serial Scdr) v upper lower s = data_kept lower s v upper
word_kept (Queue w) v upper lower s = refl
word_kept Hole v upper lower s = refl

store_kept : (long : Bool) (at words : ℕ) (upper lower : Bool) (s : Sci) → Kept s (run (store_steps long at words upper lower) s)
store_kept false at words upper lower s = word_kept (decode at) (words / 65536) upper lower s
store_kept true at words upper lower s =
    let es : List Step = word_steps (decode at) (words / 65536) upper lower in
    let v : ℕ = words % 65536 * 65536 / 65536 in
    ap slot_of (run_append es (word_steps (decode (next at)) v upper lower) s)
    ∙ word_kept (decode (next at)) v upper lower (run es s) ∙ word_kept (decode at) (words / 65536) upper lower s

cond_kept : (b : Bool) (es : List Step) (s : Sci) → Kept s (run es s) → Kept s (run (cond b es []) s)
unfolding run
cond_kept true es s k = k
cond_kept false es s k = refl

pub write_kept : (supervisor : Bool) (width offset value : ℕ) (m : Module) →
    Kept m.sci (after (event.Access (Write supervisor width offset value)) m).sci
write_kept supervisor width offset value m =
    ap slot_of (follows (event.Access (Write supervisor width offset value)) m)
    ∙ cond_kept (permits (decide_write m supervisor width offset value)) (write_steps width offset value) m.sci
    (store_kept (eqb width 4) offset (lined width value) (upper_lane width offset) (lower_lane width offset) m.sci)

-- A read that would touch SCSR or SCDR stops the replay; others do nothing to them.
unread : (m : Module) (supervisor : Bool) (width offset : ℕ) → reaches (Read supervisor width offset) ≡ false →
    receiver_read m supervisor width offset ≡ false
unfolding decide_read admitted
unread m supervisor width offset e =
    refuted (receiver_read m supervisor width offset)
    (λ r.
    let p : permits (decide_read m supervisor width offset) ≡ true = and_left (permits (decide_read m supervisor width offset)) (touches 0x0C 4 width offset) r in
    let a : shaped width offset ≡ true = gate_shaped (shaped width offset) (in_map width offset) (barred m supervisor width offset) p in
    let b : in_map width offset ≡ true = gate_mapped (shaped width offset) (in_map width offset) (barred m supervisor width offset) p in
    let t : touches 0x0C 4 width offset ≡ true = and_right (permits (decide_read m supervisor width offset)) (touches 0x0C 4 width offset) r in
    true≢false (sym (and_true (shaped width offset && in_map width offset) (touches 0x0C 4 width offset) (and_true (shaped width offset) (in_map width offset) a b) t) ∙ e))

abbrev read_steps : Bool → ℕ → ℕ → List Step
read_steps b width offset = cond b (read_step width offset ∷ []) []

read_nothing : (b : Bool) (width offset : ℕ) (s : Sci) → b ≡ false → run (read_steps b width offset) s ≡ s
unfolding run
read_nothing true width offset s e = absurd (true≢false e)
read_nothing false width offset s e = refl

pub record Untouched (a : bus.Access) (m : Module) : Type 0 where
  pub slot : slot_of (after (event.Access a) m).sci ≡ slot_of m.sci
  pub none : event_happens (event.Access a) m ≡ []

pub untouched : (a : bus.Access) (m : Module) → reaches a ≡ false → Untouched a m
untouched (Read supervisor width offset) m e =
    let u : receiver_read m supervisor width offset ≡ false = unread m supervisor width offset e in
    record {
      slot =
          ap slot_of
          (follows (event.Access (Read supervisor width offset)) m
          ∙ read_nothing (receiver_read m supervisor width offset) width offset m.sci u);
      none = rw u;
    }
untouched (Write supervisor width offset value) m e =
    record { slot = write_kept supervisor width offset value m; none = refl }

pub reset_slot : (m : Module) → slot_of (after Reset m).sci ≡ empty 0
unfolding does resets reset_module member
reset_slot m = refl

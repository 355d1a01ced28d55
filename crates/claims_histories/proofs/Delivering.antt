-- Demand 3: a word that is delivered is the last that came in.
use mathlib.Core.Path.{◌≡◌, refl, ap, sym, subst, ◌∙◌}
use mathlib.Core.Bool.{Bool, true, false, cond, not, ◌&&◌, ◌||◌, false≢true}
use mathlib.Core.List.{List, [], ◌∷◌, ◌++◌}
use mathlib.Core.Option.{Option, none, some}
use Prim.Native.Nat.{ℕ, ◌%◌}
use lib.Dec.{eqb}
use Rattle.steps.specs.Bits.{merge}
use Rattle.sci.specs.model.Flags.{RDRF, receive_flags}
use Rattle.sci.specs.model.Status.{has, mark_seen, fall_seen}
use Rattle.sci.specs.model.Control.{RE, sccr0_bits}
use Rattle.sci.specs.model.Receiver.{outcome, received, receiver_after}
use Rattle.sci.specs.model.Transmitter.{sent}
use Rattle.sci.specs.claims.Line.{read_status, fresh_if, delivers}
use Rattle.sci.specs.model.Serial.{reset_sci, active, due, sccr1_word, data_written, sccr0_set, wrote_sccr0, wrote_sccr1, sccr0_guarded, sccr1_guarded, stopped, with_sccr1}
use Rattle.sci.specs.claims.History.{Step, reset, clock, reads, writesSccr0, writesSccr1, writesScdr, step}
use Rattle.sci.specs.claims.Overrun.{Mark, word_delivered, taken_marks, sample_marks, look_marks, delivery_marks, step_marks}
use Rattle.sci.specs.claims.Overrun as marks
use Rattle.sci.specs.declared.status.Status.{Status}
use Rattle.sci.specs.declared.receiver.Outcome.{Outcome}
use Rattle.sci.specs.declared.serial.Sci.{Sci}
use Rattle.sci.proofs.Flagged.{is_set, has_flag, set_markSeen, set_fallSeen}
use Rattle.sci.proofs.Same.{same_sent}
use Rattle.sci.proofs.Alike.{rdrf_same}
use Rattle.sci.proofs.Rising.{rdrf_after}
use Rattle.sci.proofs.Reachable.{turned, clock_turned}
use Rattle.sci.proofs.Written.{Keeps, keeps_sccr0, keeps_sccr1, keeps_scdr}
use Rattle.qsm.specs.model.State.{reset_module}
use Rattle.claims_histories.specs.Demand3.{Delivered}
use Rattle.claims_histories.proofs.Lifted.{all, all_log, reset_serial}
use Rattle.claims_histories.proofs.LastCame.{waiting, Good, good_append, good_at, from, came_last}

-- ---- the serial half

-- While RDRF is set, the word that waits stands in SCDR.
abbrev Held : Option ℕ → Status → ℕ → Type 0
Held o s d = has s RDRF ≡ true → o ≡ some (d % 512)

record Goes (o : Option ℕ) (h : List Mark) (s : Status) (d : ℕ) : Type 0 where
  good : Good o h
  held : Held (waiting o h) s d

abbrev HeldIn : Option ℕ → Sci → Type 0
HeldIn o s = Held o s.status s.receiver.scdr

-- A sample.
or_not : (b : Bool) → b || false ≡ b
or_not true = refl
or_not false = refl

module _ (o : Option ℕ) (shift d : ℕ) (raises : Bool) (rdrf after : Bool) (held : rdrf ≡ true → o ≡ some (d % 512)) where
  abbrev After : Outcome → Type 0
  After r =
      let h : List Mark = taken_marks r raises shift in
      Good o h × (after ≡ true → waiting o h ≡ some (cond (r.taken && not r.lost) shift d % 512))

  after_sample : (taken lost : Bool) (r : Outcome) → r.taken ≡ taken → r.lost ≡ lost → after ≡ rdrf || (taken && not lost) → After r
  after_sample true true r t l is = rw (t, l) (tt, λ h. held (sym (or_not rdrf) ∙ sym is ∙ h))
  after_sample true false r t l is = rw (t, l) (tt, λ h. refl)
  after_sample false true r t l is = rw (t, l) (tt, λ h. held (sym (or_not rdrf) ∙ sym is ∙ h))
  after_sample false false r t l is = rw (t, l) (tt, λ h. held (sym (or_not rdrf) ∙ sym is ∙ h))

sample_goes : (s : Sci) (t : Status) (x : Bool) (o : Option ℕ) → Held o t s.receiver.scdr →
    Goes o (sample_marks s t x) (received s.receiver t s.sccr1 x).status (received s.receiver t s.sccr1 x).receiver.scdr
unfolding received receiver_after
sample_goes s t x o h =
    let r : Outcome = outcome s.receiver t s.sccr1 x in
    let g =
    after_sample o s.receiver.framer.shift s.receiver.scdr _ (has t RDRF) _ h r.taken r.lost r refl refl
    (has_flag 6 (received s.receiver t s.sccr1 x).status ∙ rdrf_after t r _ _ _ ∙ ap (λ (b : Bool). b || (r.taken && not r.lost)) (sym (has_flag 6 t))) in
    record { good = g.0; held = g.1 }

same_held : (s t : Status) (o : Option ℕ) (d : ℕ) → has s RDRF ≡ has t RDRF → Held o s d → Held o t d
same_held s t o d e h k = h (e ∙ k)

turned_goes : (a d on : Bool) (s : Sci) (x : Bool) (o : Option ℕ) → HeldIn o s →
    Goes o (cond (a && d && on) (sample_marks s (sent s.transmitter s.status s.sccr1).status x) []) (turned a d on s x).status
    (turned a d on s x).receiver.scdr
turned_goes true true true s x o h =
    let t : Status = (sent s.transmitter s.status s.sccr1).status in
    sample_goes s t x o (same_held s.status t o s.receiver.scdr (rdrf_same s.status t (same_sent s.transmitter s.status s.sccr1)) h)
turned_goes true true false s x o h =
    let t : Status = (sent s.transmitter s.status s.sccr1).status in
    record { good = tt; held = same_held s.status t o s.receiver.scdr (rdrf_same s.status t (same_sent s.transmitter s.status s.sccr1)) h }
turned_goes true false on s x o h = record { good = tt; held = h }
turned_goes false d on s x o h = record { good = tt; held = h }

-- A read: RDRF doesn't rise.
and_first : (a b : Bool) → a && b ≡ true → a ≡ true
and_first true b h = refl
and_first false b h = h

looked_rdrf : (s : Status) → has (mark_seen s) RDRF ≡ has s RDRF
looked_rdrf s = has_flag 6 (mark_seen s) ∙ set_markSeen 6 s ∙ sym (has_flag 6 s)

fetched_rdrf : (s : Status) → has (fall_seen s receive_flags) RDRF ≡ true → has s RDRF ≡ true
fetched_rdrf s h =
    has_flag 6 s
    ∙ and_first (is_set 6 s) _ (sym (set_fallSeen 6 s receive_flags) ∙ sym (has_flag 6 (fall_seen s receive_flags)) ∙ h)

no_rise : (scsr scdr : Bool) (s : Status) → has (read_status scsr scdr s) RDRF ≡ true → has s RDRF ≡ true
no_rise true true s h = sym (looked_rdrf s) ∙ fetched_rdrf (mark_seen s) h
no_rise true false s h = sym (looked_rdrf s) ∙ h
no_rise false true s h = fetched_rdrf s h
no_rise false false s h = h

fresh_goes : (before after : Bool) (o : Option ℕ) (d : ℕ) → (before ≡ true → o ≡ some (d % 512)) → (after ≡ true → before ≡ true) →
    let h : List Mark = delivery_marks (fresh_if (before && not after) d) in
    Good o h × (after ≡ true → waiting o h ≡ some (d % 512))
fresh_goes true true o d h k = (tt, h)
fresh_goes true false o d h k = ((h refl, tt), λ e. absurd (false≢true e))
fresh_goes false true o d h k = (tt, λ e. h (k e))
fresh_goes false false o d h k = (tt, λ e. absurd (false≢true e))

read_goes : (scsr scdr : Bool) (s : Status) (d : ℕ) (o : Option ℕ) → Held o s d →
    Goes o (look_marks scsr ++ delivery_marks (fresh_if (has s RDRF && not (has (read_status scsr scdr s) RDRF)) d)) (read_status scsr scdr s) d
read_goes true scdr s d o h =
    let g = fresh_goes (has s RDRF) (has (read_status true scdr s) RDRF) o d h (no_rise true scdr s) in
    record { good = g.0; held = g.1 }
read_goes false scdr s d o h =
    let g = fresh_goes (has s RDRF) (has (read_status false scdr s) RDRF) o d h (no_rise false scdr s) in
    record { good = g.0; held = g.1 }

-- A write leaves SCDR's receiving side.
abbrev side : Sci → ℕ
side s = s.receiver.scdr

guarded_side : (b : Bool) (s t : Sci) → side t ≡ side s → side (cond b s t) ≡ side s
guarded_side true s t e = refl
guarded_side false s t e = e

set_side : (same : Bool) (s : Sci) (v : ℕ) → side (sccr0_set same s v) ≡ side s
set_side true s v = refl
set_side false s v = refl

stopped_side : (on : Bool) (s : Sci) → side (stopped on s) ≡ side s
stopped_side true s = refl
stopped_side false s = refl

loaded_side : (lower : Bool) (s : Sci) (v : ℕ) (upper : Bool) → side (data_written lower s v upper) ≡ side s
loaded_side true s v upper = refl
loaded_side false s v upper = refl

module _ (s : Sci) (v : ℕ) (upper lower : Bool) where
  wrote0_side : side (wrote_sccr0 s v upper lower) ≡ side s
  unfolding wrote_sccr0
  wrote0_side =
      let new : ℕ = sccr0_bits (merge s.sccr0 v upper lower) in
      set_side (eqb new s.sccr0) s new

  wrote1_side : side (wrote_sccr1 s v upper lower) ≡ side s
  unfolding wrote_sccr1
  wrote1_side =
      let new : ℕ = merge (sccr1_word s) v upper lower in
      stopped_side (RE new) (with_sccr1 s new)

  sccr0_side : side (step (writesSccr0 v upper lower) s) ≡ side s
  unfolding step
  sccr0_side = guarded_side (sccr0_guarded s v upper lower) s (wrote_sccr0 s v upper lower) wrote0_side

  sccr1_side : side (step (writesSccr1 v upper lower) s) ≡ side s
  unfolding step
  sccr1_side = guarded_side (sccr1_guarded s v upper lower) s (wrote_sccr1 s v upper lower) wrote1_side

  scdr_side : side (step (writesScdr v upper lower) s) ≡ side s
  unfolding step
  scdr_side = loaded_side lower s v upper

kept : (s t : Sci) (o : Option ℕ) → Keeps s t → side t ≡ side s → HeldIn o s → HeldIn o t
kept s t o k e h r = h (rdrf_same s.status t.status k.same ∙ r) ∙ ap (λ (d : ℕ). some (d % 512)) (sym e)

reset_held : HeldIn none reset_sci
unfolding has
reset_held h = absurd (false≢true h)

step_goes : (e : Step) (s : Sci) (o : Option ℕ) → HeldIn o s → Goes o (step_marks e s) (step e s).status (side (step e s))
unfolding step delivers
step_goes reset s o h = record { good = tt; held = reset_held }
step_goes (clock x) s o h = rw (clock_turned s x) (turned_goes (active s) (due s) (RE s.sccr1) s x o h)
step_goes (reads scsr scdr) s o h = read_goes scsr scdr s.status (side s) o h
step_goes (writesSccr0 v upper lower) s o h =
    record { good = tt; held = kept s _ o (keeps_sccr0 s v upper lower) (sccr0_side s v upper lower) h }
step_goes (writesSccr1 v upper lower) s o h =
    record { good = tt; held = kept s _ o (keeps_sccr1 s v upper lower) (sccr1_side s v upper lower) h }
step_goes (writesScdr v upper lower) s o h =
    record { good = tt; held = kept s _ o (keeps_scdr s v upper lower) (scdr_side s v upper lower) h }

log_good : (es : List Step) (s : Sci) (o : Option ℕ) → HeldIn o s → Good o (marks.log es s)
unfolding marks.log
log_good [] s o h = tt
log_good (e ∷ es) s o h =
    let g = step_goes e s o h in
    good_append o (step_marks e s) (marks.log es (step e s)) g.good (log_good es (step e s) (waiting o (step_marks e s)) g.held)

-- ---- lists of events

pub delivered : Delivered
delivered es past rest word e =
    let good : Good none (marks.log (all es reset_module) reset_sci) = log_good (all es reset_module) reset_sci none reset_held in
    let is : marks.log (all es reset_module) reset_sci ≡ past ++ (word_delivered word ∷ rest) =
    ap (marks.log (all es reset_module)) (sym reset_serial) ∙ sym (all_log es reset_module) ∙ e in
    came_last past word (from none past word (good_at none past rest word (subst (Good none) is good)))

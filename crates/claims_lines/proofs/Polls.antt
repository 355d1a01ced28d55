-- A poll of the module: what it shows, what happens, and what it leaves of SCDR and its flags. Assumes nothing.
use mathlib.Core.Path.{◌≡◌, refl, ap, ◌∙◌}
use mathlib.Core.Bool.{Bool, true, false, not, ◌&&◌}
use mathlib.Core.List.{List, [], ◌∷◌, append-nil}
use mathlib.Core.Option.{Option, none, some}
use Prim.Native.Nat.{ℕ, ◌%◌}
use native.Mathlib.Nat.{zero-add}
use Rattle.steps.specs.Bits.{bit}
use Rattle.steps.specs.Iterate.{iterate}
use Rattle.sci.specs.claims.Members.{member}
use Rattle.sci.specs.claims.Line.{fresh_if}
use Rattle.sci.specs.claims.History.{Step, reads, step}
use Rattle.sci.specs.claims.History as sci
use Rattle.sci.proofs.Flagged.{is_set, has_flag, set_markSeen}
use Rattle.qsm.specs.model.Map.{decode}
use Rattle.qsm.specs.model.Serial.{peek_serial}
use Rattle.qsm.specs.model.Word.{peek}
use Rattle.qsm.specs.model.Lanes.{in_map}
use Rattle.qsm.specs.model.Access.{fetch, fetched}
use Rattle.qsm.specs.model.Decision.{admitted, decide_read}
use Rattle.qsm.specs.model.Event.{read_value, does}
use Rattle.qsm.specs.model.Event as events
use Rattle.qsm.specs.claims.StatusFlags.{SCI, read_at, status}
use Rattle.qsm.specs.declared.state.Module.{Module}
use Rattle.qsm.proofs.StatusFlags.{scsr_bit}
use Rattle.claims_histories.specs.History.{after, fresh_word}
use Rattle.claims_histories.proofs.Follows.{steps, follows}
use Rattle.tool_lines.specs.Poll.{status_read, data_read, calls, poll_events, looked, polled}
use Rattle.claims_polling.proofs.Full.{polled_at}
use Rattle.claims_lines.specs.Happened.{Damage, delivery, event_happens, happened}
use Rattle.claims_lines.specs.Happened as happening
use Rattle.claims_lines.proofs.Slots.{Slot, slot_of, empty, holding}
use Rattle.claims_lines.proofs.Gathering.{Shows}

-- What the reads give.
scdr_read : (m : Module) → read_at m 2 0x0E ≡ m.sci.receiver.scdr % 512
unfolding does events.reads decide_read admitted in_map decode read_value fetched fetch iterate peek peek_serial
scdr_read m = zero-add _

status_bit : (k : ℕ) (m : Module) → bit k 511 ≡ true → bit k (status m SCI) ≡ is_set k m.sci.status
unfolding member
status_bit k m h = scsr_bit k m h

-- Their steps.
status_steps : (m : Module) → steps status_read m ≡ reads true false ∷ []
unfolding decide_read admitted in_map decode
status_steps m = refl

data_steps : (m : Module) → steps data_read m ≡ reads false true ∷ []
unfolding decide_read admitted in_map decode
data_steps m = refl

looked_sci : (m : Module) → (after status_read m).sci ≡ step (reads true false) m.sci
unfolding sci.run
looked_sci m = follows status_read m ∙ ap (λ (es : List Step). sci.run es m.sci) (status_steps m)

taken_sci : (m : Module) → (after data_read m).sci ≡ step (reads false true) m.sci
unfolding sci.run
taken_sci m = follows data_read m ∙ ap (λ (es : List Step). sci.run es m.sci) (data_steps m)

looked_slot : (m : Module) → slot_of (after status_read m).sci ≡ slot_of m.sci
unfolding step
looked_slot m =
    ap slot_of (looked_sci m)
    ∙ rw (set_markSeen 6 m.sci.status, set_markSeen 3 m.sci.status, set_markSeen 1 m.sci.status, set_markSeen 0 m.sci.status, set_markSeen 2 m.sci.status)

-- Status, then data: every receive flag falls.
both_slot : (m : Module) → slot_of (after data_read (after status_read m)).sci ≡ empty (m.sci.receiver.scdr % 512)
unfolding step member
both_slot m =
    ap slot_of (taken_sci (after status_read m) ∙ ap (step (reads false true)) (looked_sci m))
    ∙ rw (polled_at 6 m.sci.status refl, polled_at 3 m.sci.status refl, polled_at 1 m.sci.status refl, polled_at 0 m.sci.status refl, polled_at 2 m.sci.status refl)

-- What happens at them.
status_happens : (m : Module) → event_happens status_read m ≡ happening.status_read ∷ delivery (fresh_word m (after status_read m))
unfolding decide_read admitted in_map decode
status_happens m = refl

data_happens : (m : Module) → event_happens data_read m ≡ delivery (fresh_word m (after data_read m))
unfolding decide_read admitted in_map decode
data_happens m = refl

abbrev rdrf_of : Module → Bool
rdrf_of m = (slot_of m.sci).rdrf

fresh_by_holds : (m n : Module) → fresh_word m n ≡ fresh_if (rdrf_of m && not (rdrf_of n)) m.sci.receiver.scdr
fresh_by_holds m n = rw (has_flag 6 m.sci.status, has_flag 6 n.sci.status)

kept_fresh : (b : Bool) (w : ℕ) → fresh_if (b && not b) w ≡ none
kept_fresh true w = refl
kept_fresh false w = refl

status_fresh : (m : Module) → fresh_word m (after status_read m) ≡ none
status_fresh m =
    fresh_by_holds m (after status_read m)
    ∙ rw (ap (λ (v : Slot). v.rdrf) (looked_slot m)) (kept_fresh (rdrf_of m) m.sci.receiver.scdr)

status_only : (m : Module) → event_happens status_read m ≡ happening.status_read ∷ []
status_only m = status_happens m ∙ ap (λ (w : Option ℕ). happening.status_read ∷ delivery w) (status_fresh m)

data_fresh : (m : Module) → rdrf_of m ≡ true →
    fresh_word (after status_read m) (after data_read (after status_read m)) ≡ some (slot_of m.sci).word
data_fresh m e =
    fresh_by_holds (after status_read m) (after data_read (after status_read m))
    ∙ rw (ap (λ (v : Slot). v.rdrf) (looked_slot m) ∙ e, ap (λ (v : Slot). v.rdrf) (both_slot m))
    (ap some (ap (λ (v : Slot). v.word) (looked_slot m)))

data_delivers : (m : Module) → rdrf_of m ≡ true → event_happens data_read (after status_read m) ≡ happening.word_delivered (slot_of m.sci).word ∷ []
data_delivers m e = data_happens (after status_read m) ∙ ap delivery (data_fresh m e)

-- Nothing waits.
module _ (m : Module) (u : ℕ) (e : slot_of m.sci ≡ empty u) where
  quiet_calls : calls (status m SCI) ≡ false
  quiet_calls =
      rw (status_bit 6 m refl, status_bit 3 m refl, ap (λ (v : Slot). v.rdrf) e, ap (λ (v : Slot). v.or) e)

  pub quiet_polled : polled m ≡ record { state = looked m; status = status m SCI; word = 0 }
  unfolding polled
  quiet_polled = rw quiet_calls

  pub quiet_events : poll_events m ≡ status_read ∷ []
  quiet_events = rw quiet_calls

  pub quiet_happened : happened (status_read ∷ []) m ≡ happening.status_read ∷ []
  unfolding happened
  quiet_happened = append-nil (event_happens status_read m) ∙ status_only m

  pub quiet_slot : slot_of (looked m).sci ≡ empty u
  quiet_slot = looked_slot m ∙ e

  pub quiet_shows : (bit 6 (status m SCI) ≡ false) × (bit 3 (status m SCI) ≡ false)
  quiet_shows = (status_bit 6 m refl ∙ ap (λ (v : Slot). v.rdrf) e, status_bit 3 m refl ∙ ap (λ (v : Slot). v.or) e)

-- A word waits.
module _ (m : Module) (w : ℕ) (d : Damage) (over : Bool) (e : slot_of m.sci ≡ holding w d over) where
  word_calls : calls (status m SCI) ≡ true
  word_calls = rw (status_bit 6 m refl, ap (λ (v : Slot). v.rdrf) e)

  word_read : read_at (looked m) 2 0x0E ≡ w
  word_read = scdr_read (looked m) ∙ ap (λ (v : Slot). v.word) (looked_slot m ∙ e)

  pub word_polled : polled m ≡ record { state = after data_read (looked m); status = status m SCI; word = w }
  unfolding polled
  word_polled = rw (word_calls, word_read)

  pub word_events : poll_events m ≡ status_read ∷ (data_read ∷ [])
  word_events = rw word_calls

  pub word_happened : happened (status_read ∷ (data_read ∷ [])) m ≡ happening.status_read ∷ (happening.word_delivered w ∷ [])
  unfolding happened
  word_happened =
      rw (status_only m, append-nil (event_happens data_read (after status_read m)), data_delivers m (ap (λ (v : Slot). v.rdrf) e), ap (λ (v : Slot). v.word) e)

  pub word_slot : slot_of (after data_read (looked m)).sci ≡ empty w
  word_slot = both_slot m ∙ ap (λ (v : Slot). empty v.word) e

  pub word_shows : Shows (status m SCI) d over
  word_shows =
      record {
        rdrf = status_bit 6 m refl ∙ ap (λ (v : Slot). v.rdrf) e;
        or = status_bit 3 m refl ∙ ap (λ (v : Slot). v.or) e;
        fe = status_bit 1 m refl ∙ ap (λ (v : Slot). v.damage.fe) e;
        pf = status_bit 0 m refl ∙ ap (λ (v : Slot). v.damage.pf) e;
        nf = status_bit 2 m refl ∙ ap (λ (v : Slot). v.damage.nf) e;
      }

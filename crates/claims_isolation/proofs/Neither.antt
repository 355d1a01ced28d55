-- Neither sees the other: the two histories stay alike, and what the other driver reads is not masked. Assumes nothing.
use mathlib.Core.Path.{◌≡◌, refl, sym, ap, subst, ◌∙◌}
use mathlib.Core.Bool.{Bool, true, false, cond, not, ◌&&◌, false≢true}
use mathlib.Core.List.{List, [], ◌∷◌}
use Prim.Native.Nat.{ℕ, ◌%◌, ◌<◌}
use native.Mathlib.Omega.{arith}
use lib.Dec.{eqb}
use Rattle.sci.proofs.Membership.{and_left, and_right}
use Rattle.qspi.specs.declared.Qspi.{Qspi}
use Rattle.qsm.specs.model.Decision.{shaped, fits, permits, admitted}
use Rattle.qsm.specs.model.Event as model
use Rattle.qsm.specs.declared.state.Module.{Module}
use Rattle.qsm.specs.declared.event.Access as access
use Rattle.qsm.specs.declared.event.Access.TheVariants.{Read, Write}
use Rattle.qsm.specs.declared.event.Event.TheVariants as event
use Rattle.drivers.specs.State.{other, number_of, owns, begun}
use Rattle.drivers.specs.Reach.{reaches, writes, allows, admits}
use Rattle.drivers.specs.Event.{told, played, with_holder, refuses, step}
use Rattle.drivers.specs.Event as drivers
use Rattle.drivers.specs.declared.state.Driver.{Driver}
use Rattle.drivers.specs.declared.state.Driver.TheVariants.{Axis, Spindle}
use Rattle.drivers.specs.declared.state.Shared.{Shared}
use Rattle.drivers.specs.declared.event.Event.{Event}
use Rattle.drivers.specs.declared.event.Event.TheVariants.{Reset, Hold, Access, Drive, Claim, Release}
use Rattle.claims_isolation.specs.Running.{entry_runs, running_entry, runs_one_of}
use Rattle.claims_isolation.specs.Twins.{to_transmit, HeldAlike, Twin, Twins, is_of, Agree, Answered, NeitherSees}
use Rattle.claims_isolation.proofs.Held.{Alike, itself, hold_alike}
use Rattle.claims_isolation.proofs.Writes.{write_value, Hidden, write_left, back}
use Rattle.claims_isolation.proofs.Values.{value_read}
use Rattle.claims_isolation.proofs.Reached.{one_owner, reads_readable, writes_hidden}
use Rattle.claims_isolation.proofs.Steps.{sharing, SharedAlike, SteppedAlike, refuses_same, played_alike, same_event}

-- What is not refused 9 and is admitted is allowed.
allowed : (admits allows : Bool) → admits && not allows ≡ false → admits ≡ true → allows ≡ true
allowed true true h e = refl
allowed true false h e = absurd (false≢true (sym h))
allowed false allows h e = absurd (false≢true e)

-- ---- words of the one driver

-- A write of `who` to transmit words changes nothing that shows, whatever becomes of it.
module _ (who : Driver) (d : Shared) (supervisor : Bool) (width offset value : ℕ) (t : to_transmit width offset ≡ true) where
  abbrev written : Event
  written = Drive who (Write supervisor width offset value)

  hidden_if : refuses d written ≡ false →
      permits (admitted d.qsm (shaped width offset && fits width value) supervisor width offset) ≡ true →
      Hidden (owns d.split who) width offset
  unfolding refuses allows admits
  hidden_if unrefused admitted =
      let may : (begun d && reaches d who width offset) && writes d who width offset value ≡ true = allowed _ _ unrefused admitted in
      let reached : begun d && reaches d who width offset ≡ true = and_left _ _ may in
      writes_hidden who d width offset (and_left _ _ reached) t (and_right (begun d) _ reached)

  write_shows : (n : Module) → Alike (owns d.split who) d.qsm n → (refused : Bool) → refuses d written ≡ refused →
      Alike (owns d.split who) (cond refused (told d 9) (drivers.does d written)).state.qsm n
  unfolding told drivers.does played model.step model.does
  write_shows n a true e = a
  write_shows n a false e =
      write_left (owns d.split who) d.qsm n supervisor width offset value (hidden_if e) a

  keeps : (refused : Bool) →
      ((cond refused (told d 9) (drivers.does d written)).state.split ≡ d.split)
      × ((cond refused (told d 9) (drivers.does d written)).state.holder ≡ d.holder)
  unfolding told drivers.does played
  keeps true = (refl, refl)
  keeps false = (refl, refl)

-- So the two may write different words there.
words_alike : (who : Driver) (d : Shared) (n : Module) (supervisor : Bool) (width offset value value' : ℕ) → to_transmit width offset ≡ true →
    Alike (owns d.split who) d.qsm n →
    SharedAlike who (step d (Drive who (Write supervisor width offset value))).state
    (step (sharing d n) (Drive who (Write supervisor width offset value'))).state
unfolding step
words_alike who d n supervisor width offset value value' t a =
    let entries : ℕ → Bool = owns d.split who in
    let e : Event = Drive who (Write supervisor width offset value) in
    let e' : Event = Drive who (Write supervisor width offset value') in
    let left : Shared = (step d e).state in
    let right : Shared = (step (sharing d n) e').state in
    let first : Alike entries left.qsm n = write_shows who d supervisor width offset value t n a (refuses d e) refl in
    let second : Alike entries right.qsm left.qsm =
    write_shows who (sharing d n) supervisor width offset value' t left.qsm (back entries left.qsm n first) (refuses (sharing d n) e') refl in
    let ours : (left.split ≡ d.split) × (left.holder ≡ d.holder) = keeps who d supervisor width offset value t (refuses d e) in
    let theirs : (right.split ≡ d.split) × (right.holder ≡ d.holder) =
    keeps who (sharing d n) supervisor width offset value' t (refuses (sharing d n) e') in
    record {
      qsm = right.qsm;
      is =
          ap (λ s. record { qsm = right.qsm; split = s; holder = right.holder }) (theirs.0 ∙ sym ours.0)
          ∙ ap (λ h. record { qsm = right.qsm; split = left.split; holder = h }) (theirs.1 ∙ sym ours.1);
      alike = subst (λ s. Alike (owns s who) left.qsm right.qsm) (sym ours.0) (back entries right.qsm left.qsm second);
    }

-- ---- MISO in the clocks of the one driver's entries

sixteen : (plays pending : Bool) (a b : ℕ) → cond plays (a % 16) (cond pending (b % 16) (a % 16)) < 16
sixteen true pending a b = omega arith
sixteen false true a b = omega arith
sixteen false false a b = omega arith

pub one_of_entries : (q : Qspi) → running_entry q < 16
one_of_entries q = sixteen q.entry.playing q.next.pending q.next.pointer q.registers.spcr2

runs_foreign : (who : Driver) (s : ℕ) (q : Qspi) → runs_one_of (λ e. not (owns s who e)) q ≡ true → runs_one_of (owns s (other who)) q ≡ true
runs_foreign who s q h =
    ap (λ b. entry_runs q && b)
    (one_owner who s (running_entry q) (one_of_entries q))
    ∙ h

levels_alike : (who : Driver) (d : Shared) (n : Module) (pins pins' : ℕ) (rxd : Bool) (k : ℕ) → HeldAlike who d pins pins' rxd k →
    Alike (owns d.split who) d.qsm n →
    SharedAlike who (step d (Hold pins rxd k)).state (step (sharing d n) (Hold pins' rxd k)).state
unfolding step refuses drivers.does model.does
levels_alike who d n pins pins' rxd k h a =
    (played_alike who d n (event.Hold pins rxd k) (event.Hold pins' rxd k)
    (hold_alike (owns d.split who) d.qsm n pins pins' rxd k a h.others
    (λ i less runs. h.miso i less (runs_foreign who d.split (model.clocks (model.held d.qsm pins) rxd i).qspi runs)))
    ).state

-- ---- both histories

twin_state : (who : Driver) (d : Shared) (n : Module) (e e' : Event) → Twin who d e e' → Alike (owns d.split who) d.qsm n →
    SharedAlike who (step d e).state (step (sharing d n) e').state
twin_state who d n e e' (Twin.same x) a = (same_event who d n a x).state
twin_state who d n e e' (Twin.words supervisor width offset value value' t) a = words_alike who d n supervisor width offset value value' t a
twin_state who d n e e' (Twin.levels pins pins' rxd k h) a = levels_alike who d n pins pins' rxd k h a

-- ---- the other driver's answers

other_one : (who by : Driver) → eqb (number_of by) (number_of (other who)) ≡ true → by ≡ other who
other_one Axis Axis h = absurd (false≢true h)
other_one Axis Spindle h = refl
other_one Spindle Axis h = refl
other_one Spindle Spindle h = absurd (false≢true h)

not_other : (who : Driver) → eqb (number_of who) (number_of (other who)) ≡ true → ⊥
not_other Axis h = false≢true h
not_other Spindle h = false≢true h

module _ (who : Driver) (d : Shared) (n : Module) (a : Alike (owns d.split who) d.qsm n) where
  value_access : (x : access.Access) → refuses d (Drive (other who) x) ≡ false →
      (model.does d.qsm (event.Access x)).value ≡ (model.does n (event.Access x)).value
  unfolding model.does refuses allows admits
  value_access (Read supervisor width offset) unrefused =
      value_read (owns d.split who) d.qsm n supervisor width offset
      (λ permitted.
      let may : begun d && reaches d (other who) width offset ≡ true = allowed _ _ unrefused permitted in
      reads_readable who d width offset (and_left _ _ may) (and_right (begun d) _ may))
      a
  value_access (Write supervisor width offset value) unrefused =
      write_value d.qsm supervisor width offset value ∙ sym (write_value n supervisor width offset value)

  value_drive : (x : access.Access) (refused : Bool) → refuses d (Drive (other who) x) ≡ refused →
      (cond refused (told d 9) (drivers.does d (Drive (other who) x))).answer.value
      ≡ (cond refused (told (sharing d n) 9) (drivers.does (sharing d n) (Drive (other who) x))).answer.value
  unfolding told drivers.does played model.step model.answer_of
  value_drive x true e = refl
  value_drive x false e = value_access x e

  drive_value : (x : access.Access) → (step d (Drive (other who) x)).answer.value ≡ (step (sharing d n) (Drive (other who) x)).answer.value
  unfolding step
  drive_value x =
      rw (← refuses_same (owns d.split who) d n (Drive (other who) x) a)
      (value_drive x (refuses d (Drive (other who) x)) refl)

-- A claim and a release give no value either.
told_value : (refused : Bool) (c d : Shared) (r : ℕ) → (cond refused (told c 9) (told d r)).answer.value ≡ 0
unfolding told model.answer_of
told_value true c d r = refl
told_value false c d r = refl

claim_value : (d : Shared) (by : Driver) → (step d (Claim by)).answer.value ≡ 0
unfolding step drivers.does
claim_value d by = told_value (refuses d (Claim by)) d (with_holder d (number_of by)) 0

release_value : (d : Shared) (by : Driver) → (step d (Release by)).answer.value ≡ 0
unfolding step drivers.does
release_value d by = told_value (refuses d (Release by)) d (with_holder d 0) 0

-- Every answer to the other driver.
module _ (who : Driver) (d : Shared) (n : Module) (a : Alike (owns d.split who) d.qsm n) where
  agree : (e : Event) → (step d e).answer.value ≡ (step (sharing d n) e).answer.value →
      Agree (step d e).answer (step (sharing d n) e).answer
  agree e value =
      let s : SteppedAlike who (step d e) (step (sharing d n) e) = same_event who d n a e in
      record { refusal = s.refusal; value = value; level = s.level; vector = s.vector; clock = s.clock }

  event_agrees : (e : Event) → is_of (other who) e ≡ true → Agree (step d e).answer (step (sharing d n) e).answer
  event_agrees (Reset s) h = absurd (false≢true h)
  event_agrees (Hold pins rxd k) h = absurd (false≢true h)
  event_agrees (Access x) h = absurd (false≢true h)
  event_agrees (Drive by x) h =
      agree (Drive by x)
      (subst (λ w. (step d (Drive w x)).answer.value ≡ (step (sharing d n) (Drive w x)).answer.value) (sym (other_one who by h))
      (drive_value who d n a x))
  event_agrees (Claim by) h = agree (Claim by) (claim_value d by ∙ sym (claim_value (sharing d n) by))
  event_agrees (Release by) h = agree (Release by) (release_value d by ∙ sym (release_value (sharing d n) by))

twin_agrees : (who : Driver) (d : Shared) (n : Module) (e e' : Event) → Twin who d e e' → Alike (owns d.split who) d.qsm n →
    is_of (other who) e ≡ true → Agree (step d e).answer (step (sharing d n) e').answer
twin_agrees who d n e e' (Twin.same x) a h = event_agrees who d n a x h
twin_agrees who d n e e' (Twin.words supervisor width offset value value' t) a h = absurd (not_other who h)
twin_agrees who d n e e' (Twin.levels pins pins' rxd k l) a h = absurd (false≢true h)

-- ---- the claim

histories_agree : (who : Driver) (es es' : List Event) (d : Shared) (n : Module) → Alike (owns d.split who) d.qsm n →
    Twins who d es es' → Answered (other who) d es (sharing d n) es'
histories_agree who [] [] d n a t = tt
histories_agree who [] (e' ∷ es') d n a t = absurd t
histories_agree who (e ∷ es) [] d n a t = absurd t
histories_agree who (e ∷ es) (e' ∷ es') d n a t =
    let s : SharedAlike who (step d e).state (step (sharing d n) e').state = twin_state who d n e e' t.0 a in (
      twin_agrees who d n e e' t.0 a,
      subst (λ r. Answered (other who) (step d e).state es r es') (sym s.is)
          (histories_agree who es es' (step d e).state s.qsm s.alike t.1),
    )

pub neither_sees : NeitherSees
neither_sees who d es es' t = histories_agree who es es' d d.qsm (itself (owns d.split who) d.qsm) t

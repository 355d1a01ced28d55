-- The accesses of a module on the wire of two serial halves, at the sender and at the receiver.
use mathlib.Core.Path.{◌≡◌, refl}
use mathlib.Core.List.{List, [], ◌∷◌}
use Rattle.sci.specs.model.Control.{RE, settings}
use Rattle.sci.specs.claims.History.{Step}
use Rattle.sci.specs.claims.History as half
use Rattle.sci.specs.claims.Wire.{Wired, Access, accessed, at_sender, at_receiver, steps, clocks_in, reads_of, Same, Unchanged, Rests}
use Rattle.sci.specs.claims.Wire as wire
use Rattle.sci.specs.declared.serial.Sci.{Sci}
use Rattle.qsm.specs.declared.state.Module.{Module}
use Rattle.qsm.specs.declared.event.Access as bus
use Rattle.qsm.specs.declared.event.Event.TheVariants as event
use Rattle.claims_histories.specs.History.{after}
use Rattle.claims_histories.specs.Demand2.{SameSettings, SameReception}
use Rattle.claims_histories.proofs.Words.{is_sccr1}
use Rattle.claims_histories.proofs.Follows as follow
use Rattle.claims_histories.proofs.Parts.{Along, event_along, set_part, on_part, asleep_part}
use Rattle.claims_histories.proofs.Given.{accessed_all, event_accesses, makes, rates, Kept, AlongBy, Mild, all_kept}

-- What the wire asks of an access: at the sender that the settings stay.
abbrev pub Set : Sci → Sci → Type 0
Set s r = settings r.sccr1 ≡ settings s.sccr1

set_mild : Mild Set
unfolding accessed
set_mild = record { status = λ s. refl; fetch = λ s. refl; write = λ v upper s. refl }

set_by : (es : List Step) (s : Sci) → Along (λ (r : Sci). settings r.sccr1) es s → AlongBy Set es s
set_by [] s h = tt
set_by (e ∷ es) s h = (h.0, set_by es (half.step e s) h.1)

pub sender_kept : (a : bus.Access) (m : Module) → SameSettings m (after (event.Access a) m) → Kept Set (makes a m) m.sci
sender_kept a m h =
    all_kept Set set_mild (follow.steps (event.Access a) m) m.sci (event_accesses a m) (rates a m h)
    (set_by (follow.steps (event.Access a) m) m.sci (event_along is_sccr1 (λ (s : Sci). settings s.sccr1) set_part a m h.set))

-- At the receiver RE and RWU too.
same_mild : Mild Same
unfolding accessed
same_mild =
    record {
      status = λ s. record { set = refl; on = refl; asleep = refl };
      fetch = λ s. record { set = refl; on = refl; asleep = refl };
      write = λ v upper s. record { set = refl; on = refl; asleep = refl };
    }

same_by : (es : List Step) (s : Sci) → Along (λ (r : Sci). settings r.sccr1) es s → Along (λ (r : Sci). RE r.sccr1) es s →
    Along (λ (r : Sci). r.receiver.asleep) es s → AlongBy Same es s
same_by [] s h i j = tt
same_by (e ∷ es) s h i j =
    (record { set = h.0; on = i.0; asleep = j.0 }, same_by es (half.step e s) h.1 i.1 j.1)

pub receiver_kept : (a : bus.Access) (m : Module) → SameReception m (after (event.Access a) m) → Kept Same (makes a m) m.sci
receiver_kept a m h =
    all_kept Same same_mild (follow.steps (event.Access a) m) m.sci (event_accesses a m) (rates a m h.same)
    (same_by (follow.steps (event.Access a) m) m.sci (event_along is_sccr1 (λ (s : Sci). settings s.sccr1) set_part a m h.same.set)
    (event_along is_sccr1 (λ (s : Sci). RE s.sccr1) on_part a m h.on)
    (event_along is_sccr1 (λ (s : Sci). s.receiver.asleep) asleep_part a m h.asleep))

-- Two halves, and accesses at either before more steps.
abbrev pub joined : Sci → Sci → Wired
joined s r = record { sender = s; receiver = r }

abbrev pub at_s : List Access → List wire.Step → List wire.Step
at_s [] fs = fs
at_s (a ∷ ks) fs = at_sender a ∷ at_s ks fs

abbrev pub at_r : List Access → List wire.Step → List wire.Step
at_r [] fs = fs
at_r (a ∷ ks) fs = at_receiver a ∷ at_r ks fs

pub sender_steps : (ks : List Access) (fs : List wire.Step) (s r : Sci) →
    steps (at_s ks fs) (joined s r) ≡ steps fs (joined (accessed_all ks s) r)
unfolding steps wire.step
sender_steps [] fs s r = refl
sender_steps (a ∷ ks) fs s r = sender_steps ks fs (accessed a s) r

pub receiver_steps : (ks : List Access) (fs : List wire.Step) (s r : Sci) →
    steps (at_r ks fs) (joined s r) ≡ steps fs (joined s (accessed_all ks r))
unfolding steps wire.step
receiver_steps [] fs s r = refl
receiver_steps (a ∷ ks) fs s r = receiver_steps ks fs s (accessed a r)

pub sender_unchanged : (ks : List Access) (fs : List wire.Step) (s r : Sci) → Kept Set ks s →
    Unchanged fs (joined (accessed_all ks s) r) → Unchanged (at_s ks fs) (joined s r)
unfolding Unchanged wire.step
sender_unchanged [] fs s r h u = u
sender_unchanged (a ∷ ks) fs s r h u = (h.0, sender_unchanged ks fs (accessed a s) r h.1 u)

pub receiver_unchanged : (ks : List Access) (fs : List wire.Step) (s r : Sci) → Kept Same ks r →
    Unchanged fs (joined s (accessed_all ks r)) → Unchanged (at_r ks fs) (joined s r)
unfolding Unchanged wire.step
receiver_unchanged [] fs s r h u = u
receiver_unchanged (a ∷ ks) fs s r h u = (h.0, receiver_unchanged ks fs s (accessed a r) h.1 u)

pub sender_rests_holds : (ks : List Access) (fs : List wire.Step) (s r : Sci) →
    Rests fs (joined (accessed_all ks s) r) → Rests (at_s ks fs) (joined s r)
unfolding Rests wire.step
sender_rests_holds [] fs s r u = u
sender_rests_holds (a ∷ ks) fs s r u = sender_rests_holds ks fs (accessed a s) r u

pub receiver_rests_holds : (ks : List Access) (fs : List wire.Step) (s r : Sci) →
    Rests fs (joined s (accessed_all ks r)) → Rests (at_r ks fs) (joined s r)
unfolding Rests wire.step
receiver_rests_holds [] fs s r u = u
receiver_rests_holds (a ∷ ks) fs s r u = receiver_rests_holds ks fs s (accessed a r) u

pub sender_clocks : (ks : List Access) (fs : List wire.Step) → clocks_in (at_s ks fs) ≡ clocks_in fs
unfolding clocks_in
sender_clocks [] fs = refl
sender_clocks (a ∷ ks) fs = sender_clocks ks fs

pub receiver_clocks : (ks : List Access) (fs : List wire.Step) → clocks_in (at_r ks fs) ≡ clocks_in fs
unfolding clocks_in
receiver_clocks [] fs = refl
receiver_clocks (a ∷ ks) fs = receiver_clocks ks fs

pub sender_reads : (ks : List Access) (fs : List wire.Step) → reads_of (at_s ks fs) ≡ reads_of fs
unfolding reads_of
sender_reads [] fs = refl
sender_reads (a ∷ ks) fs = sender_reads ks fs

pub rests_sender : (ks : List Access) (fs : List wire.Step) (s r : Sci) →
    Rests (at_s ks fs) (joined s r) → Rests fs (joined (accessed_all ks s) r)
unfolding Rests wire.step
rests_sender [] fs s r u = u
rests_sender (a ∷ ks) fs s r u = rests_sender ks fs (accessed a s) r u

pub rests_receiver : (ks : List Access) (fs : List wire.Step) (s r : Sci) →
    Rests (at_r ks fs) (joined s r) → Rests fs (joined s (accessed_all ks r))
unfolding Rests wire.step
rests_receiver [] fs s r u = u
rests_receiver (a ∷ ks) fs s r u = rests_receiver ks fs s (accessed a r) u

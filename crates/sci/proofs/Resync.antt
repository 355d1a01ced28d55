-- The first half of demand 3, of the receiver. Ones lead both receivers to the same state of their lines; the one compared with never has
-- a flag, as no frame ends in it; so they are alike.
use mathlib.Core.Path.{◌≡◌, refl, ap, sym, subst, ◌∙◌}
use mathlib.Core.Bool.{Bool, true, false, not, ◌&&◌, ◌||◌, and-false, true≢false}
use mathlib.Core.List.{List, [], ◌∷◌}
use Prim.Native.Nat.{ℕ, ◌+◌, ◌≤◌}
use native.Mathlib.Omega.{arith}
use Rattle.sci.specs.model.Flags.{flag, receive_flags, contains, common, RDRF, RAF}
use Rattle.sci.specs.claims.Members.{member}
use Rattle.sci.specs.model.Status.{has, raise_if, fall, mark_seen, fall_seen}
use Rattle.sci.specs.model.Control.{PT, PE, M, bits_of, settings}
use Rattle.sci.specs.model.Framer.{searching, ends, frame_of, fixed, framed}
use Rattle.sci.specs.model.Bits.{parity_bit}
use Rattle.sci.specs.model.Receiver.{three, takes, full, outcome, entered, status_after, receiver_after, received}
use Rattle.sci.specs.claims.Line.{Op, sample, read, act, acts, read_status, shown, no_flag, Ones, samples_in, resync_samples}
use Rattle.sci.specs.claims.Sound.{Sound}
use Rattle.sci.specs.claims.Alike.{Same, line, Alike}
use Rattle.sci.specs.claims.Resync.{Started, Quiet, Waited, Resynchronised}
use Rattle.sci.specs.declared.status.Status.{Status}
use Rattle.sci.specs.declared.framer.Frame.{Frame}
use Rattle.sci.specs.declared.framer.Framer.{Framer}
use Rattle.sci.specs.declared.receiver.Receiver.{Receiver}
use Rattle.sci.specs.declared.receiver.Outcome.{Outcome}
use Rattle.sci.specs.declared.receiver.Received.{Received}
use Rattle.sci.proofs.Flagged.{is_set, is_marked, has_flag}
use Rattle.sci.proofs.Marks.{at, all}
use Rattle.sci.proofs.Same.{same_from, same_read, outside_fallIf, none_set, none_marked}
use Rattle.sci.proofs.Settings.{same_bits}
use Rattle.sci.proofs.Alike.{alike_watch}
use Rattle.sci.proofs.Sound.{sound_start, sound_acts}
use Rattle.sci.proofs.Progress.{progress_start, progress_acts, settled, settles}

few : (m : Bool) → bits_of m ≤ 9
few true = omega arith
few false = omega arith

-- No receive flag, set or seen.
pub record Clear (s : Status) : Type 0 where
  pub unset : shown s ≡ no_flag
  pub unseen : common s.seen receive_flags ≡ no_flag

pub clear_same : (s t : Status) → Clear s → Clear t → Same s t
clear_same s t c d = record { flags = c.unset ∙ sym d.unset; seen = c.unseen ∙ sym d.unseen }

pub same_clear : (s t : Status) → Same s t → Clear s → Clear t
same_clear s t e c = record { unset = sym e.flags ∙ c.unset; unseen = sym e.seen ∙ c.unseen }

nothing : Status
nothing = record { flags = flag 0; seen = flag 0 }

-- A read changes nothing then.
read_nothing : (scsr scdr : Bool) → Clear (read_status scsr scdr nothing)
unfolding nothing mark_seen fall_seen fall
read_nothing true true = record { unset = refl; unseen = refl }
read_nothing true false = record { unset = refl; unseen = refl }
read_nothing false true = record { unset = refl; unseen = refl }
read_nothing false false = record { unset = refl; unseen = refl }

clear_nothing : Clear nothing
unfolding nothing
clear_nothing = record { unset = refl; unseen = refl }

pub clear_read : (scsr scdr : Bool) (s : Status) → Clear s → Clear (read_status scsr scdr s)
clear_read scsr scdr s c =
    same_clear (read_status scsr scdr nothing) (read_status scsr scdr s)
    (same_read scsr scdr nothing s (clear_same nothing s clear_nothing c)) (read_nothing scsr scdr)

-- The receiver compared with, while it gets ones: no frame runs or has entered, and no flag rises.
record Waiting (p : Received) : Type 0 where
  framer : p.receiver.framer ≡ searching
  since : p.receiver.since ≡ false
  clear : Clear p.status

calm_status : (s : Status) (o : Outcome) (f : Frame) (bad idles : Bool) → o.begun ≡ false → o.taken ≡ false → o.lost ≡ false →
    idles ≡ false → Same s (status_after s o f bad idles)
unfolding status_after raise_if entered
calm_status s o f bad idles b t l i = rw (b, t, l, i) (outside_fallIf (o.abandoned || o.reached) s RAF refl)

still_searching : (n : ℕ) (three : Bool) → framed n searching three true ≡ searching
unfolding framed fixed
still_searching n true = refl
still_searching n false = refl

calm_since : (reached taken lost since : Bool) → taken ≡ false → since ≡ false → not reached && (taken && not lost || since) ≡ false
calm_since true taken lost since t e = refl
calm_since false taken lost since t e = rw (t, e)

and_first_false : (a b : Bool) → a ≡ false → a && b ≡ false
and_first_false a b e = rw e

calm_idles : (reached asleep since : Bool) → since ≡ false → reached && not asleep && since ≡ false
calm_idles reached asleep since e = rw e (and-false (reached && not asleep))

waiting_one : (sccr1 : ℕ) (p : Received) → Waiting p → Waiting (act sccr1 (sample true) p)
unfolding act received receiver_after outcome
waiting_one sccr1 p w =
    let r : Receiver = p.receiver in
    let o : Outcome = outcome r p.status sccr1 true in
    let t : o.taken ≡ false = and_first_false (ends r.framer) (takes r sccr1 r.framer.shift) (ap ends w.framer) in
    record {
      framer =
          ap (λ (f : Framer). framed (bits_of (M sccr1)) f (three r) true) w.framer ∙ still_searching (bits_of (M sccr1)) (three r);
      since = calm_since o.reached o.taken o.lost r.since t w.since;
      clear =
          same_clear p.status _
          (calm_status p.status o (frame_of r.framer true) (PE sccr1 && parity_bit (PT sccr1) r.framer.shift)
          (o.reached && not r.asleep && r.since) (and-false (not r.framer.framing && three r)) t
          (and_first_false o.taken (full p.status) t) (calm_idles o.reached r.asleep r.since w.since))
          w.clear;
    }

waiting_read : (sccr1 : ℕ) (scsr scdr : Bool) (p : Received) → Waiting p → Waiting (act sccr1 (read scsr scdr) p)
unfolding act
waiting_read sccr1 scsr scdr p w =
    record { framer = w.framer; since = w.since; clear = clear_read scsr scdr p.status w.clear }

waiting_acts : (sccr1 : ℕ) (os : List Op) (p : Received) → Ones os → Waiting p → Waiting (acts sccr1 os p)
unfolding acts
waiting_acts sccr1 [] p on w = w
waiting_acts sccr1 (sample true ∷ os) p on w =
    waiting_acts sccr1 os (act sccr1 (sample true) p) on (waiting_one sccr1 p w)
waiting_acts sccr1 (sample false ∷ os) p on w = absurd on
waiting_acts sccr1 (read scsr scdr ∷ os) p on w =
    waiting_acts sccr1 os (act sccr1 (read scsr scdr) p) on (waiting_read sccr1 scsr scdr p w)

-- A start state with no receive flag is one in which a frame never ran.
started_waiting : (q : Received) → Started q → Waiting q
started_waiting q s =
    record {
      framer = ap (λ (r : Receiver). r.framer) s.start;
      since = ap (λ (r : Receiver). r.since) s.start;
      clear = record { unset = s.unset; unseen = s.unseen };
    }

clear_marks : (s : Status) → Clear s → contains s.flags (common s.seen receive_flags) ≡ true
clear_marks s c = all s (λ k h e. absurd (true≢false (sym e ∙ none_marked s c.unseen k h)))

started_sound : (n : ℕ) (q : Received) → Started q → Sound n q
started_sound n q s =
    subst (λ (r : Receiver). Sound n (record { receiver = r; status = q.status })) (sym s.start)
    (sound_start n q.receiver q.status (clear_marks q.status (record { unset = s.unset; unseen = s.unseen })))

-- Seen is within set, so where no receive flag is set none is seen.
sound_clear : (n : ℕ) (p : Received) → Sound n p → shown p.status ≡ no_flag → Clear p.status
sound_clear n p i e =
    record {
      unset = e;
      unseen =
          (same_from p.status nothing
          (λ k h. none_set p.status e k h ∙ sym (none_set nothing clear_nothing.unset k h))
          (λ k h.
          off (is_marked k p.status) (is_set k p.status) (at p.status i.marks k h) (none_set p.status e k h)
          ∙ sym (none_marked nothing clear_nothing.unseen k h))
          ).seen
          ∙ clear_nothing.unseen;
    }
  where
    off : (m s : Bool) → (m ≡ true → s ≡ true) → s ≡ false → m ≡ false
    off true s f e = absurd (true≢false (sym (f refl) ∙ e))
    off false s f e = refl

ones_settle : (sccr1 : ℕ) (p : Received) (os : List Op) → Sound (bits_of (M sccr1)) p → p.receiver.asleep ≡ false → Ones os →
    resync_samples ≤ samples_in os → line (acts sccr1 os p).receiver ≡ settled (bits_of (M sccr1))
ones_settle sccr1 p os i a on enough =
    let n : ℕ = bits_of (M sccr1) in
    settles n (samples_in os + 0) (acts sccr1 os p) (sound_acts sccr1 os p i)
    (progress_acts sccr1 os p 0 on i (progress_start n p i a)) (few (M sccr1)) (omega arith)

no_word : (s : Status) → Clear s → has s RDRF ≡ true → ⊥
unfolding member
no_word s c e = true≢false (sym e ∙ has_flag 6 s ∙ none_set s c.unset 6 refl)

-- Two receivers whose lines are equal, with no receive flag set or seen, are alike.
clear_alike : (p q : Received) → line p.receiver ≡ line q.receiver → Clear p.status → Clear q.status → Alike p q
clear_alike p q e c d =
    record {
      lines = e;
      same = clear_same p.status q.status c d;
      words = λ h. absurd (no_word p.status c h);
    }

read_line : (sccr1 : ℕ) (scsr scdr : Bool) (p : Received) → line (act sccr1 (read scsr scdr) p).receiver ≡ line p.receiver
unfolding act
read_line sccr1 scsr scdr p = refl

read_clear : (sccr1 : ℕ) (scsr scdr : Bool) (p : Received) → Clear p.status → Clear (act sccr1 (read scsr scdr) p).status
unfolding act
read_clear sccr1 scsr scdr p c = clear_read scsr scdr p.status c

pub resync_alike : (a b : ℕ) → settings a ≡ settings b → (p q : Received) (quiet waited : List Op) →
    Quiet a p quiet → Waited q waited → (scdr : Bool) →
    Alike (act a (read true scdr) (acts a quiet p)) (acts b waited q)
resync_alike a b e p q quiet waited h k scdr =
    let p₁ : Received = acts a quiet p in
    let c : Clear p₁.status = sound_clear (bits_of (M a)) p₁ (sound_acts a quiet p h.sound) h.clear in
    clear_alike (act a (read true scdr) p₁) (acts b waited q)
    (read_line a true scdr p₁
    ∙ ones_settle a p quiet h.sound h.awake h.ones h.enough
    ∙ ap settled (same_bits a b e)
    ∙ sym (ones_settle b q waited (started_sound (bits_of (M b)) q k.started) k.started.awake k.ones k.enough))
    (read_clear a true scdr p₁ c) (waiting_acts b waited q k.ones (started_waiting q k.started)).clear

pub resynchronised : Resynchronised
resynchronised a b e p q quiet waited h k scdr later =
    alike_watch a b e later (act a (read true scdr) (acts a quiet p)) (acts b waited q)
    (resync_alike a b e p q quiet waited h k scdr)

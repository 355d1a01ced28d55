-- Receivers that are alike stay alike, and show the same, under the same samples and reads.
use mathlib.Core.Path.{◌≡◌, refl, ap, sym, subst, ◌∙◌}
use mathlib.Core.Bool.{Bool, true, false, cond, not, ◌&&◌, and-false, true≢false}
use mathlib.Core.List.{List, [], ◌∷◌}
use Prim.Native.Nat.{ℕ}
use Rattle.sci.specs.model.Flags.{RDRF, OR, receive_flags}
use Rattle.sci.specs.claims.Members.{member}
use Rattle.sci.specs.model.Status.{has, raise_if}
use Rattle.sci.specs.model.Control.{PT, PE, settings}
use Rattle.sci.specs.model.Bits.{parity_bit}
use Rattle.sci.specs.model.Framer.{frame_of}
use Rattle.sci.specs.model.Receiver.{outcome, entered, status_after, receiver_after, received}
use Rattle.sci.specs.claims.Line.{Op, sample, read, act, acts, looked, fetched, read_status, fresh_if, delivers, watch}
use Rattle.sci.specs.claims.Alike.{Same, line, Alike}
use Rattle.sci.specs.declared.status.Status.{Status}
use Rattle.sci.specs.declared.framer.Frame.{Frame}
use Rattle.sci.specs.declared.receiver.Receiver.{Receiver}
use Rattle.sci.specs.declared.receiver.Outcome.{Outcome}
use Rattle.sci.specs.declared.receiver.Received.{Received}
use Rattle.sci.proofs.Membership.{and_left}
use Rattle.sci.proofs.Flagged.{is_set, has_flag, set_markSeen, set_fallSeen, raise_keeps}
use Rattle.sci.proofs.Samples.{status_set}
use Rattle.sci.proofs.Same.{same_refl, same_sym, same_trans, same_has, same_after, same_read}
use Rattle.sci.proofs.Settings.{act_settings}

pub alike_refl : (p : Received) → Alike p p
alike_refl p = record { lines = refl; same = same_refl p.status; words = λ e. refl }

pub rdrf_same : (s t : Status) → Same s t → has s RDRF ≡ has t RDRF
unfolding member
rdrf_same s t e = same_has s t e 6 refl

pub or_same : (s t : Status) → Same s t → has s OR ≡ has t OR
unfolding member
or_same s t e = same_has s t e 3 refl

pub alike_sym : (p q : Received) → Alike p q → Alike q p
alike_sym p q a =
    record {
      lines = sym a.lines;
      same = same_sym p.status q.status a.same;
      words = λ e. sym (a.words (rdrf_same p.status q.status a.same ∙ e));
    }

pub alike_trans : (p q r : Received) → Alike p q → Alike q r → Alike p r
alike_trans p q r a b =
    record {
      lines = a.lines ∙ b.lines;
      same = same_trans p.status q.status r.status a.same b.same;
      words = λ e. a.words e ∙ b.words (sym (rdrf_same p.status q.status a.same) ∙ e);
    }

-- What the transmitter does to the status leaves the receiver alike.
pub alike_status : (r : Receiver) (s t : Status) → Same s t →
    Alike (record { receiver = r; status = s }) (record { receiver = r; status = t })
alike_status r s t e = record { lines = refl; same = e; words = λ h. refl }

entered_no : (b : Bool) (s : Status) (f : Frame) (bad : Bool) → b ≡ false → entered b s f bad ≡ s
unfolding entered
entered_no true s f bad e = absurd (true≢false e)
entered_no false s f bad e = refl

-- RDRF rises only with a frame that enters SCDR.
rdrf_kept : (s : Status) (o : Outcome) (f : Frame) (bad idles : Bool) → o.taken && not o.lost ≡ false →
    has (status_after s o f bad idles) RDRF ≡ has s RDRF
unfolding member
rdrf_kept s o f bad idles e =
    has_flag 6 (status_after s o f bad idles)
    ∙ status_set 6 s o f bad idles refl (and-false idles)
    ∙ ap (is_set 6) (entered_no (o.taken && not o.lost) (raise_if o.lost s OR) f bad e)
    ∙ raise_keeps 6 o.lost s OR refl
    ∙ sym (has_flag 6 s)

module _ (sccr1 : ℕ) (x : Bool) where
  outcome_full : (r : Receiver) (s t : Status) → Same s t → outcome r s sccr1 x ≡ outcome r t sccr1 x
  unfolding outcome
  outcome_full r s t e = rw (rdrf_same s t e, or_same s t e)

  outcome_line : (r : Receiver) (s : Status) → outcome r s sccr1 x ≡ outcome (line r) s sccr1 x
  unfolding outcome
  outcome_line r s = refl

  same_outcome : (p q : Received) → Alike p q →
      outcome p.receiver p.status sccr1 x ≡ outcome q.receiver q.status sccr1 x
  same_outcome p q a =
      outcome_line p.receiver p.status
      ∙ ap (λ (r : Receiver). outcome r p.status sccr1 x) a.lines
      ∙ sym (outcome_line q.receiver p.status)
      ∙ outcome_full q.receiver p.status q.status a.same

  after_line : (r : Receiver) (o : Outcome) → line (receiver_after r o sccr1 x) ≡ line (receiver_after (line r) o sccr1 x)
  unfolding receiver_after
  after_line r o = refl

  -- The status after a sample, by the receiver's line.
  status_of : Receiver → Outcome → Status → Status
  status_of r o s =
      status_after s o (frame_of r.framer x) (PE sccr1 && parity_bit (PT sccr1) r.framer.shift)
      (o.reached && not r.asleep && r.since)

  same_status : (p q : Received) (o o' : Outcome) → Alike p q → o ≡ o' →
      Same (status_of (line p.receiver) o p.status) (status_of (line q.receiver) o' q.status)
  unfolding status_of
  same_status p q o o' a e =
      subst
      (λ (t : Status). Same (status_of (line p.receiver) o p.status) t)
      (λ j. status_of (a.lines j) (e j) q.status)
      (same_after p.status q.status o _ _ _ a.same)

  -- A frame that enters gives both the same word; else RDRF shows the words of before.
  scdr_after : (b : Bool) (u w u' w' : ℕ) → u ≡ u' → (b ≡ false → w ≡ w') → cond b u w ≡ cond b u' w'
  scdr_after true u w u' w' e f = e
  scdr_after false u w u' w' e f = f refl

  same_word : (p q : Received) (o o' : Outcome) (f : Frame) (bad idles : Bool) → Alike p q → o ≡ o' →
      has (status_after p.status o f bad idles) RDRF ≡ true →
      (receiver_after p.receiver o sccr1 x).scdr ≡ (receiver_after q.receiver o' sccr1 x).scdr
  unfolding receiver_after
  same_word p q o o' f bad idles a e h =
      scdr_after (o.taken && not o.lost) p.receiver.framer.shift p.receiver.scdr
      q.receiver.framer.shift q.receiver.scdr (ap (λ (r : Receiver). r.framer.shift) a.lines)
      (λ k. a.words (sym (rdrf_kept p.status o f bad idles k) ∙ h))
      ∙ ap (λ (z : Outcome). cond (z.taken && not z.lost) q.receiver.framer.shift q.receiver.scdr) e

  alike_sample : (p q : Received) → Alike p q → Alike (act sccr1 (sample x) p) (act sccr1 (sample x) q)
  unfolding act received status_of
  alike_sample p q a =
      let o : Outcome = outcome p.receiver p.status sccr1 x in
      let o' : Outcome = outcome q.receiver q.status sccr1 x in
      let e : o ≡ o' = same_outcome p q a in
      record {
        lines =
            after_line p.receiver o ∙ (λ j. line (receiver_after (a.lines j) (e j) sccr1 x))
            ∙ sym (after_line q.receiver o');
        same = same_status p q o o' a e;
        words = λ h. same_word p q o o' _ _ _ a e h;
      }

-- A read raises no flag.
set_looked : (k : ℕ) (b : Bool) (s : Status) → is_set k (looked b s) ≡ is_set k s
set_looked k true s = set_markSeen k s
set_looked k false s = refl

set_fetched : (k : ℕ) (b : Bool) (s : Status) → is_set k (fetched b s) ≡ true → is_set k s ≡ true
set_fetched k true s e = and_left (is_set k s) _ (sym (set_fallSeen k s receive_flags) ∙ e)
set_fetched k false s e = e

pub set_read : (k : ℕ) (scsr scdr : Bool) (s : Status) → is_set k (read_status scsr scdr s) ≡ true → is_set k s ≡ true
set_read k scsr scdr s e = sym (set_looked k scsr s) ∙ set_fetched k scdr (looked scsr s) e

rdrf_read : (scsr scdr : Bool) (s : Status) → has (read_status scsr scdr s) RDRF ≡ true → has s RDRF ≡ true
rdrf_read scsr scdr s e = has_flag 6 s ∙ set_read 6 scsr scdr s (sym (has_flag 6 (read_status scsr scdr s)) ∙ e)

alike_read : (sccr1 : ℕ) (scsr scdr : Bool) (p q : Received) → Alike p q →
    Alike (act sccr1 (read scsr scdr) p) (act sccr1 (read scsr scdr) q)
unfolding act
alike_read sccr1 scsr scdr p q a =
    record {
      lines = a.lines;
      same = same_read scsr scdr p.status q.status a.same;
      words = λ e. a.words (rdrf_read scsr scdr p.status e);
    }

alike_act_one : (sccr1 : ℕ) (o : Op) (p q : Received) → Alike p q → Alike (act sccr1 o p) (act sccr1 o q)
alike_act_one sccr1 (sample x) p q a = alike_sample sccr1 x p q a
alike_act_one sccr1 (read scsr scdr) p q a = alike_read sccr1 scsr scdr p q a

fresh_same : (a b : Bool) (w w' : ℕ) → (a ≡ true → w ≡ w') → fresh_if (a && b) w ≡ fresh_if (a && b) w'
fresh_same true b w w' f = ap (fresh_if b) (f refl)
fresh_same false b w w' f = refl

pub alike_delivers : (o : Op) (p q : Received) → Alike p q → delivers o p ≡ delivers o q
unfolding delivers
alike_delivers (sample x) p q a = refl
alike_delivers (read scsr scdr) p q a =
    fresh_same (has p.status RDRF) (not (has (read_status scsr scdr p.status) RDRF)) p.receiver.scdr
    q.receiver.scdr a.words
    ∙ rw (
      rdrf_same p.status q.status a.same,
      rdrf_same (read_status scsr scdr p.status) (read_status scsr scdr q.status)
          (same_read scsr scdr p.status q.status a.same),
    )

module _ (a b : ℕ) (e : settings a ≡ settings b) where
  pub alike_act : (o : Op) (p q : Received) → Alike p q → Alike (act a o p) (act b o q)
  alike_act o p q i = rw (act_settings a b e o p) (alike_act_one b o p q i)

  pub alike_acts : (os : List Op) (p q : Received) → Alike p q → Alike (acts a os p) (acts b os q)
  unfolding acts
  alike_acts [] p q i = i
  alike_acts (o ∷ os) p q i = alike_acts os (act a o p) (act b o q) (alike_act o p q i)

  -- The same is seen of both, at every sample and read to come.
  pub alike_watch : (os : List Op) (p q : Received) → Alike p q → watch a os p ≡ watch b os q
  unfolding watch
  alike_watch [] p q i = refl
  alike_watch (o ∷ os) p q i =
      let n : Alike (act a o p) (act b o q) = alike_act o p q i in
      let t : watch a os (act a o p) ≡ watch b os (act b o q) = alike_watch os (act a o p) (act b o q) n in
      λ j. record { flags = n.same.flags j; word = alike_delivers o p q i j } ∷ t j

-- What one sample makes of a word that waits, and of one that comes. Assumes nothing.
use mathlib.Core.Path.{◌≡◌, refl, sym, ◌∙◌}
use mathlib.Core.Bool.{Bool, true, false, not, ◌&&◌, ◌||◌, true≢false, false≢true}
use Prim.Native.Nat.{◌+◌, ◌≤◌}
use lib.Dec.{eqb, leb}
use borrow.Author.Tests.{leb-true}
use Rattle.sci.specs.model.Framer.{ends}
use Rattle.sci.specs.model.Receiver.{takes, full, outcome, received}
use Rattle.sci.specs.model.Transmitter.{sent}
use Rattle.sci.specs.model.Serial.{due}
use Rattle.sci.specs.declared.status.Status.{Status}
use Rattle.sci.specs.declared.receiver.Receiver.{Receiver}
use Rattle.sci.specs.declared.receiver.Outcome.{Outcome}
use Rattle.sci.specs.declared.serial.Sci.{Sci}
use Rattle.sci.proofs.Membership.{and_left, and_right}
use Rattle.sci.proofs.Same.{same_sent}
use Rattle.sci.proofs.Flagged.{is_set}
use Rattle.sci.proofs.Rising.{rdrf_after, or_after}
use Rattle.sci.proofs.Reachable.{turned}
use Rattle.claims_polling.proofs.Full.{full_sets, full_same, sample_full}
use Rattle.claims_polling.proofs.Timed.{rate}

pub due_prescaler : (s : Sci) → due s ≡ true → rate s ≤ s.prescaler + 1
due_prescaler s d = leb-true (rate s) (s.prescaler + 1) (and_right (not (eqb (rate s) 0)) (leb (rate s) (s.prescaler + 1)) d)

or_stays : (a b c d : Bool) → a || b ≡ true → (a || c) || (b || d) ≡ true
or_stays true b c d e = refl
or_stays false true true d e = refl
or_stays false true false d e = refl
or_stays false false c d e = absurd (false≢true e)

module _ (s : Sci) (x : Bool) where
  abbrev pub r : Receiver
  r = s.receiver

  abbrev pub t : Status
  t = (sent s.transmitter s.status s.sccr1).status

  abbrev pub o : Outcome
  o = outcome r t s.sccr1 x

  abbrev pub heard : Sci
  heard = turned true true true s x

  sent_full : full t ≡ full s.status
  sent_full = sym (full_same s.status t (same_sent s.transmitter s.status s.sccr1))

  pub taken_ends : o.taken ≡ true → ends r.framer ≡ true
  unfolding outcome
  taken_ends e = and_left (ends r.framer) (takes r s.sccr1 r.framer.shift) e

  not_taken : ends r.framer ≡ false → o.taken ≡ false
  not_taken e = go o.taken refl
    where
      go : (b : Bool) → o.taken ≡ b → b ≡ false
      go true h = absurd (true≢false (sym (taken_ends h) ∙ e))
      go false h = refl

  pub lost_full : o.lost ≡ true → full s.status ≡ true
  unfolding outcome
  lost_full e = sym sent_full ∙ and_right o.taken (full t) e

  pub lost_taken : o.lost ≡ true → o.taken ≡ true
  unfolding outcome
  lost_taken e = and_left o.taken (full t) e

  -- Nothing falls at a sample.
  pub full_stays : full s.status ≡ true → full heard.status ≡ true
  unfolding received
  full_stays e =
      full_sets heard.status
      ∙ rw (rdrf_after t o _ _ _, or_after t o _ _ _)
      (or_stays (is_set 6 t) (is_set 3 t) (o.taken && not o.lost) o.lost (sym (full_sets t) ∙ sent_full ∙ e))

  pub none_comes : ends r.framer ≡ false → full heard.status ≡ true → full s.status ≡ true
  none_comes e f = sym sent_full ∙ sym (sample_full r t s.sccr1 x (not_taken e)) ∙ f

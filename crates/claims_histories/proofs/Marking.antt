-- What marks a frame on the wire makes at its receiver: none before its last sample, and then one of its word. Assumes nothing.
use mathlib.Core.Path.{◌≡◌, refl, ap, sym, ◌∙◌}
use mathlib.Core.Bool.{Bool, true, false, cond, not, ◌&&◌}
use mathlib.Core.List.{List, [], ◌∷◌, ◌++◌}
use Prim.Native.Nat.{ℕ, ◌%◌}
use native.Mathlib.Omega.{arith}
use Rattle.sci.specs.model.Flags.{RDRF}
use Rattle.sci.specs.claims.Members.{member}
use Rattle.sci.specs.model.Status.{has}
use Rattle.sci.specs.model.Control.{bits_of}
use Rattle.sci.specs.model.Framer.{frame_of}
use Rattle.sci.specs.model.Framer as framer
use Rattle.sci.specs.model.Receiver.{outcome, full, receiver_after, received}
use Rattle.sci.specs.model.Transmitter.{sent}
use Rattle.sci.specs.claims.Levels.{low_bits, value}
use Rattle.sci.specs.claims.Line.{fresh_if}
use Rattle.sci.specs.claims.Overrun.{Mark, frame_lost, word_came, status_read, word_delivered, was_reset, taken_marks, look_marks, delivery_marks}
use Rattle.sci.specs.declared.status.Status.{Status}
use Rattle.sci.specs.declared.receiver.Receiver.{Receiver}
use Rattle.sci.specs.declared.transmitter.Transmitter.{Transmitter}
use Rattle.sci.proofs.Flagged.{is_set}
use Rattle.sci.proofs.Sending.{value_low}
use Rattle.sci.proofs.Going.{Counting}
use Rattle.sci.proofs.Same.{set_at, same_sent}
use Rattle.qsm.specs.model.Lanes.{touches}
use Rattle.qsm.specs.declared.state.Module.{Module}
use Rattle.qsm.specs.declared.event.Access as bus
use Rattle.qsm.specs.declared.event.Access.TheVariants.{Read, Write}
use Rattle.qsm.specs.declared.event.Event.TheVariants as event
use Rattle.claims_histories.specs.History.{after, receiver_read, event_marks}
use Rattle.claims_histories.specs.Sentence.{word_marks}

-- A sample that ends no frame makes no mark.
pub quiet_marks : (r : Receiver) (s : Status) (c : ℕ) (x raises : Bool) (v : ℕ) → framer.ends r.framer ≡ false →
    taken_marks (outcome r s c x) raises v ≡ []
unfolding outcome
quiet_marks r s c x raises v e = rw e

pub words_append : (a b : List Mark) → word_marks (a ++ b) ≡ word_marks a ++ word_marks b
words_append [] b = refl
words_append (frame_lost raises ∷ a) b = ap (λ (l : List Mark). frame_lost raises ∷ l) (words_append a b)
words_append (word_came w ∷ a) b = ap (λ (l : List Mark). word_came w ∷ l) (words_append a b)
words_append (status_read ∷ a) b = words_append a b
words_append (word_delivered w ∷ a) b = ap (λ (l : List Mark). word_delivered w ∷ l) (words_append a b)
words_append (was_reset ∷ a) b = ap (λ (l : List Mark). was_reset ∷ l) (words_append a b)

-- Neither does a read where RDRF is clear.
look_words : (b : Bool) → word_marks (look_marks b ++ []) ≡ []
look_words true = refl
look_words false = refl

read_words : (b look had has' : Bool) (v : ℕ) → had ≡ false →
    word_marks (cond b (look_marks look ++ delivery_marks (fresh_if (had && not has') v)) []) ≡ []
read_words false look had has' v e = refl
read_words true look had has' v e =
    ap (λ (a : Bool). word_marks (look_marks look ++ delivery_marks (fresh_if (a && not has') v))) e ∙ look_words look

pub access_words : (a : bus.Access) (m : Module) → has m.sci.status RDRF ≡ false → word_marks (event_marks (event.Access a) m) ≡ []
access_words (Read supervisor width offset) m e =
    read_words (receiver_read m supervisor width offset) (touches 0x0C 2 width offset) (has m.sci.status RDRF)
    (has (after (event.Access (Read supervisor width offset)) m).sci.status RDRF) m.sci.receiver.scdr e
access_words (Write supervisor width offset value) m e = refl

-- IDLE stays clear in the transmitter's part of a sample.
idle_sent : (t : Transmitter) (s : Status) (c : ℕ) → is_set 4 s ≡ false → is_set 4 (sent t s c).status ≡ false
unfolding member
idle_sent t s c h = sym (set_at s (sent t s c).status (same_sent t s c) 4 refl) ∙ h

pub counting_sent : (q k : ℕ) (r : Receiver) (t : Transmitter) (s : Status) (c : ℕ) → Counting 0 q k r s → Counting 0 q k r (sent t s c).status
counting_sent q k r t s c h = record { idle = idle_sent t s c h.idle; early = h.early; late = h.late }

-- A frame's word has nine bits at most.
pub fits : (b : Bool) (w : ℕ) → value (low_bits (bits_of b) w) % 512 ≡ value (low_bits (bits_of b) w)
fits true w = ap (λ (a : ℕ). a % 512) (value_low 9 w) ∙ omega arith ∙ sym (value_low 9 w)
fits false w = ap (λ (a : ℕ). a % 512) (value_low 8 w) ∙ omega arith ∙ sym (value_low 8 w)

-- The last sample.
pub entered_marks : (r : Receiver) (s : Status) (c : ℕ) (x raises : Bool) (v : ℕ) → framer.ends r.framer ≡ true → r.asleep ≡ false →
    full s ≡ false → taken_marks (outcome r s c x) raises v ≡ word_came (v % 512) ∷ []
unfolding outcome
entered_marks r s c x raises v e a f = rw (e, a, f)

pub entered_noise : (r : Receiver) (s : Status) (c : ℕ) (x : Bool) → framer.ends r.framer ≡ true → r.asleep ≡ false →
    full s ≡ false → (received r s c x).receiver.noise ≡ (frame_of r.framer x).noise
unfolding received receiver_after outcome
entered_noise r s c x e a f = rw (e, a, f)

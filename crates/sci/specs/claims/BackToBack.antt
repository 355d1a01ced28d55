-- Demand 2, frames back to back: words sent without pause are received word for word.
use Rattle.std.specs.Prelude.{Bool, true, false, ◌||◌, List, [], ◌∷◌, ◌++◌, ◌≡◌, ℕ, suc, ◌%◌, ◌^◌, length, take}
use Rattle.sci.specs.model.Control.{M, bits_of, frame_samples, settings}
use Rattle.sci.specs.model.Transmitter.{begins_frame}
use Rattle.sci.specs.claims.Levels.{end_sample}
use Rattle.sci.specs.claims.Line.{Op, sample, read, act, acts}
use Rattle.sci.specs.claims.Link.{Around, sent_around, shown, data_bits, samples_of, Ready, InScdr}
use Rattle.sci.specs.declared.transmitter.Transmitter.{Transmitter}
use Rattle.sci.specs.declared.receiver.Received.{Received}

-- One word: what stands around the transmitter at the sample at which its frame begins and at the frame's other samples; and what comes
-- to the receiver from the frame before to this frame's last sample, with that sample.
pub record Turn : Type 0 where
  pub begin : Around
  pub later : List Around
  pub ops : List Op
  pub last : Bool

unfoldable pub sent_all : List Around → Transmitter → Transmitter
sent_all [] t = t
sent_all (a ∷ later) t = sent_all later (sent_around a t)

-- The levels that the transmitter shows, and the receiver's samples.
unfoldable pub levels_of : List Turn → Transmitter → List Bool
levels_of [] t = []
levels_of (u ∷ us) t = shown u.later (sent_around u.begin t) ++ levels_of us (sent_all u.later (sent_around u.begin t))

unfoldable pub samples_in : List Turn → List Bool
samples_in [] = []
samples_in (u ∷ us) = samples_of u.ops ++ (u.last ∷ samples_in us)

-- Each frame begins at the sample at which the one before ends, with these settings.
pub record Begins (set : ℕ) (u : Turn) (t : Transmitter) : Type 0 where
  pub frame :
      begins_frame (record { scdr = u.begin.scdr; preamble = u.begin.preamble; shift = t.shift; left = t.left })
      u.begin.status u.begin.sccr1 ≡ true
  pub same : settings u.begin.sccr1 ≡ set
  pub whole : suc (length u.later) ≡ frame_samples (bits_of (M u.begin.sccr1))

unfoldable pub Sends : ℕ → List Turn → Transmitter → Type 0
Sends set [] t = Unit {0}
Sends set (u ∷ us) t = Begins set u t × Sends set us (sent_all u.later (sent_around u.begin t))

-- Data is read; status is read, and data with it or after it.
unfoldable pub reads_data : List Op → Bool
reads_data [] = false
reads_data (sample x ∷ os) = reads_data os
reads_data (read scsr scdr ∷ os) = scdr || reads_data os

unfoldable pub reads_both : List Op → Bool
reads_both [] = false
reads_both (sample x ∷ os) = reads_both os
reads_both (read true scdr ∷ os) = scdr || reads_data os
reads_both (read false scdr ∷ os) = reads_both os

-- Status, then data, is read between a frame's end and the next one's.
pub record Attends (n : ℕ) (u : Turn) : Type 0 where
  pub spaced : suc (length (samples_of u.ops)) ≡ frame_samples n
  pub reads : reads_both u.ops ≡ true

unfoldable pub Attended : ℕ → List Turn → Type 0
Attended n [] = Unit {0}
Attended n (u ∷ us) = Attends n u × Attended n us

-- Each word is in SCDR, with no error flag, at its frame's last sample.
unfoldable pub WordForWord : ℕ → List Turn → Received → Type 0
WordForWord sccr1 [] p = Unit {0}
WordForWord sccr1 (u ∷ us) p =
    InScdr (data_bits u.begin.sccr1 u.begin.scdr % 2 ^ bits_of (M sccr1))
    (act sccr1 (sample u.last) (acts sccr1 u.ops p))
    × WordForWord sccr1 us (act sccr1 (sample u.last) (acts sccr1 u.ops p))

abbrev pub BackToBack : Type 0
BackToBack =
    (sccr1 : ℕ) (u : Turn) (us : List Turn) (t : Transmitter) (p : Received) → Sends (settings sccr1) (u ∷ us) t → Ready p →
    length (samples_of u.ops) ≡ end_sample (bits_of (M sccr1)) → Attended (bits_of (M sccr1)) us →
    samples_in (u ∷ us) ≡ take (length (samples_in (u ∷ us))) (levels_of (u ∷ us) t) → WordForWord sccr1 (u ∷ us) p

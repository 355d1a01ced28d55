-- A sender on RXD that is not exact, over a module's events: what it sends comes word by word.
use Rattle.std.specs.Prelude.{List, [], ◌∷◌, true, false, ◌≡◌, ℕ, ◌*◌, ◌<◌}
use Rattle.sci.specs.model.Control.{SCBR, RE, M, bits_of}
use Rattle.sci.specs.model.Framer.{searching}
use Rattle.sci.specs.model.Receiver.{three}
use Rattle.sci.specs.claims.Overrun.{Mark, frame_lost, word_came, status_read, word_delivered, was_reset}
use Rattle.qsm.specs.model.State.{reset_module}
use Rattle.qsm.specs.declared.state.Module.{Module}
use Rattle.qsm.specs.declared.event.Event.{Event}
use Rattle.claims_histories.specs.History.{after, run, log}
use Rattle.claims_histories.specs.Sentence.{rxd_in}
use Rattle.claims_polling.specs.Rule.{lost_in, waiting}
use Rattle.claims_deadlines.specs.Deadline.{InTime, SpacedBy}
use Rattle.claims_senders.specs.Fair.{SentFrame, words_sent, line, FairFrames}
use Rattle.claims_senders.specs.Heard.{earliest}
use Rattle.claims_senders.specs.Undamaged.{Undamaged, RightParity}

-- On and not asleep, RE set and RWU clear, after each event; so none is a reset. Reads, SCDR, TE, the requests and refused writes are free, and
-- all of the queue's half. (SCCR0 and the settings are guarded.)
abbrev pub StaysAwake : List Event → Module → Type 0
StaysAwake [] m = Unit {0}
StaysAwake (e ∷ es) m = (RE (after e m).sci.sccr1 ≡ true) × ((after e m).sci.receiver.asleep ≡ false) × StaysAwake es (after e m)

-- The receiver is on and awake, and searches after three ones.
pub record Ready (m : Module) : Type 0 where
  pub on : RE m.sci.sccr1 ≡ true
  pub awake : m.sci.receiver.asleep ≡ false
  pub runs : 0 < SCBR m.sci.sccr0
  pub searches : m.sci.receiver.framer ≡ searching
  pub ones : three m.sci.receiver ≡ true

-- A sample in clocks, and the data bits of a frame.
abbrev pub sample_of : Module → ℕ
sample_of m = 2 * SCBR m.sci.sccr0

abbrev pub bits_in : Module → ℕ
bits_in m = bits_of (M m.sci.sccr1)

-- Frames of a fair sender, and nothing else, are on RXD.
pub record OnRxd (fs : List SentFrame) (es : List Event) (m : Module) : Type 0 where
  pub ready : Ready m
  pub stays : StaysAwake es m
  pub levels : rxd_in es m ≡ line fs
  pub fair : FairFrames (sample_of m) (bits_in m) fs

-- Its frames end 148 samples apart, 164 with 9 bits.
abbrev pub FairLine : Type 0
FairLine =
    (past es : List Event) (fs : List SentFrame) → let m : Module = run past reset_module in
    OnRxd fs es m → SpacedBy (earliest (bits_in m)) es m

-- Words and frames lost, in order: each word is the one sent.
unfoldable pub CameOrLost : List Mark → List ℕ → Type 0
CameOrLost [] [] = Unit {0}
CameOrLost [] (w ∷ ws) = ⊥
CameOrLost (frame_lost raises ∷ h) [] = ⊥
CameOrLost (frame_lost raises ∷ h) (w ∷ ws) = CameOrLost h ws
CameOrLost (word_came v ∷ h) [] = ⊥
CameOrLost (word_came v ∷ h) (w ∷ ws) = (v ≡ w) × CameOrLost h ws
CameOrLost (status_read ∷ h) ws = CameOrLost h ws
CameOrLost (word_delivered v ∷ h) ws = CameOrLost h ws
CameOrLost (was_reset ∷ h) ws = ⊥

-- Each frame sent ends: its word comes, or it is lost; and no other ends.
abbrev pub AllEnd : Type 0
AllEnd =
    (past es : List Event) (fs : List SentFrame) → let m : Module = run past reset_module in
    OnRxd fs es m → CameOrLost (log es m) (words_sent fs)

-- NF, FE and PF are clear and the figure beside SCDR is 0 after each event.
abbrev pub StaysUndamaged : List Event → Module → Type 0
StaysUndamaged [] m = Unit {0}
StaysUndamaged (e ∷ es) m = Undamaged (after e m).sci × StaysUndamaged es (after e m)

abbrev pub NoDamage : Type 0
NoDamage =
    (past es : List Event) (fs : List SentFrame) → let m : Module = run past reset_module in
    OnRxd fs es m → RightParity m.sci.sccr1 fs → Undamaged m.sci → StaysUndamaged es m

-- The words that come, by demand 3's marks.
unfoldable pub words_came : List Mark → List ℕ
words_came [] = []
words_came (frame_lost raises ∷ h) = words_came h
words_came (word_came w ∷ h) = w ∷ words_came h
words_came (status_read ∷ h) = words_came h
words_came (word_delivered w ∷ h) = words_came h
words_came (was_reset ∷ h) = words_came h

-- If each word is delivered fewer than 148 samples' clocks (164 with 9 bits) after the clock that it came in, the words that come are those
-- sent, in order, and no frame is lost.
abbrev pub WordsThrough : Type 0
WordsThrough =
    (past es : List Event) (fs : List SentFrame) → let m : Module = run past reset_module in
    OnRxd fs es m → waiting m ≡ false → InTime (earliest (bits_in m) * sample_of m) es m 0 →
    (words_came (log es m) ≡ words_sent fs) × (lost_in (log es m) ≡ 0)

pub record Through : Type 0 where
  pub fair_line : FairLine
  pub all_end : AllEnd
  pub no_damage : NoDamage
  pub words : WordsThrough
  pub figures : (earliest 8 ≡ 148) × (earliest 9 ≡ 164)

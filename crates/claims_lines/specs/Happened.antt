-- Document 02, L8: what happens to frames and words in a module's history: demand 3's marks, where a word comes with its flags.
use Rattle.std.specs.Prelude.{Bool, cond, not, ◌&&◌, List, [], ◌∷◌, ◌++◌, ℕ, zero, suc, ◌%◌, ltb}
use Rattle.std.proofs.Math.Option.{Option, none, some}
use Rattle.sci.specs.model.Flags.{OR}
use Rattle.sci.specs.model.Status.{has}
use Rattle.sci.specs.model.Control.{PE, PT}
use Rattle.sci.specs.model.Bits.{parity_bit}
use Rattle.sci.specs.model.Framer.{frame_of}
use Rattle.sci.specs.model.Receiver.{outcome}
use Rattle.sci.specs.model.Transmitter.{sent}
use Rattle.sci.specs.claims.History.{sampling}
use Rattle.sci.specs.claims.Overrun.{Mark}
use Rattle.sci.specs.claims.Overrun as mark
use Rattle.sci.specs.declared.status.Status.{Status}
use Rattle.sci.specs.declared.framer.Frame.{Frame}
use Rattle.sci.specs.declared.receiver.Outcome.{Outcome}
use Rattle.sci.specs.declared.serial.Sci.{Sci}
use Rattle.qsm.specs.model.Lanes.{touches}
use Rattle.qsm.specs.model.Event.{held, clock_module}
use Rattle.qsm.specs.declared.state.Module.{Module}
use Rattle.qsm.specs.declared.event.Access.TheVariants.{Read, Write}
use Rattle.qsm.specs.declared.event.Event.{Event}
use Rattle.qsm.specs.declared.event.Event.TheVariants.{Reset, Hold}
use Rattle.qsm.specs.declared.event.Event.TheVariants as event
use Rattle.claims_histories.specs.History.{after, played_clocks, receiver_read, fresh_word}

-- FE, PF and NF.
pub record Damage : Type 0 where
  pub fe : Bool
  pub pf : Bool
  pub nf : Bool

-- A frame is lost; a word enters SCDR; a status read; a word is delivered; a reset.
pub data Happening : Type 0 where
  frame_lost : (raises : Bool) → Happening
  word_came : (word : ℕ) → Damage → Happening
  status_read : Happening
  word_delivered : (word : ℕ) → Happening
  was_reset : Happening

-- Demand 3's mark of it.
abbrev pub mark_of : Happening → Mark
mark_of (frame_lost raises) = mark.frame_lost raises
mark_of (word_came w d) = mark.word_came w
mark_of status_read = mark.status_read
mark_of (word_delivered w) = mark.word_delivered w
mark_of was_reset = mark.was_reset

abbrev pub marks_of : List Happening → List Mark
marks_of [] = []
marks_of (e ∷ h) = mark_of e ∷ marks_of h

-- The flags that a frame enters SCDR with: FE for a stop read as zero, PF for PE and wrong parity, NF for a sum above 0.
abbrev pub damage_of : Frame → Bool → Damage
damage_of f bad = record { fe = not f.stop; pf = bad; nf = ltb 0 f.noise }

abbrev pub taken : Outcome → Bool → ℕ → Damage → List Happening
taken o raises w d = cond o.lost (frame_lost raises ∷ []) (cond o.taken (word_came (w % 512) d ∷ []) [])

abbrev pub sampled : Sci → Status → Bool → List Happening
sampled s t x =
    taken (outcome s.receiver t s.sccr1 x) (not (has t OR)) s.receiver.framer.shift
    (damage_of (frame_of s.receiver.framer x) (PE s.sccr1 && parity_bit (PT s.sccr1) s.receiver.framer.shift))

abbrev pub clock_happens : Sci → Bool → List Happening
clock_happens s x = cond (sampling s) (sampled s (sent s.transmitter s.status s.sccr1).status x) []

abbrev pub clocks_happen : ℕ → Bool → Module → List Happening
clocks_happen zero rxd m = []
clocks_happen (suc n) rxd m = clock_happens m.sci rxd ++ clocks_happen n rxd (clock_module rxd m)

abbrev pub looks : Bool → List Happening
looks scsr = cond scsr (status_read ∷ []) []

abbrev pub delivery : Option ℕ → List Happening
delivery (some w) = word_delivered w ∷ []
delivery none = []

abbrev pub event_happens : Event → Module → List Happening
event_happens Reset m = was_reset ∷ []
event_happens (Hold pins rxd n) m = clocks_happen (played_clocks m n) rxd (held m pins)
event_happens (event.Access (Read supervisor width offset)) m =
    cond (receiver_read m supervisor width offset)
    (looks (touches 0x0C 2 width offset) ++ delivery (fresh_word m (after (event.Access (Read supervisor width offset)) m)))
    []
event_happens (event.Access (Write supervisor width offset value)) m = []

unfoldable pub happened : List Event → Module → List Happening
happened [] m = []
happened (e ∷ es) m = event_happens e m ++ happened es (after e m)

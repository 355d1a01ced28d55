-- The module from reset on: what a list of events makes of it, and what of it reaches the receiver.
use Rattle.std.specs.Prelude.{Bool, true, false, cond, not, ◌&&◌, List, [], ◌∷◌, ◌++◌, ◌≡◌, ℕ, zero, suc, ◌+◌}
use Rattle.std.proofs.Math.Option.{Option, none}
use Rattle.sci.specs.model.Flags.{RDRF}
use Rattle.sci.specs.model.Status.{has}
use Rattle.sci.specs.model.Transmitter.{sent}
use Rattle.sci.specs.claims.Line.{Op, sample, read, shown, fresh_if, Seen}
use Rattle.sci.specs.claims.History.{sampling}
use Rattle.sci.specs.claims.Overrun.{Mark, was_reset, sample_marks, look_marks, delivery_marks}
use Rattle.qsm.specs.model.Lanes.{touches}
use Rattle.qsm.specs.model.Decision.{permits, decide_read, decide_write}
use Rattle.qsm.specs.model.Event.{passes, held, clock_module, does}
use Rattle.qsm.specs.declared.state.Module.{Module}
use Rattle.qsm.specs.declared.event.Access.TheVariants.{Read, Write}
use Rattle.qsm.specs.declared.event.Event.{Event}
use Rattle.qsm.specs.declared.event.Event.TheVariants.{Reset, Hold}
use Rattle.qsm.specs.declared.event.Event.TheVariants as event

-- Each event gets the module that the last one left.
abbrev pub after : Event → Module → Module
after e m = (does m e).state

unfoldable pub run : List Event → Module → Module
run [] m = m
run (e ∷ es) m = run es (after e m)

-- Status, then data, as words.
abbrev pub reads_status : Bool → Event
reads_status supervisor = event.Access (Read supervisor 2 0x0C)

abbrev pub reads_data : Bool → Event
reads_data supervisor = event.Access (Read supervisor 2 0x0E)

-- A permitted read (neither refused nor stopped by privilege) that touches one of bytes 0C to 0F; and a permitted write, the same value
-- included, that touches one of bytes 08 to 0B (SCCR0, SCCR1), as byte, word or half of a long.
abbrev pub receiver_read : Module → Bool → ℕ → ℕ → Bool
receiver_read m supervisor width offset = permits (decide_read m supervisor width offset) && touches 0x0C 4 width offset

abbrev pub counted_write : Module → Bool → ℕ → ℕ → ℕ → Bool
counted_write m supervisor width offset value =
    permits (decide_write m supervisor width offset value) && touches 0x08 4 width offset

-- A reset or a counted write.
abbrev pub breaks : Event → Module → Bool
breaks Reset m = true
breaks (Hold pins rxd n) m = false
breaks (event.Access (Read supervisor width offset)) m = false
breaks (event.Access (Write supervisor width offset value)) m = counted_write m supervisor width offset value

abbrev pub Unbroken : List Event → Module → Type 0
Unbroken [] m = Unit {0}
Unbroken (e ∷ es) m = (breaks e m ≡ false) × Unbroken es (after e m)

-- The clocks that a hold plays: none where it is refused 10. A refused event takes no sample.
abbrev pub played_clocks : Module → ℕ → ℕ
played_clocks m n = cond (passes m n) 0 n

-- What reaches the receiver, in order: the samples of a hold's clocks, and the permitted reads of bytes 0C to 0F, by what they touch of
-- these bytes: SCSR (either byte) and SCDR's low byte.
abbrev pub clock_ops : ℕ → Bool → Module → List Op
clock_ops zero rxd m = []
clock_ops (suc n) rxd m = cond (sampling m.sci) (sample rxd ∷ []) [] ++ clock_ops n rxd (clock_module rxd m)

abbrev pub read_op : ℕ → ℕ → Op
read_op width offset = read (touches 0x0C 2 width offset) (touches 0x0F 1 width offset)

abbrev pub event_ops : Event → Module → List Op
event_ops Reset m = []
event_ops (Hold pins rxd n) m = clock_ops (played_clocks m n) rxd (held m pins)
event_ops (event.Access (Read supervisor width offset)) m =
    cond (receiver_read m supervisor width offset) (read_op width offset ∷ []) []
event_ops (event.Access (Write supervisor width offset value)) m = []

unfoldable pub ops : List Event → Module → List Op
ops [] m = []
ops (e ∷ es) m = event_ops e m ++ ops es (after e m)

-- A fresh word is one whose read makes RDRF fall: SCDR's nine bits, also where byte 0F alone is read.
abbrev pub fresh_word : Module → Module → Option ℕ
fresh_word m left = fresh_if (has m.sci.status RDRF && not (has left.sci.status RDRF)) m.sci.receiver.scdr

-- After each sample and each such read: the six receive flags, and the fresh word that is delivered.
abbrev pub clock_seen : ℕ → Bool → Module → List Seen
clock_seen zero rxd m = []
clock_seen (suc n) rxd m =
    cond (sampling m.sci) (record { flags = shown (clock_module rxd m).sci.status; word = none } ∷ []) []
    ++ clock_seen n rxd (clock_module rxd m)

abbrev pub event_seen : Event → Module → List Seen
event_seen Reset m = []
event_seen (Hold pins rxd n) m = clock_seen (played_clocks m n) rxd (held m pins)
event_seen (event.Access (Read supervisor width offset)) m =
    let left : Module = after (event.Access (Read supervisor width offset)) m in
    cond (receiver_read m supervisor width offset)
    (record { flags = shown left.sci.status; word = fresh_word m left } ∷ []) []
event_seen (event.Access (Write supervisor width offset value)) m = []

unfoldable pub watched : List Event → Module → List Seen
watched [] m = []
watched (e ∷ es) m = event_seen e m ++ watched es (after e m)

-- What happens to words, in order. At a sample the transmitter comes before the receiver; a status read is a permitted read that touches
-- 0C or 0D.
abbrev pub clock_marks : ℕ → Bool → Module → List Mark
clock_marks zero rxd m = []
clock_marks (suc n) rxd m =
    cond (sampling m.sci)
    (sample_marks m.sci (sent m.sci.transmitter m.sci.status m.sci.sccr1).status rxd) []
    ++ clock_marks n rxd (clock_module rxd m)

abbrev pub event_marks : Event → Module → List Mark
event_marks Reset m = was_reset ∷ []
event_marks (Hold pins rxd n) m = clock_marks (played_clocks m n) rxd (held m pins)
event_marks (event.Access (Read supervisor width offset)) m =
    cond (receiver_read m supervisor width offset)
    (look_marks (touches 0x0C 2 width offset)
    ++ delivery_marks (fresh_word m (after (event.Access (Read supervisor width offset)) m)))
    []
event_marks (event.Access (Write supervisor width offset value)) m = []

unfoldable pub log : List Event → Module → List Mark
log [] m = []
log (e ∷ es) m = event_marks e m ++ log es (after e m)

-- Document 02, L9: the clocks of the holds not refused since the last reset, from a count n on.
unfoldable pub counted : List Event → Module → ℕ → ℕ
counted [] m n = n
counted (Reset ∷ es) m n = counted es (after Reset m) 0
counted (Hold pins rxd k ∷ es) m n = counted es (after (Hold pins rxd k) m) (n + played_clocks m k)
counted (event.Access a ∷ es) m n = counted es (after (event.Access a) m) n

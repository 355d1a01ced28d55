-- Document 02, L11: what a driver reaches of the register map, and what it may write there. `upper` and `lower` say which bytes of a word an
-- access touches.
use Rattle.std.specs.Prelude.{Bool, true, false, not, ◌&&◌, ◌||◌, ℕ, ◌+◌, ◌*◌, ◌/◌, ◌%◌, eqb, leb}
use Rattle.steps.specs.Bits.{merge}
use Rattle.qspi.specs.model.Fields.{spe, wren, wrto, endqp, newqp}
use Rattle.qspi.specs.declared.registers.Registers.{Registers}
use Rattle.qsm.specs.model.Map.{decode}
use Rattle.qsm.specs.model.Lanes.{upper_lane, lower_lane, lined}
use Rattle.qsm.specs.model.Decision.{shaped, fits, permits, admitted, decide_read}
use Rattle.qsm.specs.declared.map.QueueWord.{QueueWord}
use Rattle.qsm.specs.declared.map.QueueWord.TheVariants.{Spcr0, Spcr1, Spcr2, Spcr3Spsr, Receive, Transmit, Command}
use Rattle.qsm.specs.declared.map.Place.{Place}
use Rattle.qsm.specs.declared.map.Place.TheVariants.{Own, Serial, Queue, Hole}
use Rattle.qsm.specs.declared.state.Module.{Module}
use Rattle.qsm.specs.declared.event.Access.{Access}
use Rattle.qsm.specs.declared.event.Access.TheVariants.{Read, Write}
use Rattle.drivers.specs.State.{holds, begun, owns}
use Rattle.drivers.specs.declared.state.Driver.{Driver}
use Rattle.drivers.specs.declared.state.Shared.{Shared}

-- A driver reaches its own entries' words and command bytes and, while it holds the claim, SPCR1, SPCR2, SPCR3 and SPSR.
abbrev pub reaches_queue : ℕ → Driver → Bool → QueueWord → Bool → Bool → Bool
reaches_queue s who claimed Spcr0 upper lower = false
reaches_queue s who claimed Spcr1 upper lower = claimed
reaches_queue s who claimed Spcr2 upper lower = claimed
reaches_queue s who claimed Spcr3Spsr upper lower = claimed
reaches_queue s who claimed (Receive i) upper lower = owns s who i
reaches_queue s who claimed (Transmit i) upper lower = owns s who i
reaches_queue s who claimed (Command i) upper lower =
    (not upper || owns s who (i * 2)) && (not lower || owns s who (i * 2 + 1))

-- Anything else is not reached.
abbrev pub reaches_word : ℕ → Driver → Bool → Place → Bool → Bool → Bool
reaches_word s who claimed (Own w) upper lower = false
reaches_word s who claimed (Serial w) upper lower = false
reaches_word s who claimed (Queue w) upper lower = reaches_queue s who claimed w upper lower
reaches_word s who claimed Hole upper lower = false

-- Every byte that an access touches, in both halves of a long.
unfoldable pub reaches : Shared → Driver → ℕ → ℕ → Bool
reaches d who width offset =
    reaches_word d.split who (holds d who) (decode offset) (upper_lane width offset) (lower_lane width offset)
    && (not (eqb width 4)
    || reaches_word d.split who (holds d who) (decode (offset + 2)) (upper_lane width offset) (lower_lane width offset))

-- SPCR2 as it has to be: both pointers in the driver's range, NEWQP not above ENDQP, and WRTO set if WREN is.
abbrev pub fit : ℕ → Driver → ℕ → Bool
fit s who spcr2 =
    ((owns s who (newqp spcr2) && owns s who (endqp spcr2)) && leb (newqp spcr2) (endqp spcr2))
    && (not (wren spcr2) || wrto spcr2)

-- SPCR1: changing only SPE; and putting a one there needs SPCR2 to be so already.
abbrev pub writes_spcr1 : ℕ → Driver → Registers → ℕ → Bool → Bool → Bool
writes_spcr1 s who r v upper lower =
    eqb (merge r.spcr1 v upper lower % 32768) (r.spcr1 % 32768) && (not (upper && spe v) || fit s who r.spcr2)

-- SPCR2: what would stand after the write has to be so, and while SPE is set it must be a whole word.
abbrev pub writes_spcr2 : ℕ → Driver → Registers → ℕ → Bool → Bool → Bool
writes_spcr2 s who r v upper lower =
    fit s who (merge r.spcr2 v upper lower) && (not (spe r.spcr1) || (upper && lower))

abbrev pub writes_queue : ℕ → Driver → Registers → QueueWord → ℕ → Bool → Bool → Bool
writes_queue s who r Spcr0 v upper lower = true
writes_queue s who r Spcr1 v upper lower = writes_spcr1 s who r v upper lower
writes_queue s who r Spcr2 v upper lower = writes_spcr2 s who r v upper lower
writes_queue s who r Spcr3Spsr v upper lower = true
writes_queue s who r (Receive i) v upper lower = true
writes_queue s who r (Transmit i) v upper lower = true
writes_queue s who r (Command i) v upper lower = true

abbrev pub writes_word : ℕ → Driver → Registers → Place → ℕ → Bool → Bool → Bool
writes_word s who r (Own w) v upper lower = true
writes_word s who r (Serial w) v upper lower = true
writes_word s who r (Queue w) v upper lower = writes_queue s who r w v upper lower
writes_word s who r Hole v upper lower = true

-- Each half of a long is judged by the registers that stand before the write.
unfoldable pub writes : Shared → Driver → ℕ → ℕ → ℕ → Bool
writes d who width offset value =
    writes_word d.split who d.qsm.qspi.registers (decode offset) (lined width value / 65536) (upper_lane width offset)
    (lower_lane width offset)
    && (not (eqb width 4)
    || writes_word d.split who d.qsm.qspi.registers (decode (offset + 2)) (lined width value % 65536) (upper_lane width offset)
    (lower_lane width offset))

-- What a driver may do, once s is fixed.
unfoldable pub allows : Shared → Driver → Access → Bool
allows d who (Read supervisor width offset) = begun d && reaches d who width offset
allows d who (Write supervisor width offset value) =
    (begun d && reaches d who width offset) && writes d who width offset value

-- Refusals 1 and 2 and privilege let an access through.
unfoldable pub admits : Module → Access → Bool
admits m (Read supervisor width offset) = permits (decide_read m supervisor width offset)
admits m (Write supervisor width offset value) =
    permits (admitted m (shaped width offset && fits width value) supervisor width offset)

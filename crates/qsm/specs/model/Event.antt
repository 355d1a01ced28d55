-- Document 01: events and answers. An event is a reset, a hold or an access, and an access is a read or a write. With document 02, L9: the
-- module counts its clocks since reset, and an answer shows the count.
use Rattle.std.specs.Prelude.{Bool, cond, ℕ, suc, ◌+◌, ◌-◌, ◌^◌, ltb}
use Rattle.steps.specs.Iterate.{iterate}
use Rattle.sci.specs.model.Serial.{clocked}
use Rattle.sci.specs.model.Serial as serial
use Rattle.qspi.specs.model.Queue.{clock}
use Rattle.qspi.specs.model.Outputs as queue
use Rattle.qspi.specs.declared.Pins.{Pins}
use Rattle.qsm.specs.model.State.{reset_module, with_sci, with_qspi}
use Rattle.qsm.specs.model.Pins.{outputs, mask, levels}
use Rattle.qsm.specs.model.Request.{request}
use Rattle.qsm.specs.model.Lanes.{halves, upper_lane, touches, lane}
use Rattle.qsm.specs.model.Serial.{serial_read}
use Rattle.qsm.specs.model.Queue.{queue_read}
use Rattle.qsm.specs.model.Access.{fetched}
use Rattle.qsm.specs.model.Decision.{refusal_of, permits, decide_read, stored_by, decide_stored}
use Rattle.qsm.specs.declared.state.Module.{Module}
use Rattle.qsm.specs.declared.access.Store.{Store}
use Rattle.qsm.specs.declared.decision.Decision.{Decision}
use Rattle.qsm.specs.declared.request.Request.{Request}
use Rattle.qsm.specs.declared.event.Access.{Access}
use Rattle.qsm.specs.declared.event.Access.TheVariants.{Read, Write}
use Rattle.qsm.specs.declared.event.Event.{Event}
use Rattle.qsm.specs.declared.event.Event.TheVariants.{Reset, Hold}
use Rattle.qsm.specs.declared.event.Event.TheVariants as event
use Rattle.qsm.specs.declared.event.Answer.{Answer}
use Rattle.qsm.specs.declared.event.Done.{Done}
use Rattle.qsm.specs.declared.event.Stepped.{Stepped}

-- An answer shows the pins, the request and the count of clocks of the module that it leaves.
unfoldable pub answer_of : Module → ℕ → ℕ → Answer
answer_of m refusal value =
    let asked : Request = request (queue.asks m.qspi) (serial.asks m.sci) m.qilr m.qivr in
    record {
      refusal = refusal;
      value = value;
      levels = levels (outputs m);
      mask = mask (outputs m);
      level = asked.level;
      vector = asked.vector;
      clock = m.clock;
    }

-- What an event leaves, with the refusal's number and the value read; and its answer.
abbrev pub done : Module → ℕ → ℕ → Done
done m refusal value = record { state = m; refusal = refusal; value = value }

abbrev pub answered : Done → Stepped
answered d = record { state = d.state; answer = answer_of d.state d.refusal d.value }

-- The pins as the queue sees them.
abbrev pub pins_of : Module → Pins
pins_of m = record { levels = m.inputs; pqspar = m.pqspar; ddrqs = m.ddrqs }

-- Each clock: pins, mode fault, queue, then on a sample transmitter before receiver. It is counted.
unfoldable pub clock_module : Bool → Module → Module
clock_module rxd m =
    record {
      sci = clocked m.sci rxd;
      qspi = clock m.qspi (pins_of m);
      qsmcr = m.qsmcr;
      qilr = m.qilr;
      qivr = m.qivr;
      portqs = m.portqs;
      pqspar = m.pqspar;
      ddrqs = m.ddrqs;
      inputs = m.inputs;
      clock = suc m.clock;
    }

unfoldable pub clocks : Module → Bool → ℕ → Module
clocks m rxd n = iterate n (clock_module rxd) m

-- A hold's levels are taken at once.
abbrev pub held : Module → ℕ → Module
held m pins =
    record {
      sci = m.sci;
      qspi = m.qspi;
      qsmcr = m.qsmcr;
      qilr = m.qilr;
      qivr = m.qivr;
      portqs = m.portqs;
      pqspar = m.pqspar;
      ddrqs = m.ddrqs;
      inputs = pins;
      clock = m.clock;
    }

-- What a read leaves: it minds only SCSR (either byte), SCDR's low byte and SPSR.
unfoldable pub after_read : Module → ℕ → ℕ → Module
after_read m width offset =
    with_qspi
    (with_sci m (serial_read (touches 0x0C 2 width offset) (touches 0x0F 1 width offset) m.sci))
    (queue_read (touches 0x1F 1 width offset) m.qspi)

-- A byte, a word, or two words.
unfoldable pub read_value : Module → ℕ → ℕ → ℕ
read_value m width offset = lane width (upper_lane width offset) (fetched m offset (halves width))

-- What is refused or blocked gives value 0 and leaves the module as it was.
unfoldable pub refused : Decision → Module → Done
refused d m = done m (refusal_of d) 0

abbrev pub read_decided : Decision → Module → ℕ → ℕ → Done
read_decided d m width offset =
    cond (permits d) (done (after_read m width offset) 0 (read_value m width offset)) (refused d m)

abbrev pub write_decided : Decision → Module → Store → Done
write_decided d m s = cond (permits d) (done s.state 0 0) (refused d m)

unfoldable pub resets : Done
resets = done reset_module 0 0

-- 10: a hold that would pass 2^64 - 1 clocks since reset. Nothing changes, its levels included.
abbrev pub clock_limit : ℕ
clock_limit = 2 ^ 64 - 1

abbrev pub passes : Module → ℕ → Bool
passes m n = ltb clock_limit (m.clock + n)

unfoldable pub holds : Module → ℕ → Bool → ℕ → Done
holds m pins rxd n = cond (passes m n) (done m 10 0) (done (clocks (held m pins) rxd n) 0 0)

unfoldable pub reads : Module → Bool → ℕ → ℕ → Done
reads m supervisor width offset = read_decided (decide_read m supervisor width offset) m width offset

unfoldable pub writes : Module → Bool → ℕ → ℕ → ℕ → Done
writes m supervisor width offset value =
    write_decided (decide_stored m (stored_by m width offset value) supervisor width offset value) m
    (stored_by m width offset value)

abbrev pub accesses : Module → Access → Done
accesses m (Read supervisor width offset) = reads m supervisor width offset
accesses m (Write supervisor width offset value) = writes m supervisor width offset value

unfoldable pub does : Module → Event → Done
does m Reset = resets
does m (Hold pins rxd n) = holds m pins rxd n
does m (event.Access a) = accesses m a

-- The step from one event to the next.
unfoldable pub step : Module → Event → Stepped
step m e = answered (does m e)

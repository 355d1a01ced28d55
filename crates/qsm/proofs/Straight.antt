-- A read in straight code: one or two words in place of the loop over them, and the two status registers in place of the halves.
use mathlib.Core.Bool.{Bool, true, false, cond, ◌&&◌}
use mathlib.Core.Path.{◌≡◌, refl}
use Prim.Native.Nat.{ℕ, ◌+◌, ◌*◌, ◌%◌}
use native.Mathlib.Nat.{zero-add}
use Rattle.steps.specs.Iterate.{iterate}
use Rattle.sci.specs.model.Flags.{receive_flags}
use Rattle.sci.specs.model.Status.{mark_seen, fall_seen}
use Rattle.sci.specs.model.Parts.{with_status}
use Rattle.sci.specs.declared.serial.Sci.{Sci}
use Rattle.qspi.specs.model.Parts.{with_spsr}
use Rattle.qspi.specs.model.Spsr.{flags_seen}
use Rattle.qspi.specs.declared.Qspi.{Qspi}
use Rattle.qsm.specs.model.Map.{decode}
use Rattle.qsm.specs.model.Word.{peek}
use Rattle.qsm.specs.model.Lanes.{touches}
use Rattle.qsm.specs.model.Access.{next, fetch, fetched}
use Rattle.qsm.specs.model.Serial.{serial_read}
use Rattle.qsm.specs.model.Queue.{queue_read}
use Rattle.qsm.specs.model.State.{with_sci, with_qspi}
use Rattle.qsm.specs.model.Decision.{refusal_of, permits}
use Rattle.sci.specs.model.Serial as serial
use Rattle.qspi.specs.model.Outputs as queue
use Rattle.qsm.specs.model.Pins.{outputs, levels, mask}
use Rattle.qsm.specs.model.Request.{request}
use Rattle.qsm.specs.model.Event.{done, after_read, read_value, read_decided, refused, answer_of, answered}
use Rattle.qsm.specs.declared.state.Module.{Module}
use Rattle.qsm.specs.declared.pins.Outputs.{Outputs}
use Rattle.qsm.specs.declared.request.Request.{Request}
use Rattle.qsm.specs.declared.event.Answer.{Answer}
use Rattle.qsm.specs.declared.event.Done.{Done}
use Rattle.qsm.specs.declared.event.Stepped.{Stepped}
use Rattle.qsm.specs.declared.decision.Decision.{Decision}
use Rattle.qsm.specs.declared.decision.Decision.TheVariants.{Permitted, Blocked, Misshapen, Unmapped, Unmodelled, Guarded}

pub one_word : (m : Module) (at : ℕ) → fetched m at 1 ≡ peek m (decode at)
unfolding fetched fetch iterate
one_word m at = zero-add _

pub two_words : (m : Module) (at : ℕ) →
    fetched m at 2 ≡ peek m (decode at) % 65536 * 65536 + peek m (decode (next at))
unfolding fetched fetch iterate
two_words m at = rw zero-add

-- A read of the serial half changes SCSR and what of it is seen, alone.
pub serial_seen : (status low : Bool) (s : Sci) →
    with_status s (cond low (fall_seen (cond status (mark_seen s.status) s.status) receive_flags) (cond status (mark_seen s.status) s.status))
    ≡ serial_read status low s
unfolding serial_read
serial_seen true true s = refl
serial_seen true false s = refl
serial_seen false true s = refl
serial_seen false false s = refl

-- A read of the queue half changes what of SPSR is seen, alone.
pub queue_seen : (status : Bool) (q : Qspi) →
    with_spsr q (cond status (flags_seen q.spsr) q.spsr) ≡ queue_read status q
unfolding queue_read
queue_seen true q = refl
queue_seen false q = refl

-- What a read leaves that was decided, by what it makes seen: nothing where it isn't permitted.
abbrev pub seen_by : Module → Bool → Bool → Bool → Module
seen_by m status low queue = with_qspi (with_sci m (serial_read status low m.sci)) (queue_read queue m.qspi)

pub read_straight : (d : Decision) (m : Module) (width offset : ℕ) →
    done
    (seen_by m (permits d && touches 0x0C 2 width offset) (permits d && touches 0x0F 1 width offset)
    (permits d && touches 0x1F 1 width offset))
    (refusal_of d) (cond (permits d) (read_value m width offset) 0)
    ≡ read_decided d m width offset
unfolding after_read refused serial_read queue_read
read_straight Permitted m width offset = refl
read_straight Blocked m width offset = refl
read_straight Misshapen m width offset = refl
read_straight Unmapped m width offset = refl
read_straight Unmodelled m width offset = refl
read_straight Guarded m width offset = refl

-- An answer put together from its parts is that of what an event left.
pub shown : (d e : Done) (o : Outputs) (q : Request) (a : Answer) → d ≡ e → o ≡ outputs d.state →
    q ≡ request (queue.asks d.state.qspi) (serial.asks d.state.sci) d.state.qilr d.state.qivr →
    a
    ≡ record {
      refusal = d.refusal;
      value = d.value;
      levels = levels o;
      mask = mask o;
      level = q.level;
      vector = q.vector;
      clock = d.state.clock;
    } →
    ◌≡◌ {A = Stepped} (record { state = d.state; answer = a }) (answered e)
unfolding answer_of
shown d e o q a left pins asked given = rw (given, pins, asked, left)

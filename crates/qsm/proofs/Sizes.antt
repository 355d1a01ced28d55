-- The RAM keeps its places and the pins are eight, whatever the events. Assumes nothing.
use mathlib.Core.Path.{◌≡◌, refl, ◌∙◌}
use mathlib.Core.Bool.{Bool, true, false}
use Prim.Native.Nat.{ℕ, zero, suc, ◌+◌, ◌*◌, ◌%◌, ◌<◌}
use native.Mathlib.Nat.{mod-lt}
use native.Mathlib.Omega.{arith}
use lib.Dec.{leb}
use lib.ListN.{length, set, length-set}
use Rattle.steps.specs.Bits.{merge}
use Rattle.steps.specs.Iterate.{iterate}
use Rattle.qspi.specs.model.Fields.{spe, bits_of}
use Rattle.qspi.specs.model.Parts.{with_registers, with_entry}
use Rattle.qspi.specs.model.Entry.{edge_fallen}
use Rattle.qspi.specs.model.Registers.{reset, with_spcr1, switched, write_spcr1}
use Rattle.qspi.specs.model.Queue.{stored, is_last, wraps, begun, miso_of, fault_now, ready, followed, completed, judged, edge, counted, play_clock, delayed, delay_clock, start_if, start_clock, clock_at, clock_if, queue_clock, faulted, clock}
use Rattle.qspi.specs.declared.Qspi.{Qspi}
use Rattle.qspi.specs.declared.Pins.{Pins}
use Rattle.qspi.specs.declared.ram.Ram.{Ram}
use Rattle.qsm.specs.model.State.{reset_module}
use Rattle.qsm.specs.model.Own.{put_own}
use Rattle.qsm.specs.model.Queue.{queue_read, put_queue}
use Rattle.qsm.specs.model.Word.{put}
use Rattle.qsm.specs.model.Decision.{permits, decide_read, stored_by, decide_stored}
use Rattle.qsm.specs.model.Event.{pins_of, held, clocks, after_read, read_value, refused, resets, reads, writes, does, step}
use Rattle.qsm.specs.claims.Registers.{Sized, Eight, Sizes}
use Rattle.qsm.specs.declared.state.Module.{Module}
use Rattle.qsm.specs.declared.map.Place.{Place}
use Rattle.qsm.specs.declared.map.Place.TheVariants.{Own, Serial, Queue, Hole}
use Rattle.qsm.specs.declared.map.OwnWord.{OwnWord}
use Rattle.qsm.specs.declared.map.OwnWord.TheVariants.{Qsmcr, QilrQivr, Portqs, PqsparDdrqs}
use Rattle.qsm.specs.declared.map.QueueWord.{QueueWord}
use Rattle.qsm.specs.declared.map.QueueWord.TheVariants.{Spcr0, Spcr1, Spcr2, Spcr3Spsr, Receive, Transmit, Command}
use Rattle.qsm.specs.declared.event.Access.TheVariants.{Read, Write}
use Rattle.qsm.specs.declared.event.Event.{Event}
use Rattle.qsm.specs.declared.event.Event.TheVariants.{Reset, Hold}
use Rattle.qsm.specs.declared.event.Event.TheVariants as event
use Rattle.qsm.proofs.Clocks.{apart}
use Rattle.qsm.proofs.Limit.{hold_if}
use Rattle.qsm.proofs.Stored.{state_if, write_keeps}

-- ---- the RAM's places

record Long (m : Ram) : Type 0 where
  receive : length m.receive ≡ 16
  transmit : length m.transmit ≡ 16
  commands : length m.commands ≡ 16

-- By a clock.
long_followed : (l w : Bool) (q : Qspi) → Long q.ram → Long (followed l w q).ram
long_followed true true q h = h
long_followed true false q h = h
long_followed false w q h = h

long_judged : (b : Bool) (q : Qspi) → Long q.ram → Long (judged b q).ram
unfolding completed
long_judged true q h =
    long_followed (is_last q) (wraps q) (stored q)
    (record {
      receive = length-set q.ram.receive (q.next.pointer % 16) q.entry.collected ∙ h.receive;
      transmit = h.transmit;
      commands = h.commands;
    })
long_judged false q h = h

long_counted : (b miso : Bool) (q : Qspi) → Long q.ram → Long (counted b miso q).ram
unfolding edge
long_counted true miso q h =
    long_judged (leb (bits_of q.registers.spcr0 q.entry.command * 2) (q.entry.edges % 32 + 1))
    (with_entry q (edge_fallen q.registers.spcr0 (q.entry.edges % 32 + 1) miso q.entry)) h
long_counted false miso q h = h

long_played : (miso : Bool) (q : Qspi) → Long q.ram → Long (play_clock miso q).ram
unfolding play_clock
long_played miso q h = long_counted (leb q.entry.left 1) miso q h

long_delayed : (b : Bool) (q : Qspi) → Long q.ram → Long (delayed b q).ram
long_delayed true q h = h
long_delayed false q h = h

long_started : (b miso : Bool) (q : Qspi) → Long q.ram → Long (start_if b miso q).ram
long_started true miso q h = long_played miso (begun q) h
long_started false miso q h = h

long_at_holds : (playing delaying miso : Bool) (q : Qspi) → Long q.ram → Long (clock_at playing delaying miso q).ram
unfolding delay_clock start_clock
long_at_holds true delaying miso q h = long_played miso q h
long_at_holds false true miso q h = long_delayed (leb q.entry.left 1) q h
long_at_holds false false miso q h = long_started (ready q) miso q h

long_on : (b miso : Bool) (q : Qspi) → Long q.ram → Long (clock_if b miso q).ram
long_on true miso q h = long_at_holds q.entry.playing q.entry.delaying miso q h
long_on false miso q h = h

long_faulted : (b : Bool) (q : Qspi) → Long q.ram → Long (faulted b q).ram
long_faulted true q h = h
long_faulted false q h = h

long_clock : (q : Qspi) (pins : Pins) → Long q.ram → Long (clock q pins).ram
unfolding clock queue_clock
long_clock q pins h =
    long_on (spe (faulted (fault_now q pins) q).registers.spcr1) (miso_of pins) (faulted (fault_now q pins) q)
    (long_faulted (fault_now q pins) q h)

long_clocks : (n : ℕ) (pins : Pins) (q : Qspi) → Long q.ram → Long (iterate n (λ r. clock r pins) q).ram
unfolding iterate
long_clocks zero pins q h = h
long_clocks (suc n) pins q h = long_clock _ pins (long_clocks n pins q h)

-- By an access.
long_read : (b : Bool) (q : Qspi) → Long q.ram → Long (queue_read b q).ram
unfolding queue_read
long_read true q h = h
long_read false q h = h

long_switched : (a b : Bool) (q : Qspi) → Long q.ram → Long (switched a b q).ram
long_switched true true q h = h
long_switched true false q h = h
long_switched false true q h = h
long_switched false false q h = h

long_put : (q : Qspi) (w : QueueWord) (v : ℕ) (upper lower : Bool) → Long q.ram → Long (put_queue q w v upper lower).ram
unfolding put_queue write_spcr1
long_put q Spcr0 v upper lower h = h
long_put q Spcr1 v upper lower h =
    long_switched (spe q.registers.spcr1) (spe (merge q.registers.spcr1 v upper lower))
    (with_registers q (with_spcr1 q.registers (merge q.registers.spcr1 v upper lower))) h
long_put q Spcr2 v upper lower h = h
long_put q Spcr3Spsr v upper lower h = h
long_put q (Receive i) v upper lower h =
    record { receive = length-set q.ram.receive _ _ ∙ h.receive; transmit = h.transmit; commands = h.commands }
long_put q (Transmit i) v upper lower h =
    record { receive = h.receive; transmit = length-set q.ram.transmit _ _ ∙ h.transmit; commands = h.commands }
long_put q (Command i) v upper lower h =
    record {
      receive = h.receive;
      transmit = h.transmit;
      commands =
          length-set (set q.ram.commands _ _) _ _ ∙ length-set q.ram.commands _ _ ∙ h.commands;
    }

-- ---- of the module

of : (m : Module) → m.inputs < 256 → m.ddrqs < 256 → Long m.qspi.ram → Sized m
of m i d h =
    record { inputs = i; directions = d; receive = h.receive; transmit = h.transmit; commands = h.commands }

long : (m : Module) → Sized m → Long m.qspi.ram
long m z = record { receive = z.receive; transmit = z.transmit; commands = z.commands }

put_own_holds : (m : Module) (w : OwnWord) (v : ℕ) (upper lower : Bool) → Sized m → Sized (put_own m w v upper lower)
unfolding put_own
put_own_holds m Qsmcr v upper lower z = of _ z.inputs z.directions (long m z)
put_own_holds m QilrQivr v upper lower z = of _ z.inputs z.directions (long m z)
put_own_holds m Portqs v upper lower z = of _ z.inputs z.directions (long m z)
put_own_holds m PqsparDdrqs v upper lower z = of _ z.inputs (mod-lt _ (omega arith)) (long m z)

put_sized : (m : Module) (p : Place) (v : ℕ) (upper lower : Bool) → Sized m → Sized (put m p v upper lower)
unfolding put
put_sized m (Own w) v upper lower z = put_own_holds m w v upper lower z
put_sized m (Serial w) v upper lower z = of _ z.inputs z.directions (long m z)
put_sized m (Queue w) v upper lower z = of _ z.inputs z.directions (long_put m.qspi w v upper lower (long m z))
put_sized m Hole v upper lower z = z

clocks_sized : (m : Module) (pins : ℕ) (rxd : Bool) (n : ℕ) → pins < 256 → Sized m → Sized (clocks (held m pins) rxd n)
unfolding clocks
clocks_sized m pins rxd n h z =
    rw (apart n rxd (held m pins)) (of _ h z.directions (long_clocks n (pins_of (held m pins)) m.qspi (long m z)))

kept : (m : Module) (e : Event) → Sized m → Eight e → Sized (step m e).state
unfolding step does resets reset_module reset reads writes refused after_read
kept m Reset z h = of _ (omega arith) (omega arith) (record { receive = refl; transmit = refl; commands = refl })
kept m (Hold pins rxd n) z h =
    hold_if (λ d. Sized d.state) m pins rxd n (λ e. z) (λ e. clocks_sized m pins rxd n h z)
kept m (event.Access (Read s w o)) z h =
    state_if Sized (permits (decide_read m s w o)) m (after_read m w o) 0 (read_value m w o) _
    (λ e. of _ z.inputs z.directions (long_read _ m.qspi (long m z))) (λ e. z)
kept m (event.Access (Write s w o v)) z h =
    state_if Sized (permits (decide_stored m (stored_by m w o v) s w o v)) m (stored_by m w o v).state 0 0 _
    (λ e. write_keeps Sized put_sized m w o v z) (λ e. z)

after_reset : (m : Module) → Sized (step m Reset).state
unfolding step does resets reset_module reset
after_reset m = of _ (omega arith) (omega arith) (record { receive = refl; transmit = refl; commands = refl })

pub sizes : Sizes
sizes = record { reset = after_reset; kept = kept }

-- While RE is clear the receiver is in its start state. Assumes nothing.
use mathlib.Core.Path.{◌≡◌, refl, sym, ap, ◌∙◌}
use mathlib.Core.Bool.{Bool, true, false, cond}
use mathlib.Core.List.{List, [], ◌∷◌}
use Prim.Native.Nat.{ℕ, zero, suc, ◌+◌, ◌/◌, ◌%◌, ◌^◌}
use native.Mathlib.Omega.{arith}
use lib.Dec.{eqb}
use Rattle.steps.specs.Bits.{bit, merge}
use Rattle.steps.specs.Iterate.{iterate}
use Rattle.sci.specs.model.Control as control
use Rattle.sci.specs.model.Control.{sccr0_bits, sccr1_bits}
use Rattle.sci.specs.model.Receiver.{start_state}
use Rattle.sci.specs.model.Transmitter.{sent}
use Rattle.sci.specs.model.Parts.{after_sent}
use Rattle.sci.specs.model.Serial.{active, due, heard, prescaled, sampled, clocked, sccr1_word, sccr0_set, stopped, with_sccr1, wrote_sccr0, wrote_sccr1}
use Rattle.sci.specs.declared.receiver.Receiver.{Receiver}
use Rattle.sci.specs.declared.serial.Sci.{Sci}
use Rattle.qsm.specs.model.State.{reset_module}
use Rattle.qsm.specs.model.Serial.{serial_read, put_serial}
use Rattle.qsm.specs.model.Word.{put}
use Rattle.qsm.specs.model.Lanes.{touches}
use Rattle.qsm.specs.model.Decision.{permits, decide_read, stored_by, decide_stored}
use Rattle.qsm.specs.model.Event.{held, clocks, clock_module, after_read, read_value, refused, resets, reads, writes, does, step}
use Rattle.qsm.specs.declared.state.Module.{Module}
use Rattle.qsm.specs.declared.map.Place.{Place}
use Rattle.qsm.specs.declared.map.Place.TheVariants.{Own, Serial, Queue, Hole}
use Rattle.qsm.specs.declared.map.SerialWord.TheVariants.{Sccr0, Sccr1, Scsr, Scdr}
use Rattle.qsm.specs.declared.event.Access.TheVariants.{Read, Write}
use Rattle.qsm.specs.declared.event.Event.{Event}
use Rattle.qsm.specs.declared.event.Event.TheVariants.{Reset, Hold}
use Rattle.qsm.specs.declared.event.Event.TheVariants as event
use Rattle.qsm.proofs.Booleans.{clash, same_digit}
use Rattle.qsm.proofs.Limit.{hold_if}
use Rattle.qsm.proofs.Stored.{state_if, write_keeps, own_keeps}
use Rattle.claims_clauses.specs.SeenBy.{run}
use Rattle.claims_clauses.specs.Off.{Off, WhileOff}
use Rattle.claims_clauses.proofs.FlagTold.{re_is}
use Rattle.claims_clauses.proofs.FlagWritten.{quarter}

abbrev Inv : Sci → Type 0
Inv s = control.RE s.sccr1 ≡ false → s.receiver ≡ start_state s.receiver

-- RE is bit 2 of what is kept of a word, and of what is read of it.
re_bits : (c : ℕ) → control.RE (sccr1_bits c) ≡ control.RE c
re_bits c = same_digit (sccr1_bits c / 4 % 2) (c / 4 % 2) (omega arith)

re_word : (asleep : Bool) (c : ℕ) → bit 2 (cond asleep (sccr1_bits c + 2) (sccr1_bits c)) ≡ control.RE c
re_word true c =
    let d : c % 2 ^ 13 / 4 % 2 ≡ c / 4 % 2 = omega arith in
    rw (quarter (c % 2 ^ 13 / 4) 2 (omega arith)) (same_digit _ _ d)
re_word false c = re_bits c

-- ---- a word written

set_0 : (b : Bool) (s : Sci) (v : ℕ) → Inv s → Inv (sccr0_set b s v)
set_0 true s v i = i
set_0 false s v i = i

set_1 : (b : Bool) (s : Sci) (v : ℕ) → control.RE v ≡ b → Inv (stopped b (with_sccr1 s v))
set_1 true s v e off = clash (control.RE (sccr1_bits v)) off (re_bits v ∙ e)
set_1 false s v e off = refl

wrote_0 : (s : Sci) (v : ℕ) (u l : Bool) → Inv s → Inv (wrote_sccr0 s v u l)
unfolding wrote_sccr0
wrote_0 s v u l i = set_0 (eqb (sccr0_bits (merge s.sccr0 v u l)) s.sccr0) s (sccr0_bits (merge s.sccr0 v u l)) i

wrote_1 : (s : Sci) (v : ℕ) (u l : Bool) → Inv (wrote_sccr1 s v u l)
unfolding wrote_sccr1
wrote_1 s v u l = set_1 (control.RE (merge (sccr1_word s) v u l)) s (merge (sccr1_word s) v u l) refl

written : (m : Module) (p : Place) (v : ℕ) (u l : Bool) → Inv m.sci → Inv (put m p v u l).sci
unfolding put put_serial
written m (Own w) v u l i = rw (own_keeps m w v u l).0 i
written m (Serial Sccr0) v u l i = wrote_0 m.sci v u l i
written m (Serial Sccr1) v u l i = wrote_1 m.sci v u l
written m (Serial Scsr) v u l i = i
written m (Serial Scdr) v u true i = i
written m (Serial Scdr) v u false i = i
written m (Queue w) v u l i = i
written m Hole v u l i = i

-- ---- a read, a clock

read : (t l : Bool) (s : Sci) → Inv s → Inv (serial_read t l s)
unfolding serial_read
read true true s i = i
read true false s i = i
read false true s i = i
read false false s i = i

hears : (b : Bool) (s : Sci) (x : Bool) → control.RE s.sccr1 ≡ b → Inv s → Inv (heard b s x)
hears true s x e i off = clash (control.RE s.sccr1) off e
hears false s x e i off = i off

samples : (s : Sci) (x : Bool) → Inv s → Inv (sampled s x)
unfolding sampled
samples s x i = hears (control.RE s.sccr1) (after_sent s (sent s.transmitter s.status s.sccr1)) x refl i

prescales : (d : Bool) (s : Sci) (x : Bool) → Inv s → Inv (prescaled d s x)
prescales true s x i = samples s x i
prescales false s x i = i

acts : (a : Bool) (s : Sci) (x : Bool) → Inv s → Inv (cond a (prescaled (due s) s x) s)
acts true s x i = prescales (due s) s x i
acts false s x i = i

ticks : (n : ℕ) (rxd : Bool) (m : Module) → Inv m.sci → Inv (iterate n (clock_module rxd) m).sci
unfolding iterate clock_module clocked
ticks zero rxd m i = i
ticks (suc n) rxd m i =
    acts (active (iterate n (clock_module rxd) m).sci) (iterate n (clock_module rxd) m).sci rxd (ticks n rxd m i)

-- ---- the history

stepped : (m : Module) (e : Event) → Inv m.sci → Inv (step m e).state.sci
unfolding step does resets reset_module reads writes refused clocks after_read
stepped m Reset i = λ off. refl
stepped m (Hold pins rxd n) i =
    hold_if (λ d. Inv d.state.sci) m pins rxd n (λ h. i) (λ h. ticks n rxd (held m pins) i)
stepped m (event.Access (Read s w o)) i =
    state_if (λ k. Inv k.sci) (permits (decide_read m s w o)) m (after_read m w o) 0 (read_value m w o) _
    (λ h. read (touches 0x0C 2 w o) (touches 0x0F 1 w o) m.sci i) (λ h. i)
stepped m (event.Access (Write s w o v)) i =
    state_if (λ k. Inv k.sci) (permits (decide_stored m (stored_by m w o v) s w o v)) m (stored_by m w o v).state 0 0 _
    (λ h. write_keeps (λ k. Inv k.sci) written m w o v i) (λ h. i)

played : (es : List Event) (m : Module) → Inv m.sci → Inv (run es m).sci
played [] m i = i
played (e ∷ es) m i = played es (step m e).state (stepped m e i)

at_reset : Inv reset_module.sci
unfolding reset_module
at_reset off = refl

is_off : (r : Receiver) → r ≡ start_state r → Off r
is_off r e =
    record {
      searching = ap (λ (q : Receiver). q.framer.framing) e;
      first = ap (λ (q : Receiver). q.last1) e;
      second = ap (λ (q : Receiver). q.last2) e;
      third = ap (λ (q : Receiver). q.last3) e;
      count = ap (λ (q : Receiver). q.idle) e;
      since = ap (λ (q : Receiver). q.since) e;
      start = e;
    }

pub while_off : WhileOff
while_off es off =
    is_off (run es reset_module).sci.receiver
    (played es reset_module at_reset
    (sym (re_word (run es reset_module).sci.receiver.asleep (run es reset_module).sci.sccr1) ∙ sym (re_is (run es reset_module)) ∙ off))

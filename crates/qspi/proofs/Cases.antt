-- What a clock makes of the queue, by cases: a property of each outcome is one of the clock. Assumes nothing.
use mathlib.Core.Path.{◌≡◌, refl, sym, subst}
use mathlib.Core.Bool.{Bool, true, false}
use Prim.Native.Nat.{◌*◌, ◌+◌, ◌%◌, ◌≤◌}
use lib.Dec.{leb}
use borrow.Author.Tests.{leb-true}
use Rattle.qspi.specs.model.Fields.{spe, halt, bits_of}
use Rattle.qspi.specs.model.Parts.{with_spsr, with_entry}
use Rattle.qspi.specs.model.Spsr.{raised, halta_if}
use Rattle.qspi.specs.model.Entry.{edge_fallen}
use Rattle.qspi.specs.model.Queue.{clock, delay_clock, delayed, play_clock, counted, edge, judged, completed, is_last, wraps, followed, stored, begun, faulted, fault_now, miso_of, ready}
use Rattle.qspi.specs.claims.Laws.{Starting}
use Rattle.qspi.specs.declared.Qspi.{Qspi}
use Rattle.qspi.specs.declared.Pins.{Pins}
use Rattle.qspi.specs.declared.entry.Entry.{Entry}
use Rattle.qspi.proofs.Quiet.{clock_faults, clock_off, clock_playing, clock_delaying, clock_starts, clock_waiting}

-- An entry that plays: its edges change it alone, and edge 2n ends it.
module _ (P : Qspi → Type 0) (r : Qspi) (within : (e : Entry) → P (with_entry r e))
    (ends : (e : Entry) (last wrap : Bool) → P (followed last wrap (stored (with_entry r e)))) where
  judged_by : (b : Bool) (e : Entry) → P (judged b (with_entry r e))
  unfolding completed
  judged_by true e = ends e (is_last r) (wraps r)
  judged_by false e = within e

  counted_by : (b miso : Bool) → P (counted b miso r)
  unfolding edge
  counted_by true miso =
      judged_by (leb (bits_of r.registers.spcr0 r.entry.command * 2) (r.entry.edges % 32 + 1))
      (edge_fallen r.registers.spcr0 (r.entry.edges % 32 + 1) miso r.entry)
  counted_by false miso = within _

  pub play_by_holds : (miso : Bool) → P (play_clock miso r)
  unfolding play_clock
  play_by_holds miso = counted_by (leb r.entry.left 1) miso

-- All that a clock can be.
pub record Outcomes (P : Qspi → Type 0) (q : Qspi) (pins : Pins) : Type 0 where
  pub fault : fault_now q pins ≡ true → P (faulted true q)
  pub still : P q
  pub within : (e : Entry) → P (with_entry q e)
  pub ends : (e : Entry) (last wrap : Bool) → P (followed last wrap (stored (with_entry q e)))
  pub delay_over_holds : (e : Entry) → spe q.registers.spcr1 ≡ true → q.entry.delaying ≡ true → q.entry.left ≤ 1 →
      P (with_entry (with_spsr q (raised (halta_if (halt q.registers.spcr3)) q.spsr)) e)
  pub starts : Starting q → (e : Entry) → P (with_entry (begun q) e)
  pub starts_ends : Starting q → (e : Entry) (last wrap : Bool) → P (followed last wrap (stored (with_entry (begun q) e)))

delay_by : (P : Qspi → Type 0) (l : Bool) (q : Qspi) (pins : Pins) → Outcomes P q pins →
    spe q.registers.spcr1 ≡ true → q.entry.delaying ≡ true → leb q.entry.left 1 ≡ l → P (delayed l q)
delay_by P true q pins c on waits last = c.delay_over_holds _ on waits (leb-true q.entry.left 1 last)
delay_by P false q pins c on waits last = c.within _

by_cases : (P : Qspi → Type 0) (f o p d r : Bool) (q : Qspi) (pins : Pins) → Outcomes P q pins →
    fault_now q pins ≡ f → spe q.registers.spcr1 ≡ o → q.entry.playing ≡ p → q.entry.delaying ≡ d →
    ready q ≡ r → P (clock q pins)
unfolding delay_clock
by_cases P true o p d r q pins c due _ _ _ _ = subst P (sym (clock_faults q pins due)) (c.fault due)
by_cases P false false p d r q pins c safe off _ _ _ = subst P (sym (clock_off q pins off)) c.still
by_cases P false true true d r q pins c safe on plays _ _ =
    subst P (sym (clock_playing q pins on safe plays)) (play_by_holds P q c.within c.ends (miso_of pins))
by_cases P false true false true r q pins c safe on plays waits _ =
    subst P (sym (clock_delaying q pins on safe plays waits)) (delay_by P (leb q.entry.left 1) q pins c on waits refl)
by_cases P false true false false true q pins c safe on plays waits goes =
    let s : Starting q = record { on = on; not_playing = plays; not_delaying = waits; goes = goes } in
    subst P (sym (clock_starts q pins on safe plays waits goes))
    (play_by_holds P (begun q) (c.starts s) (c.starts_ends s) (miso_of pins))
by_cases P false true false false false q pins c safe on plays waits goes =
    subst P (sym (clock_waiting q pins on safe plays waits goes)) c.still

pub clock_by : (P : Qspi → Type 0) (q : Qspi) (pins : Pins) → Outcomes P q pins → P (clock q pins)
clock_by P q pins c = by_cases P _ _ _ _ _ q pins c refl refl refl refl refl

-- Which flags a host has seen is no matter to the queue's clocks. Assumes nothing.
use mathlib.Core.Path.{◌≡◌, refl, ap, ◌∙◌}
use mathlib.Core.Bool.{Bool, true, false}
use Prim.Native.Nat.{ℕ, zero, suc, ◌+◌, ◌*◌, ◌%◌}
use lib.Dec.{leb}
use Rattle.qspi.specs.model.Fields.{spe, bits_of}
use Rattle.qspi.specs.model.Parts.{with_entry, with_spsr}
use Rattle.qspi.specs.model.Entry.{edge_fallen}
use Rattle.qspi.specs.model.Queue.{begun, stored, is_last, wraps, followed, completed, judged, edge, counted, play_clock, delayed, delay_clock, ready, start_if, start_clock, clock_at, clock_if, queue_clock, miso_of, fault_now, faulted, clock}
use Rattle.qspi.specs.claims.Run.{run}
use Rattle.qspi.specs.declared.Qspi.{Qspi}
use Rattle.qspi.specs.declared.Pins.{Pins}
use Rattle.qspi.specs.declared.spsr.Flags.{Flags}

-- The queue with these flags seen.
abbrev pub with_seen : Flags → Qspi → Qspi
with_seen f q = with_spsr q (record { flags = q.spsr.flags; seen = f; cptqp = q.spsr.cptqp })

module _ (f : Flags) where
  followed_seen : (last wrap : Bool) (q : Qspi) → followed last wrap (with_seen f q) ≡ with_seen f (followed last wrap q)
  followed_seen true true q = refl
  followed_seen true false q = refl
  followed_seen false wrap q = refl

  judged_seen : (last : Bool) (q : Qspi) → judged last (with_seen f q) ≡ with_seen f (judged last q)
  unfolding completed
  judged_seen true q = followed_seen (is_last q) (wraps q) (stored q)
  judged_seen false q = refl

  counted_seen : (falls miso : Bool) (q : Qspi) → counted falls miso (with_seen f q) ≡ with_seen f (counted falls miso q)
  unfolding edge
  counted_seen true miso q =
      judged_seen (leb (bits_of q.registers.spcr0 q.entry.command * 2) (q.entry.edges % 32 + 1))
      (with_entry q (edge_fallen q.registers.spcr0 (q.entry.edges % 32 + 1) miso q.entry))
  counted_seen false miso q = refl

  play_seen : (miso : Bool) (q : Qspi) → play_clock miso (with_seen f q) ≡ with_seen f (play_clock miso q)
  unfolding play_clock
  play_seen miso q = counted_seen (leb q.entry.left 1) miso q

  delayed_seen : (over : Bool) (q : Qspi) → delayed over (with_seen f q) ≡ with_seen f (delayed over q)
  delayed_seen true q = refl
  delayed_seen false q = refl

  start_seen : (goes miso : Bool) (q : Qspi) → start_if goes miso (with_seen f q) ≡ with_seen f (start_if goes miso q)
  start_seen true miso q = play_seen miso (begun q)
  start_seen false miso q = refl

  at_seen : (playing delaying miso : Bool) (q : Qspi) → clock_at playing delaying miso (with_seen f q) ≡ with_seen f (clock_at playing delaying miso q)
  unfolding start_clock delay_clock
  at_seen true delaying miso q = play_seen miso q
  at_seen false true miso q = delayed_seen (leb q.entry.left 1) q
  at_seen false false miso q = start_seen (ready q) miso q

  if_seen : (on miso : Bool) (q : Qspi) → clock_if on miso (with_seen f q) ≡ with_seen f (clock_if on miso q)
  if_seen true miso q = at_seen q.entry.playing q.entry.delaying miso q
  if_seen false miso q = refl

  queue_seen : (miso : Bool) (q : Qspi) → queue_clock miso (with_seen f q) ≡ with_seen f (queue_clock miso q)
  unfolding queue_clock
  queue_seen miso q = if_seen (spe q.registers.spcr1) miso q

  fault_seen : (due : Bool) (q : Qspi) → faulted due (with_seen f q) ≡ with_seen f (faulted due q)
  fault_seen true q = refl
  fault_seen false q = refl

  clock_seen_holds : (q : Qspi) (pins : Pins) → clock (with_seen f q) pins ≡ with_seen f (clock q pins)
  unfolding clock
  clock_seen_holds q pins =
      ap (queue_clock (miso_of pins)) (fault_seen (fault_now q pins) q) ∙ queue_seen (miso_of pins) (faulted (fault_now q pins) q)

  pub run_seen : (pins : ℕ → Pins) (n : ℕ) (q : Qspi) → run pins n (with_seen f q) ≡ with_seen f (run pins n q)
  unfolding run
  run_seen pins zero q = refl
  run_seen pins (suc n) q = ap (λ (r : Qspi). clock r (pins (suc n))) (run_seen pins n q) ∙ clock_seen_holds (run pins n q) (pins (suc n))

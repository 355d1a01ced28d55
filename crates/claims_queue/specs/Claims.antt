-- The queue by the paper's numbers, from SPE's rise to its end.
use Rattle.std.specs.Prelude.{◌≡◌, Bool, false, ℕ}
use Rattle.qspi.specs.claims.Run.{run}
use Rattle.qspi.specs.claims.Marked.{plain, longest}
use Rattle.qsm.specs.model.Event.{step}
use Rattle.qsm.specs.declared.state.Module.{Module}
use Rattle.qsm.specs.declared.event.Event.TheVariants.{Hold}
use Rattle.claims_queue.specs.Numbers.{ends, Next}
use Rattle.claims_queue.specs.Entry.{last_at, Entries, Words}
use Rattle.claims_queue.specs.Follows.{length, Over, EntryFollows, EntryHalts}
use Rattle.claims_queue.specs.Writes.{SpeRises, NewqpBefore, NewqpWithin, UpperBefore, WorkingGoesOn, WorkingEnds, HaltWithin, HaltCleared}
use Rattle.claims_queue.specs.Stops.{Off, TooFast, ModeFault, Cleared}

-- A hold of n clocks that is not refused is n clocks of the queue at its pin levels.
abbrev pub HoldRuns : Type 0
HoldRuns =
    (m : Module) (pins : ℕ) (rxd : Bool) (n : ℕ) → (step m (Hold pins rxd n)).answer.refusal ≡ 0 →
    (step m (Hold pins rxd n)).state.qspi
    ≡ run (λ c. record { levels = pins; pqspar = m.pqspar; ddrqs = m.ddrqs }) n m.qspi

-- The laws are about something: of K7's queue entry 0 comes next, its edge 16 falls at clock 64 and it lasts 81; K9's lasts 16,352.
pub record Met : Type 0 where
  pub next : Next plain 0
  pub last : last_at plain 0 ≡ 64
  pub lasts : length plain 0 ≡ 81
  pub most : length longest 0 ≡ 16352
  pub goes : ends plain.registers.spcr2 0 ≡ false

pub record Claims : Type 0 where
  pub holds : HoldRuns
  pub entries : Entries
  pub words : Words
  pub over : Over
  pub follows : EntryFollows
  pub halts : EntryHalts
  pub rises : SpeRises
  pub newqp_before : NewqpBefore
  pub newqp_within : NewqpWithin
  pub upper_before : UpperBefore
  pub working_goes_on : WorkingGoesOn
  pub working_ends : WorkingEnds
  pub halt_within : HaltWithin
  pub halt_cleared : HaltCleared
  pub off : Off
  pub too_fast : TooFast
  pub mode_fault : ModeFault
  pub cleared : Cleared
  pub met : Met

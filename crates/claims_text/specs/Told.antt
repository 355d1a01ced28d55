-- The figures that `tool_rates` gives are those of the theorems.
use Rattle.std.specs.Prelude.{Bool, true, false, List, ◌≡◌, ℕ, ◌*◌, ◌/◌, length}
use Rattle.sci.specs.model.Control.{M, bits_of}
use Rattle.qsm.specs.declared.state.Module.{Module}
use Rattle.tool_rates.specs.Rates.{deadline_of, tolerance_of}
use Rattle.tool_rates.specs.Rates as rates
use Rattle.claims_polling.specs.Rule.{longest}
use Rattle.claims_senders.specs.Fair.{FairFrame}
use Rattle.claims_senders.specs.Heard.{earliest}
use Rattle.claims_senders.specs.Rates.{frame_at}
use Rattle.claims_through.specs.Through.{sample_of, bits_in}

-- How long a word may wait: on any line the rule of polls has it (`Rule`, `Served`), of a fair sender `WordsThrough`.
abbrev pub Deadlines : Type 0
Deadlines =
    (m : Module) →
    (deadline_of m.sci.sccr0 (M m.sci.sccr1) false ≡ longest true m)
    × (deadline_of m.sci.sccr0 (M m.sci.sccr1) true ≡ earliest (bits_in m) * sample_of m)

-- At a rate that is told to be heard every frame of a text is fair, wherever it begins and whatever pause follows it.
abbrev pub HeardFair : Type 0
HeardFair =
    (clock baud sccr0 k pause : ℕ) (nine : Bool) (bits : List Bool) → (tolerance_of clock baud sccr0 nine).heard ≡ true → length bits ≡ bits_of nine →
    FairFrame (rates.sample_of sccr0) (frame_at clock baud (baud / 2) k bits pause)

-- 9,600 baud at 16,777,216 Hz with SCBR 55: heard, its bits 0.70 % short. 115,200 with SCBR 5: not heard, 8.98 % short.
pub record Usual : Type 0 where
  pub heard : tolerance_of 16777216 9600 55 false ≡ record { heard = true; short = true; error = 70 }
  pub unheard : tolerance_of 16777216 115200 5 false ≡ record { heard = false; short = true; error = 897 }

pub record RatesTold : Type 0 where
  pub deadlines : Deadlines
  pub fair : HeardFair
  pub usual : Usual

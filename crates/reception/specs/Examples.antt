-- Words do come, noisy ones too, and frames are lost: a receiver that is about to take a frame, with SCDR free and with a word that waits there.
use Rattle.std.specs.Prelude.{true, false, Some, None, ◌≡◌}
use Rattle.sci.specs.model.Flags.{RDRF}
use Rattle.sci.specs.model.Status.{raise}
use Rattle.sci.specs.model.Serial.{reset_sci}
use Rattle.sci.specs.declared.status.Status.{Status}
use Rattle.qsm.specs.model.State.{reset_module, with_sci}
use Rattle.qsm.specs.model.Event.{step}
use Rattle.qsm.specs.declared.state.Module.{Module}
use Rattle.qsm.specs.declared.event.Event.TheVariants.{Hold}
use Rattle.reception.specs.Arrival.{arrival}
use Rattle.reception.specs.Report.{report}
use Rattle.reception.specs.declared.account.Report.{Report}

-- The receiver on, with two clocks to a sample, before RT10 of a stop bit, with the bits of the letter A and a sum of 2 so far; of RT8 and RT9
-- one disagrees.
abbrev pub at_stop : Status → Module
at_stop flags =
    with_sci reset_module
    (record {
      sccr0 = 1;
      sccr1 = 4;
      status = flags;
      prescaler = 1;
      receiver =
          record {
            framer =
                record { framing = true; starting = false; left = 0; rt = 9; first = true; second = false; noise = 2; moved = false; shift = 65 };
            last1 = false;
            last2 = true;
            last3 = true;
            idle = 0;
            since = false;
            asleep = false;
            scdr = 0;
            noise = 0;
          };
      transmitter = reset_sci.transmitter;
      account = reset_sci.account;
    })

abbrev pub free : Module
free = at_stop reset_sci.status

abbrev pub occupied : Module
occupied = at_stop (raise reset_sci.status RDRF)

-- One clock with RXD high.
abbrev pub one_clock : Module → Module
one_clock m = (step m (Hold 0 true 1)).state

pub record Examples : Type 0 where
  pub comes : arrival free (one_clock free) ≡ Some 3
  pub waits : ◌≡◌ {A = Report} (report (one_clock free)) (record { taken = 1; lost = 0; waiting = true })
  -- A lost frame brings nothing, its figure neither.
  pub lost : arrival occupied (one_clock occupied) ≡ None
  pub counts : ◌≡◌ {A = Report} (report (one_clock occupied)) (record { taken = 1; lost = 1; waiting = true })

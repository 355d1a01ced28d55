-- The histories of specs/Witness, computed.
use mathlib.Core.Bool.{Bool, true, false, false≢true}
use mathlib.Core.List.{List, [], ◌∷◌}
use mathlib.Core.Path.{◌≡◌, refl}
use native.Mathlib.Omega.{arith}
use Rattle.sci.specs.model.Status.{has, raise, raise_if, fall, fall_if, mark_seen, fall_seen}
use Rattle.sci.specs.model.Framer.{start_bit, data_bit, stop_bit, fixed, framed}
use Rattle.sci.specs.model.Receiver.{outcome, raised, entered, status_after, receiver_after, received}
use Rattle.sci.specs.model.Transmitter.{sent}
use Rattle.sci.specs.claims.Line.{delivers, resync_samples}
use Rattle.sci.specs.model.Serial.{reset_sci, sampled, clocked, wrote_sccr0, wrote_sccr1, sccr0_guarded, sccr1_guarded}
use Rattle.sci.specs.claims.History.{Step, reset, clock, reads, writesSccr0, writesSccr1, writesScdr, step, run, ops, watched, Unbroken}
use Rattle.sci.specs.claims.Overrun.{log}
use Rattle.sci.specs.claims.Demand3.{Recovers, Compared}
use Rattle.sci.specs.claims.Witness.{samples, rate, enable, before, quiet, later, recovering, waiting, words_of, Met}
use Rattle.sci.specs.declared.serial.Sci.{Sci}

-- Clocks and reads break nothing.
abbrev harmless : List Step → Bool
harmless [] = true
harmless (reset ∷ es) = false
harmless (clock x ∷ es) = harmless es
harmless (reads scsr scdr ∷ es) = harmless es
harmless (writesSccr0 v upper lower ∷ es) = false
harmless (writesSccr1 v upper lower ∷ es) = false
harmless (writesScdr v upper lower ∷ es) = harmless es

unbroken : (es : List Step) (s : Sci) → harmless es ≡ true → Unbroken es s
unbroken [] s e = tt
unbroken (reset ∷ es) s e = absurd (false≢true e)
unbroken (clock x ∷ es) s e = (refl, unbroken es (step (clock x) s) e)
unbroken (reads scsr scdr ∷ es) s e = (refl, unbroken es (step (reads scsr scdr) s) e)
unbroken (writesSccr0 v upper lower ∷ es) s e = absurd (false≢true e)
unbroken (writesSccr1 v upper lower ∷ es) s e = absurd (false≢true e)
unbroken (writesScdr v upper lower ∷ es) s e = (refl, unbroken es (step (writesScdr v upper lower) s) e)

recovers : Recovers before quiet
unfolding has raise raise_if fall fall_if mark_seen fall_seen start_bit data_bit stop_bit framed fixed outcome raised entered status_after receiver_after received sent sampled clocked wrote_sccr0 wrote_sccr1 sccr0_guarded sccr1_guarded step run ops
recovers =
    record {
      on = refl;
      awake = refl;
      unbroken = unbroken quiet (run before reset_sci) refl;
      ones = tt;
      enough = omega arith;
      clear = refl;
    }

compared : Compared (rate ∷ []) enable (samples resync_samples true)
unfolding has raise raise_if fall fall_if mark_seen fall_seen start_bit data_bit stop_bit framed fixed outcome raised entered status_after receiver_after received sent sampled clocked wrote_sccr0 wrote_sccr1 sccr0_guarded sccr1_guarded step run ops
compared =
    record {
      off = (refl, tt);
      rises = refl;
      awake = refl;
      unbroken = unbroken (samples resync_samples true) (step enable (step rate reset_sci)) refl;
      ones = tt;
      enough = omega arith;
    }

pub met : Met
unfolding has raise raise_if fall fall_if mark_seen fall_seen start_bit data_bit stop_bit framed fixed outcome raised entered status_after receiver_after received sent sampled clocked wrote_sccr0 wrote_sccr1 sccr0_guarded sccr1_guarded step run ops watched delivers words_of log
met =
    record {
      recovers = recovers;
      compared = compared;
      equal = refl;
      unbroken = unbroken later recovering refl;
      unbroken' = unbroken later waiting refl;
      alike = refl;
      delivers = refl;
      loses = refl;
    }

-- Demand 3 of the serial half, whole: every history from reset on.
use Rattle.std.specs.Prelude.{Bool, true, false, List, [], ◌∷◌, ◌≡◌, ◌≤◌}
use Rattle.sci.specs.model.Control.{RE, settings}
use Rattle.sci.specs.claims.Line.{shown, no_flag, Ones, samples_in, resync_samples}
use Rattle.sci.specs.model.Serial.{reset_sci}
use Rattle.sci.specs.claims.History.{Step, reads, step, run, ops, watched, Unbroken}
use Rattle.sci.specs.claims.Overrun.{log, Overrun}
use Rattle.sci.specs.declared.serial.Sci.{Sci}

-- `before` leaves the receiver on and not asleep. Then, with no reset or counted write, come ones enough and, still on ones, a read that
-- shows no receive flag.
pub record Recovers (before quiet : List Step) : Type 0 where
  pub on : RE (run before reset_sci).sccr1 ≡ true
  pub awake : (run before reset_sci).receiver.asleep ≡ false
  pub unbroken : Unbroken quiet (run before reset_sci)
  pub ones : Ones (ops quiet (run before reset_sci))
  pub enough : resync_samples ≤ samples_in (ops quiet (run before reset_sci))
  pub clear : shown (run quiet (run before reset_sci)).status ≡ no_flag

-- RE is clear after each step.
abbrev pub Off : List Step → Sci → Type 0
Off [] s = Unit {0}
Off (e ∷ es) s = (RE (step e s).sccr1 ≡ false) × Off es (step e s)

-- The receiver compared with: RE first rises after a reset, by `enable`, with RWU clear; then come ones enough with no counted write.
pub record Compared (early : List Step) (enable : Step) (waited : List Step) : Type 0 where
  pub off : Off early reset_sci
  pub rises : RE (step enable (run early reset_sci)).sccr1 ≡ true
  pub awake : (step enable (run early reset_sci)).receiver.asleep ≡ false
  pub unbroken : Unbroken waited (step enable (run early reset_sci))
  pub ones : Ones (ops waited (step enable (run early reset_sci)))
  pub enough : resync_samples ≤ samples_in (ops waited (step enable (run early reset_sci)))

-- Both then get the same samples and permitted reads, with no reset or counted write: the receive flags after each, and the fresh words,
-- are equal.
abbrev pub Recovered : Type 0
Recovered =
    (before quiet : List Step) (scdr : Bool) (early : List Step) (enable : Step) (waited later later' : List Step) →
    Recovers before quiet → Compared early enable waited →
    let m : Sci = run before reset_sci in
    let c : Sci = step enable (run early reset_sci) in
    let z : Sci = step (reads true scdr) (run quiet m) in
    let y : Sci = run waited c in
    settings m.sccr1 ≡ settings c.sccr1 →
    Unbroken later z → Unbroken later' y → ops later z ≡ ops later' y → watched later z ≡ watched later' y

pub record Demand3 : Type 0 where
  pub recovered : Recovered
  pub overrun : (es : List Step) → Overrun (log es reset_sci)

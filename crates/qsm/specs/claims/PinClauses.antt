-- Document 01, pins, sentence by sentence, of the answer to an event and the module that the event leaves. Pins 0 to 7 are MISO, MOSI, SCK,
-- PCS0 to PCS3, TXD.
use Rattle.std.specs.Prelude.{◌≡◌, Bool, true, false, cond, ◌||◌, ℕ, ◌+◌, ◌<◌}
use Rattle.steps.specs.Bits.{bit}
use Rattle.sci.specs.model.Transmitter.{runs}
use Rattle.sci.specs.model.Serial.{txd}
use Rattle.qspi.specs.model.Outputs.{sck, pcs}
use Rattle.qspi.specs.declared.Qspi.{Qspi}
use Rattle.qsm.specs.model.Event.{passes, step}
use Rattle.qsm.specs.claims.StatusFlags.{read_at}
use Rattle.qsm.specs.declared.state.Module.{Module}
use Rattle.qsm.specs.declared.event.Event.{Event}
use Rattle.qsm.specs.declared.event.Event.TheVariants.{Reset, Hold}
use Rattle.qsm.specs.declared.event.Event.TheVariants as event
use Rattle.qsm.specs.declared.event.Answer.{Answer}

-- SPE is bit 15 of SPCR1 (1A), TE bit 3 of SCCR1 (0A).
abbrev pub SPE : Module → Bool
SPE m = bit 15 (read_at m 2 0x1A)

-- TE is set or a frame or preamble runs.
abbrev pub transmitting : Module → Bool
transmitting m = bit 3 (read_at m 2 0x0A) || runs m.sci.transmitter

-- What the queue puts on MOSI.
abbrev pub mosi : Qspi → Bool
mosi q = q.entry.mosi

-- A pin is assigned to the queue.
abbrev pub assigned : Module → ℕ → Bool
assigned m k = bit k m.pqspar

-- The answer's mask and levels at a pin.
abbrev pub driven : Answer → ℕ → Bool
driven a k = bit k a.mask

abbrev pub high : Answer → ℕ → Bool
high a k = bit k a.levels

-- Driven, at a level.
abbrev pub DrivenAt : Answer → ℕ → Bool → Type 0
DrivenAt a k x = (driven a k ≡ true) × (high a k ≡ x)

-- An output by DDRQS: driven where its bit is one, and then at a level.
abbrev pub OutputAt : Module → Answer → ℕ → Bool → Type 0
OutputAt m a k x = (driven a k ≡ bit k m.ddrqs) × (driven a k ≡ true → high a k ≡ x)

-- DDRQS and PORTQS rule a pin.
abbrev pub Port : Module → Answer → ℕ → Type 0
Port m a k = OutputAt m a k (bit k m.portqs)

pub record PinClauses (m : Module) (a : Answer) : Type 0 where
  -- With SPE clear, DDRQS and PORTQS rule pins 0 to 6.
  pub port : (k : ℕ) → k < 7 → SPE m ≡ false → Port m a k
  -- With SPE set, SCK, whatever DDRQS says, is the queue's;
  pub clock : SPE m ≡ true → DrivenAt a 2 (sck m.qspi)
  -- and so are the assigned MOSI
  pub data_out : SPE m ≡ true → assigned m 1 ≡ true → OutputAt m a 1 (mosi m.qspi)
  -- and PCS0 to PCS3 outputs;
  pub selects :
      (i : ℕ) → i < 4 → SPE m ≡ true → assigned m (3 + i) ≡ true →
      OutputAt m a (3 + i) (bit i (pcs m.qspi m.portqs))
  -- an assigned MISO isn't driven;
  pub data_in : SPE m ≡ true → assigned m 0 ≡ true → driven a 0 ≡ false
  -- the rest stay as before.
  pub rest : (k : ℕ) → k < 7 → (k ≡ 2 → ⊥) → SPE m ≡ true → assigned m k ≡ false → Port m a k
  -- TXD is driven while TE is set or a frame or preamble runs,
  pub sends : transmitting m ≡ true → DrivenAt a 7 (txd m.sci)
  -- resting at one;
  pub rests : transmitting m ≡ true → runs m.sci.transmitter ≡ false → high a 7 ≡ true
  -- else DDRQS and PORTQS rule pin 7.
  pub not_sending : transmitting m ≡ false → Port m a 7
  -- Undriven levels are 0.
  pub undriven : (k : ℕ) → driven a k ≡ false → high a k ≡ false
  -- PORTQS (byte 15) reads driven levels, else the last input.
  pub reads : (k : ℕ) → k < 8 → bit k (read_at m 1 0x15) ≡ cond (driven a k) (high a k) (bit k m.inputs)

-- The last input: a hold's levels, 0 from a reset to a hold; an access leaves it, and so does a hold refused 10.
abbrev pub last_input : Module → Event → ℕ
last_input m Reset = 0
last_input m (Hold pins rxd n) = cond (passes m n) m.inputs pins
last_input m (event.Access a) = m.inputs

abbrev pub LastInput : Type 0
LastInput = (m : Module) (e : Event) → (step m e).state.inputs ≡ last_input m e

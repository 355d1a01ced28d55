-- The laws of pins, requests and seen flags are about something: modules, from a reset on, that meet their hypotheses.
use Rattle.std.specs.Prelude.{◌≡◌, true, List, [], ◌∷◌, ℕ}
use Rattle.qsm.specs.model.State.{reset_module}
use Rattle.qsm.specs.model.Event.{step}
use Rattle.qsm.specs.claims.StatusFlags.{QSPI, TDRE, MODF}
use Rattle.qsm.specs.claims.RequestClauses.{asks}
use Rattle.qsm.specs.claims.PinClauses.{SPE, transmitting, assigned}
use Rattle.qsm.specs.claims.SeenClauses.{is_seen, Touches, after}
use Rattle.qsm.specs.declared.state.Module.{Module}
use Rattle.qsm.specs.declared.event.Access.TheVariants.{Read, Write}
use Rattle.qsm.specs.declared.event.Event.{Event}
use Rattle.qsm.specs.declared.event.Event.TheVariants.{Hold}
use Rattle.qsm.specs.declared.event.Event.TheVariants as event
use Rattle.qsm.specs.declared.event.Stepped.{Stepped}

-- A supervisor's write of a word.
abbrev pub put : ℕ → ℕ → Event
put offset value = event.Access (Write true 2 offset value)

abbrev pub play : List Event → Module → Module
play [] m = m
play (e ∷ es) m = play es (step m e).state

-- Both halves at level 3, QIVR 41; MOSI and PCS0 assigned, MOSI an output; MSTR and SPE; HMIE.
abbrev pub running : Module
running =
    play (put 0x04 0x1B41 ∷ put 0x16 0x0A02 ∷ put 0x18 0x8104 ∷ put 0x1A 0x8404 ∷ put 0x1E 0x0200 ∷ []) reset_module

-- TE and TIE; then a clock with PCS0 low, a mode fault.
abbrev pub serial_asks : Stepped
serial_asks = step running (put 0x0A 0x0088)

abbrev pub both_ask : Stepped
both_ask = step serial_asks.state (Hold 0 true 1)

pub record Met : Type 0 where
  pub on : SPE serial_asks.state ≡ true
  pub sends : transmitting serial_asks.state ≡ true
  pub mosi : assigned serial_asks.state 1 ≡ true
  -- SCI alone, then both at one level.
  pub serial_vector : serial_asks.answer.vector ≡ 0x40
  pub tdre : asks both_ask.state TDRE ≡ true
  pub modf : asks both_ask.state MODF ≡ true
  pub tie_level : both_ask.answer.level ≡ 3
  pub tie_vector : both_ask.answer.vector ≡ 0x41
  -- MODF is seen by a read of byte 1F.
  pub looks : Touches both_ask.state true 1 0x1F QSPI
  pub seen : is_seen (after both_ask.state (Read true 1 0x1F)) MODF ≡ true

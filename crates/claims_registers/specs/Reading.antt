-- Document 01, Pins and requests, by what a host reads: who drives a pin by PQSPAR (16) and DDRQS (17), at what level by PORTQS as it was written
-- (15), and the request by QILR (04) and QIVR (05). Of an answer a and the module m that its event leaves.
use Rattle.std.specs.Prelude.{◌≡◌, Bool, true, false, cond, ℕ, ◌+◌, ◌-◌, ◌/◌, ◌%◌, ◌≤◌, ◌<◌}
use Rattle.steps.specs.Bits.{bit}
use Rattle.qsm.specs.model.Event.{step}
use Rattle.qsm.specs.claims.Registers.{reading, writing}
use Rattle.qsm.specs.claims.StatusFlags.{Half, SCI, QSPI, Flag, half}
use Rattle.qsm.specs.claims.RequestClauses.{asks}
use Rattle.qsm.specs.claims.PinClauses.{SPE, transmitting, driven, high}
use Rattle.qsm.specs.declared.state.Module.{Module}
use Rattle.qsm.specs.declared.event.Event.{Event}
use Rattle.qsm.specs.declared.event.Answer.{Answer}
use Rattle.claims_registers.specs.Formed.{Formed}

-- Assigned to the queue, and an output.
abbrev pub assigned : Module → ℕ → Bool
assigned m k = bit k (reading m 1 0x16).value

abbrev pub output : Module → ℕ → Bool
output m k = bit k (reading m 1 0x17).value

pub record Driven (m : Module) (a : Answer) : Type 0 where
  pub port : (k : ℕ) → k < 7 → SPE m ≡ false → driven a k ≡ output m k
  pub SCK : SPE m ≡ true → driven a 2 ≡ true
  pub MISO : SPE m ≡ true → assigned m 0 ≡ true → driven a 0 ≡ false
  pub MOSI : SPE m ≡ true → assigned m 1 ≡ true → driven a 1 ≡ output m 1
  pub Pcs : (i : ℕ) → i < 4 → SPE m ≡ true → assigned m (3 + i) ≡ true → driven a (3 + i) ≡ output m (3 + i)
  pub rest : (k : ℕ) → k < 7 → (k ≡ 2 → ⊥) → SPE m ≡ true → assigned m k ≡ false → driven a k ≡ output m k
  pub TXD : transmitting m ≡ true → driven a 7 ≡ true
  pub silent : transmitting m ≡ false → driven a 7 ≡ output m 7

-- A byte written to PORTQS stands on the outputs that it rules, and reads so; the others read the last input.
pub record PortWritten (m : Module) (v : ℕ) : Type 0 where
  pub level :
      (k : ℕ) → k < 7 → SPE (writing m 1 0x15 v).state ≡ false → output (writing m 1 0x15 v).state k ≡ true →
      high (writing m 1 0x15 v).answer k ≡ bit k v
  pub reads :
      (k : ℕ) → k < 7 → SPE (writing m 1 0x15 v).state ≡ false →
      bit k (reading (writing m 1 0x15 v).state 1 0x15).value
      ≡ cond (output (writing m 1 0x15 v).state k) (bit k v) (bit k m.inputs)

-- ILQSPI is 5:3 of QILR, ILSCI 2:0.
abbrev pub level_of : Module → Half → ℕ
level_of m SCI = (reading m 1 0x04).value % 8
level_of m QSPI = (reading m 1 0x04).value / 8 % 8

-- QIVR, whose bit 0 reads one, for QSPI; with bit 0 zero for SCI.
abbrev pub vector_of : Module → Half → ℕ
vector_of m SCI = (reading m 1 0x05).value - 1
vector_of m QSPI = (reading m 1 0x05).value

pub record Asking (m : Module) (a : Answer) (f : Flag) : Type 0 where
  pub asks : asks m f ≡ true
  pub level : a.level ≡ level_of m (half f)
  pub vector : a.vector ≡ vector_of m (half f)

-- The level is the higher one among those asking; level 0 gives vector 0; QSPI on a tie.
pub record Requested (m : Module) (a : Answer) : Type 0 where
  pub higher : (f : Flag) → asks m f ≡ true → level_of m (half f) ≤ a.level
  pub shows : 0 < a.level → (f : Flag) × Asking m a f
  pub tie :
      (f : Flag) → half f ≡ QSPI → asks m f ≡ true → level_of m QSPI ≡ a.level → 0 < a.level →
      a.vector ≡ vector_of m QSPI
  pub none : a.level ≡ 0 → a.vector ≡ 0

pub record ShownBy : Type 0 where
  pub pins : (m : Module) (e : Event) → Formed m → Driven (step m e).state (step m e).answer
  pub port : (m : Module) (v : ℕ) → Formed m → (writing m 1 0x15 v).answer.refusal ≡ 0 → PortWritten m v
  pub requests : (m : Module) (e : Event) → Formed m → Requested (step m e).state (step m e).answer

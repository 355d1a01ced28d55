-- Document 01, Flags: which accesses make a status flag seen (the paper's word).
use Rattle.std.specs.Prelude.{◌≡◌, Bool, true, false, ◌||◌, ℕ, ◌+◌, ◌<◌, eqb}
use Rattle.steps.specs.Bits.{bit}
use Rattle.qspi.specs.declared.Qspi.{Qspi}
use Rattle.qsm.specs.model.Decision.{permits, decide_read}
use Rattle.qsm.specs.model.Event.{step}
use Rattle.qsm.specs.claims.StatusFlags.{Half, SCI, QSPI, Flag, TDRE, TC, RDRF, RAF, IDLE, OR, NF, FE, PF, SPIF, MODF, HALTA, half, is_set}
use Rattle.qsm.specs.declared.state.Module.{Module}
use Rattle.qsm.specs.declared.event.Access.{Access}
use Rattle.qsm.specs.declared.event.Access.TheVariants.{Read, Write}
use Rattle.qsm.specs.declared.event.Event.TheVariants as event

-- Whether SPSR's flags are seen.
abbrev pub spif_seen : Qspi → Bool
spif_seen q = q.spsr.seen.spif

abbrev pub modf_seen : Qspi → Bool
modf_seen q = q.spsr.seen.modf

abbrev pub halta_seen : Qspi → Bool
halta_seen q = q.spsr.seen.halta

-- A flag of SCSR is seen at its own bit.
abbrev pub in_scsr : Module → ℕ → Bool
in_scsr m k = bit k m.sci.status.seen.bits

abbrev pub is_seen : Module → Flag → Bool
is_seen m TDRE = in_scsr m 8
is_seen m TC = in_scsr m 7
is_seen m RDRF = in_scsr m 6
is_seen m RAF = in_scsr m 5
is_seen m IDLE = in_scsr m 4
is_seen m OR = in_scsr m 3
is_seen m NF = in_scsr m 2
is_seen m FE = in_scsr m 1
is_seen m PF = in_scsr m 0
is_seen m SPIF = spif_seen m.qspi
is_seen m MODF = modf_seen m.qspi
is_seen m HALTA = halta_seen m.qspi

-- The bytes of SCSR, 0C and 0D; of SPSR, 1F.
abbrev pub status_byte : Half → ℕ → Bool
status_byte SCI b = eqb b 0x0C || eqb b 0x0D
status_byte QSPI b = eqb b 0x1F

-- A read permitted (the paper's word), of which one byte is of a half's status register.
pub record Touches (m : Module) (supervisor : Bool) (width offset : ℕ) (h : Half) : Type 0 where
  pub permitted : permits (decide_read m supervisor width offset) ≡ true
  pub byte : ℕ
  pub within : byte < width
  pub here : status_byte h (offset + byte) ≡ true

-- An access is such a read.
abbrev pub Looks : Module → Access → Half → Type 0
Looks m (Read supervisor width offset) h = Touches m supervisor width offset h
Looks m (Write supervisor width offset value) h = ⊥

abbrev pub after : Module → Access → Module
after m a = (step m (event.Access a)).state

pub record SeenClauses (m : Module) (a : Access) (f : Flag) : Type 0 where
  -- A read of the status register makes seen every flag then set: after it, each that is still set is seen.
  pub seen : Looks m a (half f) → is_set (after m a) f ≡ true → is_seen (after m a) f ≡ true
  -- No other access makes a flag seen, and none that wasn't set.
  pub alone : is_seen m f ≡ false → is_seen (after m a) f ≡ true → Looks m a (half f) × (is_set m f ≡ true)

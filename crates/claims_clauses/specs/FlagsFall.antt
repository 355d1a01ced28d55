-- Document 01, Flags and how they fall: for every module, access and flag of SCSR, by what a status read answers before and after.
use Rattle.std.specs.Prelude.{◌≡◌, Bool, true, false, not, ◌&&◌, ◌||◌, ℕ, ◌+◌, ◌<◌, eqb, leb, ltb}
use Rattle.steps.specs.Bits.{bit}
use Rattle.qsm.specs.model.Decision.{permits, decide_read, decide_write}
use Rattle.qsm.specs.model.Event.{step}
use Rattle.qsm.specs.declared.state.Module.{Module}
use Rattle.qsm.specs.declared.event.Access.{Access}
use Rattle.qsm.specs.declared.event.Access.TheVariants.{Read, Write}
use Rattle.qsm.specs.declared.event.Event.TheVariants as event

-- The module that an access leaves.
abbrev pub after : Module → Access → Module
after m a = (step m (event.Access a)).state

-- What a supervisor's read of a word answers.
abbrev pub word : Module → ℕ → ℕ
word m offset = (step m (event.Access (Read true 2 offset))).answer.value

-- A flag, by its bit of SCSR: TDRE 8, TC 7, RDRF 6, RAF 5, IDLE 4, OR 3, NF 2, FE 1, PF 0. RE is bit 2 of SCCR1.
abbrev pub set : Module → ℕ → Bool
set m k = bit k (word m 0x0C)

abbrev pub RE : Module → Bool
RE m = bit 2 (word m 0x0A)

-- What can't be read: the marks (the paper's 'seen').
abbrev pub seen : Module → ℕ → Bool
seen m k = bit k m.sci.status.seen.bits

-- RDRF, IDLE, OR, NF, FE, PF; TDRE, TC.
abbrev pub receives : ℕ → Bool
receives k = eqb k 6 || eqb k 4 || eqb k 3 || eqb k 2 || eqb k 1 || eqb k 0

abbrev pub transmits : ℕ → Bool
transmits k = eqb k 8 || eqb k 7

-- Permitted, the paper's word: neither refused nor stopped by privilege.
abbrev pub permitted : Module → Access → Bool
permitted m (Read supervisor width offset) = permits (decide_read m supervisor width offset)
permitted m (Write supervisor width offset value) = permits (decide_write m supervisor width offset value)

-- Byte b is one of the access's.
abbrev pub has_byte : ℕ → ℕ → ℕ → Bool
has_byte b width offset = leb offset b && ltb b (offset + width)

-- A read of either byte of SCSR.
abbrev pub looks : Module → Access → Bool
looks m (Read s w o) = permitted m (Read s w o) && (has_byte 0x0C w o || has_byte 0x0D w o)
looks m (Write s w o v) = false

-- A read of SCDR's low byte, for the receive flags; a write of it, for TDRE and TC.
abbrev pub handles : Module → Access → ℕ → Bool
handles m (Read s w o) k = permitted m (Read s w o) && has_byte 0x0F w o && receives k
handles m (Write s w o v) k = permitted m (Write s w o v) && has_byte 0x0F w o && transmits k

-- A write of either byte of SCCR1 that leaves RE clear.
abbrev pub stops : Module → Access → Bool
stops m (Read s w o) = false
stops m (Write s w o v) =
    permitted m (Write s w o v) && (has_byte 0x0A w o || has_byte 0x0B w o) && not (RE (after m (Write s w o v)))

-- A flag that is set falls if it was seen before, or is seen by the same read; and RAF with RE.
abbrev pub falls : Module → Access → ℕ → Bool
falls m a k = set m k && ((seen m k || looks m a) && handles m a k || (stops m a && eqb k 5))

pub record FlagsFall (m : Module) (a : Access) (k : ℕ) : Type 0 where
  -- It falls so, and by no other access; and no access raises one.
  pub flag : set (after m a) k ≡ set m k && not (falls m a k)
  -- A read of SCSR marks each flag then set, no other access marks one, and a mark lasts until its flag falls.
  pub mark : set m k ≡ true → seen (after m a) k ≡ (seen m k || looks m a) && not (falls m a k)
  -- A flag that isn't set gets no mark.
  pub unset : set m k ≡ false → seen (after m a) k ≡ true → seen m k ≡ true

-- A write of SCSR, or of SCDR's upper byte alone, does nothing at all.
pub record Inert (m : Module) (s : Bool) (v : ℕ) : Type 0 where
  pub scsr : after m (Write s 2 0x0C v) ≡ m
  pub scsr_upper : after m (Write s 1 0x0C v) ≡ m
  pub scsr_lower : after m (Write s 1 0x0D v) ≡ m
  pub scdr_upper : after m (Write s 1 0x0E v) ≡ m

pub record FlagClauses : Type 0 where
  pub fall : (m : Module) (a : Access) (k : ℕ) → k < 9 → FlagsFall m a k
  pub inert : (m : Module) (s : Bool) (v : ℕ) → Inert m s v

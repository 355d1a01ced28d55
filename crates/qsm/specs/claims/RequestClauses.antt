-- Document 01, requests, sentence by sentence, of the answer to an event and the module that the event leaves.
use Rattle.std.specs.Prelude.{◌≡◌, Bool, true, false, ◌&&◌, ℕ, ◌/◌, ◌%◌, ◌^◌, ◌≤◌, ◌<◌}
use Rattle.steps.specs.Bits.{bit}
use Rattle.qsm.specs.claims.StatusFlags.{Half, SCI, QSPI, Flag, TDRE, TC, RDRF, RAF, IDLE, OR, NF, FE, PF, SPIF, MODF, HALTA, half, read_at, is_set}
use Rattle.qsm.specs.declared.state.Module.{Module}
use Rattle.qsm.specs.declared.event.Answer.{Answer}

-- The enable of each flag, by its bit: TIE 7, TCIE 6, RIE 5, ILIE 4 of SCCR1 (0A); SPIFIE 15 of SPCR2's working copy; HMIE 1 of SPCR3
-- (1E). The other flags have none.
abbrev pub enabled : Module → Flag → Bool
enabled m TDRE = bit 7 (read_at m 2 0x0A)
enabled m TC = bit 6 (read_at m 2 0x0A)
enabled m RDRF = bit 5 (read_at m 2 0x0A)
enabled m RAF = false
enabled m IDLE = bit 4 (read_at m 2 0x0A)
enabled m OR = bit 5 (read_at m 2 0x0A)
enabled m NF = false
enabled m FE = false
enabled m PF = false
enabled m SPIF = bit 15 m.qspi.next.working
enabled m MODF = bit 1 (read_at m 1 0x1E)
enabled m HALTA = bit 1 (read_at m 1 0x1E)

-- A flag asks: it is set, and so is its enable.
abbrev pub asks : Module → Flag → Bool
asks m f = is_set m f && enabled m f

-- QILR: ILQSPI 5:3, ILSCI 2:0.
abbrev pub level_of : Module → Half → ℕ
level_of m SCI = m.qilr % 2 ^ 3
level_of m QSPI = m.qilr / 2 ^ 3 % 2 ^ 3

-- Bit 0 of the vector: one for QSPI, zero for SCI.
abbrev pub low_bit : Half → Bool
low_bit SCI = false
low_bit QSPI = true

-- The request shown is that of a flag's half: its level, and QIVR with bit 0 by the half.
pub record Shows (m : Module) (a : Answer) (f : Flag) : Type 0 where
  pub asking : asks m f ≡ true
  pub level : a.level ≡ level_of m (half f)
  pub upper : a.vector / 2 ≡ m.qivr / 2
  pub lowest : bit 0 a.vector ≡ low_bit (half f)

pub record RequestClauses (m : Module) (a : Answer) : Type 0 where
  -- Each flag with its enable, by itself, makes its half ask, and the level is the higher: it is no lower than that half's. So a half that
  -- asks at level 0 never wins over the other.
  pub higher : (f : Flag) → asks m f ≡ true → level_of m (half f) ≤ a.level
  -- Nothing else asks: a level other than 0 is that of a half with such a flag; so without any it is 0.
  pub shows : 0 < a.level → (f : Flag) × Shows m a f
  -- QSPI on a tie: where it asks at the level shown, the vector is its own.
  pub tie :
      (f : Flag) → half f ≡ QSPI → asks m f ≡ true → level_of m QSPI ≡ a.level → 0 < a.level →
      bit 0 a.vector ≡ true
  -- Level 0 gives vector 0.
  pub none : a.level ≡ 0 → a.vector ≡ 0

-- Document 01, Privilege: a user's access beside a supervisor's, by what each answers and leaves.
use Rattle.std.specs.Prelude.{◌≡◌, Bool, true, false, cond, ◌&&◌, ◌||◌, ℕ, ◌+◌, eqb, leb}
use Rattle.steps.specs.Bits.{bit}
use Rattle.qsm.specs.model.Event.{step}
use Rattle.qsm.specs.claims.Registers.{reading}
use Rattle.qsm.specs.declared.state.Module.{Module}
use Rattle.qsm.specs.declared.event.Access.{Access}
use Rattle.qsm.specs.declared.event.Access.TheVariants.{Read, Write}
use Rattle.qsm.specs.declared.event.Event.TheVariants as event
use Rattle.qsm.specs.declared.event.Stepped.{Stepped}

-- A read or a write, by a supervisor or a user.
abbrev pub access : Bool → Bool → ℕ → ℕ → ℕ → Access
access supervisor true width offset value = Write supervisor width offset value
access supervisor false width offset value = Read supervisor width offset

abbrev pub does : Module → Bool → Bool → ℕ → ℕ → ℕ → Stepped
does m supervisor write width offset value = step m (event.Access (access supervisor write width offset value))

-- QSMCR is at 00 and 01, QILR at 04, QIVR at 05; SUPV is bit 7 of QSMCR.
abbrev pub restricted : ℕ → Bool
restricted b = eqb b 0 || eqb b 1 || eqb b 4 || eqb b 5

abbrev pub SUPV : Module → Bool
SUPV m = bit 7 (reading m 2 0x00).value

-- One of so many bytes from an offset on is such a one. No access has more than four.
abbrev pub touches : ℕ → ℕ → Bool
touches width offset =
    restricted offset
    || ((leb 2 width) && restricted (offset + 1))
    || ((leb 4 width) && (restricted (offset + 2) || restricted (offset + 3)))

pub record User (m : Module) (write : Bool) (width offset v : ℕ) : Type 0 where
  -- SUPV clear, and none of these bytes: as a supervisor's.
  pub same :
      SUPV m ≡ false → touches width offset ≡ false → does m false write width offset v ≡ does m true write width offset v
  -- Else value 0 and the module as it was; the refusal is 1 or 2 where a supervisor's is, and else 0. (Where one of these bytes is touched and the
  -- first is none of them, that is a hole, and the refusal 1 or 2.)
  pub state : SUPV m || restricted offset ≡ true → (does m false write width offset v).state ≡ m
  pub shows : SUPV m || restricted offset ≡ true → (does m false write width offset v).answer.value ≡ 0
  pub refusal :
      SUPV m || restricted offset ≡ true →
      (does m false write width offset v).answer.refusal
      ≡ cond (leb (does m true write width offset v).answer.refusal 2) (does m true write width offset v).answer.refusal 0

abbrev pub Users : Type 0
Users = (m : Module) (write : Bool) (width offset value : ℕ) → User m write width offset value

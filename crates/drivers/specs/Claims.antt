-- Document 02, L11, sentence by sentence: what is refused 9, what an event does that is not, and what resets and claims do.
use Rattle.std.specs.Prelude.{◌≡◌, Bool, true, false, cond, not, ◌&&◌, ◌||◌, ℕ, zero, suc, ◌+◌, ◌-◌, ◌/◌, ◌%◌, ◌^◌, eqb, leb}
use Rattle.steps.specs.Bits.{bit, merge}
use Rattle.qsm.specs.model.Map.{from}
use Rattle.qsm.specs.model.Lanes.{upper_lane, lower_lane, lined}
use Rattle.qsm.specs.model.State.{reset_module}
use Rattle.qsm.specs.model.Event.{answer_of}
use Rattle.qsm.specs.model.Event as model
use Rattle.qsm.specs.declared.event.Access as access
use Rattle.qsm.specs.declared.event.Access.TheVariants.{Read, Write}
use Rattle.qsm.specs.declared.event.Event as below
use Rattle.qsm.specs.declared.event.Event.TheVariants as event
use Rattle.drivers.specs.State.{other, holds, proper, begun, owns}
use Rattle.drivers.specs.Reach.{admits, fit}
use Rattle.drivers.specs.Event.{step}
use Rattle.drivers.specs.declared.state.Driver.{Driver}
use Rattle.drivers.specs.declared.state.Shared.{Shared}
use Rattle.drivers.specs.declared.event.Event.{Event}
use Rattle.drivers.specs.declared.event.Event.TheVariants.{Reset, Hold, Access, Drive, Claim, Release}

-- ---- the map by bytes

-- While it holds the claim, SPCR1, SPCR2, SPCR3 and SPSR, which are bytes 1A to 1F; its own entries' words and command bytes: entry i has
-- its receive word at 100 + 2i, its transmit word at 120 + 2i and its command byte at 140 + i. Nothing else.
abbrev pub reached : ℕ → Driver → Bool → ℕ → Bool
reached s who claimed b =
    cond (from 0x1A 0x1F b) claimed
    (cond (from 0x100 0x11F b) (owns s who ((b - 0x100) / 2))
    (cond (from 0x120 0x13F b) (owns s who ((b - 0x120) / 2))
    (cond (from 0x140 0x14F b) (owns s who (b - 0x140)) false)))

-- So many bytes from an offset on.
abbrev pub every : (ℕ → Bool) → ℕ → ℕ → Bool
every f offset zero = true
every f offset (suc n) = f offset && every f (offset + 1) n

-- ---- words written

abbrev pub SPCR1 : Shared → ℕ
SPCR1 d = d.qsm.qspi.registers.spcr1

abbrev pub SPCR2 : Shared → ℕ
SPCR2 d = d.qsm.qspi.registers.spcr2

-- SPE is bit 15 of SPCR1, DSCKL and DTL the rest of it.
abbrev pub changes_delays : Shared → ℕ → Bool → Bool → Bool
changes_delays d v upper lower = not (eqb (merge (SPCR1 d) v upper lower % 2 ^ 15) (SPCR1 d % 2 ^ 15))

abbrev pub sets_unfit : Shared → Driver → ℕ → Bool → Bool
sets_unfit d who v upper = (upper && bit 15 v) && not (fit d.split who (SPCR2 d))

abbrev pub leaves_unfit : Shared → Driver → ℕ → Bool → Bool → Bool
leaves_unfit d who v upper lower = not (fit d.split who (merge (SPCR2 d) v upper lower))

abbrev pub half_while_on : Shared → Bool → Bool → Bool
half_while_on d upper lower = bit 15 (SPCR1 d) && not (upper && lower)

-- A word written at an offset: of SPCR1 it changes more than SPE, or sets SPE while SPCR2 is not so; of SPCR2 it would leave it not so, or
-- is not whole while SPE is set.
abbrev pub disorderly : Shared → Driver → ℕ → ℕ → Bool → Bool → Bool
disorderly d who offset v upper lower =
    cond (eqb (offset / 2) (0x1A / 2)) (changes_delays d v upper lower || sets_unfit d who v upper)
    (cond (eqb (offset / 2) (0x1C / 2)) (leaves_unfit d who v upper lower || half_while_on d upper lower) false)

-- A write's one word, or either half of a long.
abbrev pub disordered : Shared → Driver → ℕ → ℕ → ℕ → Bool
disordered d who width offset value =
    disorderly d who offset (lined width value / 65536) (upper_lane width offset) (lower_lane width offset)
    || (eqb width 4
    && disorderly d who (offset + 2) (lined width value % 65536) (upper_lane width offset) (lower_lane width offset))

abbrev pub outside : Shared → Driver → access.Access → Bool
outside d who (Read supervisor width offset) = not (every (reached d.split who (holds d who)) offset width)
outside d who (Write supervisor width offset value) =
    not (every (reached d.split who (holds d who)) offset width) || disordered d who width offset value

-- ---- refusal 9

-- s not from 1 to 15 at the first reset; an access that 1, 2 and privilege let through, before the first reset or outside of what the driver
-- reaches; a claim before the first reset or while the other driver holds it; a release before the first reset, by one that doesn't hold it or with
-- SPE set. The host's holds and accesses never.
abbrev pub nine : Shared → Event → Bool
nine d (Reset s) = not (begun d) && not (proper s)
nine d (Hold pins rxd n) = false
nine d (Access a) = false
nine d (Drive who a) = admits d.qsm a && (not (begun d) || outside d who a)
nine d (Claim who) = not (begun d) || holds d (other who)
nine d (Release who) = not (begun d) || (not (holds d who) || bit 15 (SPCR1 d))

-- SPCR2 as it has to be, by its bits: NEWQP (3:0) and ENDQP (11:8) in the driver's range, NEWQP not above ENDQP, WRTO (13) set if WREN (14) is.
abbrev pub Fitting : Type 0
Fitting =
    (s : ℕ) (who : Driver) (w : ℕ) →
    fit s who w
    ≡ ((owns s who (w % 2 ^ 4) && owns s who (w / 2 ^ 8 % 2 ^ 4)) && leb (w % 2 ^ 4) (w / 2 ^ 8 % 2 ^ 4)) && (not (bit 14 w) || bit 13 w)

abbrev pub Exactly : Type 0
Exactly = (d : Shared) (e : Event) → eqb (step d e).answer.refusal 9 ≡ nine d e

-- Nothing changes, and the answer is 9, value 0, and the module's pins, request and clock as they are.
abbrev pub Unchanged : Type 0
Unchanged =
    (d : Shared) (e : Event) → nine d e ≡ true → ((step d e).state ≡ d) × ((step d e).answer ≡ answer_of d.qsm 9 0)

-- ---- what is not refused 9

-- The module's own event, if it is one: a driver's access is the access.
abbrev pub OwnStep : Shared → Event → below.Event → Type 0
OwnStep d e own =
    ((step d e).state.qsm ≡ (model.step d.qsm own).state) × ((step d e).answer ≡ (model.step d.qsm own).answer)

-- Demand 2 for every event that is not refused 9: the step is the module's own, state and answer; split and claim stay.
abbrev pub Kept : Shared → Event → Type 0
Kept d e = ((step d e).state.split ≡ d.split) × ((step d e).state.holder ≡ d.holder)

pub record Demand2 : Type 0 where
  pub reset : (d : Shared) (s : ℕ) → nine d (Reset s) ≡ false → OwnStep d (Reset s) event.Reset
  pub hold : (d : Shared) (pins : ℕ) (rxd : Bool) (n : ℕ) → OwnStep d (Hold pins rxd n) (event.Hold pins rxd n) × Kept d (Hold pins rxd n)
  pub host : (d : Shared) (a : access.Access) → OwnStep d (Access a) (event.Access a) × Kept d (Access a)
  pub driver :
      (d : Shared) (who : Driver) (a : access.Access) → nine d (Drive who a) ≡ false →
      OwnStep d (Drive who a) (event.Access a) × Kept d (Drive who a)
  -- Claims and releases leave the module.
  pub claim : (d : Shared) (who : Driver) → nine d (Claim who) ≡ false → (step d (Claim who)).state.qsm ≡ d.qsm
  pub release : (d : Shared) (who : Driver) → nine d (Release who) ≡ false → (step d (Release who)).state.qsm ≡ d.qsm

-- ---- resets and claims

-- The first reset fixes s, later ones keep it, and each ends a claim.
pub record Resets : Type 0 where
  pub first :
      (d : Shared) (s : ℕ) → begun d ≡ false → proper s ≡ true →
      (step d (Reset s)).state ≡ record { qsm = reset_module; split = s; holder = 0 }
  pub later :
      (d : Shared) (s : ℕ) → begun d ≡ true → (step d (Reset s)).state ≡ record { qsm = reset_module; split = d.split; holder = 0 }

-- A claim that is let is held by its driver and by nobody else; claiming twice changes nothing; a release gives it up.
pub record Claiming : Type 0 where
  pub held : (d : Shared) (who : Driver) → nine d (Claim who) ≡ false → holds (step d (Claim who)).state who ≡ true
  pub alone : (d : Shared) (who : Driver) → nine d (Claim who) ≡ false → holds (step d (Claim who)).state (other who) ≡ false
  pub twice : (d : Shared) (who : Driver) → holds d who ≡ true → begun d ≡ true → (step d (Claim who)).state ≡ d
  pub given_up :
      (d : Shared) (who one : Driver) → nine d (Release who) ≡ false → holds (step d (Release who)).state one ≡ false

pub record Claims : Type 0 where
  pub fitting : Fitting
  pub exactly : Exactly
  pub unchanged : Unchanged
  pub demand2 : Demand2
  pub resets : Resets
  pub claiming : Claiming

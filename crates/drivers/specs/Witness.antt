-- The laws are about something: a history of a host and two drivers in which each clause of refusal 9 is met, and what is beside it is let.
use Rattle.std.specs.Prelude.{◌≡◌, true, false, List, [], ◌∷◌, ℕ}
use Rattle.qsm.specs.declared.event.Access.TheVariants.{Read, Write}
use Rattle.drivers.specs.State.{new_shared}
use Rattle.drivers.specs.Event.{step}
use Rattle.drivers.specs.declared.state.Driver.{Driver}
use Rattle.drivers.specs.declared.state.Driver.TheVariants.{Axis, Spindle}
use Rattle.drivers.specs.declared.state.Shared.{Shared}
use Rattle.drivers.specs.declared.event.Event.{Event}
use Rattle.drivers.specs.declared.event.Event.TheVariants.{Reset, Access, Drive, Claim, Release}

abbrev pub refusals : List Event → Shared → List ℕ
refusals [] d = []
refusals (e ∷ es) d = (step d e).answer.refusal ∷ refusals es (step d e).state

-- A supervisor's accesses.
abbrev pub reads : Driver → ℕ → ℕ → Event
reads who width offset = Drive who (Read true width offset)

abbrev pub writes : Driver → ℕ → ℕ → ℕ → Event
writes who width offset value = Drive who (Write true width offset value)

-- Before the first reset; a first reset with no s; and one with s 4. The host sets MSTR.
abbrev pub begins : List Event
begins = Claim Axis ∷ reads Axis 2 0x100 ∷ Reset 0 ∷ Reset 4 ∷ Access (Write true 2 0x18 0x8104) ∷ []

-- Own and foreign entries, a long over the border, registers without the claim; 1, 2 and privilege come first.
abbrev pub reaching : List Event
reaching =
    reads Axis 2 0x106 ∷ reads Axis 2 0x108 ∷ reads Spindle 2 0x108 ∷ reads Axis 4 0x106 ∷ reads Axis 1 0x143 ∷ reads Axis 1 0x144
    ∷ reads Axis 1 0x1F ∷ reads Axis 2 0x0C ∷ reads Axis 2 0x109 ∷ reads Axis 2 0x20 ∷ Drive Axis (Read false 2 0x108) ∷ []

-- The claim, and what SPCR1 and SPCR2 need.
abbrev pub claiming : List Event
claiming =
    Claim Axis ∷ Claim Axis ∷ Claim Spindle ∷ reads Axis 1 0x1F ∷ writes Axis 2 0x1A 0x0505 ∷ writes Axis 2 0x1C 0x0400
    ∷ writes Axis 2 0x1C 0x0103 ∷ writes Axis 2 0x1C 0x4300 ∷ writes Axis 2 0x1C 0x6300 ∷ writes Axis 2 0x1A 0x8404 ∷ writes Axis 1 0x1D 1
    ∷ writes Axis 2 0x1C 0x0301 ∷ Release Axis ∷ Release Spindle ∷ writes Axis 1 0x1A 4 ∷ Release Axis ∷ []

-- The host points the queue into the other's range: SPE is refused.
abbrev pub unfit : List Event
unfit = Access (Write true 2 0x1C 0x0F00) ∷ Claim Axis ∷ writes Axis 2 0x1A 0x8404 ∷ []

-- A later reset keeps s and ends the claim.
abbrev pub restarting : List Event
restarting = Reset 9 ∷ reads Axis 1 0x1F ∷ reads Axis 2 0x106 ∷ reads Axis 2 0x108 ∷ Claim Spindle ∷ []

abbrev pub after : List Event → Shared → Shared
after [] d = d
after (e ∷ es) d = after es (step d e).state

pub record Met : Type 0 where
  pub first : refusals begins new_shared ≡ 9 ∷ 9 ∷ 9 ∷ 0 ∷ 0 ∷ []
  pub bytes : refusals reaching (after begins new_shared) ≡ 0 ∷ 9 ∷ 0 ∷ 9 ∷ 0 ∷ 9 ∷ 9 ∷ 9 ∷ 1 ∷ 2 ∷ 0 ∷ []
  pub claim :
      refusals claiming (after begins new_shared)
      ≡ 0 ∷ 0 ∷ 9 ∷ 0 ∷ 9 ∷ 9 ∷ 9 ∷ 9 ∷ 0 ∷ 0 ∷ 9 ∷ 0 ∷ 9 ∷ 9 ∷ 0 ∷ 0 ∷ []
  pub start : refusals unfit (after begins new_shared) ≡ 0 ∷ 0 ∷ 9 ∷ []
  pub later : refusals restarting (after claiming (after begins new_shared)) ≡ 0 ∷ 9 ∷ 0 ∷ 9 ∷ 0 ∷ []

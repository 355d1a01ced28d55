-- Document 02, L11: a module that two drivers share.
use Rattle.std.specs.Prelude.{Bool, true, false, ℕ, eqb, ltb}
use Rattle.qsm.specs.model.State.{reset_module}
use Rattle.qsm.specs.model.Map.{from}
use Rattle.drivers.specs.declared.state.Driver.{Driver}
use Rattle.drivers.specs.declared.state.Driver.TheVariants.{Axis, Spindle}
use Rattle.drivers.specs.declared.state.Shared.{Shared}

abbrev pub other : Driver → Driver
other Axis = Spindle
other Spindle = Axis

-- A driver is a number in the state and for a host in C. Every other number there is nobody.
abbrev pub number_of : Driver → ℕ
number_of Axis = 1
number_of Spindle = 2

-- For a host in C: which driver calls.
abbrev pub driver_of : Bool → Driver
driver_of false = Axis
driver_of true = Spindle

-- A driver holds the claim.
abbrev pub holds : Shared → Driver → Bool
holds d who = eqb d.holder (number_of who)

-- s is from 1 to 15.
abbrev pub proper : ℕ → Bool
proper s = from 1 15 s

-- The first reset has been, and fixed s.
abbrev pub begun : Shared → Bool
begun d = proper d.split

-- The axis driver owns entries 0 to s-1 and the spindle driver s to 15.
abbrev pub owns : ℕ → Driver → ℕ → Bool
owns s Axis i = ltb i s
owns s Spindle i = from s 15 i

-- Before the first reset: no s and no claim.
unfoldable pub new_shared : Shared
new_shared = record { qsm = reset_module; split = 0; holder = 0 }

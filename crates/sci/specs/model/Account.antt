-- Document 02, L14: the frames taken and lost since the last reset, as a sample counts them.
use Rattle.std.specs.Prelude.{Bool, true, false, cond, ℕ, ◌+◌, ◌-◌, ◌^◌, min}
use Rattle.sci.specs.declared.receiver.Outcome.{Outcome}
use Rattle.sci.specs.declared.account.Account.{Account}

-- A count at 2^32 - 1 stays there.
abbrev pub most : ℕ
most = 2 ^ 32 - 1

abbrev pub more : Bool → ℕ → ℕ
more counts n = cond counts (min most (n + 1)) n

-- Frames taken include the lost ones.
abbrev pub counting : Account → Outcome → Account
counting a o = record { taken = more o.taken a.taken; lost = more o.lost a.lost }

-- With RE clear no frame is taken.
abbrev pub accounted : Bool → Account → Outcome → Account
accounted true a o = counting a o
accounted false a o = a

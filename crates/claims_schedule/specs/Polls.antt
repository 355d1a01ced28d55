-- Document 02, L8: after every given number of clocks since the start or a reset there is a poll, and nowhere else.
use Rattle.std.specs.Prelude.{◌≡◌, List, [], ◌∷◌, ℕ, ◌+◌, ◌*◌, ◌<◌, ◌≤◌}
use Rattle.qsm.specs.declared.event.Event.TheVariants.{Reset, Hold}
use Rattle.qsm.specs.declared.event.Event.TheVariants as event
use Rattle.tool_lines.specs.Schedule.{Act, plays, polls, scheduled}

-- What is played, with so many clocks and so many polls since the start or the last reset. Poll n comes at clock n x period: a hold goes no further
-- before it, and nothing else comes before it at that clock.
abbrev pub OnTime : ℕ → ℕ → ℕ → List Act → Type 0
OnTime period clocks n [] = clocks < period * (n + 1)
OnTime period clocks n (plays Reset ∷ rest) = (clocks < period * (n + 1)) × OnTime period 0 0 rest
OnTime period clocks n (plays (Hold pins rxd more) ∷ rest) =
    (clocks < period * (n + 1)) × (clocks + more ≤ period * (n + 1)) × OnTime period (clocks + more) n rest
OnTime period clocks n (plays (event.Access a) ∷ rest) = (clocks < period * (n + 1)) × OnTime period clocks n rest
OnTime period clocks n (polls ∷ rest) = (clocks ≡ period * (n + 1)) × OnTime period clocks (n + 1) rest

abbrev pub PollsOnTime : Type 0
PollsOnTime = (period : ℕ) (t : List ℕ) → 0 < period → OnTime period 0 0 (scheduled period 0 0 t).acts

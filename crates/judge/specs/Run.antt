-- A trace and a log read piece by piece: what comes after a piece of either is done with.
use Rattle.std.specs.Prelude.{Bool, cond, ℕ, eqb}
use Rattle.judge.specs.declared.run.Next.{Next}
use Rattle.judge.specs.declared.run.Next.TheVariants.{Trace, Log, Done}

-- 7 waits for more of the log. At the end of the trace any other stop is the trace's; before it the end of a piece, or a record that it cuts,
-- waits for more of the trace.
abbrev pub after_stop : ℕ → Bool → Next
after_stop stop ended =
    cond (eqb stop 7) Log (cond ended (Done stop) (cond (eqb stop 0) Trace (cond (eqb stop 6) Trace (Done stop))))

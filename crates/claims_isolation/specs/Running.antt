-- Document 02, L11: 'while its entries run', from the queue's state before a clock.
use Rattle.std.specs.Prelude.{Bool, cond, not, ◌&&◌, ◌||◌, ℕ, ◌%◌}
use Rattle.qspi.specs.model.Queue.{entry_at, ready}
use Rattle.qspi.specs.model.Outputs.{enabled}
use Rattle.qspi.specs.declared.Qspi.{Qspi}

-- In its next clock an entry runs: it plays already, or this is its clock 1. Its last clock is that of edge 2n.
abbrev pub entry_runs : Qspi → Bool
entry_runs q = enabled q && (q.entry.playing || (not q.entry.delaying && ready q))

-- Which of the sixteen it is.
abbrev pub running_entry : Qspi → ℕ
running_entry q = cond q.entry.playing (q.next.pointer % 16) (entry_at q)

-- In its next clock an entry runs that is one of these.
abbrev pub runs_one_of : (ℕ → Bool) → Qspi → Bool
runs_one_of entries q = entry_runs q && entries (running_entry q)

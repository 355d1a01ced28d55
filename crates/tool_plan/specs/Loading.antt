-- Document 02, L10: the writes that load a plan, a supervisor's: each entry's transmit word and command byte, then SPCR0, SPCR2 and, last,
-- SPCR1.
use Rattle.std.specs.Prelude.{true, List, [], ◌∷◌, ◌++◌, ℕ, zero, suc, ◌+◌, ◌*◌, ◌/◌, ◌%◌}
use Rattle.qsm.specs.declared.event.Access.TheVariants.{Write}
use Rattle.qsm.specs.declared.event.Event.{Event}
use Rattle.qsm.specs.declared.event.Event.TheVariants as event
use Rattle.tool_plan.specs.Check.{command_no, sent_no}
use Rattle.tool_plan.specs.declared.Plan.{Plan}

abbrev pub writing : ℕ → ℕ → ℕ → Event
writing width offset value = event.Access (Write true width offset value)

-- Where entry k stands in the queue RAM.
abbrev pub place_no : Plan → ℕ → ℕ
place_no p k = (p.first + k) % 16

abbrev pub entry_writes : Plan → ℕ → List Event
entry_writes p k =
    writing 2 (0x120 + place_no p k * 2) (sent_no p k) ∷ writing 1 (0x140 + place_no p k) (command_no p k) ∷ []

-- The first n entries.
unfoldable pub entries_written : Plan → ℕ → List Event
entries_written p zero = []
entries_written p (suc k) = entries_written p k ++ entry_writes p k

-- SPCR2 with the plan's pointers put in.
abbrev pub with_pointers : Plan → ℕ
with_pointers p = p.spcr2 / 8192 * 8192 + p.last * 256 + p.first

abbrev pub registers_written : Plan → List Event
registers_written p = writing 2 0x18 p.spcr0 ∷ writing 2 0x1C (with_pointers p) ∷ writing 2 0x1A p.spcr1 ∷ []

abbrev pub loading : Plan → List Event
loading p = entries_written p p.count ++ registers_written p

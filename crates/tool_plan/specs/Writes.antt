-- Document 02, L10: the writes that load a plan, by number.
use Rattle.std.specs.Prelude.{◌≡◌, Bool, cond, Option, Some, None, List, [], ◌∷◌, ◌++◌, ℕ, zero, suc, ◌+◌, ◌-◌, ◌*◌, ◌/◌, ◌%◌, ◌≤◌, min, eqb, leb}
use Rattle.qsm.specs.declared.event.Event.{Event}
use Rattle.tool_plan.specs.Check.{command_no, sent_no}
use Rattle.tool_plan.specs.Loading.{writing, place_no, with_pointers, loading}
use Rattle.tool_plan.specs.declared.Plan.{Plan}
use Rattle.tool_plan.specs.declared.load.HostWrite.{HostWrite}

-- Of a plan with more than 16 entries the first 16 are written.
abbrev pub entries_of : Plan → ℕ
entries_of p = min p.count 16

abbrev pub writes_of : Plan → ℕ
writes_of p = entries_of p * 2 + 3

abbrev pub written : ℕ → ℕ → ℕ → HostWrite
written width offset value = record { value = value; offset = offset; width = width }

-- Entry k: its transmit word, or its command byte.
abbrev pub entry_write : Plan → ℕ → Bool → HostWrite
entry_write p k transmit =
    cond transmit (written 2 (0x120 + place_no p k * 2) (sent_no p k)) (written 1 (0x140 + place_no p k) (command_no p k))

-- SPCR0, SPCR2 with the pointers, SPCR1; none past them.
abbrev pub register_write : Plan → ℕ → Option HostWrite
register_write p j =
    cond (eqb j 0) (Some (written 2 0x18 p.spcr0))
    (cond (eqb j 1) (Some (written 2 0x1C (with_pointers p))) (cond (eqb j 2) (Some (written 2 0x1A p.spcr1)) None))

unfoldable pub write_at : Plan → ℕ → Option HostWrite
write_at p i =
    cond (leb (entries_of p * 2) i) (register_write p (i - entries_of p * 2)) (Some (entry_write p (i / 2) (eqb (i % 2) 0)))

-- As hosts have it: of width 0 past the last.
abbrev pub or_none : Option HostWrite → HostWrite
or_none (Some w) = w
or_none None = written 0 0 0

unfoldable pub write_no : Plan → ℕ → HostWrite
write_no p i = or_none (write_at p i)

-- The first n of them, as events.
unfoldable pub first_writes : Plan → ℕ → List Event
first_writes p zero = []
first_writes p (suc i) =
    first_writes p i ++ (writing (write_no p i).width (write_no p i).offset (write_no p i).value ∷ [])

-- In order they are the writes that load the plan.
abbrev pub InOrder : Type 0
InOrder = (p : Plan) → p.count ≤ 16 → first_writes p (writes_of p) ≡ loading p

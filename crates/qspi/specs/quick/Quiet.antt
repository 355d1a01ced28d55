-- Clocks in which nothing of the queue changes but the count to the next edge or to the delay's end.
use Rattle.std.specs.Prelude.{Bool, true, false, cond, not, ◌&&◌, ◌||◌, ℕ, ◌+◌, ◌-◌, ◌*◌, ◌%◌, ltb, leb}
use Rattle.qspi.specs.model.Fields.{spe, cont, bits_of}
use Rattle.qspi.specs.model.Entry.{with_place}
use Rattle.qspi.specs.model.Queue.{ready, fault_now}
use Rattle.qspi.specs.model.Parts.{with_entry}
use Rattle.qspi.specs.declared.Qspi.{Qspi}
use Rattle.qspi.specs.declared.Pins.{Pins}
use Rattle.qspi.specs.declared.entry.Entry.{Entry}

-- In an entry, the clocks before the next edge; in the delay, those before its last; otherwise none before clock 1, and all if no entry can start.
abbrev pub before_change : Bool → Bool → ℕ → ℕ
before_change true ready left = left - 1
before_change false true left = 0
before_change false false left = 4294967295

abbrev pub quiet_if : Bool → Bool → Qspi → ℕ
quiet_if true true q = 0
quiet_if true false q = before_change (q.entry.playing || q.entry.delaying) (ready q) q.entry.left
quiet_if false fault q = 4294967295

-- How many of the next clocks are such: none with a mode fault due, and all with SPE clear. No hold has more than 4294967295.
unfoldable pub quiet : Qspi → Pins → ℕ
quiet q pins = quiet_if (spe q.registers.spcr1) (fault_now q pins) q

-- k of them. In the delay PCS stay only with CONT.
abbrev pub counted_down : ℕ → Entry → Entry
counted_down k e =
    with_place e e.playing e.delaying e.halted (e.left - k) e.edges
    ((e.playing || cont e.command) && e.selecting)

abbrev pub skipped_if : Bool → ℕ → Qspi → Qspi
skipped_if true k q = with_entry q (counted_down k q.entry)
skipped_if false k q = q

unfoldable pub skipped : ℕ → Qspi → Qspi
skipped k q =
    skipped_if ((ltb 0 k && spe q.registers.spcr1) && (q.entry.playing || q.entry.delaying)) k q

-- An entry runs, with no mode fault due: up to edge 2n a clock changes the entry alone.
abbrev pub plays : Qspi → Pins → Bool
plays q pins = (spe q.registers.spcr1 && not (fault_now q pins)) && q.entry.playing

-- Clocks to an edge, its own included.
abbrev pub at_least_one : ℕ → ℕ
at_least_one left = cond (leb left 1) 1 left

-- Those to the next edge, and whether it falls in the next n clocks and is an edge before edge 2n.
abbrev pub until_edge : Entry → ℕ
until_edge e = at_least_one e.left

abbrev pub edge_within : ℕ → ℕ → Entry → Bool
edge_within spcr0 n e = leb (until_edge e) n && ltb (e.edges % 32 + 1) (bits_of spcr0 e.command * 2)

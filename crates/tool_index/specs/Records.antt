-- Document 01, Trace: the records of a trace that are there whole and of a known kind, up to a stop with 5 or 6.
use Rattle.std.specs.Prelude.{cond, List, [], ◌∷◌, ℕ, zero, suc, ◌+◌, eqb, length, drop}
use Rattle.qsm.specs.declared.event.Event.{Event}
use Rattle.qsm.specs.declared.event.Event.TheVariants.{Reset, Hold}
use Rattle.qsm.specs.declared.event.Event.TheVariants as event
use Rattle.trace.specs.Trace.{parsed}
use Rattle.trace.specs.Play.{refusal_of}
use Rattle.trace.specs.declared.Parsed.{Parsed}
use Rattle.trace.specs.declared.Parsed.TheVariants.{Record, Unknown, Cut}

-- A record: its event, and its bytes.
pub record Item : Type 0 where
  pub event : Event
  pub size : ℕ

-- The record at the start of t, and those that `on` finds behind it; none where it is unknown or cut.
abbrev pub items_by : (List ℕ → List Item) → List ℕ → Parsed → List Item
items_by on t (Record e n) = record { event = e; size = n } ∷ on (drop n t)
items_by on t Unknown = []
items_by on t Cut = []

-- At most so many.
unfoldable pub records_for : ℕ → List ℕ → List Item
records_for zero t = []
records_for (suc k) t = items_by (records_for k) t (parsed t)

-- A record has at least one byte, so there are no more records than bytes.
abbrev pub records : List ℕ → List Item
records t = records_for (length t) t

-- The bytes of records, and how many of them are resets.
unfoldable pub bytes_of : List Item → ℕ
bytes_of [] = 0
bytes_of (r ∷ rs) = r.size + bytes_of rs

abbrev pub reset_of : Event → ℕ
reset_of Reset = 1
reset_of (Hold pins rxd n) = 0
reset_of (event.Access a) = 0

unfoldable pub resets_in : List Item → ℕ
resets_in [] = 0
resets_in (r ∷ rs) = reset_of r.event + resets_in rs

-- What the records leave of a trace, and what stopped them: 5, 6, or 0 at the end.
abbrev pub rest : List ℕ → List ℕ
rest t = drop (bytes_of (records t)) t

abbrev pub refusal_at : List ℕ → ℕ
refusal_at t = cond (eqb (length t) 0) 0 (refusal_of (parsed t))

abbrev pub stop_of : List ℕ → ℕ
stop_of t = refusal_at (rest t)

-- A piece of a trace indexed, and what follows it.
use Rattle.std.specs.Prelude.{Bool, cond, List, ℕ, ◌-◌, min, eqb, length}
use Rattle.tool_index.specs.Laws.{left}
use Rattle.tool_index.specs.declared.walk.Position.{Position}
use Rattle.tool_index.specs.declared.index.Indexed.{Indexed}
use Rattle.cmd_index.specs.declared.piece.Next.{Next}
use Rattle.cmd_index.specs.declared.piece.Next.TheVariants.{More, Done, Unknown, Cut, NoRoom}
use Rattle.cmd_index.specs.declared.piece.Made.{Made}

abbrev pub at_end : ℕ → Next
at_end stop = cond (eqb stop 6) Cut Done

-- A record of unknown kind ends the index; one that is cut does at the end of the input.
abbrev pub going_on : ℕ → Bool → Next
going_on stop ended = cond (eqb stop 5) Unknown (cond ended (at_end stop) More)

abbrev pub decided : ℕ → ℕ → Bool → Next
decided refusal stop ended = cond (eqb refusal 0) (going_on stop ended) NoRoom

abbrev pub made : Position → List ℕ → Bool → Indexed → Made
made p bytes ended i =
    record {
      at = left i;
      marks = i.marks;
      read = min (i.place - p.place) (length bytes);
      next = decided i.refusal i.stop ended;
    }

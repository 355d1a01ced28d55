-- What follows a piece.
use Rattle.std.specs.Prelude.{Bool, true, false}
use Rattle.text.specs.declared.message.Fault.TheVariants.{Cut}
use Rattle.cmd_show.specs.declared.item.What.{What}
use Rattle.cmd_show.specs.declared.item.What.TheVariants as what
use Rattle.cmd_show.specs.declared.stream.Next.{Next}
use Rattle.cmd_show.specs.declared.stream.Next.TheVariants as next

-- At the end of the input, with bytes that are left or none.
abbrev pub at_end : Bool → Bool → Next
at_end true true = next.Bad Cut
at_end true false = next.Done
at_end false left = next.More

abbrev pub on_going : What → Bool → Bool → Next
on_going (what.Bad f) ended left = next.Bad f
on_going what.Shown ended left = next.More
on_going what.More ended left = at_end ended left

-- A failed write outdoes what stands in the piece.
abbrev pub decided : Bool → What → Bool → Bool → Next
decided true w ended left = next.NotWritten
decided false w ended left = on_going w ended left

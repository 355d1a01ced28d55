-- What is printed of a record that was looked for: `place 1026, resets 54`, and the record; or `refusal 2, no record 300`.
use Rattle.std.specs.Prelude.{List, [], ◌∷◌, ◌++◌, ℕ}
use Rattle.qsm.specs.declared.event.Event.{Event}
use Rattle.text.specs.Digits.{ascii, decimal}
use Rattle.text.specs.Record.{record_line}
use Rattle.tool_index.specs.declared.walk.Position.{Position}
use Rattle.console.specs.declared.status.Status.{Status}
use Rattle.console.specs.declared.status.Status.TheVariants as exit
use Rattle.cmd_find.specs.declared.piece.What.{What}
use Rattle.cmd_find.specs.declared.piece.What.TheVariants.{More, Missing, Found}

abbrev pub place_line : ℕ → ℕ → List ℕ
place_line place resets = ascii "place " ++ decimal 20 place ++ ascii ", resets " ++ decimal 20 resets ++ (10 ∷ [])

abbrev pub missing_line : ℕ → List ℕ
missing_line number = ascii "refusal 2, no record " ++ decimal 20 number ++ (10 ∷ [])

abbrev pub found_text : ℕ → Position → ℕ → Event → List ℕ
found_text number at kind e = place_line at.place at.resets ++ record_line number kind e

-- Found is done; a record that is not there is what a script is told of; what is not known at the end could not be done.
abbrev pub status : What → Status
status (Found kind e) = exit.Done
status Missing = exit.Found
status More = exit.Failed

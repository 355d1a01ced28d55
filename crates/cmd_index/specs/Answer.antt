-- What is printed of an index that was made: `marks 2, records 300`; whether it is kept, and the status.
use Rattle.std.specs.Prelude.{Bool, true, false, List, [], ◌∷◌, ◌++◌, ℕ}
use Rattle.text.specs.Digits.{ascii, decimal}
use Rattle.console.specs.declared.status.Status.{Status}
use Rattle.console.specs.declared.status.Status.TheVariants as exit
use Rattle.cmd_index.specs.declared.piece.Next.{Next}
use Rattle.cmd_index.specs.declared.piece.Next.TheVariants.{More, Done, Unknown, Cut, NoRoom}

abbrev pub count_line : ℕ → ℕ → List ℕ
count_line marks records = ascii "marks " ++ decimal 20 marks ++ ascii ", records " ++ decimal 20 records ++ (10 ∷ [])

-- Up to a stop the marks are all there; where there is no room for them they are not.
abbrev pub keeps : Next → Bool
keeps More = false
keeps Done = true
keeps Unknown = true
keeps Cut = true
keeps NoRoom = false

abbrev pub status : Next → Status
status More = exit.Failed
status Done = exit.Done
status Unknown = exit.Found
status Cut = exit.Found
status NoRoom = exit.Failed

-- A piece of a trace played: what its calls tell, one after the other.
use Rattle.std.specs.Prelude.{◌≡◌, Bool, ◌||◌, List, [], ◌++◌, ℕ, zero, suc}
use Rattle.steps.specs.Iterate.{iterate}
use Rattle.console.specs.Output.{Gives}
use Rattle.console.specs.declared.output.Out.{Out}
use Rattle.tool_lines.specs.declared.line.Outcome.{Outcome}
use Rattle.cmd_lines.specs.Calls.{over, again}
use Rattle.cmd_lines.specs.Told.{line_told, words_told}
use Rattle.cmd_lines.specs.declared.calls.Run.{Run}
use Rattle.cmd_lines.specs.declared.piece.Wanted.{Wanted}
use Rattle.cmd_lines.specs.declared.piece.Went.{Went}

-- What the last call told.
abbrev pub line : Run → List ℕ
line r = line_told r.told r.state.line.characters

abbrev pub words : Wanted → Run → List ℕ
words w r = words_told w.noise r.told r.state.noise.last

abbrev pub next : Wanted → List ℕ → Bool → Run → Run
next w bytes last = again w.period bytes last

-- The lines of the first so many calls, and their words.
unfoldable pub lines : Wanted → List ℕ → Bool → Run → ℕ → List ℕ
lines w bytes last r zero = []
lines w bytes last r (suc n) = lines w bytes last r n ++ line (iterate (suc n) (next w bytes last) r)

unfoldable pub all_words : Wanted → List ℕ → Bool → Run → ℕ → List ℕ
all_words w bytes last r zero = []
all_words w bytes last r (suc n) = all_words w bytes last r n ++ words w (iterate (suc n) (next w bytes last) r)

-- One call: its line is given to one output, its words to the other.
pub record Turns (w : Wanted) (bytes : List ℕ) (last : Bool) (x : Went) (buf said : List ℕ) (y : Went) (buf' said' : List ℕ) : Type 0 where
  pub run : y.run ≡ next w bytes last x.run
  pub printed : Gives x.lines buf (line y.run) y.lines buf'
  pub told : Gives x.words said (words w y.run) y.words said'

abbrev pub done : Outcome → Out → Out → Bool
done told lines words = over told || (lines.failed || words.failed)

-- So many calls.
pub record Plays (w : Wanted) (bytes : List ℕ) (last : Bool) (x : Went) (buf said : List ℕ) (y : Went) (buf' said' : List ℕ) : Type 0 where
  pub calls : ℕ
  pub run : y.run ≡ iterate calls (next w bytes last) x.run
  pub printed : Gives x.lines buf (lines w bytes last x.run calls) y.lines buf'
  pub told : Gives x.words said (all_words w bytes last x.run calls) y.words said'

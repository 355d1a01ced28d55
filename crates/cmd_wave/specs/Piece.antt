-- A piece of a trace drawn: what its turns tell, one after the other.
use Rattle.std.specs.Prelude.{◌≡◌, Bool, true, false, Option, Some, None, Result, Ok, Err, List, [], ◌++◌, ℕ, zero, suc}
use Rattle.steps.specs.Iterate.{iterate}
use Rattle.console.specs.Output.{Gives}
use Rattle.console.specs.declared.output.Out.{Out}
use Rattle.tool_wave.specs.Turn as drawing
use Rattle.tool_wave.specs.Vcd.{step_text}
use Rattle.tool_wave.specs.declared.Step.{Step}
use Rattle.tool_wave.specs.declared.Stop.{Stop}
use Rattle.tool_wave.specs.declared.Waves.{Waves}
use Rattle.tool_wave.specs.declared.Turned.{Turned}
use Rattle.cmd_wave.specs.declared.piece.Went.{Went}

-- A piece has no more to draw.
abbrev pub over : Result (Option Step) Stop → Bool
over (Ok told) = false
over (Err why) = true

-- What a turn told, as text.
abbrev pub step_told : ℕ → Result (Option Step) Stop → List ℕ
step_told hz (Ok None) = []
step_told hz (Ok (Some s)) = step_text hz s
step_told hz (Err why) = []

-- The bytes from the place on come first in the next piece.
abbrev pub rebased : Waves → Waves
rebased s = record { at = 0; left = s.left; probe = s.probe }

abbrev pub again : List ℕ → Turned → Turned
again bytes t = drawing.turn bytes t.state

abbrev pub before : Waves → Turned
before s = drawing.turned s (Ok None)

-- The text of the first so many turns.
unfoldable pub texts : ℕ → List ℕ → Waves → ℕ → List ℕ
texts hz bytes s zero = []
texts hz bytes s (suc n) = texts hz bytes s n ++ step_told hz (iterate (suc n) (again bytes) (before s)).outcome

-- So many turns, whose text was given to the output.
pub record Draws (hz : ℕ) (bytes : List ℕ) (s : Waves) (o : Out) (buf : List ℕ) (w : Went) (buf' : List ℕ) : Type 0 where
  pub turns : ℕ
  pub turned : w.turned ≡ iterate turns (again bytes) (before s)
  pub given : Gives o buf (texts hz bytes s turns) w.out buf'

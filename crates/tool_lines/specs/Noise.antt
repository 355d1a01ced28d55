-- Document 02, L8 and L1: the noise figures line by line. A word that a poll delivers has the figure that stands beside SCDR then; a line's words are
-- those from the first after the line before it, or after the start or a reset, to its newline.
use Rattle.std.specs.Prelude.{Bool, true, false, cond, List, [], ◌∷◌, ◌++◌, ℕ, ◌+◌, ◌-◌, ◌%◌, ◌^◌, min, max, eqb}
use Rattle.steps.specs.Bits.{bit}
use Rattle.qsm.specs.model.State.{reset_module}
use Rattle.qsm.specs.model.Event.{does}
use Rattle.qsm.specs.claims.StatusFlags.{RDRF, place}
use Rattle.qsm.specs.declared.state.Module.{Module}
use Rattle.qsm.specs.declared.event.Event.{Event}
use Rattle.qsm.specs.declared.event.Event.TheVariants.{Reset, Hold}
use Rattle.qsm.specs.declared.event.Event.TheVariants as event
use Rattle.tool_lines.specs.Poll.{polled}
use Rattle.tool_lines.specs.Schedule.{Act, plays, polls, scheduled}
use Rattle.tool_lines.specs.Gather.{newline}
use Rattle.tool_lines.specs.declared.noise.Noise.{Noise}
use Rattle.tool_lines.specs.declared.noise.Noises.{Noises}

-- Of no figures.
abbrev pub silent : Noise
silent = record { total = 0; worst = 0 }

-- With one figure more. A total stays at the largest number.
abbrev pub with_figure : Noise → ℕ → Noise
with_figure n figure = record { total = min (n.total + figure) (2 ^ 64 - 1); worst = max n.worst figure }

-- What is heard, in order: a reset, or a word that a poll delivers, its low 7 bits and its figure.
pub data Heard : Type 0 where
  was_reset : Heard
  delivered : (character figure : ℕ) → Heard

abbrev pub figure_of : Module → ℕ
figure_of m = m.sci.receiver.noise

-- What an event and a poll let hear.
abbrev pub of_event : Event → List Heard
of_event Reset = was_reset ∷ []
of_event (Hold pins rxd n) = []
of_event (event.Access a) = []

abbrev pub of_poll : ℕ → ℕ → ℕ → List Heard
of_poll status word figure = cond (bit (place RDRF) status) (delivered (word % 128) figure ∷ []) []

unfoldable pub hears : List Act → Module → List Heard
hears [] m = []
hears (plays e ∷ rest) m = of_event e ++ hears rest (does m e).state
hears (polls ∷ rest) m = of_poll (polled m).status (polled m).word (figure_of m) ++ hears rest (polled m).state

-- The noise of each line that ended, in order, from that of the line so far.
unfoldable pub noises : Noise → List Heard → List Noise
noises n [] = []
noises n (was_reset ∷ hs) = noises silent hs
noises n (delivered character figure ∷ hs) =
    cond (eqb character newline) (with_figure n figure ∷ noises silent hs) (noises (with_figure n figure) hs)

-- Of a trace, on a module fresh from reset.
abbrev pub line_noises : ℕ → List ℕ → List Noise
line_noises period t = noises silent (hears (scheduled period 0 0 t).acts reset_module)

-- As the state has them: of the line being gathered, and of the line that ended last.
abbrev pub added : Noises → Bool → ℕ → Noises
added n true figure = record { line = silent; last = with_figure n.line figure }
added n false figure = record { line = with_figure n.line figure; last = n.last }

abbrev pub heard : Noises → ℕ → ℕ → ℕ → Noises
heard n status word figure = cond (bit (place RDRF) status) (added n (eqb (word % 128) newline) figure) n

abbrev pub unheard : Noises → Noises
unheard n = record { line = silent; last = n.last }

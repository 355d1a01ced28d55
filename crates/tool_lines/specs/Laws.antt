-- Document 02, L8: the library's calls, over and over, give the lines of the whole trace.
use Rattle.std.specs.Prelude.{◌≡◌, cond, List, [], ◌∷◌, ◌++◌, ℕ, zero, suc, ◌+◌, ◌-◌, ◌^◌, ◌<◌, min, max, eqb, length, drop}
use Rattle.qsm.specs.declared.state.Module.{Module}
use Rattle.trace.specs.Trace.{byte_at}
use Rattle.tool_lines.specs.Schedule.{Scheduled, going, scheduled}
use Rattle.tool_lines.specs.Gather.{Report, newline, gather, reported}
use Rattle.tool_lines.specs.Replay.{notices, lines}
use Rattle.tool_lines.specs.Noise.{Heard, was_reset, delivered, silent, hears, noises, line_noises}
use Rattle.tool_lines.specs.Call.{started, since_of, under_way, go_on}
use Rattle.tool_lines.specs.Stop.{number_of, refusal_of}
use Rattle.tool_lines.specs.declared.line.Line.{Line}
use Rattle.tool_lines.specs.declared.line.Outcome.{Outcome}
use Rattle.tool_lines.specs.declared.line.Outcome.TheVariants.{Nothing, Handed, Dropped, Stopped, Ended, Refused}
use Rattle.tool_lines.specs.declared.noise.Noise.{Noise}
use Rattle.tool_lines.specs.declared.Lines.{Lines}

-- Lines and drops in order, the noise of each, and the refusal that the replay stopped with, or 0 at the end of the trace.
pub record Replayed : Type 0 where
  pub reports : List Report
  pub noises : List Noise
  pub stop : ℕ

-- What a schedule gives, from a line, its noise and a module on.
abbrev pub replayed : Line → Noise → Module → Scheduled → Replayed
replayed l n m s = record { reports = gather l (notices s.acts m); noises = noises n (hears s.acts m); stop = s.stop }

-- What is still to be played: the hold under way, and the trace from its place on.
abbrev pub remaining : ℕ → List ℕ → Lines → Scheduled
remaining period t s =
    cond (eqb s.left 0) (scheduled period (since_of period s) s.device.clock (drop s.at t))
    (going (λ passed now. scheduled period passed now (drop s.at t)) period (since_of period s) s.device.clock (under_way s))

-- The lines and drops to come from a state.
abbrev pub meant : ℕ → List ℕ → Lines → Replayed
meant period t s = replayed s.line s.noise.line s.device (remaining period t s)

-- What a call told from the state that it left, and then what came after it.
abbrev pub telling : Lines → Outcome → Replayed → Replayed
telling s Nothing rest = rest
telling s (Handed number n) rest =
    record { reports = reported s.line (Handed number n) ++ rest.reports; noises = s.noise.last ∷ rest.noises; stop = rest.stop }
telling s (Dropped number cause) rest =
    record { reports = reported s.line (Dropped number cause) ++ rest.reports; noises = s.noise.last ∷ rest.noises; stop = rest.stop }
telling s (Stopped why) rest = record { reports = []; noises = []; stop = number_of why }
telling s Ended rest = record { reports = []; noises = []; stop = 0 }
telling s (Refused why) rest = record { reports = []; noises = []; stop = refusal_of why }

-- At most so many calls, each from the state that the one before it left.
unfoldable pub over_and_over : ℕ → ℕ → List ℕ → Lines → Replayed
over_and_over zero period t s = record { reports = []; noises = []; stop = 0 }
over_and_over (suc k) period t s =
    telling (go_on period t s).state (go_on period t s).outcome (over_and_over k period t (go_on period t s).state)

-- A trace is a list of bytes.
abbrev pub Bytes : List ℕ → Type 0
Bytes t = (i : ℕ) → byte_at t i < 256

-- Called over and over, the library gives the lines and drops of the definition, each once and in order with its noise, and then the stop or the end;
-- from any state.
abbrev pub Whole : Type 0
Whole =
    (period : ℕ) (t : List ℕ) (s : Lines) (k : ℕ) → 0 < period → Bytes t → s.left < 2 ^ 32 →
    length (meant period t s).reports < k → over_and_over k period t s ≡ meant period t s

-- So from the start of a trace, on a module fresh from reset.
abbrev pub FromStart : Type 0
FromStart =
    (period : ℕ) (t : List ℕ) →
    ((meant period t started).reports ≡ lines period t) × ((meant period t started).noises ≡ line_noises period t)

-- The figures of words within a line, which has no newline and no reset in it.
abbrev pub Within : List Heard → Type 0
Within [] = Unit {0}
Within (was_reset ∷ hs) = ⊥
Within (delivered character figure ∷ hs) = (character ≡ newline → ⊥) × Within hs

abbrev pub figures : List Heard → List ℕ
figures [] = []
figures (was_reset ∷ hs) = figures hs
figures (delivered character figure ∷ hs) = figure ∷ figures hs

abbrev pub total : List ℕ → ℕ
total [] = 0
total (f ∷ fs) = f + total fs

abbrev pub worst : List ℕ → ℕ
worst [] = 0
worst (f ∷ fs) = max f (worst fs)

-- A line's noise is the total and the worst of the figures of its words and its newline.
abbrev pub LineByLine : Type 0
LineByLine =
    (ws : List Heard) (figure : ℕ) (hs : List Heard) → Within ws →
    noises silent (ws ++ delivered newline figure ∷ hs) ≡
    record { total = min (total (figures ws) + figure) (2 ^ 64 - 1); worst = max (worst (figures ws)) figure } ∷ noises silent hs

abbrev pub NoisyLine : Type 0
NoisyLine =
    noises silent (delivered 65 2 ∷ delivered 66 3 ∷ delivered newline 1 ∷ delivered newline 0 ∷ []) ≡
    record { total = 6; worst = 3 } ∷ record { total = 0; worst = 0 } ∷ []

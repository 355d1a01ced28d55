-- Turns, over and over, give the changes of the whole trace, each at its own clock.
use Rattle.std.specs.Prelude.{◌≡◌, Bool, true, false, cond, Option, Some, None, Result, Ok, Err, List, [], ◌∷◌, ◌++◌, ℕ, zero, suc, ◌+◌, ◌-◌, ◌*◌, ◌/◌, ◌%◌, ◌^◌, ◌<◌, ◌≤◌, eqb, length, drop}
use Rattle.steps.specs.Iterate.{iterate}
use Rattle.qspi.specs.model.Entry.{with_place}
use Rattle.qspi.specs.model.Parts.{with_entry}
use Rattle.qsm.specs.model.State.{with_qspi}
use Rattle.qsm.specs.model.Event.{does, held}
use Rattle.qsm.specs.declared.event.Event.{Event}
use Rattle.qsm.specs.declared.event.Event.TheVariants.{Reset, Hold}
use Rattle.qsm.specs.declared.event.Event.TheVariants as event
use Rattle.trace.specs.Trace.{byte_at}
use Rattle.until_change.specs.Change.{look}
use Rattle.until_change.specs.Claims.{started}
use Rattle.until_change.specs.declared.Look.{Look}
use Rattle.tool_wave.specs.View.{none}
use Rattle.tool_wave.specs.Probe.{view_of, ends, tick, limited}
use Rattle.tool_wave.specs.Drawn.{step_to, ticks, after, stops, Drawn, stopped, followed, drawn_from, changes}
use Rattle.tool_wave.specs.Stop.{number_of}
use Rattle.tool_wave.specs.Turn.{begun, turn}
use Rattle.tool_wave.specs.declared.Step.{Step}
use Rattle.tool_wave.specs.declared.Stop.{Stop}
use Rattle.tool_wave.specs.declared.probe.Probe.{Probe}
use Rattle.tool_wave.specs.declared.Waves.{Waves}

-- The changes to come from a state: of the hold under way, clock by clock, and of the trace from its place on.
abbrev pub meant : List ℕ → Waves → Drawn
meant t s =
    cond (eqb s.left 0) (drawn_from s.probe (drop s.at t))
    (cond (limited s.probe s.left) (stopped 10)
    (followed (ticks s.left s.probe) (drawn_from (iterate s.left tick s.probe) (drop s.at t))))

-- What a turn told, and then what came after it.
abbrev pub telling : Result (Option Step) Stop → Drawn → Drawn
telling (Ok None) rest = rest
telling (Ok (Some s)) rest = followed (s ∷ []) rest
telling (Err why) rest = stopped (number_of why)

-- At most so many turns, each from the state that the one before it left.
unfoldable pub over_and_over : ℕ → List ℕ → Waves → Drawn
over_and_over zero t s = stopped 0
over_and_over (suc k) t s = telling (turn t s).outcome (over_and_over k t (turn t s).state)

-- Each turn takes a byte of the trace, of which none brings as many as 2^32 clocks, or a clock of the hold under way.
abbrev pub turns_left : List ℕ → Waves → ℕ
turns_left t s = (length t - s.at) * 2 ^ 32 + s.left

-- A trace is a list of bytes.
abbrev pub Bytes : List ℕ → Type 0
Bytes t = (i : ℕ) → byte_at t i < 256

-- Turned over and over, the library gives the changes of the definition, each once and in order, and then the stop or the end; from any state.
abbrev pub Whole : Type 0
Whole = (t : List ℕ) (s : Waves) (k : ℕ) → Bytes t → s.left < 2 ^ 32 → turns_left t s < k → over_and_over k t s ≡ meant t s

-- So from the start of a trace, on a module fresh from reset.
abbrev pub FromStart : Type 0
FromStart = (t : List ℕ) → meant t begun ≡ changes t

-- A trace in pieces: a turn that goes on is the same with more bytes behind, and bytes before its place can be left out.
abbrev pub goes : Result (Option Step) Stop → Bool
goes (Ok told) = true
goes (Err why) = false

abbrev pub Grows : Type 0
Grows = (t more : List ℕ) (s : Waves) → goes (turn t s).outcome ≡ true → turn (t ++ more) s ≡ turn t s

abbrev pub without : ℕ → Waves → Waves
without k s = record { at = s.at - k; left = s.left; probe = s.probe }

abbrev pub Shifts : Type 0
Shifts =
    (t : List ℕ) (k : ℕ) (s : Waves) → k ≤ s.at →
    turn (drop k t) (without k s) ≡ record { state = without k (turn t s).state; outcome = (turn t s).outcome }

-- The device is the module's own: each event that doesn't stop the trace leaves it as the step does, and takes as many clocks as it has; a
-- reset takes none back.
abbrev pub clocks_of : Event → ℕ
clocks_of Reset = 0
clocks_of (Hold pins rxd n) = n
clocks_of (event.Access a) = 0

abbrev pub Own : Type 0
Own = (p : Probe) (e : Event) → stops p e ≡ 0 → (after p e).device ≡ (does p.device e).state

abbrev pub Forward : Type 0
Forward = (p : Probe) (e : Event) → (after p e).clock ≡ p.clock + clocks_of e

-- In the clock of a queue's last edge SCK turns; MISO, MOSI and PCS stand as before it, and so does which pins are driven; TXD and the request
-- are the module's.
pub record EdgeDrawn (l now drawn : Look) : Type 0 where
  pub sck : drawn.levels / 4 % 2 ≡ 1 - l.levels / 4 % 2
  pub bits : drawn.levels % 4 ≡ l.levels % 4
  pub selects : drawn.levels / 8 % 16 ≡ l.levels / 8 % 16
  pub driven : drawn.mask % 128 ≡ l.mask % 128
  pub txd : drawn.levels / 128 ≡ now.levels / 128
  pub txd_driven_holds : drawn.mask / 128 ≡ now.mask / 128
  pub level : drawn.level ≡ now.level
  pub vector : drawn.vector ≡ now.vector

abbrev pub LastEdge : Type 0
LastEdge =
    (p : Probe) → ends p.device (tick p).device ≡ true →
    EdgeDrawn (look p.device) (look (tick p).device) (view_of (tick p)).look

-- A queue that starts with SPBR 4: of the first four clocks of a hold, SCK turns in the last.
abbrev pub running : Probe
running = record { clock = 0; known = true; given = true; rxd = true; kept = none; device = held started 0xFF }

abbrev pub Met : Type 0
Met = ticks 4 running ≡ step_to (iterate 3 tick running) (iterate 4 tick running) 0 ∷ []

-- The same queue before edge 16 of its one entry.
abbrev pub ending : Probe
ending =
    record {
      clock = 63;
      known = true;
      given = true;
      rxd = true;
      kept = none;
      device = with_qspi running.device (with_entry started.qspi (with_place started.qspi.entry true false false 1 15 true));
    }

pub record Claims : Type 0 where
  pub whole : Whole
  pub from_start : FromStart
  pub grows : Grows
  pub shifts : Shifts
  pub own : Own
  pub forward : Forward
  pub last_edge_holds : LastEdge
  pub met : Met
  pub ends_so : ends ending.device (tick ending).device ≡ true

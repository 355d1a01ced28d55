-- The changes of a trace, in order: what is drawn before and after each record, and before and after each clock of a hold, where it differs.
use Rattle.std.specs.Prelude.{Bool, cond, ◌&&◌, List, [], ◌∷◌, ◌++◌, ℕ, zero, suc, eqb, length, drop}
use Rattle.steps.specs.Iterate.{iterate}
use Rattle.qsm.specs.declared.event.Event.{Event}
use Rattle.qsm.specs.declared.event.Event.TheVariants.{Reset, Hold}
use Rattle.qsm.specs.declared.event.Event.TheVariants as event
use Rattle.trace.specs.Trace.{parsed}
use Rattle.trace.specs.declared.Parsed.{Parsed}
use Rattle.trace.specs.declared.Parsed.TheVariants.{Record, Unknown, Cut}
use Rattle.tool_wave.specs.View.{same_view}
use Rattle.tool_wave.specs.Probe.{started, view_of, tick, restarted, taken, accessed, limited}
use Rattle.tool_wave.specs.declared.probe.Probe.{Probe}
use Rattle.tool_wave.specs.declared.Step.{Step}

-- From one probe to the next: a change, or nothing where all is drawn as before and nothing was refused.
abbrev pub step_to : Probe → Probe → ℕ → Step
step_to p q refusal = record { clock = q.clock; before = view_of p; after = view_of q; refusal = refusal }

abbrev pub still : Probe → Probe → ℕ → Bool
still p q refusal = same_view (view_of p) (view_of q) && eqb refusal 0

abbrev pub change : Probe → Probe → ℕ → List Step
change p q refusal = cond (still p q refusal) [] (step_to p q refusal ∷ [])

-- n clocks, one by one.
unfoldable pub ticks : ℕ → Probe → List Step
ticks zero p = []
ticks (suc n) p = change p (tick p) 0 ++ ticks n (tick p)

-- An event's changes, and what it leaves.
abbrev pub drawn : Probe → Event → List Step
drawn p Reset = change p (restarted p) 0
drawn p (Hold pins rxd n) = change p (taken p pins rxd) 0 ++ ticks n (taken p pins rxd)
drawn p (event.Access a) = change p (accessed p a).probe (accessed p a).refusal

abbrev pub after : Probe → Event → Probe
after p Reset = restarted p
after p (Hold pins rxd n) = iterate n tick (taken p pins rxd)
after p (event.Access a) = (accessed p a).probe

-- The refusal that an event stops the trace with, before it, or 0.
abbrev pub stops : Probe → Event → ℕ
stops p Reset = 0
stops p (Hold pins rxd n) = cond (limited p n) 10 0
stops p (event.Access a) = 0

-- The changes, and the refusal that stopped the trace, or 0 at its end.
pub record Drawn : Type 0 where
  pub steps : List Step
  pub stop : ℕ

abbrev pub stopped : ℕ → Drawn
stopped why = record { steps = []; stop = why }

abbrev pub followed : List Step → Drawn → Drawn
followed first d = record { steps = first ++ d.steps; stop = d.stop }

-- What comes of the record at the start of t; `on` goes on with what follows it.
abbrev pub next : (Probe → List ℕ → Drawn) → Probe → List ℕ → Parsed → Drawn
next on p t (Record e n) =
    cond (eqb (stops p e) 0) (followed (drawn p e) (on (after p e) (drop n t))) (stopped (stops p e))
next on p t Unknown = stopped 5
next on p t Cut = stopped 6

-- At most so many records. A record has at least one byte, so there are no more records than bytes.
unfoldable pub drawn_for : ℕ → Probe → List ℕ → Drawn
drawn_for zero p t = stopped 0
drawn_for (suc k) p t = cond (eqb (length t) 0) (stopped 0) (next (drawn_for k) p t (parsed t))

abbrev pub drawn_from : Probe → List ℕ → Drawn
drawn_from p t = drawn_for (length t) p t

-- A trace on a module fresh from reset.
abbrev pub changes : List ℕ → Drawn
changes t = drawn_from started t

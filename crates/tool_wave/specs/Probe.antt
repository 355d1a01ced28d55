-- The module with its lines, clock by clock.
use Rattle.std.specs.Prelude.{Bool, true, false, cond, not, ◌&&◌, ◌||◌, ℕ, suc, ◌+◌, ◌-◌, min, eqb, ltb}
use Rattle.qspi.specs.model.Outputs.{enabled}
use Rattle.qspi.specs.model.Queue.{fault_now}
use Rattle.qspi.specs.quick.Quiet.{quiet}
use Rattle.qsm.specs.model.State.{reset_module}
use Rattle.qsm.specs.model.Event.{clock_module, clock_limit, held, pins_of, does}
use Rattle.qsm.specs.declared.state.Module.{Module}
use Rattle.qsm.specs.declared.event.Access.{Access}
use Rattle.qsm.specs.declared.event.Event.TheVariants.{Hold}
use Rattle.qsm.specs.declared.event.Event.TheVariants as event
use Rattle.until_change.specs.Change.{look, number, until_change}
use Rattle.tool_wave.specs.View.{none, kept_edge, over}
use Rattle.tool_wave.specs.declared.view.View.{View}
use Rattle.tool_wave.specs.declared.probe.Probe.{Probe}
use Rattle.tool_wave.specs.declared.probe.Accessed.{Accessed}

-- At the start of a trace, on a module fresh from reset: no record has been played, and no level given.
abbrev pub started : Probe
started = record { clock = 0; known = false; given = false; rxd = false; kept = none; device = reset_module }

abbrev pub view_of : Probe → View
view_of p =
    record {
      known = p.known;
      given = p.given;
      rxd = p.rxd;
      inputs = p.device.inputs;
      look = over p.kept (look p.device);
    }

-- SPE falls in the next clock by the queue's last edge, and not by a mode fault.
abbrev pub ends : Module → Module → Bool
ends m after = enabled m.qspi && not (fault_now m.qspi (pins_of m)) && not (enabled after.qspi)

-- One clock at the levels given.
abbrev pub tick : Probe → Probe
tick p =
    record {
      clock = suc p.clock;
      known = p.known;
      given = p.given;
      rxd = p.rxd;
      kept = cond (ends p.device (clock_module p.rxd p.device)) (kept_edge (look p.device)) none;
      device = clock_module p.rxd p.device;
    }

-- A reset leaves the clocks since the start, and the levels of RXD.
abbrev pub with_device : Probe → Module → Probe
with_device p m =
    record { clock = p.clock; known = true; given = p.given; rxd = p.rxd; kept = p.kept; device = m }

abbrev pub restarted : Probe → Probe
restarted p = with_device p reset_module

-- A hold's levels are taken at once.
abbrev pub taken : Probe → ℕ → Bool → Probe
taken p pins rxd =
    record { clock = p.clock; known = true; given = true; rxd = rxd; kept = p.kept; device = held p.device pins }

abbrev pub accessed : Probe → Access → Accessed
accessed p a =
    record {
      probe = with_device p (does p.device (event.Access a)).state;
      refusal = (does p.device (event.Access a)).refusal;
    }

-- 10: the clocks since reset or since the start would pass 2^64 - 1.
abbrev pub limited : Probe → ℕ → Bool
limited p n = ltb clock_limit (p.device.clock + n) || ltb clock_limit (p.clock + n)

-- How the library goes through a hold: so many clocks change nothing that is drawn. (proofs/Calm shows it.)
-- No hold has more than 4,294,967,295.
abbrev pub before : ℕ → ℕ
before n = cond (eqb n 0) 4294967295 (min (n - 1) 4294967295)

abbrev pub calm : Probe → ℕ
calm p =
    cond p.kept.on 0
    (min (clock_limit - p.device.clock)
    (min (before (number (until_change p.device p.device.inputs p.rxd))) (quiet p.device.qspi (pins_of p.device))))

abbrev pub ahead : Probe → ℕ → Probe
ahead p n =
    cond (eqb n 0) p
    (record {
      clock = p.clock + n;
      known = p.known;
      given = p.given;
      rxd = p.rxd;
      kept = none;
      device = (does p.device (Hold p.device.inputs p.rxd n)).state;
    })

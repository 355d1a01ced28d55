-- What is drawn of a module and its lines: the pins as driven or not, the request, and the inputs as they are given.
use Rattle.std.specs.Prelude.{Bool, true, false, cond, not, ◌&&◌, ℕ, ◌+◌, ◌-◌, ◌*◌, ◌/◌, ◌%◌, eqb}
use Rattle.steps.specs.Bits.{bit}
use Rattle.until_change.specs.Change.{same_look}
use Rattle.until_change.specs.declared.Look.{Look}
use Rattle.tool_wave.specs.declared.view.Kept.{Kept}
use Rattle.tool_wave.specs.declared.view.View.{View}

-- In the clock of a queue's last edge the pins stay with the queue to its end, as PCS do (document 01), with SCK turned: what is kept then.
abbrev pub none : Kept
none = record { on = false; levels = 0; mask = 0 }

abbrev pub turned_sck : ℕ → ℕ
turned_sck levels = cond (bit 2 levels) (levels - 4) (levels + 4)

abbrev pub kept_edge : Look → Kept
kept_edge l = record { on = true; levels = turned_sck l.levels; mask = l.mask }

-- Pins 0 to 6 of one set, TXD of another.
abbrev pub seven : ℕ → ℕ → ℕ
seven pins txd = pins % 128 + txd / 128 * 128

-- TXD and the request are not the queue's.
abbrev pub over : Kept → Look → Look
over k l =
    cond k.on
    (record { levels = seven k.levels l.levels; mask = seven k.mask l.mask; level = l.level; vector = l.vector })
    l

abbrev pub alike : Bool → Bool → Bool
alike a b = cond a b (not b)

abbrev pub same_view : View → View → Bool
same_view v w =
    alike v.known w.known && alike v.given w.given && alike v.rxd w.rxd && eqb v.inputs w.inputs
    && same_look v.look w.look

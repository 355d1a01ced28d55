use mathlib.Core.Bool.{Bool, cond}
use Rattle.tool_wave.specs.Probe.{calm}
use Rattle.std.specs.Prelude.{Err}
use Rattle.tool_wave.specs.declared.Stop.TheVariants.{ClockLimit}
use mathlib.Core.Path.{◌∙◌, sym, ap}
use Rattle.tool_wave.specs.Turn.{turned, hold_for, hold_on}
use Rattle.tool_wave.proofs.Waves.hold_on.Goals as goal

pub returns-then-limited : goal.returns-then-limited
unfolding hold_on
returns-then-limited c = rw (c.turned.ensures, sym c.limited.ensures ∙ c.if-limited.true)

pub hold_for-requires : goal.hold_for-requires
hold_for-requires c = sym c.limited.ensures ∙ c.if-limited.false

pub returns : goal.returns
unfolding hold_on
returns c =
    let self = c.args.self in
    c.hold_for.ensures
    ∙ ap (hold_for self) c.calm.ensures
    ∙ sym (ap (λ (b : Bool). cond b (turned self (Err ClockLimit)) (hold_for self (calm self.probe)))
    (sym c.limited.ensures ∙ c.if-limited.false))

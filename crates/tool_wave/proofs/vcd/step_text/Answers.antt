use mathlib.Core.Path.{◌≡◌, sym, ◌∙◌}
use native.Mathlib.Omega.{arith}
use Rattle.text.specs.Line.{empty, puts}
use Rattle.text.proofs.Puts.{shows}
use Rattle.tool_wave.specs.Vcd.{time_text, values, outputs, inputs, rxd, level, vector, refused, step_text}
use Rattle.tool_wave.proofs.Signs.{time_length, step_fits, together}
use Rattle.tool_wave.proofs.vcd.step_text.Goals as goal

pub returns : goal.returns
returns c =
    let args = c.args in
    let at = c.time_text-at in
    let first : at.result ≡ puts empty (time_text args.hz args.s.clock) =
    at.ensures.line
    ∙ sym (shows (time_text args.hz args.s.clock) (omega (arith, time_length args.hz args.s.clock))).line in
    let all : c.refused.result ≡ puts empty (step_text args.hz args.s) =
    rw (
      c.refused.ensures,
      c.asked.ensures,
      c.given.ensures,
      c.values-pins.ensures,
      c.outputs-2.ensures,
      c.outputs.ensures,
      first,
    )
    (together (time_text args.hz args.s.clock) (values 8 97 (outputs args.s.before) (outputs args.s.after))
    (values 8 65 (inputs args.s.before) (inputs args.s.after)) (values 1 73 (rxd args.s.before) (rxd args.s.after))
    (values 3 105 (level args.s.before) (level args.s.after)) (values 8 108 (vector args.s.before) (vector args.s.after))
    (refused args.s.refusal)) in
    rw all (shows (step_text args.hz args.s) (step_fits args.hz args.s))

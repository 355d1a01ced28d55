use mathlib.Core.Path.{◌≡◌, sym}
use Prim.Native.Nat.{ℕ, ◌-◌, ◌*◌, ◌≤◌}
use native.Mathlib.Nat.{mul-le-mul}
use native.Mathlib.Omega.{arith}
use Rattle.qspi.specs.model.Fields.{spbr, bits_of, pre_delay}
use Rattle.qspi.proofs.Bounds.{bits_pos, bits_small, pre_small}
use Rattle.tool_plan.proofs.Verdict.{edge_formula}
use Rattle.tool_plan.proofs.last_clock.Goals as goal

-- At most 31 times 255 clocks.
most_between : (bits clocks spcr0 command : ℕ) → bits ≡ bits_of spcr0 command → clocks ≤ 255 → (bits * 2 - 1) * clocks ≤ 31 * 255
most_between bits clocks spcr0 command counted most =
    let few : bits * 2 - 1 ≤ 31 = omega (arith, counted, bits_small spcr0 command) in
    mul-le-mul few most

pub overflow_sub-between : goal.overflow_sub-between
overflow_sub-between c = omega (arith, c.bits_of.ensures, bits_pos c.args.spcr0 c.args.command)

pub overflow_mul-between : goal.overflow_mul-between
overflow_mul-between c = omega (arith, most_between c.bits_of.result c.spbr.result c.args.spcr0 c.args.command c.bits_of.ensures (omega (arith, c.spbr.ensures)))

pub overflow_add-result : goal.overflow_add-result
overflow_add-result c =
    let args = c.args in
    omega (arith, most_between c.bits_of.result c.spbr.result c.args.spcr0 c.args.command c.bits_of.ensures (omega (arith, c.spbr.ensures)), c.pre_delay.ensures, pre_small args.spcr0 args.spcr1 args.command)

pub returns : goal.returns
returns c =
    let args = c.args in
    rw (c.pre_delay.ensures, c.spbr.ensures, c.bits_of.ensures)
    (sym
    (edge_formula (pre_delay args.spcr0 args.spcr1 args.command) (spbr args.spcr0)
    (bits_of args.spcr0 args.command * 2) (omega (arith, bits_pos args.spcr0 args.command))))

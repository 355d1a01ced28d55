use mathlib.Core.Path.{◌≡◌, sym}
use Prim.Native.Nat.{◌-◌, ◌*◌, ◌/◌}
use native.Mathlib.Omega.{arith}
use borrow.Author.Tests.{ne_eqb}
use Rattle.qsm.proofs.Ranges.{inside, before, past, by_words, at_word_holds, past_registers, past_map}
use Rattle.qsm.proofs.map.decode.Goals as goal

pub returns-in-0 : goal.returns-in-0
returns-in-0 c = sym (at_word_holds 0 c.args.offset (omega (arith, c.in-0.is)))

pub returns-in-4 : goal.returns-in-4
returns-in-4 c = sym (at_word_holds 2 c.args.offset (omega (arith, c.in-4.is)))

pub returns-in-8 : goal.returns-in-8
returns-in-8 c = sym (at_word_holds 4 c.args.offset (omega (arith, c.in-8.is)))

pub returns-in-10 : goal.returns-in-10
returns-in-10 c = sym (at_word_holds 5 c.args.offset (omega (arith, c.in-10.is)))

pub returns-in-12 : goal.returns-in-12
returns-in-12 c = sym (at_word_holds 6 c.args.offset (omega (arith, c.in-12.is)))

pub returns-in-14 : goal.returns-in-14
returns-in-14 c = sym (at_word_holds 7 c.args.offset (omega (arith, c.in-14.is)))

pub returns-in-20 : goal.returns-in-20
returns-in-20 c = sym (at_word_holds 10 c.args.offset (omega (arith, c.in-20.is)))

pub returns-in-22 : goal.returns-in-22
returns-in-22 c = sym (at_word_holds 11 c.args.offset (omega (arith, c.in-22.is)))

pub returns-in-24 : goal.returns-in-24
returns-in-24 c = sym (at_word_holds 12 c.args.offset (omega (arith, c.in-24.is)))

pub returns-in-26 : goal.returns-in-26
returns-in-26 c = sym (at_word_holds 13 c.args.offset (omega (arith, c.in-26.is)))

pub returns-in-28 : goal.returns-in-28
returns-in-28 c = sym (at_word_holds 14 c.args.offset (omega (arith, c.in-28.is)))

pub returns-in-30 : goal.returns-in-30
returns-in-30 c = sym (at_word_holds 15 c.args.offset (omega (arith, c.in-30.is)))

pub returns-in-256-to-287 : goal.returns-in-256-to-287
returns-in-256-to-287 c =
    let x = c.args.offset in
    let number : (x / 2 * 2 - 0x100) / 2 ≡ (x - 0x100) / 2 = omega arith in
    rw (past_registers x (omega arith), inside 0x100 0x11F x (omega arith) (omega arith), number)

pub returns-in-288-to-319 : goal.returns-in-288-to-319
returns-in-288-to-319 c =
    let x = c.args.offset in
    let number : (x / 2 * 2 - 0x120) / 2 ≡ (x - 0x120) / 2 = omega arith in
    rw (past_registers x (omega arith), past 0x100 0x11F x (omega arith), inside 0x120 0x13F x (omega arith) (omega arith), number)

pub returns-in-320-to-335 : goal.returns-in-320-to-335
returns-in-320-to-335 c =
    let x = c.args.offset in
    let number : (x / 2 * 2 - 0x140) / 2 ≡ (x - 0x140) / 2 = omega arith in
    rw (past_registers x (omega arith), past 0x100 0x11F x (omega arith), past 0x120 0x13F x (omega arith), inside 0x140 0x14F x (omega arith) (omega arith), number)

pub returns-in_default : goal.returns-in_default
returns-in_default c =
    let w = c.args.offset / 2 in
    let other = c.in_default.in_default-own.rest in
    rw (
      by_words c.args.offset,
      ne_eqb w 0 (λ e. other.0.0.0.0.0.0.0.0.0.0.0.1 (omega (arith, e))),
      ne_eqb w 2 (λ e. other.0.0.0.0.0.0.0.0.0.0.1 (omega (arith, e))),
      ne_eqb w 4 (λ e. other.0.0.0.0.0.0.0.0.0.1 (omega (arith, e))),
      ne_eqb w 5 (λ e. other.0.0.0.0.0.0.0.0.1 (omega (arith, e))),
      ne_eqb w 6 (λ e. other.0.0.0.0.0.0.0.1 (omega (arith, e))),
      ne_eqb w 7 (λ e. other.0.0.0.0.0.0.1 (omega (arith, e))),
      ne_eqb w 10 (λ e. other.0.0.0.0.0.1 (omega (arith, e))),
      ne_eqb w 11 (λ e. other.0.0.0.0.1 (omega (arith, e))),
      ne_eqb w 12 (λ e. other.0.0.0.1 (omega (arith, e))),
      ne_eqb w 13 (λ e. other.0.0.1 (omega (arith, e))),
      ne_eqb w 14 (λ e. other.0.1 (omega (arith, e))),
      ne_eqb w 15 (λ e. other.1 (omega (arith, e))),
      before 128 143 w (omega arith),
      before 144 159 w (omega arith),
      before 160 167 w (omega arith),
    )

pub returns-in_default-2 : goal.returns-in_default-2
returns-in_default-2 c = sym (past_map c.args.offset (omega arith))

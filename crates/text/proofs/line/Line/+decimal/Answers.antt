use native.Mathlib.Omega.{arith}
use Rattle.text.proofs.Puts.{put_puts, puts_append, puts_none}
use Rattle.text.proofs.Decimal.{decimal_none, decimal_one, decimal_more}
use Rattle.text.proofs.line.Line.+decimal.Goals as goal

pub returns-then-digits-eq0 : goal.returns-then-digits-eq0
returns-then-digits-eq0 t c = rw (c.if-digits-eq0.true, decimal_none, puts_none)

pub returns-then-n-lt10 : goal.returns-then-n-lt10
returns-then-n-lt10 t c =
    rw (c.put.ensures, c.decimal_digit.ensures, put_puts, decimal_one c.args.digits c.args.n (omega arith) (omega arith))

pub returns : goal.returns
returns t c =
    rw (
      c.put-2.ensures,
      c.decimal_digit-2.ensures,
      c.decimal.ensures,
      put_puts,
      puts_append,
      decimal_more c.args.digits c.args.n (omega arith) (omega arith),
    )

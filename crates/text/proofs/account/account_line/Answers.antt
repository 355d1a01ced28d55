use mathlib.Core.Bool.{Bool, true, false, cond}
use mathlib.Core.List.{List}
use mathlib.Core.Path.{◌≡◌, refl}
use Prim.Native.Nat.{ℕ}
use mir.Val.{bool_byte}
use Rattle.text.specs.Account.{account_line}
use Rattle.text.proofs.Puts.{put_puts, puts_append, shows}
use Rattle.text.proofs.Fields.{account_fits}
use Rattle.text.proofs.account.account_line.Goals as goal

byte_of_bit : (b : Bool) → bool_byte b ≡ cond b 1 0
byte_of_bit true = refl
byte_of_bit false = refl

pub returns : goal.returns
returns c =
    let start = c.args in
    let text : List ℕ = account_line start.taken start.lost start.waiting in
    rw (
      c.put.ensures,
      c.decimal-3.ensures,
      c.from.ensures,
      byte_of_bit,
      c.write-3.ensures,
      c.decimal-2.ensures,
      c.write-2.ensures,
      c.decimal.ensures,
      c.write.ensures,
      c.empty.ensures,
      put_puts,
    ) (simp puts_append (shows text (account_fits start.taken start.lost start.waiting)))

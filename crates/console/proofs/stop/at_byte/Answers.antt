use Rattle.text.proofs.Puts.{put_puts, puts_append}
use Rattle.console.proofs.stop.at_byte.Goals as goal

pub returns : goal.returns
returns c = rw (c.put.ensures, c.decimal.ensures, c.write.ensures, put_puts) (simp puts_append)

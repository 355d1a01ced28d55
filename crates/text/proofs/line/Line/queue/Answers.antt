use Rattle.text.proofs.Puts.{puts_append}
use Rattle.text.proofs.line.Line.queue.Goals as goal

pub returns-in-Spcr0 : goal.returns-in-Spcr0
returns-in-Spcr0 c = rw (c.write.ensures, c.in-Spcr0.is)

pub returns-in-Spcr1 : goal.returns-in-Spcr1
returns-in-Spcr1 c = rw (c.write-in-Spcr1.ensures, c.in-Spcr1.is)

pub returns-in-Spcr2 : goal.returns-in-Spcr2
returns-in-Spcr2 c = rw (c.write-in-Spcr2.ensures, c.in-Spcr2.is)

pub returns-in-Spcr3Spsr : goal.returns-in-Spcr3Spsr
returns-in-Spcr3Spsr c = rw (c.pair.ensures, c.in-Spcr3Spsr.is)

pub returns-in-Receive : goal.returns-in-Receive
returns-in-Receive c = rw (c.decimal.ensures, c.write-in-Receive.ensures, c.in-Receive.is) (simp puts_append)

pub returns-in-Transmit : goal.returns-in-Transmit
returns-in-Transmit c = rw (c.decimal-in-Transmit.ensures, c.write-in-Transmit.ensures, c.in-Transmit.is) (simp puts_append)

pub returns-in-Command : goal.returns-in-Command
returns-in-Command c = rw (c.command.ensures, c.in-Command.is)

use Rattle.until_change.proofs.ahead.Goals as goal

pub returns : goal.returns
returns c = rw (c.clocks-serial.ensures, c.clocks-queue.ensures, c.wires-pins.ensures)

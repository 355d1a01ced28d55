use Rattle.qspi.proofs.Deciding.{registers_decided, flags_decided, spsr_decided, ram_decided, next_decided, entry_decided, queue_decided}
use Rattle.qspi.proofs.Qspi.same.Goals as goal

pub returns : goal.returns
returns c =
    let x = c.args.self in
    let y = c.args.other in
    rw c.eq.ensures
    (queue_decided x y (registers_decided x.registers y.registers)
    (spsr_decided x.spsr y.spsr (flags_decided x.spsr.flags y.spsr.flags) (flags_decided x.spsr.seen y.spsr.seen))
    (ram_decided x.ram y.ram) (next_decided x.next y.next) (entry_decided x.entry y.entry))

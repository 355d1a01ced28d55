-- The queue with one of its parts replaced.
use Rattle.qspi.specs.declared.Qspi.{Qspi}
use Rattle.qspi.specs.declared.entry.Entry.{Entry}
use Rattle.qspi.specs.declared.queue.Next.{Next}
use Rattle.qspi.specs.declared.ram.Ram.{Ram}
use Rattle.qspi.specs.declared.registers.Registers.{Registers}
use Rattle.qspi.specs.declared.spsr.Spsr.{Spsr}

abbrev pub with_registers : Qspi → Registers → Qspi
with_registers q r = record { registers = r; spsr = q.spsr; next = q.next; entry = q.entry; ram = q.ram }

abbrev pub with_spsr : Qspi → Spsr → Qspi
with_spsr q s = record { registers = q.registers; spsr = s; next = q.next; entry = q.entry; ram = q.ram }

abbrev pub with_next : Qspi → Next → Qspi
with_next q n = record { registers = q.registers; spsr = q.spsr; next = n; entry = q.entry; ram = q.ram }

abbrev pub with_entry : Qspi → Entry → Qspi
with_entry q e = record { registers = q.registers; spsr = q.spsr; next = q.next; entry = e; ram = q.ram }

abbrev pub with_ram : Qspi → Ram → Qspi
with_ram q m = record { registers = q.registers; spsr = q.spsr; next = q.next; entry = q.entry; ram = m }

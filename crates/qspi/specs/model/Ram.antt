-- The queue RAM: sixteen receive words, transmit words and command bytes, read and written by words and their byte lanes.
use Rattle.std.specs.Prelude.{Bool, ℕ, ◌+◌, ◌*◌, ◌%◌, get_or, set}
use Rattle.steps.specs.Bits.{word, merge, upper_byte, lower_byte}
use Rattle.qspi.specs.model.Parts.{with_ram}
use Rattle.qspi.specs.declared.Qspi.{Qspi}
use Rattle.qspi.specs.declared.ram.Ram.{Ram}

abbrev pub receive_word : Qspi → ℕ → ℕ
receive_word q i = get_or q.ram.receive (i % 16) 0

abbrev pub transmit_word : Qspi → ℕ → ℕ
transmit_word q i = get_or q.ram.transmit (i % 16) 0

-- Command bytes 2i and 2i + 1 as one word.
abbrev pub command_word : Qspi → ℕ → ℕ
command_word q i = word (get_or q.ram.commands (i % 8 * 2) 0) (get_or q.ram.commands (i % 8 * 2 + 1) 0)

-- One word replaced.
abbrev pub with_received : Ram → ℕ → ℕ → Ram
with_received m i w = record { receive = set m.receive i w; transmit = m.transmit; commands = m.commands }

abbrev pub with_transmit : Ram → ℕ → ℕ → Ram
with_transmit m i w = record { receive = m.receive; transmit = set m.transmit i w; commands = m.commands }

abbrev pub with_commands : Ram → ℕ → ℕ → Ram
with_commands m i w =
    record {
      receive = m.receive;
      transmit = m.transmit;
      commands = set (set m.commands (i * 2) (upper_byte w)) (i * 2 + 1) (lower_byte w);
    }

abbrev pub write_receive : Qspi → ℕ → ℕ → Bool → Bool → Qspi
write_receive q i v upper lower = with_ram q (with_received q.ram (i % 16) (merge (receive_word q i) v upper lower))

abbrev pub write_transmit : Qspi → ℕ → ℕ → Bool → Bool → Qspi
write_transmit q i v upper lower = with_ram q (with_transmit q.ram (i % 16) (merge (transmit_word q i) v upper lower))

abbrev pub write_command : Qspi → ℕ → ℕ → Bool → Bool → Qspi
write_command q i v upper lower = with_ram q (with_commands q.ram (i % 8) (merge (command_word q i) v upper lower))

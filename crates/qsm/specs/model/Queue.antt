-- Document 01, Register map: the words of the queue half.
use Rattle.std.specs.Prelude.{Bool, false, cond, ℕ}
use Rattle.qspi.specs.model.Registers.{spcr0_word, spcr1_word, spcr2_word, spcr3_spsr, status_read, write_spcr0, write_spcr1, write_spcr2, write_spcr3_spsr, spcr0_unmodelled, spcr1_unmodelled, spcr3_unmodelled, spcr0_guarded, spcr1_guarded}
use Rattle.qspi.specs.model.Ram.{receive_word, transmit_word, command_word, write_receive, write_transmit, write_command}
use Rattle.qspi.specs.declared.Qspi.{Qspi}
use Rattle.qsm.specs.declared.map.QueueWord.{QueueWord}
use Rattle.qsm.specs.declared.map.QueueWord.TheVariants.{Spcr0, Spcr1, Spcr2, Spcr3Spsr, Receive, Transmit, Command}

unfoldable pub peek_queue : Qspi → QueueWord → ℕ
peek_queue q Spcr0 = spcr0_word q
peek_queue q Spcr1 = spcr1_word q
peek_queue q Spcr2 = spcr2_word q
peek_queue q Spcr3Spsr = spcr3_spsr q
peek_queue q (Receive i) = receive_word q i
peek_queue q (Transmit i) = transmit_word q i
peek_queue q (Command i) = command_word q i

-- What a read leaves that touches byte 1F.
unfoldable pub queue_read : Bool → Qspi → Qspi
queue_read status q = cond status (status_read q) q

unfoldable pub put_queue : Qspi → QueueWord → ℕ → Bool → Bool → Qspi
put_queue q Spcr0 v upper lower = write_spcr0 q v upper lower
put_queue q Spcr1 v upper lower = write_spcr1 q v upper lower
put_queue q Spcr2 v upper lower = write_spcr2 q v upper lower
put_queue q Spcr3Spsr v upper lower = write_spcr3_spsr q v upper lower
put_queue q (Receive i) v upper lower = write_receive q i v upper lower
put_queue q (Transmit i) v upper lower = write_transmit q i v upper lower
put_queue q (Command i) v upper lower = write_command q i v upper lower

unfoldable pub queue_unmodelled : Qspi → QueueWord → ℕ → Bool → Bool
queue_unmodelled q Spcr0 v upper = spcr0_unmodelled v upper
queue_unmodelled q Spcr1 v upper = spcr1_unmodelled q v upper
queue_unmodelled q Spcr2 v upper = false
queue_unmodelled q Spcr3Spsr v upper = spcr3_unmodelled v upper
queue_unmodelled q (Receive i) v upper = false
queue_unmodelled q (Transmit i) v upper = false
queue_unmodelled q (Command i) v upper = false

unfoldable pub queue_guarded : Qspi → QueueWord → ℕ → Bool → Bool → Bool
queue_guarded q Spcr0 v upper lower = spcr0_guarded q v upper lower
queue_guarded q Spcr1 v upper lower = spcr1_guarded q v upper lower
queue_guarded q Spcr2 v upper lower = false
queue_guarded q Spcr3Spsr v upper lower = false
queue_guarded q (Receive i) v upper lower = false
queue_guarded q (Transmit i) v upper lower = false
queue_guarded q (Command i) v upper lower = false

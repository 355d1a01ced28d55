-- The marked examples K7 to K10, and a queue that comes round.
use Rattle.std.specs.Prelude.{◌≡◌, true, false, ℕ, ◌≤◌}
use Rattle.steps.specs.Iterate.{iterate}
use Rattle.qspi.specs.model.Fields.{spe}
use Rattle.qspi.specs.model.Registers.{reset, write_spcr0, write_spcr1, write_spcr2}
use Rattle.qspi.specs.model.Ram.{write_command}
use Rattle.qspi.specs.model.Parts.{with_next, with_spsr}
use Rattle.qspi.specs.model.Spsr.{raised, only_spif}
use Rattle.qspi.specs.model.Queue.{entry_at, clock}
use Rattle.qspi.specs.claims.Run.{run, length_of}
use Rattle.qspi.specs.claims.Laws.{Starting, Calm, QueueOver}
use Rattle.qspi.specs.declared.Qspi.{Qspi}
use Rattle.qspi.specs.declared.Pins.{Pins}

-- A queue set up after reset: SPCR0, SPCR2, the commands of entries 0 and 1, and SPCR1, which sets SPE.
unfoldable pub set_up : ℕ → ℕ → ℕ → ℕ → Qspi
set_up spcr0 spcr2 commands spcr1 =
    write_spcr1
    (write_command (write_spcr2 (write_spcr0 reset spcr0 true true) spcr2 true true) 0 commands true true)
    spcr1 true true

-- SPBR 4, all plain: from NEWQP 0 to ENDQP 15, and from NEWQP 14 to ENDQP 1.
abbrev pub plain : Qspi
plain = set_up 0x8104 0x0F00 0 0x8404

abbrev pub around : Qspi
around = set_up 0x8104 0x010E 0 0x8404

-- SPBR 255, 16 bits, DSCK 0, DT with DTL 0.
abbrev pub longest : Qspi
longest = set_up 0x81FF 0x0F00 0x6060 0x8400

-- SPBR 2, WREN: entry 0 over and over, before the clock 1 of a later round.
abbrev pub wrapping : Qspi
wrapping =
    let q : Qspi = set_up 0x8102 0x4000 0 0x8404 in
    with_next (with_spsr q (raised only_spif q.spsr)) (record { working = 0x4000; pointer = 0; pending = false })

-- With every pin low it is back after 49 clocks, so that `PeriodOut` says something of it.
abbrev pub ComesRound : Type 0
ComesRound = iterate 49 (λ r. clock r (record { levels = 0; pqspar = 0; ddrqs = 0 })) wrapping ≡ wrapping

-- Edge 16 at clock 64, entry 81.
abbrev pub K7 : Type 0
K7 =
    (pins : ℕ → Pins) → Calm pins →
    ((run pins 63 plain).entry.edges ≡ 15) × ((run pins 64 plain).entry.delaying ≡ true) × ((run pins 80 plain).entry.delaying ≡ true)
    × Starting (run pins 81 plain)

-- 16 such entries end at clock 1,279.
abbrev pub K8 : Type 0
K8 =
    (pins : ℕ → Pins) → Calm pins →
    (spe (run pins 1278 plain).registers.spcr1 ≡ true) × ((run pins 1278 plain).spsr.flags.spif ≡ false)
    × QueueOver plain (run pins 1279 plain)

-- The longest entry is 16,352 clocks.
abbrev pub K9 : Type 0
K9 =
    ((spcr0 spcr1 command : ℕ) → length_of spcr0 spcr1 command ≤ 16352)
    × ((pins : ℕ → Pins) → Calm pins →
    ((run pins 16351 longest).entry.delaying ≡ true) × Starting (run pins 16352 longest))

-- NEWQP 14, ENDQP 1 runs 14, 15, 0, 1.
abbrev pub K10 : Type 0
K10 =
    (pins : ℕ → Pins) → Calm pins →
    (entry_at around ≡ 14) × (entry_at (run pins 81 around) ≡ 15) × (entry_at (run pins 162 around) ≡ 0)
    × (entry_at (run pins 243 around) ≡ 1) × QueueOver around (run pins 307 around)

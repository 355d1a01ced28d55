-- Document 01, Queue: what follows an entry. Its length is that of edge 2n's clock and the delay.
use Rattle.std.specs.Prelude.{◌≡◌, Bool, true, false, ℕ, ◌+◌}
use Rattle.steps.specs.Bits.{bit}
use Rattle.qspi.specs.model.Registers.{write_spcr3_spsr}
use Rattle.qspi.specs.model.Outputs.{pcs}
use Rattle.qspi.specs.claims.Run.{run}
use Rattle.qspi.specs.declared.Qspi.{Qspi}
use Rattle.qspi.specs.declared.Pins.{Pins}
use Rattle.claims_queue.specs.Numbers.{delay, ends, after, Calm, Next}
use Rattle.claims_queue.specs.Entry.{command, last_at, pcs_after}

abbrev pub length : Qspi → ℕ → ℕ
length q i = last_at q i + delay q.registers.spcr1 (command q i)

-- What an entry leaves at the end of its delay is what edge 2n left, and the place in the queue.
pub record Kept (l r : Qspi) : Type 0 where
  pub registers : r.registers ≡ l.registers
  pub ram : r.ram ≡ l.ram
  pub cptqp : r.spsr.cptqp ≡ l.spsr.cptqp
  pub SPIF : r.spsr.flags.spif ≡ l.spsr.flags.spif
  pub MODF : r.spsr.flags.modf ≡ l.spsr.flags.modf
  pub seen : r.spsr.seen ≡ l.spsr.seen

-- The entry was the last: nothing moves any more, for any pins.
abbrev pub Over : Type 0
Over =
    (q : Qspi) (i : ℕ) (pins later : ℕ → Pins) → Next q i → Calm pins → ends q.registers.spcr2 i ≡ true → (c : ℕ) →
    run later c (run pins (last_at q i) q) ≡ run pins (last_at q i) q

-- HALT (0 of SPCR3) is clear at the delay's last clock: the clock after it is clock 1 of the next entry.
pub record GoesOn (q : Qspi) (i : ℕ) (pins : ℕ → Pins) (r : Qspi) : Type 0 where
  pub next : Next r (after q.registers.spcr2 i)
  pub HALTA : r.spsr.flags.halta ≡ q.spsr.flags.halta
  pub kept : Kept (run pins (last_at q i) q) r

abbrev pub EntryFollows : Type 0
EntryFollows =
    (q : Qspi) (i : ℕ) (pins : ℕ → Pins) → Next q i → Calm pins → ends q.registers.spcr2 i ≡ false →
    bit 0 q.registers.spcr3 ≡ false → GoesOn q i pins (run pins (length q i) q)

-- HALT is set there: HALTA rises, and nothing moves until a write of byte 1E clears HALT (8 of the word); the next clock then is clock 1. The
-- Pcs hold with CONT meanwhile.
pub record Halts (q : Qspi) (i : ℕ) (pins : ℕ → Pins) (r : Qspi) : Type 0 where
  pub HALTA : r.spsr.flags.halta ≡ true
  pub kept : Kept (run pins (last_at q i) q) r
  pub Pcs : (portqs : ℕ) → pcs r portqs ≡ pcs_after q i portqs
  pub waits : (later : ℕ → Pins) → Calm later → (c : ℕ) → run later c r ≡ r
  pub released :
      (v : ℕ) (lower : Bool) → bit 8 v ≡ false → Next (write_spcr3_spsr r v true lower) (after q.registers.spcr2 i)

abbrev pub EntryHalts : Type 0
EntryHalts =
    (q : Qspi) (i : ℕ) (pins : ℕ → Pins) → Next q i → Calm pins → ends q.registers.spcr2 i ≡ false →
    bit 0 q.registers.spcr3 ≡ true → Halts q i pins (run pins (length q i) q)

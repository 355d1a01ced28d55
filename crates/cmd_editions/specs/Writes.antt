-- The writes of an edition, as records of a trace.
use Rattle.std.specs.Prelude.{List, [], ◌∷◌, ◌++◌, ℕ}
use Rattle.steps.specs.Bits.{upper_byte, lower_byte}
use Rattle.tool_editions.specs.declared.records.Edition.{Edition}

-- Document 01, Trace: 04 write, width 2 with bit 7 for supervisor, offset (2), value (4).
abbrev pub write_of : ℕ → ℕ → List ℕ
write_of offset value = 0x04 ∷ 0x82 ∷ 0 ∷ offset ∷ 0 ∷ 0 ∷ upper_byte value ∷ lower_byte value ∷ []

-- SCCR0, SCCR1, SPCR0, SPCR1, in that order.
abbrev pub writes_of : Edition → List ℕ
writes_of e = write_of 0x08 e.sccr0 ++ write_of 0x0A e.sccr1 ++ write_of 0x18 e.spcr0 ++ write_of 0x1A e.spcr1

-- SPSR: SPIF, MODF and HALTA, how they rise, are seen and fall, and CPTQP.
use Rattle.std.specs.Prelude.{Bool, true, false, not, ◌&&◌, ◌||◌, ℕ, ◌+◌, ◌*◌, ◌%◌}
use Rattle.steps.specs.Bits.{bit, digit}
use Rattle.qspi.specs.declared.spsr.Flags.{Flags}
use Rattle.qspi.specs.declared.spsr.Spsr.{Spsr}

abbrev pub either : Flags → Flags → Flags
either f g =
    record { spif = f.spif || g.spif; modf = f.modf || g.modf; halta = f.halta || g.halta }

abbrev pub without : Flags → Flags → Flags
without f g =
    record { spif = f.spif && not g.spif; modf = f.modf && not g.modf; halta = f.halta && not g.halta }

-- The byte at 1F: SPIF 7, MODF 6, HALTA 5, CPTQP 3:0.
abbrev pub spsr_byte : Spsr → ℕ
spsr_byte s =
    digit s.flags.spif * 128 + digit s.flags.modf * 64 + digit s.flags.halta * 32 + s.cptqp % 16

-- Flags that rise.
abbrev pub raised : Flags → Spsr → Spsr
raised f s = record { flags = either f s.flags; seen = s.seen; cptqp = s.cptqp }

abbrev pub only_spif : Flags
only_spif = record { spif = true; modf = false; halta = false }

abbrev pub only_modf : Flags
only_modf = record { spif = false; modf = true; halta = false }

abbrev pub halta_if : Bool → Flags
halta_if halts = record { spif = false; modf = false; halta = halts }

abbrev pub with_cptqp : Spsr → ℕ → Spsr
with_cptqp s i = record { flags = s.flags; seen = s.seen; cptqp = i }

-- A read touching byte 1F sees every flag then set.
abbrev pub flags_seen : Spsr → Spsr
flags_seen s = record { flags = s.flags; seen = either s.seen s.flags; cptqp = s.cptqp }

-- A flag falls when a read saw it and a write puts zero there.
abbrev pub falls : Bool → Bool → Bool → Bool
falls lower seen one = (lower && seen) && not one

abbrev pub falling : Spsr → ℕ → Bool → Flags
falling s v lower =
    record {
      spif = falls lower s.seen.spif (bit 7 v);
      modf = falls lower s.seen.modf (bit 6 v);
      halta = falls lower s.seen.halta (bit 5 v);
    }

-- The flags that fall lose their marks.
abbrev pub fallen : Spsr → Flags → Spsr
fallen s f = record { flags = without s.flags f; seen = without s.seen f; cptqp = s.cptqp }

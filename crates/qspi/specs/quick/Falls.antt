-- The edges of an entry up to one of them, at one level of MISO. (proofs/Fallen shows that one edge after another leaves the same.)
use Rattle.std.specs.Prelude.{Bool, cond, ℕ, ◌+◌, ◌-◌, ◌/◌, ◌%◌, ltb}
use Rattle.steps.specs.Iterate.{iterate}
use Rattle.qspi.specs.model.Fields.{cpha, spbr, bits_of}
use Rattle.qspi.specs.model.Entry.{changes, bit_out, pushed, with_bits}
use Rattle.qspi.specs.declared.entry.Entry.{Entry}

-- The last edge up to j on which MOSI changes.
abbrev pub change_by : Bool → ℕ → ℕ
change_by cpha j = cond (changes cpha j) j (j - 1)

-- MOSI after the edges past edge `from` up to j.
unfoldable pub mosi_since : Bool → ℕ → ℕ → ℕ → ℕ → Bool → Bool
mosi_since cpha n w from j mosi = cond (ltb from (change_by cpha j)) (bit_out w n (change_by cpha j / 2)) mosi

-- Edges up to j on which MISO is read: the even ones for CPHA=1, the odd ones for CPHA=0.
abbrev pub reads_by : Bool → ℕ → ℕ
reads_by cpha j = cond cpha (j / 2) ((j + 1) / 2)

-- The bits read after the edges past edge `from` up to j.
unfoldable pub collected_since : Bool → ℕ → ℕ → Bool → ℕ → ℕ
collected_since cpha from j miso collected = iterate (reads_by cpha j - reads_by cpha from) (λ c. pushed c miso) collected

-- The edges past the last one up to edge j; none where it has fallen.
unfoldable pub edges_fallen : ℕ → ℕ → Bool → Entry → Entry
edges_fallen spcr0 j miso e =
    cond (ltb (e.edges % 32) j)
    (with_bits e (spbr spcr0) j
    (mosi_since (cpha spcr0) (bits_of spcr0 e.command) e.word (e.edges % 32) j e.mosi)
    (collected_since (cpha spcr0) (e.edges % 32) j miso e.collected))
    e
